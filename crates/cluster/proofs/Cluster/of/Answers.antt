use Rattle.cluster.proofs.Cluster.of.Goals as goal

pub returns : goal.returns
returns c = cc
