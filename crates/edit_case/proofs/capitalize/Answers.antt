use native.Mathlib.Omega.{arith}
use mathlib.Core.Path.{sym, ap}
use lib.Seq.{length-take-le}
use Rattle.cluster.specs.declared.Cluster.{Cluster}
use Rattle.edit_case.proofs.Cased.{room-behind, capital_written, count_small}
use Rattle.edit_case.proofs.capitalize.Goals as goal

pub slice_bounds-case_at-end : goal.slice_bounds-case_at-end
slice_bounds-case_at-end c = sym (length-take-le _ _ c.next_cluster-k.ensures.within)

pub case_at-a-requires : goal.case_at-a-requires
case_at-a-requires c = omega
    (arith, c.requires.s_in_bounds, length-take-le c.next_cluster-k.result.len c.args.s.now c.next_cluster-k.ensures.within)

pub case_at-b-requires : goal.case_at-b-requires
case_at-b-requires c = room-behind c.args.s.now c.args.out.now c.next_cluster-k.result.len
    (ap (λ (k : Cluster). k.len) c.next_cluster-k.ensures.known) c.next_cluster-k.ensures.within c.requires.s_in_bounds _ _
    c.case_at-a.ensures

pub overflow_add-result : goal.overflow_add-result
overflow_add-result c = omega (
  arith,
  count_small c.args.s.now c.args.out.now c.next_cluster-k.result.len
      (ap (λ (k : Cluster). k.len) c.next_cluster-k.ensures.known) c.next_cluster-k.ensures.within c.requires.s_in_bounds _ _
      _ _ c.case_at-a.ensures c.case_at-b.ensures,
  c.requires.s_in_bounds,
  c.requires.out_len_bound,
)

pub returns : goal.returns
returns c = capital_written c.args.s.now c.args.out.now c.next_cluster-k.result.len
    (ap (λ (k : Cluster). k.len) c.next_cluster-k.ensures.known) c.next_cluster-k.ensures.within c.requires.s_in_bounds _ _ _ _
    c.case_at-a.ensures c.case_at-b.ensures
