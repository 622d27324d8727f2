use Rattle.std.proofs.Common.{sym, not}
use Rattle.std.specs.Option.{is_none}
use Rattle.repertoire.specs.Repertoire.{catalogue}
use Rattle.repertoire.specs.Text.{is_text}
use Rattle.kill_ring.specs.Calls.{lent, mode_of}
use Rattle.kill_ring.proofs.Passed.{ring-passed}
use Rattle.kill_ring.proofs.kill.Goals as goal

pub kill_checked-requires : goal.kill_checked-requires
kill_checked-requires c =
    let a = c.args in
    ring-passed catalogue (lent a.slots.now a.lens.now a.ring) (is_none (mode_of a.mode)) (not (is_text catalogue a.text.now))
    (sym c.in-Ok.ensures.number)
