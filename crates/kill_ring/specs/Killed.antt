-- What a kill writes, by the numbers of the ring's record: the slot, the length of what it joins, the place in it, and the record afterwards.
use Rattle.std.specs.Prelude.{ℕ, ◌+◌, ◌-◌, ◌*◌, ◌≡◌, cond, List, eqb, length, take, drop}
use Rattle.kill_ring.specs.declared.Ring.{Ring}
use Rattle.kill_ring.specs.declared.Mode.{Mode}
use Rattle.kill_ring.specs.declared.Mode.TheVariants.{Append, Prepend}
use Rattle.kill_ring.specs.Calls.{len_at}

abbrev pub place_of : Mode → ℕ → ℕ
place_of Append used = used
place_of Prepend used = 0

unfoldable pub slot_of : Ring → ℕ
slot_of r = cond (eqb r.action 0) r.index (cond (eqb r.index (r.size - 1)) 0 (cond (eqb r.count 0) r.index (r.index + 1)))

unfoldable pub used_of : List ℕ → Ring → ℕ
used_of lens r = cond (eqb r.action 0) (len_at lens r.index) 0

unfoldable pub killed_into : Ring → ℕ → Ring
killed_into r i = record { size = r.size; count = cond (eqb i r.count) (r.count + 1) r.count; index = i; action = 0; yanked = 0 }

-- text stands in slot i, and the other slots' bytes are as they were
pub record Put (slots : List ℕ) (i : ℕ) (text left : List ℕ) : Type 0 where
  pub before : take (4096 * i) left ≡ take (4096 * i) slots
  pub stands : take (length text) (drop (4096 * i) left) ≡ text
  pub behind : drop (4096 * i + 4096) left ≡ drop (4096 * i + 4096) slots
