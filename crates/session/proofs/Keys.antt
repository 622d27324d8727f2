-- The call on the line that a key stands for is an edit, a movement, or undo where the key is C-_. Assumes nothing.
use Prim.Native.Nat.{ℕ, zero, suc}
use mathlib.Core.Path.{◌≡◌, refl, subst}
use mathlib.Core.Option.{some, some-injective, none-ne-some}
use Rattle.repertoire.specs.Repertoire.{Repertoire}
use Rattle.formats.specs.declared.Format.{Format}
use Rattle.checks.specs.Outcome.{Outcome, refused, answered}
use Rattle.edit.specs.Calls.{Lent}
use Rattle.kill_ring.specs.Ring.{KillRing, yank_out, yank_pop_out}
use Rattle.kill_ring.specs.Calls as rings
use Rattle.key_press.specs.declared.Press.{Press}
use Rattle.key_press.specs.declared.Press.TheVariants as p
use Rattle.calls.specs.Calls.{EditCall, MoveCall, Asked, edit, move, undo}
use Rattle.key_model.specs.Stands.{stands_for}
use Rattle.key_model.specs.Keyed.{ring_now, given, on_line}

module _ (R : Repertoire) (F : Format) (l : Lent) (h : rings.Lent) (P : Asked → Type 0) (edits : (x : EditCall) → P (edit x)) (moves : (x : MoveCall) → P (move x)) where
  -- of what the ring gives
  given_is : (o : Outcome KillRing) (f : ℕ → ℕ → KillRing → Asked) → ((i n : ℕ) (r : KillRing) → P (f i n r)) → (a : Asked) → given R F l h o f ≡ some a → P a
  given_is (refused k) f q a e = absurd (none-ne-some a e)
  given_is (answered zero i n r) f q a e = subst P (some-injective (f i n r) a e) (q i n r)
  given_is (answered (suc k) i n r) f q a e = absurd (none-ne-some a e)

  -- what holds of every edit, of every movement and of the undo that a key is holds of its call on the line
  pub on-line : (k : Press) → ((n : ℕ) → k ≡ p.Undo n → P (undo n)) → (a : Asked) → on_line R F l h (stands_for k) ≡ some a → P a
  on-line p.Unbound u a e = absurd (none-ne-some a e)
  on-line (p.Move k) u a e = subst P (some-injective _ a e) (moves _)
  on-line (p.Edit k) u a e = subst P (some-injective _ a e) (edits _)
  on-line (p.Undo n) u a e = subst P (some-injective _ a e) (u n refl)
  on-line (p.Kill k) u a e = subst P (some-injective _ a e) (edits _)
  on-line (p.Yank n) u a e = given_is (yank_out (ring_now R F l h)) _ (λ i n r. edits _) a e
  on-line p.YankPop u a e = given_is (yank_pop_out (ring_now R F l h)) _ (λ i n r. edits _) a e
