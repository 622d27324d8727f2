-- Undo by keys: ESC, digits and 0x1F do what undo does with the number that the digits make, so undoing to the end can be done by keys. Assumes nothing.
use Prim.Native.Nat.{ℕ, zero, suc}
use mathlib.Core.Path.{◌≡◌, refl, sym, ap, ◌∙◌}
use mathlib.Core.Bool.{Bool, true, false, cond, true≢false}
use mathlib.Core.List.{List, [], ◌∷◌, ◌++◌}
use lib.Dec.{leb}
use lib.ListN.{length}
use Rattle.utf8.specs.Utf8.{within}
use Rattle.repertoire.specs.Repertoire.{catalogue}
use Rattle.formats.specs.declared.Format.{Format}
use Rattle.checks.specs.Checks.{no_tests}
use Rattle.checks.specs.Outcome.{Outcome, refused, answered, called, number_in}
use Rattle.checks.proofs.LowerNumbers.{lower-same}
use Rattle.edit.specs.Plan.{State}
use Rattle.edit.specs.Calls.{Lent, format_of, state_of, checked}
use Rattle.undo.specs.Undo.{undo_out, undo_call}
use Rattle.kill_ring.specs.Ring.{reset_out}
use Rattle.kill_ring.specs.Calls as rings
use Rattle.key_press.specs.declared.Press.{Press}
use Rattle.key_press.specs.declared.Press.TheVariants as p
use Rattle.key_press.proofs.Table.{is_unbound}
use Rattle.key_press.specs.Keys.{with_digit, is_digit, value, behind, is_counted, count_of, key_in, control, press_of}
use Rattle.key_model.specs.Stands.{stands_for}
use Rattle.key_model.specs.Keyed.{together, lowest, ring_now, reset_after, done, key_call, line_of}
use Rattle.key_model.proofs.Refusals.{bound_key}
use Rattle.key_model.proofs.FitPresses.{bound_fits}

-- ---- the bytes: a digit, more of them, and 0x1F
abbrev pub AllDigits : List ℕ → Type 0
AllDigits [] = Unit {0}
AllDigits (d ∷ ds) = (is_digit d ≡ true) × AllDigits ds

value-is : (n : ℕ) (ds : List ℕ) → AllDigits ds → value n (ds ++ 0x1F ∷ []) ≡ value n ds
unfolding value within
value-is n [] h = refl
value-is n (d ∷ ds) h = rw h.0 (value-is (with_digit n d) ds h.1)

behind-is : (ds : List ℕ) → AllDigits ds → behind (ds ++ 0x1F ∷ []) ≡ 0x1F ∷ []
unfolding behind within
behind-is [] h = refl
behind-is (d ∷ ds) h = rw h.0 (behind-is ds h.1)

pub undo_press : (d : ℕ) (ds : List ℕ) → AllDigits (d ∷ ds) → press_of catalogue (0x1B ∷ d ∷ ds ++ 0x1F ∷ []) ≡ p.Undo (value 0 (d ∷ ds))
unfolding press_of count_of key_in is_counted control
undo_press d ds h = rw (h.0, value-is 0 (d ∷ ds) h, behind-is (d ∷ ds) h)

-- ---- the call
module _ (l : Lent) (g : rings.Lent) where
  abbrev F : Format
  F = format_of l

  either : (b : Bool) (o : Outcome State) → line_of (together o (cond b (reset_out (ring_now catalogue F l g)) (answered 0 0 0 (ring_now catalogue F l g)))) ≡ o
  either true (refused k) = refl
  either true (answered k i j s) = refl
  either false (refused k) = refl
  either false (answered k i j s) = refl

  refused-first : (c : ℕ) (b : Bool) → line_of (lowest (suc c) (together (refused (suc c)) (cond b (reset_out (ring_now catalogue F l g)) (answered 0 0 0 (ring_now catalogue F l g)))))
      ≡ refused (suc c)
  refused-first c true = ap refused (lower-same (suc c))
  refused-first c false = ap refused (lower-same (suc c))

  reset_beside : (c : ℕ) (o : Outcome State) → line_of (lowest c (together (called c o) (reset_after catalogue F l g (called c o)))) ≡ called c o
  reset_beside zero o = either (leb (number_in o) 1) o
  reset_beside (suc c) o = refused-first c (leb (suc c) 1)

  pub undo-key : rings.checked catalogue g false false ≡ 0 → (d : ℕ) (ds : List ℕ) → AllDigits (d ∷ ds)
      → line_of (key_call catalogue F l g (0x1B ∷ d ∷ ds ++ 0x1F ∷ [])) ≡ undo_call catalogue F l (value 0 (d ∷ ds))
  undo-key sound d ds h =
      let s = 0x1B ∷ d ∷ ds ++ 0x1F ∷ [] in
      let n = value 0 (d ∷ ds) in
      let e = undo_press d ds h in
      let fits = bound_fits s (λ u. true≢false (sym (ap is_unbound (sym e ∙ u)))) in
      ap line_of (bound_key catalogue l g s sound fits)
      ∙ ap (λ (q : Press). line_of (lowest (checked catalogue F l no_tests) (done catalogue F l g (stands_for q)))) e
      ∙ reset_beside (checked catalogue F l no_tests) (undo_out (length l.text) n (state_of catalogue F l))
