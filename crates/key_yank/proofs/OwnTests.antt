-- What a key's call on the line tests of its own, with whether the key is foreign: nothing, or of the slot that the ring gives. Assumes nothing.
use Prim.Native.Nat.{ℕ, ◌-◌, ◌≤◌}
use mathlib.Core.Path.{◌≡◌, sym, ap, ap₂, ◌∙◌}
use mathlib.Core.Bool.{Bool, true, false, not, ◌||◌, or-false}
use mathlib.Core.List.{List}
use lib.Dec.{ltb}
use lib.ListN.{length}
use Rattle.utf8.specs.Chars.{valid, boundary}
use Rattle.repertoire.specs.Repertoire.{catalogue}
use Rattle.repertoire.specs.Text.{is_text}
use Rattle.formats.specs.declared.Format.{Format}
use Rattle.checks.specs.Checks.{Tests, no_tests, both, own_tests}
use Rattle.checks.specs.Outcome.{Outcome, answered}
use Rattle.edit.specs.declared.Own.{Own}
use Rattle.edit.specs.Calls.{Lent, text_of, own, checked}
use Rattle.edit.proofs.Tests.{split_as, text-lent}
use Rattle.edit_insert.specs.Inserts.{text_tests}
use Rattle.kill_ring.specs.declared.AnswerAndRing.{AnswerAndRing}
use Rattle.kill_ring.specs.Ring.{KillRing, yank_out, yank_pop_out}
use Rattle.kill_ring.specs.Calls as rings
use Rattle.key_press.specs.declared.Press.{Press}
use Rattle.key_model.specs.Stands.{stands_for}
use Rattle.key_model.specs.Own.{tests_given, yank_tests, pop_tests, key_own}
use Rattle.key_yank.proofs.Given.{ring_now, Taken, slot_given, given-text, given-length}

module _ (F : Format) (l : Lent) (foreign : Bool) where
  abbrev number_of : Tests → ℕ
  number_of t = checked catalogue F l (both (own_tests false foreign false) t)

  -- nothing else is tried
  pub no_own : (w : Own) → own w ≡ own_tests false foreign false → checked catalogue F l (own w) ≡ number_of no_tests
  no_own w e = ap (checked catalogue F l) (e ∙ ap (λ (b : Bool). own_tests false b false) (sym (or-false foreign)))

  -- the ring gives no text
  pub none_own : (g : rings.Lent) (o : Outcome KillRing) (f : ℕ → ℕ → KillRing → Tests) (w : Own) → own w ≡ own_tests false foreign false
      → o ≡ answered 1 0 0 (rings.value_of g) → checked catalogue F l (own w) ≡ number_of (tests_given o f)
  none_own g o f w e n = no_own w e ∙ ap (λ (x : Outcome KillRing). number_of (tests_given x f)) (sym n)

  abbrev made : ℕ → Bool → Bool → Bool → Tests
  made n b place split = own (record { sizes = ltb (length l.text) n; code = false; foreign = b; place = place; split = split })

  -- a text of n bytes
  text-own : (s : List ℕ) (n : ℕ) (place split : Bool) → n ≡ length s → is_text catalogue s ≡ true
      → checked catalogue F l (made n foreign place split) ≡ number_of (text_tests catalogue F l s place split)
  text-own s n place split e h =
      ap₂ (λ (m : ℕ) (b : Bool). checked catalogue F l (made m b place split)) e
      (sym (ap (λ (b : Bool). foreign || not b) h ∙ or-false foreign))

  module _ (g : rings.Lent) (checks : rings.checked catalogue g false false ≡ 0) where
    pub yank-own : {a : AnswerAndRing} → Taken g (yank_out (ring_now g)) a
        → checked catalogue F l (made a.ring.yanked foreign false false) ≡ number_of (tests_given (yank_out (ring_now g)) (yank_tests catalogue F l g))
    yank-own {a} t =
        text-own (slot_given g checks t) a.ring.yanked false false (given-length g checks t) (given-text g checks t)
        ∙ ap (λ (x : Outcome KillRing). number_of (tests_given x (yank_tests catalogue F l g))) (sym t.is)

    -- x says whether at lies inside a character
    pub pop-own : {a : AnswerAndRing} → Taken g (yank_pop_out (ring_now g)) a → {at : ℕ} {x : Bool} → at ≡ l.line.cursor - a.answer.size
        → (l.line.len ≤ length l.text → valid (text_of l) ≡ true → x ≡ not (boundary (text_of l) at))
        → checked catalogue F l (made a.ring.yanked foreign (ltb l.line.cursor a.answer.size) x)
        ≡ number_of (tests_given (yank_pop_out (ring_now g)) (pop_tests catalogue F l g))
    pop-own {a} t {at} {x} e h =
        let place = ltb l.line.cursor a.answer.size in
        let split = not (boundary (text_of l) (l.line.cursor - a.answer.size)) in
        split_as F l (made a.ring.yanked foreign place false) x split
        (λ u f. let w = text-lent F l u f in h w.0 w.1 ∙ ap (λ (i : ℕ). not (boundary (text_of l) i)) e)
        ∙ text-own (slot_given g checks t) a.ring.yanked place split (given-length g checks t) (given-text g checks t)
        ∙ ap (λ (y : Outcome KillRing). number_of (tests_given y (pop_tests catalogue F l g))) (sym t.is)

  -- the key is the one that was found
  pub own_as : (g : rings.Lent) {p q : Press} → p ≡ q → {k : ℕ} → k ≡ number_of (key_own catalogue F l g (stands_for q))
      → k ≡ number_of (key_own catalogue F l g (stands_for p))
  own_as g e h = h ∙ ap (λ (p : Press). number_of (key_own catalogue F l g (stands_for p))) (sym e)
