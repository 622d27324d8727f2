-- The checks of a text and of a log together: the text's come first, then a place inside a character, then the log. Assumes nothing.
use Prim.Native.Nat.{ℕ}
use mathlib.Core.Path.{◌≡◌, refl, sym, ap, ◌∙◌}
use mathlib.Core.Bool.{Bool, true, false, cond, ◌||◌, or-false}
use native.Mathlib.Omega.{arith}
use Rattle.repertoire.specs.Repertoire.{catalogue}
use Rattle.checks.specs.Checks.{Tests, both, refusal, line_tests, own_tests}
use Rattle.checks.proofs.Fit.{fit}
use Rattle.formats.specs.Formats.{Fit}
use Rattle.formats.specs.declared.Format.{Format}
use Rattle.numbers.proofs.Numbers.{Bytes}
use Rattle.log_state.specs.Logs.{over_sizes, damaged}
use Rattle.log_state.proofs.Passed as passed
use Rattle.edit.specs.declared.Own.{Own}
use Rattle.edit.specs.Calls.{Lent, log_lent, own, checked, Ready}

-- the numbers 2 to 6 by their tests, and what comes behind
abbrev chain : Bool → Bool → Bool → Bool → Bool → ℕ → ℕ
chain s c f p x n = cond s 2 (cond c 3 (cond f 4 (cond p 5 (cond x 6 n))))

-- the text's tests refuse
early : (s c f p x y : Bool) (n k : ℕ) → chain s c f p x 0 ≡ k → (k ≡ 0 → ⊥) → chain s c f p (x || y) n ≡ k
early true c f p x y n k e h = e
early false true f p x y n k e h = e
early false false true p x y n k e h = e
early false false false true x y n k e h = e
early false false false false true y n k e h = e
early false false false false false y n k e h = absurd (h (sym e))

-- they pass
late : (s c f p x y : Bool) (n : ℕ) → chain s c f p x 0 ≡ 0 → chain s c f p (x || y) n ≡ cond y 6 n
late true c f p x y n e = absurd (omega arith)
late false true f p x y n e = absurd (omega arith)
late false false true p x y n e = absurd (omega arith)
late false false false true x y n e = absurd (omega arith)
late false false false false true y n e = absurd (omega arith)
late false false false false false y n e = refl

module _ (F : Format) (l : Lent) (o : Own) where
  abbrev T : Tests
  T = line_tests catalogue F l.text l.line

  abbrev sized : Bool
  sized = over_sizes F l.log l.records l.texts

  abbrev broken : Bool
  broken = damaged catalogue F l.log l.records l.texts

  -- the number that the text and the call's codes, characters and places give by themselves
  abbrev text_number : ℕ
  text_number = refusal (both T (own_tests o.code o.foreign o.place))

  lowest : (b : Bool) (n : ℕ) → b ≡ true → 2 ≡ cond b 2 n
  lowest b n e = rw e

  or_true : (b c : Bool) → c ≡ true → b || c ≡ true
  or_true true c e = refl
  or_true false c e = e

  pub by_log-sizes : sized ≡ true → 2 ≡ checked catalogue F l (own o)
  unfolding refusal
  by_log-sizes e = lowest (T.sizes || (sized || o.sizes)) _ (or_true T.sizes (sized || o.sizes) (ap (λ (b : Bool). b || o.sizes) e))

  pub by_sizes : o.sizes ≡ true → 2 ≡ checked catalogue F l (own o)
  unfolding refusal
  by_sizes e = lowest (T.sizes || (sized || o.sizes)) _ (or_true T.sizes (sized || o.sizes) (or_true sized o.sizes e))

  module _ (a : sized ≡ false) (b : o.sizes ≡ false) where
    -- with no size in the way
    same : checked catalogue F l (own o) ≡ chain (T.sizes || false) o.code (T.foreign || o.foreign) (T.place || o.place) (T.split || o.split) (cond (broken || false) 8 0)
    unfolding refusal
    same = rw (a, b)

    text-is : text_number ≡ chain (T.sizes || false) o.code (T.foreign || o.foreign) (T.place || o.place) (T.split || false) 0
    unfolding refusal
    text-is = refl

    first : text_number ≡ chain (T.sizes || false) o.code (T.foreign || o.foreign) (T.place || o.place) T.split 0
    first = text-is ∙ ap (λ (c : Bool). chain (T.sizes || false) o.code (T.foreign || o.foreign) (T.place || o.place) c 0) (or-false T.split)

    pub by_text : (k : ℕ) → k ≡ text_number → (k ≡ 0 → ⊥) → k ≡ checked catalogue F l (own o)
    by_text k e h = sym (same ∙ early (T.sizes || false) o.code (T.foreign || o.foreign) (T.place || o.place) T.split o.split
        (cond (broken || false) 8 0) k (sym first ∙ sym e) h)

    module _ (k : ℕ) (e : k ≡ text_number) (z : k ≡ 0) where
      rest : checked catalogue F l (own o) ≡ cond o.split 6 (cond (broken || false) 8 0)
      rest = same ∙ late (T.sizes || false) o.code (T.foreign || o.foreign) (T.place || o.place) T.split o.split (cond (broken || false) 8 0) (sym first ∙ sym e ∙ z)

      pub by_split : o.split ≡ true → 6 ≡ checked catalogue F l (own o)
      by_split c = sym (rest ∙ rw c)

      module _ (c : o.split ≡ false) where
        pub by_damage : broken ≡ true → 8 ≡ checked catalogue F l (own o)
        by_damage d = sym (rest ∙ rw (c, d))

        pub by_none : broken ≡ false → 0 ≡ checked catalogue F l (own o)
        by_none d = sym (rest ∙ rw (c, d))

      pub ready : Bytes l.records → broken ≡ false → Fit F → Ready F l
      ready y d j =
          let f = (fit catalogue F l.text l.line (own_tests o.code o.foreign o.place) (sym e ∙ z)).0 in
          record { limit = f.limit; used = f.used; text = f.text; within = f.within; at-boundary = f.at-boundary; log = passed.ready F (log_lent l) y j a d }
