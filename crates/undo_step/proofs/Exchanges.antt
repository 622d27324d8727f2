-- Bytes of a text exchanged: 12, 9, and what is left where neither is met. Assumes nothing.
use Prim.Native.Nat.{ℕ, ◌+◌, ◌-◌, ◌≤◌, ◌<◌}
use native.Mathlib.Omega.{arith}
use native.Mathlib.Nat.{add-sub_cancel_left}
use mathlib.Core.Path.{◌≡◌, refl, sym, ap, subst, ◌∙◌}
use mathlib.Core.Bool.{true, false, and-false}
use mathlib.Core.List.{List}
use lib.Dec.{leb}
use lib.ListN.{length, take}
use borrow.Author.Tests.{le-leb, lt-leb, lt-ltb, le-ltb}
use Rattle.lists.proofs.Bools.{by_test, by_less}
use Rattle.utf8.specs.Chars.{boundary}
use Rattle.buffer.specs.Edit.{inserted, cut}
use Rattle.edit.specs.Plan.{splice}
use Rattle.edit.proofs.Splice.{splice-length, cut-put}
use Rattle.undo_step.specs.UndoStep.{StepState, StepOutcome, done, stops, misfit, exchanging, Exchanged}

-- the text with s in the place of the n bytes at p, and the cursor behind s
abbrev pub swapped : ℕ → ℕ → List ℕ → List ℕ → StepState
swapped p n s t = record { text = splice t p (p + n) s; cursor = p + length s; undone = true }

module _ (C p n : ℕ) (s t : List ℕ) where
  -- neither 12 nor 9 is met
  pub record Fits : Type 0 where
    pub ends : p + n ≤ length t
    pub first : boundary t p ≡ true
    pub last : boundary t (p + n) ≡ true
    pub room : length t - n + length s ≤ C

  -- the length of what is left
  pub swapped_length : p + n ≤ length t → length (splice t p (p + n) s) ≡ length t - n + length s
  swapped_length h = splice-length t p (p + n) s (omega arith) h ∙ ap (λ (x : ℕ). length t - x + length s) (add-sub_cancel_left p n)

  -- the places fit the text
  no_misfit : leb (p + n) (length t) ≡ true → boundary t p ≡ true → boundary t (p + n) ≡ true → misfit t p n ≡ false
  unfolding misfit
  no_misfit e f g = rw (e, f, g)

  -- 12: the bytes leave the text, or cut a character at their start or at their end
  pub ends_outside : length t < p + n → exchanging C p n s t ≡ stops 12
  unfolding exchanging misfit
  ends_outside h = rw (lt-leb (p + n) (length t) h)

  pub cuts_first : boundary t p ≡ false → exchanging C p n s t ≡ stops 12
  unfolding exchanging misfit
  cuts_first h = rw (h, and-false (leb (p + n) (length t)))

  pub cuts_last : boundary t (p + n) ≡ false → exchanging C p n s t ≡ stops 12
  unfolding exchanging misfit
  cuts_last h = rw (h, and-false (boundary t p), and-false (leb (p + n) (length t)))

  -- 9
  pub too_long : p + n ≤ length t → boundary t p ≡ true → boundary t (p + n) ≡ true → C < length t - n + length s → exchanging C p n s t ≡ stops 9
  unfolding exchanging
  too_long h f g l = rw (no_misfit (le-leb _ _ h) f g, lt-ltb C (length (splice t p (p + n) s)) (omega (arith, swapped_length h)))

  -- else they are exchanged
  pub swaps : Fits → exchanging C p n s t ≡ done (swapped p n s t)
  unfolding exchanging
  swaps h = rw (no_misfit (le-leb _ _ h.ends) h.first h.last, le-ltb C (length (splice t p (p + n) s)) (omega (arith, swapped_length h.ends, h.room)))

  -- a stop is not answered by 0
  not_stopped : (k : ℕ) (b b' : List ℕ) → exchanging C p n s t ≡ stops k → 0 < k → Exchanged (exchanging C p n s t) 0 b b' → ⊥
  not_stopped k b b' e h x =
      let z = (subst (λ (y : StepOutcome). Exchanged y 0 b b') e x).0 in
      omega arith

  -- it is 0 only where neither is met
  pub fits_by : (b b' : List ℕ) → Exchanged (exchanging C p n s t) 0 b b' → Fits
  fits_by b b' x =
      by_less Fits (length t) (p + n) (λ h. absurd (not_stopped 12 b b' (ends_outside h) (omega arith) x))
      (λ h. by_test Fits (boundary t p)
      (λ f. by_test Fits (boundary t (p + n))
      (λ g. by_less Fits C (length t - n + length s) (λ l. absurd (not_stopped 9 b b' (too_long h f g l) (omega arith) x))
      (λ l. record { ends = h; first = f; last = g; room = l }))
      (λ g. absurd (not_stopped 12 b b' (cuts_last g) (omega arith) x)))
      (λ f. absurd (not_stopped 12 b b' (cuts_first f) (omega arith) x)))

  -- ---- the bytes
  -- a stop changes none
  pub stopped : (k : ℕ) (b : List ℕ) → exchanging C p n s t ≡ stops k → Exchanged (exchanging C p n s t) k b b
  stopped k b e = subst (λ (x : StepOutcome). Exchanged x k b b) (sym e) (refl, refl)

  -- cut out, which leaves m, and then put in
  pub exchanged : (len : ℕ) (b m b' : List ℕ) → length t ≡ len → Fits → take (len - (p + n - p)) m ≡ cut t p (p + n)
      → take (len - n + length s) b' ≡ inserted (take (len - n) m) p s → Exchanged (exchanging C p n s t) 0 b b'
  exchanged len b m b' e h f g =
      let i : len - (p + n - p) ≡ len - n = ap (λ (x : ℕ). len - x) (add-sub_cancel_left p n) in
      let j : take (len - n) m ≡ cut t p (p + n) = ap (λ (x : ℕ). take x m) (sym i) ∙ f in
      let k : length (splice t p (p + n) s) ≡ len - n + length s = swapped_length h.ends ∙ ap (λ (x : ℕ). x - n + length s) e in
      let z = h.ends in
      subst (λ (x : StepOutcome). Exchanged x 0 b b') (sym (swaps h))
      (refl, ap (λ (x : ℕ). take x b') k ∙ g ∙ ap (λ (x : List ℕ). inserted x p s) j ∙ cut-put t p (p + n) s (omega arith))
