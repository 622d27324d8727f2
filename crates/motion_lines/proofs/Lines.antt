-- Laws of lines: the start and the end of the line that a place lies in, by the byte before the place or at it, and the lines above and below.
-- Assumes nothing.
use mathlib.Core.Path.{◌≡◌, refl, sym, ap, ◌∙◌}
use mathlib.Core.Bool.{Bool, cond}
use mathlib.Core.List.{List, [], ◌∷◌}
use Prim.Native.Nat.{ℕ, zero, suc, ◌+◌, ◌-◌, ◌<◌, ◌≤◌}
use native.Mathlib.Omega.{arith}
use native.Mathlib.Numerals.{add-one}
use lib.ListN.{length, get_or, drop, length-drop, drop_of_length-le}
use lib.Seq.{drop-cons, get_or-drop}
use borrow.Author.Tests.{eq-eqb, ne_eqb, lt-ltb, le-ltb, eqb-true}
use Rattle.lists.proofs.Bools.{by_test}
use Rattle.motion_lines.specs.Lines.{newline, start_of_line, before_newline, end_of_line, lines_up, lines_down}

module _ (s : List ℕ) where
  -- ---- the start of a line
  pub start_first : (i : ℕ) → i ≤ 0 → start_of_line s i ≡ 0
  unfolding start_of_line
  start_first zero h = refl
  start_first (suc i) h = absurd (omega arith)

  pub start_here : (i : ℕ) → 0 < i → get_or s (i - 1) 256 ≡ 0x0A → start_of_line s i ≡ i
  unfolding start_of_line
  start_here zero h e = absurd (omega arith)
  start_here (suc i) h e = let q : suc i - 1 ≡ i = omega arith in let n : get_or s i 256 ≡ 0x0A = rw q at e in rw (eq-eqb (get_or s i 256) 0x0A n)

  pub start_back : (i : ℕ) → 0 < i → (get_or s (i - 1) 256 ≡ 0x0A → ⊥) → start_of_line s i ≡ start_of_line s (i - 1)
  unfolding start_of_line
  start_back zero h e = absurd (omega arith)
  start_back (suc i) h e =
      let q : suc i - 1 ≡ i = omega arith in
      let n : get_or s i 256 ≡ 0x0A → ⊥ = λ (x : get_or s i 256 ≡ 0x0A). e (rw q x) in
      rw (ne_eqb (get_or s i 256) 0x0A n, q)

  pub start-le : (i : ℕ) → start_of_line s i ≤ i
  unfolding start_of_line
  start-le zero = omega arith
  start-le (suc i) = by_test _ (newline (get_or s i 256)) (λ t. rw t (omega arith)) (λ t. let r = start-le i in rw t (omega arith))

  -- where a line does not start the text, a \n stands before it
  pub start-newline : (i : ℕ) → 0 < start_of_line s i → get_or s (start_of_line s i - 1) 256 ≡ 0x0A
  unfolding start_of_line
  start-newline zero h = absurd (omega arith)
  start-newline (suc i) h =
      by_test _ (newline (get_or s i 256))
      (λ t. let q : suc i - 1 ≡ i = omega arith in rw (t, q) (eqb-true (get_or s i 256) 0x0A t))
      (λ t. let g : 0 < start_of_line s i = rw t at h in rw t (start-newline i g))

  -- ---- the end of a line
  before-le : (l : List ℕ) → before_newline l ≤ length l
  unfolding before_newline
  before-le [] = omega arith
  before-le (b ∷ l) = by_test _ (newline b) (λ t. rw t (omega arith)) (λ t. let r = before-le l in rw t (omega arith))

  before_at : (l : List ℕ) → before_newline l < length l → get_or l (before_newline l) 256 ≡ 0x0A
  unfolding before_newline
  before_at [] h = absurd (omega arith)
  before_at (b ∷ l) h =
      by_test _ (newline b) (λ t. rw t (eqb-true b 0x0A t)) (λ t. let g : suc (before_newline l) < suc (length l) = rw t at h in rw t (before_at l (omega arith)))

  pub end-le : (pos : ℕ) → pos ≤ length s → (pos ≤ end_of_line s pos) × (end_of_line s pos ≤ length s)
  unfolding end_of_line
  end-le pos h = let r = before-le (drop pos s) in let l = length-drop pos s in (omega arith, omega arith)

  -- where a line ends before the text does, there is a \n
  pub end-newline : (pos : ℕ) → pos ≤ length s → end_of_line s pos < length s → get_or s (end_of_line s pos) 256 ≡ 0x0A
  unfolding end_of_line
  end-newline pos h e =
      sym (get_or-drop pos s (before_newline (drop pos s)) 256) ∙ before_at (drop pos s) (let l = length-drop pos s in omega arith)

  module _ (pos : ℕ) where
    pub end_last : length s ≤ pos → end_of_line s pos ≡ pos
    unfolding end_of_line before_newline
    end_last h = ap (λ (l : List ℕ). pos + before_newline l) (drop_of_length-le s h) ∙ omega arith

    pub end_here : pos < length s → get_or s pos 256 ≡ 0x0A → end_of_line s pos ≡ pos
    unfolding end_of_line before_newline
    end_here h e =
        ap (λ (l : List ℕ). pos + before_newline l) (drop-cons s pos 256 h) ∙
        ap (λ (b : Bool). pos + cond b 0 (suc (before_newline (drop (suc pos) s)))) (eq-eqb (get_or s pos 256) 0x0A e) ∙ omega arith

    pub end_on : pos < length s → (get_or s pos 256 ≡ 0x0A → ⊥) → end_of_line s pos ≡ end_of_line s (pos + 1)
    unfolding end_of_line before_newline
    end_on h e =
        ap (λ (l : List ℕ). pos + before_newline l) (drop-cons s pos 256 h) ∙
        ap (λ (b : Bool). pos + cond b 0 (suc (before_newline (drop (suc pos) s)))) (ne_eqb (get_or s pos 256) 0x0A e) ∙
        rw (add-one pos) (omega arith)

  -- ---- n lines above
  pub up_none : (n a : ℕ) → n ≤ 0 → lines_up s n a ≡ a
  unfolding lines_up
  up_none zero a h = refl
  up_none (suc n) a h = absurd (omega arith)

  pub up_first : (n a : ℕ) → a ≡ 0 → lines_up s n a ≡ 0
  unfolding lines_up
  up_first zero a e = e
  up_first (suc n) a e = rw (eq-eqb a 0 e)

  pub up_on : (n a r : ℕ) → 0 < n → (a ≡ 0 → ⊥) → r ≡ start_of_line s (a - 1) → lines_up s n a ≡ lines_up s (n - 1) r
  unfolding lines_up
  up_on zero a r h e q = absurd (omega arith)
  up_on (suc n) a r h e q = let m : suc n - 1 ≡ n = omega arith in rw (ne_eqb a 0 e, m) (ap (lines_up s n) (sym q))

  -- ---- n lines below one that ends at x
  pub down_none : (n e : ℕ) → n ≤ 0 → lines_down s n e ≡ e
  unfolding lines_down
  down_none zero e h = refl
  down_none (suc n) e h = absurd (omega arith)

  pub down_last : (n e x : ℕ) → 0 < n → x ≡ end_of_line s e → length s ≤ x → lines_down s n e ≡ length s
  unfolding lines_down
  down_last zero e x h q l = absurd (omega arith)
  down_last (suc n) e x h q l = rw (le-ltb (end_of_line s e) (length s) (omega arith))

  pub down_on : (n e x : ℕ) → 0 < n → x ≡ end_of_line s e → x < length s → lines_down s n e ≡ lines_down s (n - 1) (x + 1)
  unfolding lines_down
  down_on zero e x h q l = absurd (omega arith)
  down_on (suc n) e x h q l =
      let m : suc n - 1 ≡ n = omega arith in
      rw (lt-ltb (end_of_line s e) (length s) (omega arith), m) (ap (λ (k : ℕ). lines_down s n (k + 1)) (sym q))
