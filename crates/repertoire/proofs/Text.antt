-- Laws of texts, over any repertoire. Assumes nothing.
use mathlib.Core.Path.{◌≡◌, refl, sym, ap, ◌∙◌}
use mathlib.Core.Bool.{Bool, true, false, cond, ◌&&◌}
use mathlib.Core.List.{List, [], ◌++◌}
use Prim.Native.Nat.{ℕ, ◌+◌, ◌<◌, ◌≤◌}
use native.Mathlib.Omega.{arith}
use lib.ListN.{length, take, drop, length-drop, drop_of_length-le}
use lib.Seq.{drop-drop}
use Rattle.std.specs.Prelude.{Some, None}
use Rattle.lists.specs.Lists.{all}
use Rattle.lists.proofs.Bools.{and_both, and_swap, by_test}
use Rattle.lists.proofs.Alls.{all_append}
use Rattle.utf8.specs.Utf8.{char, bad, first}
use Rattle.utf8.specs.Chars.{chars_from, valid_from, chars, valid, boundary, no_tail}
use Rattle.utf8.specs.Encode.{size}
use Rattle.utf8.proofs.Chars.{first-within, chars_step, valid_step, valid-bad}
use Rattle.utf8.proofs.Append.{by_first, chars-append, valid-append, chars-cut, valid-cut}
use Rattle.utf8.proofs.Boundary.{boundary_test}
use Rattle.repertoire.specs.Repertoire.{Repertoire}
use Rattle.repertoire.specs.Text.{is_text, member_len}

-- a character at a place of a list lies within the list
pub within-at : (s : List ℕ) (i c n : ℕ) → i ≤ length s → first (drop i s) ≡ char c n → (0 < n) × (i + n ≤ length s) × (n ≡ size c)
within-at s i c n h e =
    let w = first-within (drop i s) c n e in
    let l = length-drop i s in
    let a = w.fits in
    (w.some, omega arith, w.sized)

module _ (R : Repertoire) where
  text_step : (t : List ℕ) (c n : ℕ) → first t ≡ char c n → is_text R t ≡ (R.member c && is_text R (drop n t))
  unfolding is_text
  text_step t c n e = rw (valid_step t c n e, chars_step t c n e) (and_swap (valid (drop n t)) (R.member c) (all R.member (chars (drop n t))))

  text-bad : (t : List ℕ) → first t ≡ bad → 0 < length t → is_text R t ≡ false
  unfolding is_text
  text-bad t e h = rw (valid-bad t e h)

  pub text_nil : is_text R [] ≡ true
  unfolding is_text valid_from chars_from
  text_nil = refl

  pub text-valid : (s : List ℕ) → is_text R s ≡ true → valid s ≡ true
  unfolding is_text
  text-valid s e = (and_both (valid s) (all R.member (chars s)) e).0

  pub text_members : (s : List ℕ) → is_text R s ≡ true → all R.member (chars s) ≡ true
  unfolding is_text
  text_members s e = (and_both (valid s) (all R.member (chars s)) e).1

  -- a text with something behind it
  pub text-append : (a b : List ℕ) → is_text R a ≡ true → is_text R (a ++ b) ≡ is_text R b
  unfolding is_text
  text-append a b e =
      let v = text-valid a e in
      let m = text_members a e in
      rw (valid-append a b v, chars-append a b v, all_append R.member (chars a) (chars b), m)

  -- a text is cut at a boundary into texts
  pub text-cut : (s : List ℕ) (i : ℕ) → is_text R s ≡ true → boundary s i ≡ true → (is_text R (take i s) ≡ true) × (is_text R (drop i s) ≡ true)
  unfolding is_text
  text-cut s i e b =
      let f = R.member in
      let z : valid (drop i s) ≡ true = sym (valid-cut s i b) ∙ text-valid s e in
      let n : (all f (chars (take i s)) && all f (chars (drop i s))) ≡ true =
      sym (all_append f (chars (take i s)) (chars (drop i s))) ∙ ap (all f) (sym (chars-cut s i b)) ∙ text_members s e
      in
      let p = and_both (all f (chars (take i s))) (all f (chars (drop i s))) n in
      (rw (b, p.0), rw (z, p.1))

  -- what is not UTF-8 is no text
  text_none : (s : List ℕ) → valid s ≡ false → is_text R s ≡ false
  unfolding is_text
  text_none s e = rw e

  -- the first n bytes of a text are a text exactly where no UTF8-tail stands behind them
  pub text-front : (s : List ℕ) (n : ℕ) → is_text R s ≡ true → is_text R (take n s) ≡ no_tail s n
  text-front s n e =
      let b = boundary_test s n (text-valid s e) in
      by_test (is_text R (take n s) ≡ no_tail s n) (boundary s n)
      (λ y. (text-cut s n e y).0 ∙ sym y ∙ b)
      (λ z. text_none (take n s) z ∙ sym z ∙ b)

  -- what stands at the front
  pub member_in : (t : List ℕ) (c n : ℕ) → first t ≡ char c n → R.member c ≡ true → Some n ≡ member_len R (first t)
  member_in t c n f m = sym (ap (member_len R) f ∙ rw m)

  pub member-out : (t : List ℕ) (c n : ℕ) → first t ≡ char c n → R.member c ≡ false → None ≡ member_len R (first t)
  member-out t c n f m = sym (ap (member_len R) f ∙ rw m)

  pub member-bad : (t : List ℕ) → first t ≡ bad → None ≡ member_len R (first t)
  member-bad t f = sym (ap (member_len R) f)

  -- ---- a scan: what stands at the place i, by member_len
  picked : (b : Bool) (n r : ℕ) → Some r ≡ cond b (Some n) None → (b ≡ true) × (r ≡ n)
  picked true n r e = (refl, cc)
  picked false n r e = cc

  left_out : (b : Bool) (n : ℕ) → None ≡ cond b (Some n) None → b ≡ false
  left_out true n e = cc
  left_out false n e = refl

  pub scan_on :
      (s : List ℕ) (i r : ℕ) → i ≤ length s → Some r ≡ member_len R (first (drop i s)) →
      (0 < r) × (i + r ≤ length s) × (is_text R (drop i s) ≡ is_text R (drop (i + r) s))
  scan_on s i r h e =
      by_first _ (drop i s)
      (λ c n f.
      let q = picked (R.member c) n r (e ∙ ap (member_len R) f) in
      let m : first (drop i s) ≡ char c r = f ∙ ap (char c) (sym q.1) in
      let w = within-at s i c r h m in
      (w.0, w.1, text_step (drop i s) c r m ∙ rw (q.0, drop-drop r i s)))
      (λ f. let z : Some r ≡ None = e ∙ ap (member_len R) f in cc)

  pub scan_stuck : (s : List ℕ) (i : ℕ) → i < length s → None ≡ member_len R (first (drop i s)) → is_text R (drop i s) ≡ false
  scan_stuck s i h e =
      by_first _ (drop i s)
      (λ c n f. text_step (drop i s) c n f ∙ rw (left_out (R.member c) n (e ∙ ap (member_len R) f)))
      (λ f. text-bad (drop i s) f (simp length-drop (omega arith)))

  pub scan-end : (s : List ℕ) (i : ℕ) → length s ≤ i → is_text R (drop i s) ≡ true
  scan-end s i h = ap (is_text R) (drop_of_length-le s h) ∙ text_nil
