-- A part of a text replaced by another text. Assumes nothing.
use Prim.Native.Nat.{ℕ, ◌+◌, ◌-◌, ◌≤◌}
use native.Mathlib.Omega.{arith}
use mathlib.Core.Path.{◌≡◌, refl, sym, ap, ap₂, ◌∙◌}
use mathlib.Core.Bool.{true}
use mathlib.Core.List.{List, [], ◌++◌}
use lib.ListN.{length, take, drop, length-append, length-drop, take-append-drop}
use lib.Seq.{length-take-le, take_at, drop_at, drop-drop, drop-append-add}
use Rattle.lists.specs.Lists.{part}
use Rattle.utf8.specs.Chars.{boundary, In, valid}
use Rattle.utf8.proofs.Boundary.{boundary-drop, boundary-take}
use Rattle.repertoire.specs.Repertoire.{Repertoire}
use Rattle.repertoire.specs.Text.{is_text}
use Rattle.repertoire.proofs.Text.{text-append, text-cut}
use Rattle.buffer.specs.Edit.{inserted, cut}
use Rattle.edit.specs.Plan.{splice}
use Rattle.edit.proofs.Parts.{raw_part}

module _ (t : List ℕ) (a b : ℕ) where
  pub splice-length : (s : List ℕ) → a ≤ b → b ≤ length t → length (splice t a b s) ≡ length t - (b - a) + length s
  unfolding splice
  splice-length s h i = simp (length-append, length-drop) (rw (length-take-le a t (omega arith)) (omega arith))

  -- cut out, and then put in
  pub cut-put : (s : List ℕ) → a ≤ length t → inserted (cut t a b) a s ≡ splice t a b s
  unfolding splice inserted cut
  cut-put s h =
      let e = length-take-le a t h in
      ap₂ (λ (x y : List ℕ). x ++ (s ++ y)) (take_at (take a t) (drop b t) a e) (drop_at (take a t) (drop b t) a e)

-- nothing for nothing
pub splice_none : (t : List ℕ) (a : ℕ) → splice t a a [] ≡ t
unfolding splice
splice_none t a = take-append-drop a t

-- ---- what stays as it was
-- a part before the bytes that are replaced
pub part-before : (t : List ℕ) (c d : ℕ) (s : List ℕ) (a b : ℕ) → a ≤ b → b ≤ c → c ≤ length t → part (splice t c d s) a b ≡ part t a b
unfolding splice
part-before t c d s a b h k l =
    let x = take c t ++ (s ++ drop d t) in
    let front : take c x ≡ take c t = take_at (take c t) (s ++ drop d t) c (length-take-le c t l) in
    sym (raw_part x c a b k) ∙ ap (λ (y : List ℕ). part y a b) front ∙ raw_part t c a b k

-- all that stands behind them
pub drop-splice : (t : List ℕ) (a b : ℕ) (s : List ℕ) (j : ℕ) → a ≤ length t → drop (a + length s + j) (splice t a b s) ≡ drop (b + j) t
unfolding splice
drop-splice t a b s j h =
    let l = length-take-le a t h in
    let e : a + length s + j ≡ length (take a t) + (length s + j) = omega arith in
    ap (λ (n : ℕ). drop n (take a t ++ (s ++ drop b t))) e ∙ drop-append-add (take a t) (s ++ drop b t) (length s + j) ∙ drop-append-add s (drop b t) j ∙ drop-drop j b t

-- ---- a part between two characters replaced
module _ (t : List ℕ) (a b : ℕ) (s : List ℕ) (i : In t a b) where
  long : length (take a t) ≡ a
  long = let h = i.0 in let k = i.1 in length-take-le a t (omega arith)

  -- it is a text
  pub splice-text : (R : Repertoire) → is_text R t ≡ true → is_text R s ≡ true → is_text R (splice t a b s) ≡ true
  unfolding splice
  splice-text R v e =
      text-append R (take a t) (s ++ drop b t) (text-cut R t a v i.2).0 ∙ text-append R s (drop b t) e ∙ (text-cut R t b v i.3).1

  -- the places up to its start are as they were
  pub splice-before : (p : ℕ) → p ≤ a → boundary (splice t a b s) p ≡ boundary t p
  unfolding splice
  splice-before p h =
      boundary-take (take a t ++ (s ++ drop b t)) a p h ∙ ap (λ (l : List ℕ). boundary l p) (take_at (take a t) (s ++ drop b t) a long) ∙ sym (boundary-take t a p h)

  -- those behind it have moved
  pub splice-behind : valid s ≡ true → (p : ℕ) → boundary (splice t a b s) (a + length s + p) ≡ boundary t (b + p)
  unfolding splice
  splice-behind v p =
      let e : a + length s + p ≡ a + (length s + p) = omega arith in
      ap (boundary (take a t ++ (s ++ drop b t))) e
      ∙ boundary-drop (take a t ++ (s ++ drop b t)) a (length s + p) (splice-before a (omega arith) ∙ i.2)
      ∙ ap (λ (l : List ℕ). boundary l (length s + p)) (drop_at (take a t) (s ++ drop b t) a long)
      ∙ boundary-drop (s ++ drop b t) (length s) p (ap valid (take_at s (drop b t) (length s) refl) ∙ v)
      ∙ ap (λ (l : List ℕ). boundary l p) (drop_at s (drop b t) (length s) refl)
      ∙ sym (boundary-drop t b p i.3)

  -- a place up to its start stays between characters
  pub splice_stays : (p : ℕ) → p ≤ a → boundary t p ≡ true → In (splice t a b s) p p
  splice_stays p h k =
      let e = splice-before p h ∙ k in
      (omega arith, omega (arith, i.0, i.1, splice-length t a b s i.0 i.1), e, e)

  -- one from its end on moves with the text behind it
  pub splice_moves : valid s ≡ true → (p q : ℕ) → b ≤ p → p ≤ length t → boundary t p ≡ true → q ≡ a + length s + (p - b) → In (splice t a b s) q q
  splice_moves v p q h l k m =
      let z : b + (p - b) ≡ p = omega arith in
      let e = ap (boundary (splice t a b s)) m ∙ splice-behind v (p - b) ∙ ap (boundary t) z ∙ k in
      (omega arith, omega (arith, i.0, splice-length t a b s i.0 i.1), e, e)

  -- its start, and the place behind what is put in
  pub splice-start : In (splice t a b s) a a
  splice-start = splice_stays a (omega arith) i.2

  pub splice-end : valid s ≡ true → In (splice t a b s) (a + length s) (a + length s)
  splice-end v = splice_moves v b (a + length s) (omega arith) i.1 i.3 (omega arith)
