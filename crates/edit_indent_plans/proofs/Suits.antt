-- The changes of indenting and dedenting suit the text, over any repertoire. Assumes nothing.
use mathlib.Core.Path.{◌≡◌, refl, sym, ap, subst, ◌∙◌}
use mathlib.Core.Bool.{Bool, true, false, not}
use mathlib.Core.List.{List, [], ◌∷◌, ◌++◌, append_assoc}
use Prim.Native.Nat.{ℕ, zero, suc, ◌+◌, ◌-◌, ◌*◌, ◌<◌, ◌≤◌}
use native.Mathlib.Omega.{arith}
use lib.Dec.{eqb, ltb}
use lib.ListN.{length, take, drop, length-append, length-drop, length-replicate, replicate-append-replicate}
use lib.Seq.{length-take-le}
use borrow.Author.Tests.{eqb-true, eqb-false, ltb-true, ltb-false, not-false}
use Rattle.lists.specs.Lists.{part}
use Rattle.lists.proofs.Bools.{by_test, or_none}
use Rattle.lists.proofs.Every.{Every}
use Rattle.utf8.specs.Utf8.{first, first_of, one as one_byte}
use Rattle.utf8.specs.Chars.{valid_from, chars_from, valid, boundary, In}
use Rattle.utf8.proofs.Append.{valid-append, valid-cut}
use Rattle.utf8.proofs.Boundary.{boundary-drop}
use Rattle.repertoire.specs.Repertoire.{Repertoire}
use Rattle.repertoire.specs.Text.{is_text}
use Rattle.repertoire.proofs.Text.{text_nil, text-append, text-valid}
use Rattle.keymap.specs.declared.Movement.{Movement}
use Rattle.edit.specs.Plan.{PlannedChange, pasted, cutting, made, splice, AllSuit}
use Rattle.edit.proofs.Parts.{part-between}
use Rattle.edit_indent_plans.specs.Touched.{split_lines, deleting, splits, touched}
use Rattle.edit_indent_plans.specs.IndentPlans.{spaces, indent_pieces, indent_line, indent_lines, dedent_lines, lines_in, indent_plan}
use Rattle.edit_indent_plans.specs.IndentPlans.{piece_of}
use Rattle.edit_indent_plans.proofs.Newlines.{lines_some}
use Rattle.edit_indent_plans.proofs.Spans.{touched_in}
use Rattle.edit_indent_plans.proofs.White.{deleting_in}
use Rattle.edit_indent_plans.proofs.Walks.{newline-valid}
use Rattle.edit_indent_plans.proofs.Joined.{behind, joined, split-joined, Valid, split-valid, at-boundary, within, end-boundary, cut-is}
use Rattle.edit_indent_plans.proofs.Joined.{put_is, next-line}

-- ---- what is before the next line is characters
module _ (a x : List ℕ) (v : valid a ≡ true) (w : valid x ≡ true) where
  pub before-next : valid (a ++ (x ++ (0x0A ∷ []))) ≡ true
  before-next = valid-append a (x ++ (0x0A ∷ [])) v ∙ valid-append x (0x0A ∷ []) w ∙ newline-valid

pub next_place : (a x : List ℕ) (n : ℕ) → n ≡ length a + length x + 1 → n ≡ length (a ++ (x ++ (0x0A ∷ [])))
next_place a x n e = omega (arith, length-append a (x ++ (0x0A ∷ [])), length-append x (0x0A ∷ []))

-- ---- dedenting
module _ (R : Repertoire) (m : ℕ) (b : List ℕ) where
  -- the text once the first line is dedented, by the next line
  pub dedent_next : (x y : List ℕ) (ys : List (List ℕ)) (a t : List ℕ) (at : ℕ) → t ≡ a ++ (x ++ (behind (y ∷ ys) ++ b)) → at ≡ length a
      → made (cutting at (at + deleting R m x)) t ≡ (a ++ (drop (deleting R m x) x ++ (0x0A ∷ []))) ++ (y ++ (behind ys ++ b))
  dedent_next x y ys a t at e f = cut-is a x (behind (y ∷ ys) ++ b) t e at f (deleting R m x) (deleting_in R m x) ∙ next-line a (drop (deleting R m x) x) y b ys

  pub dedent_place : (x a : List ℕ) (at : ℕ) → at ≡ length a → at + (length x - deleting R m x) + 1 ≡ length (a ++ (drop (deleting R m x) x ++ (0x0A ∷ [])))
  dedent_place x a at f = next_place a (drop (deleting R m x) x) _ (omega (arith, length-drop (deleting R m x) x))

  module _ (x : List ℕ) (w : valid x ≡ true) (s : boundary x (deleting R m x) ≡ true) where
    pub dedent_before : (a : List ℕ) → valid a ≡ true → valid (a ++ (drop (deleting R m x) x ++ (0x0A ∷ []))) ≡ true
    dedent_before a v = before-next a (drop (deleting R m x) x) v (sym (valid-cut x (deleting R m x) s) ∙ w)

    pub dedent_in : (c a t : List ℕ) (at : ℕ) → valid a ≡ true → t ≡ a ++ (x ++ c) → at ≡ length a → In t at (at + deleting R m x)
    dedent_in c a t at v e f =
        let d = deleting_in R m x in
        (omega arith, within a x c t e at f (deleting R m x) d, at-boundary a x c t e at f v, end-boundary a x c t e at f (deleting R m x) d v s)

  -- where check 6 passes, the first cut ends between characters
  pub whole : (x : List ℕ) (xs : List (List ℕ)) → splits R m (x ∷ xs) ≡ false → (boundary x (deleting R m x) ≡ true) × (splits R m xs ≡ false)
  unfolding splits
  whole x xs e = let p = or_none (not (boundary x (deleting R m x))) (splits R m xs) e in (not-false (boundary x (deleting R m x)) p.0, p.1)

  dedents : (xs : List (List ℕ)) (x a t : List ℕ) (at : ℕ) → valid a ≡ true → valid x ≡ true → Every Valid xs → splits R m (x ∷ xs) ≡ false
      → t ≡ a ++ (x ++ (behind xs ++ b)) → at ≡ length a → AllSuit R (dedent_lines R m at (x ∷ xs)) t
  unfolding AllSuit dedent_lines
  dedents [] x a t at v w ws s e f = (dedent_in x w (whole x [] s).0 (behind [] ++ b) a t at v e f, tt)
  dedents (y ∷ ys) x a t at v w ws s e f =
      let g = whole x (y ∷ ys) s in (
        dedent_in x w g.0 (behind (y ∷ ys) ++ b) a t at v e f,
        dedents ys y (a ++ (drop (deleting R m x) x ++ (0x0A ∷ []))) (made (cutting at (at + deleting R m x)) t)
            (at + (length x - deleting R m x) + 1) (dedent_before x w g.0 a v) ws.0 ws.1 g.1 (dedent_next x y ys a t at e f) (dedent_place x a at f),
      )

-- ---- indenting
space-valid : valid (0x20 ∷ []) ≡ true
unfolding valid_from first first_of one_byte
space-valid = refl

pub spaces-valid : (n : ℕ) → valid (spaces n) ≡ true
unfolding valid_from
spaces-valid zero = refl
spaces-valid (suc n) = valid-append (0x20 ∷ []) (spaces n) space-valid ∙ spaces-valid n

module _ (R : Repertoire) (mem : R.member 0x20 ≡ true) where
  space-text : is_text R (0x20 ∷ []) ≡ true
  unfolding is_text valid_from chars_from first first_of one_byte
  space-text = rw mem

  pub spaces-text : (n : ℕ) → is_text R (spaces n) ≡ true
  spaces-text zero = text_nil R
  spaces-text (suc n) = text-append R (0x20 ∷ []) (spaces n) space-text ∙ spaces-text n

pub piece_in : (m : ℕ) → (m ≡ 0 → ⊥) → (0 < piece_of m) × (piece_of m ≤ 32) × (m - 32 + piece_of m ≡ m)
piece_in m h =
    by_test _ (ltb m 32)
    (λ t. let l = ltb-true m 32 t in let p = some m h in rw t (p, omega arith, omega arith))
    (λ t. let l = ltb-false m 32 t in rw t (omega arith, omega arith, omega arith))
  where
    some : (n : ℕ) → (n ≡ 0 → ⊥) → 0 < n
    some zero k = absurd (k refl)
    some (suc n) k = omega arith

-- what holds of a line's changes: of none for no spaces, and of one more where it does for 32 spaces fewer
pub by_pieces : (P : ℕ → List PlannedChange → Type 0) (at : ℕ) → P 0 [] → ((n : ℕ) (xs : List PlannedChange) → (n ≡ 0 → ⊥) → P (n - 32) xs
    → P n (pasted at (spaces (piece_of n)) ∷ xs)) → (m : ℕ) → P m (indent_line at m)
unfolding indent_pieces
by_pieces P at z s m = go m m (omega arith)
  where
    go : (k n : ℕ) → n ≤ 32 * k → P n (indent_pieces k at n)
    go zero n h = let e : 0 ≡ n = omega arith in subst (λ (i : ℕ). P i []) e z
    go (suc k) n h =
        by_test _ (eqb n 0) (λ t. rw t (subst (λ (i : ℕ). P i []) (sym (eqb-true n 0 t)) z))
        (λ t. rw t (s n _ (eqb-false n 0 t) (go k (n - 32) (omega arith))))

pub spaces_more : (m : ℕ) (c : List ℕ) → (m ≡ 0 → ⊥) → spaces (m - 32) ++ (spaces (piece_of m) ++ c) ≡ spaces m ++ c
spaces_more m c h =
    sym (append_assoc (spaces (m - 32)) (spaces (piece_of m)) c)
    ∙ ap (λ (l : List ℕ). l ++ c) (replicate-append-replicate (m - 32) (piece_of m) 0x20 ∙ ap spaces (piece_in m h).2)

-- the text once a line is indented, by the next line
pub indent-next : (m : ℕ) (a x y b : List ℕ) (ys : List (List ℕ)) → a ++ (spaces m ++ (x ++ (behind (y ∷ ys) ++ b))) ≡
    (a ++ ((spaces m ++ x) ++ (0x0A ∷ []))) ++ (y ++ (behind ys ++ b))
indent-next m a x y b ys = ap (λ (l : List ℕ). a ++ l) (sym (append_assoc (spaces m) x (behind (y ∷ ys) ++ b))) ∙ next-line a (spaces m ++ x) y b ys

pub indent-place : (m : ℕ) (a x : List ℕ) (at : ℕ) → at ≡ length a → at + m + length x + 1 ≡ length (a ++ ((spaces m ++ x) ++ (0x0A ∷ [])))
indent-place m a x at f = next_place a (spaces m ++ x) _ (omega (arith, length-append (spaces m) x, length-replicate {A = ℕ} m 0x20))

pub indent-before : (m : ℕ) (a x : List ℕ) → valid a ≡ true → valid x ≡ true → valid (a ++ ((spaces m ++ x) ++ (0x0A ∷ []))) ≡ true
indent-before m a x v w = before-next a (spaces m ++ x) v (valid-append (spaces m) x (spaces-valid m) ∙ w)

module _ (R : Repertoire) (mem : R.member 0x20 ≡ true) where
  pieces_suit : (m : ℕ) (a c t : List ℕ) (at : ℕ) (ys : List PlannedChange) → valid a ≡ true → t ≡ a ++ c → at ≡ length a
      → AllSuit R ys (a ++ (spaces m ++ c)) → AllSuit R (indent_line at m ++ ys) t
  unfolding AllSuit
  pieces_suit m a c t at ys v e f g =
      by_pieces (λ (n : ℕ) (xs : List PlannedChange). (c t : List ℕ) → t ≡ a ++ c → AllSuit R ys (a ++ (spaces n ++ c)) → AllSuit R (xs ++ ys) t) at
      (λ c t e g. subst (AllSuit R ys) (sym e) g)
      (λ n xs h r c t e g.
      let q = at-boundary a [] c t e at f v in
      let i : In t at at = (omega arith, omega (arith, ap length e, length-append a c), q, q) in (
        (i, spaces-text R mem (piece_of n)),
        r (spaces (piece_of n) ++ c) (splice t at at (spaces (piece_of n))) (put_is a [] c t e at f (spaces (piece_of n)))
            (subst (λ (l : List ℕ). AllSuit R ys (a ++ l)) (sym (spaces_more n c h)) g),
      )) m c t e g

  module _ (m : ℕ) (b : List ℕ) where
    indents : (xs : List (List ℕ)) (x a t : List ℕ) (at : ℕ) → valid a ≡ true → valid x ≡ true → Every Valid xs → t ≡ a ++ (x ++ (behind xs ++ b))
        → at ≡ length a → AllSuit R (indent_lines m at (x ∷ xs)) t
    unfolding indent_lines AllSuit
    indents [] x a t at v w ws e f = pieces_suit m a (x ++ (behind [] ++ b)) t at [] v e f tt
    indents (y ∷ ys) x a t at v w ws e f =
        pieces_suit m a (x ++ (behind (y ∷ ys) ++ b)) t at (indent_lines m (at + m + length x + 1) (y ∷ ys)) v e f
        (indents ys y (a ++ ((spaces m ++ x) ++ (0x0A ∷ []))) (a ++ (spaces m ++ (x ++ (behind (y ∷ ys) ++ b)))) (at + m + length x + 1)
        (indent-before m a x v w) ws.0 ws.1 (indent-next m a x y b ys) (indent-place m a x at f))

-- ---- the lines of the part of a text between two places
-- the first of them, and the others
opened : (x : List ℕ) (xs : List (List ℕ)) (a p b t : List ℕ) → t ≡ a ++ (p ++ b) → x ++ behind xs ≡ p → t ≡ a ++ (x ++ (behind xs ++ b))
opened x xs a p b t e j = e ∙ ap (λ (l : List ℕ). a ++ (l ++ b)) (sym j) ∙ ap (λ (l : List ℕ). a ++ l) (append_assoc x (behind xs) b)

module _ (t : List ℕ) (from to : ℕ) (v : valid t ≡ true) (i : In t from to) where
  pub part-valid : valid (part t from to) ≡ true
  part-valid =
      let h = i.0 in
      let e : from + (to - from) ≡ to = omega arith in
      sym (boundary-drop t from (to - from) i.2) ∙ ap (boundary t) e ∙ i.3

  pub front_length : from ≡ length (take from t)
  front_length = let h = i.0 in let k = i.1 in sym (length-take-le from t (omega arith))

  -- what holds of lines of characters that the part is put together from holds of its own
  pub by_lines : (P : List (List ℕ) → Type 0) → ((x : List ℕ) (xs : List (List ℕ)) → valid x ≡ true → Every Valid xs
      → t ≡ take from t ++ (x ++ (behind xs ++ drop to t)) → P (x ∷ xs)) → P (split_lines (part t from to))
  by_lines P f = go (split_lines (part t from to)) (lines_some (part t from to)) (split-joined (part t from to)) (split-valid (part t from to) part-valid)
    where
      go : (ls : List (List ℕ)) → 0 < length ls → joined ls ≡ part t from to → Every Valid ls → P ls
      go [] h j ws = absurd (omega arith)
      go (x ∷ xs) h j ws = f x xs ws.0 ws.1 (opened x xs (take from t) (part t from to) (drop to t) t (part-between t from to i.0) j)

  module _ (R : Repertoire) (m : ℕ) where
    pub dedent_all : splits R m (split_lines (part t from to)) ≡ false → AllSuit R (dedent_lines R m from (split_lines (part t from to))) t
    dedent_all = by_lines (λ (ls : List (List ℕ)). splits R m ls ≡ false → AllSuit R (dedent_lines R m from ls) t)
        (λ x xs w ws e s. dedents R m (drop to t) xs x (take from t) t from i.2 w ws s e front_length)

    pub indent-all : R.member 0x20 ≡ true → AllSuit R (indent_lines m from (split_lines (part t from to))) t
    indent-all mem = by_lines (λ (ls : List (List ℕ)). AllSuit R (indent_lines m from ls) t)
        (λ x xs w ws e. indents R mem m (drop to t) xs x (take from t) t from i.2 w ws e front_length)

-- ---- the call's plan
module _ (R : Repertoire) (mem : R.member 0x20 ≡ true) (m : ℕ) (t : List ℕ) (pos : ℕ) (v : is_text R t ≡ true) (k : boundary t pos ≡ true)
    (h : pos ≤ length t) (mvt : Movement) where
  abbrev lines : List (List ℕ)
  lines = lines_in t (touched R t pos mvt)

  pub indent_suits : (dedent : Bool) → (dedent ≡ true → splits R m lines ≡ false) → AllSuit R (indent_plan R m dedent pos (touched R t pos mvt).start lines).changes t
  indent_suits true s = dedent_all t (touched R t pos mvt).start (touched R t pos mvt).end (text-valid R t v) (touched_in R t pos (text-valid R t v) k h mvt) R m (s refl)
  indent_suits false s = indent-all t (touched R t pos mvt).start (touched R t pos mvt).end (text-valid R t v) (touched_in R t pos (text-valid R t v) k h mvt) R m mem
