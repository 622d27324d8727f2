-- Worked examples of order 2 with words of about 60 columns and more, from the definition of a slip over the project's repertoire. Laws take them apart,
-- for to compute pieces of long words takes too long: each cluster would be tried both on the piece begun and on one of its own. Assumes nothing.
use Prim.Native.Nat.{ℕ, zero, suc, ◌+◌, ◌≤◌}
use mathlib.Core.Path.{◌≡◌, refl, ap, ◌∙◌}
use mathlib.Core.Bool.{Bool, true, cond}
use mathlib.Core.List.{List, [], ◌∷◌, ◌++◌}
use native.Mathlib.Omega.{arith}
use lib.Dec.{leb}
use lib.ListN.{replicate}
use borrow.Author.Tests.{le-leb}
use Rattle.utf8.specs.Utf8.{within, one, two, lead3, three, lead4, four, first_of, first}
use Rattle.utf8.specs.Chars.{chars_from}
use Rattle.repertoire.specs.Repertoire.{catalogue, is_control, is_mark, is_white, width_of}
use Rattle.cluster.specs.Clusters.{joined, clusters, clusters_of}
use Rattle.layout.specs.Width.{advance, column_after, columns_after}
use Rattle.slip_model.specs.Slip.{Word, Item, word, gap, newline, grown, items_of, onto, pieces, at_newline, at_text_end, before, Line, put}
use Rattle.slip_model.specs.Slip.{Fresh, UpTo, laid, lines_from, lines_of}
use Rattle.slip_model.proofs.Examples.{lines, line, each, a, b}

-- the cluster x
abbrev x : List ℕ
x = 0x78 ∷ []

-- a word of n times x
abbrev xs : ℕ → Word
xs n = replicate n x

-- x grows the word behind it
items_xs : (n : ℕ) (ks : List (List ℕ)) (w : Word) (is : List Item) → items_of catalogue ks ≡ word w ∷ is
    → items_of catalogue (xs n ++ ks) ≡ word (xs n ++ w) ∷ is
unfolding items_of within is_white
items_xs zero ks w is e = e
items_xs (suc n) ks w is e = ap (grown x) (items_xs n ks w is e)

-- a choice by a test that is met
cond_true : {A : Type 0} (c d : A) (t : Bool) → t ≡ true → cond t c d ≡ c
cond_true c d t e = ap (λ (u : Bool). cond u c d) e

-- x goes on a piece that has fewer than 60 columns
piece_x : (col : ℕ) (w : Word) → col + 1 ≤ 60 → pieces catalogue col (x ∷ w) ≡ onto x (pieces catalogue (col + 1) w)
unfolding pieces within is_mark width_of advance column_after columns_after
piece_x col w h =
    cond_true (onto x (pieces catalogue (col + 1) w)) ([] ∷ onto x (pieces catalogue 1 w)) (leb (col + 1) 60) (le-leb (col + 1) 60 h)

-- and begins a new one behind 60
piece_cut : (w : Word) → pieces catalogue 60 (x ∷ w) ≡ [] ∷ onto x (pieces catalogue 1 w)
unfolding pieces within is_mark width_of advance column_after columns_after
piece_cut w = refl

-- n times x go on a piece that has room for them
pieces_xs : (n col : ℕ) (w p : Word) (ps : List Word) → col + n ≤ 60 → pieces catalogue (col + n) w ≡ p ∷ ps
    → pieces catalogue col (xs n ++ w) ≡ (xs n ++ p) ∷ ps
pieces_xs zero col w p ps h e = ap (λ (k : ℕ). pieces catalogue k w) (let q : col ≡ col + 0 = omega arith in q) ∙ e
pieces_xs (suc n) col w p ps h e =
    piece_x col (xs n ++ w) (omega arith)
    ∙ ap (onto x)
    (pieces_xs n (col + 1) w p ps (omega arith) (ap (λ (k : ℕ). pieces catalogue k w) (let q : col + 1 + n ≡ col + suc n = omega arith in q) ∙ e))

-- the lines of a text that begins with a word, from its clusters, its items and the word's pieces
text_lines : (s : List ℕ) (ks : List (List ℕ)) (w : Word) (is : List Item) (ps : List Word) → clusters_of catalogue s ≡ ks → items_of catalogue ks ≡ word w ∷ is
    → pieces catalogue 0 w ≡ ps → lines s ≡ laid catalogue Fresh ps (λ g. lines_from catalogue g is)
unfolding lines_of lines_from
text_lines s ks w is ps c i e =
    ap (λ (l : List (List ℕ)). lines_from catalogue Fresh (items_of catalogue l)) c ∙ ap (lines_from catalogue Fresh) i
    ∙ ap (λ (l : List Word). laid catalogue Fresh l (λ g. lines_from catalogue g is)) e

-- of one that begins with n times x: t is behind them, ks are t's clusters, and w is the rest of the word
lines_xs : (n : ℕ) (t : List ℕ) (ks : List (List ℕ)) (w : Word) (is : List Item) (p : Word) (ps : List Word) (out : List Line) → n ≤ 60
    → clusters_of catalogue (replicate n 0x78 ++ t) ≡ xs n ++ ks → items_of catalogue ks ≡ word w ∷ is → pieces catalogue n w ≡ p ∷ ps
    → laid catalogue Fresh ((xs n ++ p) ∷ ps) (λ g. lines_from catalogue g is) ≡ out → lines (replicate n 0x78 ++ t) ≡ out
lines_xs n t ks w is p ps out h c i e o =
    text_lines (replicate n 0x78 ++ t) (xs n ++ ks) (xs n ++ w) is ((xs n ++ p) ∷ ps) c (items_xs n ks w is i)
    (pieces_xs n 0 w p ps (omega arith) (ap (λ (k : ℕ). pieces catalogue k w) (let q : 0 + n ≡ n = omega arith in q) ∙ e)) ∙ o

-- n times x
abbrev letters : ℕ → List ℕ
letters n = replicate n 0x78

-- clusters of one character
abbrev space : List ℕ
space = 0x20 ∷ []

abbrev mark : List ℕ
mark = 0x301 ∷ []

-- an e with a mark
abbrev marked : List ℕ
marked = 0x65 ∷ 0x301 ∷ []

pub record Computed : Type 0 where
  -- 58 x and " a": 58 + 1 + 1 columns fit; with 59 x they do not; a word of 60 is not cut
  pub fits58 : lines (letters 58 ++ (0x20 ∷ 0x61 ∷ [])) ≡ line (xs 58 ∷ a ∷ []) at_text_end ∷ []
  pub fits59 : lines (letters 59 ++ (0x20 ∷ 0x61 ∷ [])) ≡ line (xs 59 ∷ []) (before a) ∷ line (a ∷ []) at_text_end ∷ []
  pub fits60 : lines (letters 60 ++ (0x20 ∷ 0x61 ∷ [])) ≡ line (xs 60 ∷ []) (before a) ∷ line (a ∷ []) at_text_end ∷ []
  -- 61 x and " a": cut at 60, the rest is a word and takes others behind it
  pub cut61 : lines (letters 61 ++ (0x20 ∷ 0x61 ∷ [])) ≡ line (xs 60 ∷ []) (before (xs 1)) ∷ line (xs 1 ∷ a ∷ []) at_text_end ∷ []
  -- 59 x and "e\u{301}y": the mark stays with its e
  pub together :
      lines (letters 59 ++ (0x65 ∷ 0xCC ∷ 0x81 ∷ 0x79 ∷ []))
      ≡ line ((xs 59 ++ (marked ∷ [])) ∷ []) (before (each (0x79 ∷ []))) ∷ line (each (0x79 ∷ []) ∷ []) at_text_end ∷ []
  -- 59 x and "\t\u{301}": 59 + 1 + 0 columns fit; with 60 x they do not
  pub mark59 : lines (letters 59 ++ (0x09 ∷ 0xCC ∷ 0x81 ∷ [])) ≡ line (xs 59 ∷ (mark ∷ []) ∷ []) at_text_end ∷ []
  pub mark60 :
      lines (letters 60 ++ (0x09 ∷ 0xCC ∷ 0x81 ∷ [])) ≡ line (xs 60 ∷ []) (before (mark ∷ [])) ∷ line ((mark ∷ []) ∷ []) at_text_end ∷ []

pub computed : Computed
unfolding within one two lead3 three lead4 four first_of first chars_from is_control is_mark is_white width_of joined clusters advance column_after columns_after
    items_of pieces laid lines_from
computed =
    let behind : List (List ℕ) = x ∷ space ∷ (0x61 ∷ []) ∷ [] in
    let tabbed : List (List ℕ) = x ∷ (0x09 ∷ []) ∷ mark ∷ [] in
    record {
      fits58 = lines_xs 57 (0x78 ∷ 0x20 ∷ 0x61 ∷ []) behind (x ∷ []) (gap ∷ word a ∷ []) (x ∷ []) [] _ (omega arith) refl refl refl refl;
      fits59 = lines_xs 58 (0x78 ∷ 0x20 ∷ 0x61 ∷ []) behind (x ∷ []) (gap ∷ word a ∷ []) (x ∷ []) [] _ (omega arith) refl refl refl refl;
      fits60 = lines_xs 59 (0x78 ∷ 0x20 ∷ 0x61 ∷ []) behind (x ∷ []) (gap ∷ word a ∷ []) (x ∷ []) [] _ (omega arith) refl refl refl refl;
      cut61 = lines_xs 60 (0x78 ∷ 0x20 ∷ 0x61 ∷ []) behind (x ∷ []) (gap ∷ word a ∷ []) [] ((x ∷ []) ∷ []) _ (omega arith) refl refl refl refl;
      together =
          lines_xs 58 (0x78 ∷ 0x65 ∷ 0xCC ∷ 0x81 ∷ 0x79 ∷ []) (x ∷ marked ∷ (0x79 ∷ []) ∷ []) (x ∷ marked ∷ (0x79 ∷ []) ∷ []) [] (x ∷ marked ∷ [])
          (((0x79 ∷ []) ∷ []) ∷ []) _ (omega arith) refl refl refl refl;
      mark59 = lines_xs 58 (0x78 ∷ 0x09 ∷ 0xCC ∷ 0x81 ∷ []) tabbed (x ∷ []) (gap ∷ word (mark ∷ []) ∷ []) (x ∷ []) [] _ (omega arith) refl refl refl refl;
      mark60 = lines_xs 59 (0x78 ∷ 0x09 ∷ 0xCC ∷ 0x81 ∷ []) tabbed (x ∷ []) (gap ∷ word (mark ∷ []) ∷ []) (x ∷ []) [] _ (omega arith) refl refl refl refl;
    }

-- ---- longer ones, and those that begin otherwise
-- x that ends a word, up to 60 columns and behind them
last_x : (pieces catalogue 59 (x ∷ []) ≡ (x ∷ []) ∷ []) × (pieces catalogue 60 (x ∷ []) ≡ [] ∷ (x ∷ []) ∷ [])
unfolding pieces within is_mark width_of advance column_after columns_after
last_x = (refl, refl)

-- 60 x are one piece, 61 are two, 121 are three
pieces60 : pieces catalogue 0 (xs 60) ≡ xs 60 ∷ []
pieces60 = pieces_xs 59 0 (x ∷ []) (x ∷ []) [] (omega arith) last_x.0

pieces61 : pieces catalogue 0 (xs 61) ≡ xs 60 ∷ xs 1 ∷ []
pieces61 = pieces_xs 60 0 (x ∷ []) [] (xs 1 ∷ []) (omega arith) last_x.1

pieces121 : pieces catalogue 0 (xs 121) ≡ xs 60 ∷ xs 60 ∷ xs 1 ∷ []
pieces121 =
    let second : pieces catalogue 1 (xs 60) ≡ xs 59 ∷ xs 1 ∷ [] = pieces_xs 59 1 (x ∷ []) [] (xs 1 ∷ []) (omega arith) last_x.1 in
    pieces_xs 60 0 (xs 61) [] (xs 60 ∷ xs 1 ∷ []) (omega arith) (piece_cut (xs 60) ∙ ap (λ (l : List Word). [] ∷ onto x l) second)

-- a mark in front of a word without white space is of the word
mark_item : (ks : List (List ℕ)) → items_of catalogue (mark ∷ ks) ≡ grown mark (items_of catalogue ks)
unfolding items_of within is_white
mark_item ks = refl

-- and of its first piece
mark_piece : (w : Word) → pieces catalogue 0 (mark ∷ w) ≡ onto mark (pieces catalogue 0 w)
unfolding pieces within is_mark width_of advance column_after columns_after
mark_piece w = refl

-- "a " in front of what follows
a_item : (ks : List (List ℕ)) → items_of catalogue ((0x61 ∷ []) ∷ space ∷ ks) ≡ word a ∷ gap ∷ items_of catalogue ks
unfolding items_of within is_white
a_item ks = refl

-- a is one piece
a_pieces : pieces catalogue 0 a ≡ a ∷ []
unfolding pieces within is_mark width_of advance column_after columns_after
a_pieces = refl

-- the items that some texts end in
ends_x :
    (items_of catalogue (x ∷ []) ≡ word (xs 1) ∷ []) ×
    (items_of catalogue (x ∷ space ∷ (0x62 ∷ []) ∷ []) ≡ word (xs 1) ∷ gap ∷ word b ∷ []) ×
    (items_of catalogue (x ∷ (0x0A ∷ []) ∷ (0x62 ∷ []) ∷ []) ≡ word (xs 1) ∷ newline ∷ word b ∷ [])
unfolding items_of within is_white
ends_x = (refl, refl, refl)

-- their clusters
clusters_x :
    (clusters_of catalogue (0xCC ∷ 0x81 ∷ letters 60) ≡ mark ∷ xs 60) ×
    (clusters_of catalogue (0xCC ∷ 0x81 ∷ letters 61) ≡ mark ∷ xs 61) ×
    (clusters_of catalogue (0x61 ∷ 0x20 ∷ (letters 61 ++ (0x20 ∷ 0x62 ∷ []))) ≡ (0x61 ∷ []) ∷ space ∷ (xs 61 ++ (space ∷ (0x62 ∷ []) ∷ []))) ×
    (clusters_of catalogue (letters 121 ++ (0x0A ∷ 0x62 ∷ [])) ≡ xs 121 ++ ((0x0A ∷ []) ∷ (0x62 ∷ []) ∷ []))
unfolding within one two lead3 three lead4 four first_of first chars_from is_control is_mark joined clusters
clusters_x = (refl, refl, refl, refl)

-- "a " fills one column of the line that what follows goes on
a_laid : (w : Word) (is : List Item)
    → laid catalogue Fresh (a ∷ []) (λ g. lines_from catalogue g (gap ∷ word w ∷ is))
    ≡ put a (laid catalogue (UpTo 1) (pieces catalogue 0 w) (λ g. lines_from catalogue g is))
unfolding laid lines_from within is_mark width_of advance column_after columns_after
a_laid w is = refl

-- their lines
pub record Longer : Type 0 where
  -- "\u{301}" and 60 x are not over 60; with 61 x the mark stays in front
  pub mark60 : lines (0xCC ∷ 0x81 ∷ letters 60) ≡ line ((mark ∷ xs 60) ∷ []) at_text_end ∷ []
  pub mark61 : lines (0xCC ∷ 0x81 ∷ letters 61) ≡ line ((mark ∷ xs 60) ∷ []) (before (xs 1)) ∷ line (xs 1 ∷ []) at_text_end ∷ []
  -- "a ", 61 x and " b": a word over 60 starts a line
  pub starts :
      lines (0x61 ∷ 0x20 ∷ (letters 61 ++ (0x20 ∷ 0x62 ∷ [])))
      ≡ line (a ∷ []) (before (xs 61)) ∷ line (xs 60 ∷ []) (before (xs 1)) ∷ line (xs 1 ∷ b ∷ []) at_text_end ∷ []
  -- 121 x and "\nb": three pieces, and \n ends the line of the last
  pub cut121 :
      lines (letters 121 ++ (0x0A ∷ 0x62 ∷ []))
      ≡ line (xs 60 ∷ []) (before (xs 61)) ∷ line (xs 60 ∷ []) (before (xs 1)) ∷ line (xs 1 ∷ []) at_newline ∷ line (b ∷ []) at_text_end ∷ []

-- how their pieces lie
laid_x :
    (laid catalogue Fresh ((mark ∷ xs 60) ∷ []) (λ g. lines_from catalogue g []) ≡ line ((mark ∷ xs 60) ∷ []) at_text_end ∷ []) ×
    (laid catalogue Fresh ((mark ∷ xs 60) ∷ xs 1 ∷ []) (λ g. lines_from catalogue g [])
    ≡ line ((mark ∷ xs 60) ∷ []) (before (xs 1)) ∷ line (xs 1 ∷ []) at_text_end ∷ []) ×
    (put a (laid catalogue (UpTo 1) (xs 60 ∷ xs 1 ∷ []) (λ g. lines_from catalogue g (gap ∷ word b ∷ [])))
    ≡ line (a ∷ []) (before (xs 61)) ∷ line (xs 60 ∷ []) (before (xs 1)) ∷ line (xs 1 ∷ b ∷ []) at_text_end ∷ []) ×
    (laid catalogue Fresh (xs 60 ∷ xs 60 ∷ xs 1 ∷ []) (λ g. lines_from catalogue g (newline ∷ word b ∷ []))
    ≡ line (xs 60 ∷ []) (before (xs 61)) ∷ line (xs 60 ∷ []) (before (xs 1)) ∷ line (xs 1 ∷ []) at_newline ∷ line (b ∷ []) at_text_end ∷ [])
unfolding laid lines_from pieces within is_mark width_of advance column_after columns_after
laid_x = (refl, refl, refl, refl)

-- by all of these laws
pub longer : Longer
longer =
    let spaced : List (List ℕ) = x ∷ space ∷ (0x62 ∷ []) ∷ [] in
    let ended : List (List ℕ) = x ∷ (0x0A ∷ []) ∷ (0x62 ∷ []) ∷ [] in
    record {
      mark60 =
          text_lines (0xCC ∷ 0x81 ∷ letters 60) (mark ∷ xs 60) (mark ∷ xs 60) [] ((mark ∷ xs 60) ∷ []) clusters_x.0
          (mark_item (xs 60) ∙ ap (grown mark) (items_xs 59 (x ∷ []) (xs 1) [] ends_x.0)) (mark_piece (xs 60) ∙ ap (onto mark) pieces60) ∙ laid_x.0;
      mark61 =
          text_lines (0xCC ∷ 0x81 ∷ letters 61) (mark ∷ xs 61) (mark ∷ xs 61) [] ((mark ∷ xs 60) ∷ xs 1 ∷ []) clusters_x.1
          (mark_item (xs 61) ∙ ap (grown mark) (items_xs 60 (x ∷ []) (xs 1) [] ends_x.0)) (mark_piece (xs 61) ∙ ap (onto mark) pieces61) ∙ laid_x.1;
      starts =
          text_lines (0x61 ∷ 0x20 ∷ (letters 61 ++ (0x20 ∷ 0x62 ∷ []))) ((0x61 ∷ []) ∷ space ∷ (xs 60 ++ spaced)) a
          (gap ∷ word (xs 61) ∷ gap ∷ word b ∷ []) (a ∷ []) clusters_x.2
          (a_item (xs 60 ++ spaced) ∙ ap (λ (l : List Item). word a ∷ gap ∷ l) (items_xs 60 spaced (xs 1) (gap ∷ word b ∷ []) ends_x.1)) a_pieces
          ∙ a_laid (xs 61) (gap ∷ word b ∷ [])
          ∙ ap (λ (l : List Word). put a (laid catalogue (UpTo 1) l (λ g. lines_from catalogue g (gap ∷ word b ∷ [])))) pieces61 ∙ laid_x.2;
      cut121 =
          text_lines (letters 121 ++ (0x0A ∷ 0x62 ∷ [])) (xs 120 ++ ended) (xs 121) (newline ∷ word b ∷ []) (xs 60 ∷ xs 60 ∷ xs 1 ∷ []) clusters_x.3
          (items_xs 120 ended (xs 1) (newline ∷ word b ∷ []) ends_x.2) pieces121 ∙ laid_x.3;
    }
