-- What remains to be printed: how it goes on from a line's end, from a piece of a word, from white space and from the text's end. Over any
-- repertoire, and where a section names `law`, over a lawful one.
use Prim.Native.Nat.{ℕ, ◌+◌, ◌-◌, ◌≤◌}
use mathlib.Core.Path.{◌≡◌, refl, sym, ap, subst, ◌∙◌}
use mathlib.Core.Bool.{Bool, true, false, cond}
use mathlib.Core.List.{List, [], ◌∷◌, ◌++◌, map, append_assoc, append-nil}
use native.Mathlib.Omega.{arith}
use lib.Dec.{eqb, leb}
use borrow.Author.Tests.{le-leb}
use Rattle.lists.specs.Lists.{any, concat}
use Rattle.lists.proofs.Bools.{by_test}
use Rattle.lists.proofs.Every.{Every, every_weaken}
use Rattle.utf8.specs.Encode.{encode, encode_all}
use Rattle.utf8.proofs.Encode.{encode_all-append}
use Rattle.repertoire.specs.Repertoire.{Repertoire, Lawful}
use Rattle.cluster.specs.Clusters.{clusters, clusters_of}
use Rattle.slip_model.specs.declared.Filled.{Filled}
use Rattle.slip_model.specs.declared.Filled.TheVariants.{Fresh, Blank, UpTo}
use Rattle.slip_model.specs.Slip.{Word, Row, Item, word, gap, newline, grown, items_of, columns, onto, pieces, Ends, at_newline, before}
use Rattle.slip_model.specs.Slip.{Line, empty_line, put}
use Rattle.slip_model.specs.Slip.{with, spaced, laid, lines_from, lines_of, spaces, spelled, row_columns, padded, printed, slip}
use Rattle.slip_model.proofs.Columns.{row_one}
use Rattle.slip_model.proofs.Words.{Clear, no-white}
use Rattle.slip_model.proofs.Cut.{clusters-one}
use Rattle.slip_model.proofs.Fits.{row_none, with_row}
use Rattle.slip_calls.specs.declared.Place.{Place}
use Rattle.slip_calls.specs.Places.{space_before, line_end, place_for, white_place, closing_place, placed}
use Rattle.slip_calls.specs.Remaining.{row_from, lines_behind, remaining}
use Rattle.slip_calls.specs.Pieces.{piece_from, behind_piece}

-- a space in front of characters is a byte in front of theirs
space-encode : (cs : List ℕ) → encode_all (0x20 ∷ cs) ≡ 0x20 ∷ encode_all cs
unfolding encode_all encode
space-encode cs = refl

-- three lists one behind the other, and a fourth
append-three : (a b c d : List ℕ) → (a ++ (b ++ c)) ++ d ≡ a ++ (b ++ (c ++ d))
append-three a b c d = append_assoc a (b ++ c) d ∙ ap (λ (l : List ℕ). a ++ l) (append_assoc b c d)

-- ---- items from a place on
-- the word that they begin with, without clusters where none stands there
abbrev leading : List Item → Word
leading [] = []
leading (word w ∷ is) = w
leading (gap ∷ is) = []
leading (newline ∷ is) = []

-- what stands behind it
abbrev following : List Item → List Item
following [] = []
following (word w ∷ is) = is
following (gap ∷ is) = gap ∷ is
following (newline ∷ is) = newline ∷ is

-- a cluster without white space begins a word with them
grown_parts : (k : List ℕ) (is : List Item) → grown k is ≡ word (k ∷ leading is) ∷ following is
grown_parts k [] = refl
grown_parts k (word w ∷ is) = refl
grown_parts k (gap ∷ is) = refl
grown_parts k (newline ∷ is) = refl

module _ (R : Repertoire) where
  -- white space changes nothing of the rest of a row
  row-spaced : (f : Filled) (r : Row) → row_from R f r ≡ row_from R (spaced f) r
  row-spaced Fresh [] = refl
  row-spaced Fresh (p ∷ r) = refl
  row-spaced Blank r = refl
  row-spaced (UpTo c) r = refl

  -- and nothing of the lines
  behind-spaced : (f : Filled) (ls : List Line) → lines_behind R f ls ≡ lines_behind R (spaced f) ls
  behind-spaced Fresh [] = refl
  behind-spaced Blank [] = refl
  behind-spaced (UpTo c) [] = refl
  behind-spaced f (l ∷ ls) = ap (λ (x : List ℕ). x ++ (0x0A ∷ concat (map (printed R) ls))) (row-spaced f l.row)

  -- a piece more on the line
  pub behind-put : (f : Filled) (p : Word) (ls : List Line) → lines_behind R f (put p ls) ≡
      spaces (space_before f) ++ (encode_all (concat p) ++ lines_behind R (UpTo (with f (columns R p))) ls)
  behind-put f p [] =
      append-three (spaces (space_before f)) (encode_all (concat p)) (row_from R (UpTo (with f (columns R p))) []) (0x0A ∷ [])
  behind-put f p (l ∷ ls) =
      append-three (spaces (space_before f)) (encode_all (concat p)) (row_from R (UpTo (with f (columns R p))) l.row) (0x0A ∷ concat (map (printed R) ls))

  -- ---- by clusters
  -- white space without \n
  pub remaining-gap : (f : Filled) (k : List ℕ) (ks : List (List ℕ)) → any (eqb 0x0A) k ≡ false → any R.white k ≡ true →
      remaining R f (k ∷ ks) ≡ placed (white_place false f) ++ remaining R (white_place false f).filled ks
  unfolding items_of lines_from
  remaining-gap f k ks e h = rw (e, h) (behind-spaced f (lines_from R (spaced f) (items_of R ks)))

  -- the text's end
  pub remaining-end : (f : Filled) → remaining R f [] ≡ placed (closing_place f)
  unfolding items_of lines_from
  remaining-end Fresh = refl
  remaining-end Blank = refl
  remaining-end (UpTo c) = refl

  module _ (law : Lawful R) where
    -- ---- rows and lines
    -- a row with words: the space before it, its characters and the padding
    row_words : (f : Filled) (p : Word) (r : Row) →
        row_from R f (p ∷ r) ≡ spaces (space_before f) ++ (encode_all (spelled (p ∷ r)) ++ spaces (60 - with f (row_columns R (p ∷ r))))
    row_words f p [] = ap (λ (n : ℕ). spaces (space_before f) ++ (encode_all (concat p) ++ spaces (60 - with f n))) (sym (row_one R law p))
    row_words f p (q ∷ r) =
        let first = encode_all (concat p) in
        let behind = spelled (q ∷ r) in
        let g = UpTo (with f (columns R p)) in
        let padding = spaces (60 - with g (row_columns R (q ∷ r))) in
        let bytes : encode_all (spelled (p ∷ (q ∷ r))) ≡ first ++ (0x20 ∷ encode_all behind) =
        encode_all-append (concat p) (0x20 ∷ behind) ∙ ap (λ (l : List ℕ). first ++ l) (space-encode behind) in
        let e : first ++ (0x20 ∷ (encode_all behind ++ padding)) ≡ encode_all (spelled (p ∷ (q ∷ r))) ++ padding =
        sym (ap (λ (l : List ℕ). l ++ padding) bytes ∙ append_assoc first (0x20 ∷ encode_all behind) padding) in
        ap (λ (l : List ℕ). spaces (space_before f) ++ (first ++ l)) (row_words g q r) ∙ ap (λ (l : List ℕ). spaces (space_before f) ++ l) e ∙
        ap (λ (n : ℕ). spaces (space_before f) ++ (encode_all (spelled (p ∷ (q ∷ r))) ++ spaces (60 - n))) (sym (with_row R law f p q r))

    -- a padded row is what stands from the start of a line on
    pub padded-row : (r : Row) → padded R r ≡ row_from R Fresh r
    unfolding padded encode_all
    padded-row [] = ap (λ (n : ℕ). spaces (60 - n)) (row_none R)
    padded-row (p ∷ r) = sym (row_words Fresh p r)

    -- whole lines, from the start of a line on
    pub lines_fresh : (ls : List Line) → concat (map (printed R) ls) ≡ lines_behind R Fresh ls
    lines_fresh [] = refl
    lines_fresh (l ∷ ls) =
        let rest = concat (map (printed R) ls) in
        append_assoc (padded R l.row) (0x0A ∷ []) rest ∙ ap (λ (x : List ℕ). x ++ (0x0A ∷ rest)) (padded-row l.row)

    -- a line ends
    pub behind-end : (f : Filled) (e : Ends) (ls : List Line) → lines_behind R f (empty_line e ∷ ls) ≡ placed (line_end f Fresh) ++ lines_behind R Fresh ls
    behind-end f e ls =
        let padding = row_from R f [] in
        ap (λ (x : List ℕ). padding ++ (0x0A ∷ x)) (lines_fresh ls) ∙ sym (append_assoc padding (0x0A ∷ []) (lines_behind R Fresh ls))

    -- ---- by clusters again
    -- a \n
    pub remaining-newline : (f : Filled) (k : List ℕ) (ks : List (List ℕ)) → any (eqb 0x0A) k ≡ true →
        remaining R f (k ∷ ks) ≡ placed (white_place true f) ++ remaining R (white_place true f).filled ks
    unfolding items_of lines_from
    remaining-newline f k ks e = rw e (behind-end f at_newline (lines_from R Fresh (items_of R ks)))

    -- all of a text
    pub remaining-slip : (s : List ℕ) → remaining R Fresh (clusters_of R s) ≡ slip R s
    unfolding slip lines_of
    remaining-slip s = sym (lines_fresh (lines_of R s))

  -- ---- a piece of a word, where \n is white space and a cluster without white space has one column at most
  -- a word's pieces from a cluster on that fits behind some columns
  pieces-fit : (col : ℕ) (k : List ℕ) (w : Word) → leb (col + columns R (k ∷ [])) 60 ≡ true →
      pieces R col (k ∷ w) ≡ onto k (pieces R (col + columns R (k ∷ [])) w)
  unfolding pieces
  pieces-fit col k w t = rw t

  -- and from one on that does not
  pieces_past : (col : ℕ) (k : List ℕ) (w : Word) → leb (col + columns R (k ∷ [])) 60 ≡ false →
      pieces R col (k ∷ w) ≡ [] ∷ onto k (pieces R (columns R (k ∷ [])) w)
  unfolding pieces
  pieces_past col k w t = rw t

  -- at the start of a piece a cluster of one column at most fits
  pieces-start : (k : List ℕ) (w : Word) → columns R (k ∷ []) ≤ 1 → pieces R 0 (k ∷ w) ≡ onto k (pieces R (columns R (k ∷ [])) w)
  pieces-start k w m =
      let n = columns R (k ∷ []) in
      let e : 0 + n ≡ n = omega arith in
      pieces-fit 0 k w (le-leb (0 + n) 60 (omega (arith, m))) ∙ ap (λ (col : ℕ). onto k (pieces R col w)) e

  -- the items from a \n on
  items_newline : (k : List ℕ) (ks : List (List ℕ)) → any (eqb 0x0A) k ≡ true → items_of R (k ∷ ks) ≡ newline ∷ items_of R ks
  unfolding items_of
  items_newline k ks e = rw e

  -- from other white space on
  items_gap : (k : List ℕ) (ks : List (List ℕ)) → any (eqb 0x0A) k ≡ false → any R.white k ≡ true → items_of R (k ∷ ks) ≡ gap ∷ items_of R ks
  unfolding items_of
  items_gap k ks e h = rw (e, h)

  -- from a cluster without white space on
  items_word : (k : List ℕ) (ks : List (List ℕ)) → any (eqb 0x0A) k ≡ false → any R.white k ≡ false →
      items_of R (k ∷ ks) ≡ word (k ∷ leading (items_of R ks)) ∷ following (items_of R ks)
  unfolding items_of
  items_word k ks e h = rw (e, h) (grown_parts k (items_of R ks))

  -- the piece from a cluster on, and what stands behind it: white space
  piece_white : (col : ℕ) (k : List ℕ) (ks : List (List ℕ)) → any R.white k ≡ true →
      (piece_from R col (k ∷ ks) ≡ []) × (behind_piece R col (k ∷ ks) ≡ k ∷ ks)
  unfolding piece_from behind_piece
  piece_white col k ks h = (rw h, rw h)

  -- a cluster that fits behind some columns
  piece_fit : (col : ℕ) (k : List ℕ) (ks : List (List ℕ)) → any R.white k ≡ false → leb (col + columns R (k ∷ [])) 60 ≡ true →
      (piece_from R col (k ∷ ks) ≡ k ∷ piece_from R (col + columns R (k ∷ [])) ks) ×
      (behind_piece R col (k ∷ ks) ≡ behind_piece R (col + columns R (k ∷ [])) ks)
  unfolding piece_from behind_piece
  piece_fit col k ks h t = (rw (h, t), rw (h, t))

  -- one that does not
  piece_past : (col : ℕ) (k : List ℕ) (ks : List (List ℕ)) → any R.white k ≡ false → leb (col + columns R (k ∷ [])) 60 ≡ false →
      (piece_from R col (k ∷ ks) ≡ []) × (behind_piece R col (k ∷ ks) ≡ k ∷ ks)
  unfolding piece_from behind_piece
  piece_past col k ks h t = (rw (h, t), rw (h, t))

  -- p is the first piece, from a column on, of the word that items begin with; the other pieces and the items behind them are printed as the
  -- items behind p are
  record FirstPiece (col : ℕ) (is : List Item) (p : Word) (behind : List Item) : Type 0 where
    pub more : List Word
    pub first : pieces R col (leading is) ≡ p ∷ more
    pub rest : (f : Filled) → laid R f more (λ g. lines_from R g (following is)) ≡ lines_from R f behind

  -- there are no items
  first_none : (col : ℕ) → FirstPiece col [] [] []
  unfolding pieces laid
  first_none col = record { more = []; first = refl; rest = λ f. refl }

  -- they begin with a \n
  first-newline : (col : ℕ) (is : List Item) → FirstPiece col (newline ∷ is) [] (newline ∷ is)
  unfolding pieces laid
  first-newline col is = record { more = []; first = refl; rest = λ f. refl }

  -- with other white space
  first-gap : (col : ℕ) (is : List Item) → FirstPiece col (gap ∷ is) [] (gap ∷ is)
  unfolding pieces laid
  first-gap col is = record { more = []; first = refl; rest = λ f. refl }

  -- with a cluster that fits: it is in front of the first piece
  first-fit : (col : ℕ) (k : List ℕ) (is : List Item) (p : Word) (behind : List Item) → leb (col + columns R (k ∷ [])) 60 ≡ true →
      FirstPiece (col + columns R (k ∷ [])) is p behind → FirstPiece col (word (k ∷ leading is) ∷ following is) (k ∷ p) behind
  first-fit col k is p behind t h =
      record { more = h.more; first = pieces-fit col k (leading is) t ∙ ap (onto k) h.first; rest = h.rest }

  -- with one that does not: it begins the next piece, as it does a word
  first_past : (col : ℕ) (k : List ℕ) (w : Word) (is : List Item) → leb (col + columns R (k ∷ [])) 60 ≡ false → columns R (k ∷ []) ≤ 1 →
      FirstPiece col (word (k ∷ w) ∷ is) [] (word (k ∷ w) ∷ is)
  unfolding lines_from
  first_past col k w is t m =
      record {
        more = onto k (pieces R (columns R (k ∷ [])) w);
        first = pieces_past col k w t;
        rest = λ f. ap (λ (ps : List Word). laid R f ps (λ g. lines_from R g is)) (sym (pieces-start k w m));
      }

  -- the first piece of the clusters from a place on
  abbrev First : ℕ → List (List ℕ) → Type 0
  First col ks = FirstPiece col (items_of R ks) (piece_from R col ks) (items_of R (behind_piece R col ks))

  -- at white space
  first-white : (col : ℕ) (k : List ℕ) (ks : List (List ℕ)) → any R.white k ≡ true → First col (k ∷ ks)
  first-white col k ks h =
      let e = piece_white col k ks h in
      by_test (First col (k ∷ ks)) (any (eqb 0x0A) k) (λ t. rw (e.0, e.1, items_newline k ks t) (first-newline col (items_of R ks)))
      (λ t. rw (e.0, e.1, items_gap k ks t h) (first-gap col (items_of R ks)))

  module _ (newline-white : R.white 0x0A ≡ true) where
    -- at a cluster without white space
    first-cluster : (col : ℕ) (k : List ℕ) (ks : List (List ℕ)) → any R.white k ≡ false → columns R (k ∷ []) ≤ 1 →
        First (col + columns R (k ∷ [])) ks → First col (k ∷ ks)
    first-cluster col k ks h m behind =
        let n = columns R (k ∷ []) in
        let is = items_of R ks in
        let items = items_word k ks (no-white R 0x0A newline-white k h) h in
        by_test (First col (k ∷ ks)) (leb (col + n) 60)
        (λ t.
        let e = piece_fit col k ks h t in
        rw (e.0, e.1, items) (first-fit col k is (piece_from R (col + n) ks) (items_of R (behind_piece R (col + n) ks)) t behind))
        (λ t.
        let e = piece_past col k ks h t in
        rw (e.0, e.1, items) (first_past col k (leading is) (following is) t m))

    -- at any place
    first_piece : (col : ℕ) (ks : List (List ℕ)) → Every (λ (l : List ℕ). any R.white l ≡ false → columns R (l ∷ []) ≤ 1) ks → First col ks
    unfolding items_of piece_from behind_piece
    first_piece col [] m = first_none col
    first_piece col (k ∷ ks) m =
        by_test (First col (k ∷ ks)) (any R.white k) (λ h. first-white col k ks h)
        (λ h. first-cluster col k ks h (m.0 h) (first_piece (col + columns R (k ∷ [])) ks m.1))

-- where a piece stands, by whether it fits on the line
abbrev place_by : Bool → Filled → ℕ → Place
place_by fits f n = cond fits (record { spaces = space_before f; newline = false; filled = UpTo (with f n) }) (line_end f (UpTo n))

module _ (R : Repertoire) (law : Lawful R) where
  -- a piece on the line begun, or on the next
  piece_placed : (fits : Bool) (f : Filled) (p : Word) (e : Ends) (go : Filled → List Line) →
      lines_behind R f (cond fits (put p (go (UpTo (with f (columns R p))))) (empty_line e ∷ put p (go (UpTo (columns R p))))) ≡
      placed (place_by fits f (columns R p)) ++
      (encode_all (concat p) ++ lines_behind R (place_by fits f (columns R p)).filled (go (place_by fits f (columns R p)).filled))
  piece_placed true f p e go =
      let g = UpTo (with f (columns R p)) in
      behind-put R f p (go g) ∙
      ap (λ (l : List ℕ). l ++ (encode_all (concat p) ++ lines_behind R g (go g))) (sym (append-nil (spaces (space_before f))))
  piece_placed false f p e go =
      let ls = go (UpTo (columns R p)) in
      behind-end R law f e (put p ls) ∙ ap (λ (l : List ℕ). placed (line_end f Fresh) ++ l) (behind-put R Fresh p ls)

  -- a word, from its first piece on
  word-placed : (f : Filled) (w p : Word) (is behind : List Item) → FirstPiece R 0 (word w ∷ is) p behind →
      lines_behind R f (lines_from R f (word w ∷ is)) ≡ placed (place_for f (columns R p)) ++
      (encode_all (concat p) ++ lines_behind R (place_for f (columns R p)).filled (lines_from R (place_for f (columns R p)).filled behind))
  unfolding lines_from laid
  word-placed f w p is behind h =
      let n = columns R p in
      let b = leb (with f n) 60 in
      let e = before (concat (p ∷ h.more)) in
      ap (λ (ps : List Word). lines_behind R f (laid R f ps (λ g. lines_from R g is))) h.first ∙
      ap (λ (ls : List Line). lines_behind R f (cond b (put p ls) (empty_line e ∷ put p (laid R (UpTo n) h.more (λ g. lines_from R g is)))))
      (h.rest (UpTo (with f n))) ∙
      ap (λ (ls : List Line). lines_behind R f (cond b (put p (lines_from R (UpTo (with f n)) behind)) (empty_line e ∷ put p ls))) (h.rest (UpTo n)) ∙
      piece_placed b f p e (λ g. lines_from R g behind)

  module _ (newline-white : R.white 0x0A ≡ true) where
    -- a piece of a word
    pub remaining_piece : (f : Filled) (k : List ℕ) (ks : List (List ℕ)) → any R.white k ≡ false →
        Every (λ (l : List ℕ). any R.white l ≡ false → columns R (l ∷ []) ≤ 1) (k ∷ ks) →
        let p = piece_from R 0 (k ∷ ks) in
        remaining R f (k ∷ ks) ≡ placed (place_for f (columns R p)) ++
        (encode_all (concat p) ++ remaining R (place_for f (columns R p)).filled (behind_piece R 0 (k ∷ ks)))
    remaining_piece f k ks h m =
        let p = piece_from R 0 (k ∷ ks) in
        let behind = items_of R (behind_piece R 0 (k ∷ ks)) in
        let items = items_word R k ks (no-white R 0x0A newline-white k h) h in
        ap (λ (is : List Item). lines_behind R f (lines_from R f is)) items ∙
        word-placed f (k ∷ leading (items_of R ks)) p (following (items_of R ks)) behind
        (subst (λ (is : List Item). FirstPiece R 0 is p behind) items (first_piece R newline-white 0 (k ∷ ks) m))

    -- the clusters of any characters
    pub clusters-columns : (cs : List ℕ) → Every (λ (l : List ℕ). any R.white l ≡ false → columns R (l ∷ []) ≤ 1) (clusters R cs)
    clusters-columns cs =
        every_weaken (λ (l : List ℕ). Clear R l → columns R (l ∷ []) ≤ 1) (λ (l : List ℕ). any R.white l ≡ false → columns R (l ∷ []) ≤ 1)
        (λ l f h. f (record { no_newline = no-white R 0x0A newline-white l h; no_white = h })) (clusters R cs) (clusters-one R law cs)
