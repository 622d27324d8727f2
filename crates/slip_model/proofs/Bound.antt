-- The length of a slip: at most 61 bytes for each byte of the text. Over any lawful repertoire whose marks have two bytes at least: a mark of one byte
-- would be a line of 62.
-- The count: 61 for each \n and white space, and for each piece its bytes, its padding and 1. A line's padding and its \n are within the count of its first
-- piece, of the \n that ends it or of the white space that begins it; a space between pieces is within the count of the piece behind it.
use Prim.Native.Nat.{ℕ, ◌+◌, ◌-◌, ◌*◌, ◌≤◌, ◌<◌}
use mathlib.Core.Path.{◌≡◌, refl, ap, ◌∙◌}
use mathlib.Core.Bool.{Bool, true, false, cond}
use mathlib.Core.List.{List, [], ◌∷◌, ◌++◌, map, append-nil}
use native.Mathlib.Omega.{arith}
use lib.Dec.{leb, eqb}
use lib.ListN.{length, drop, length-append, length-drop}
use borrow.Author.Tests.{leb-true, leb-false}
use Rattle.lists.specs.Lists.{any, concat, head_or}
use Rattle.lists.proofs.Bools.{never, by_test, by_less}
use Rattle.lists.proofs.Every.{Every}
use Rattle.utf8.specs.Utf8.{char, bad, first}
use Rattle.utf8.specs.Chars.{chars}
use Rattle.utf8.specs.Encode.{size, encode_all}
use Rattle.utf8.proofs.Chars.{chars_step, chars-bad, size_pos, first-within}
use Rattle.utf8.proofs.Append.{by_chars}
use Rattle.utf8.proofs.Encode.{size_1}
use Rattle.utf8.proofs.Forms.{within-below}
use Rattle.repertoire.specs.Repertoire.{Repertoire, Lawful, catalogue, is_mark}
use Rattle.repertoire.proofs.Widths.{width-most}
use Rattle.repertoire.proofs.Catalogue.{catalogue_lawful}
use Rattle.cluster.specs.Clusters.{joined, attach, clusters, clusters_of, bytes}
use Rattle.cluster.proofs.Clusters.{clusters-concat}
use Rattle.cluster.proofs.Facts.{bytes-append}
use Rattle.cluster.proofs.Parts.{bytes-length}
use Rattle.layout.specs.Width.{advance, column_after, columns_after}
use Rattle.slip_model.specs.Slip.{
  Word,
  Row,
  Item,
  word,
  gap,
  newline,
  grown,
  items_of,
  columns,
  onto,
  pieces,
  Ends,
  at_newline,
  before,
  Line,
  empty_line,
  put,
  Filled,
  Fresh,
  Blank,
  UpTo,
  with,
  spaced,
  closing,
  laid,
  lines_from,
  text_items,
  lines_of,
  spaces,
  spelled,
  row_columns,
  padded,
  printed,
  slip,
}
use Rattle.slip_model.specs.Promised.{words_in}
use Rattle.slip_model.proofs.Page.{spaces-length}
use Rattle.slip_model.proofs.Columns.{column_add, word-columns, piece_more, row_one, row_more}

-- ---- bytes of characters
-- where no character stands there are none
no_bytes : (t : List ℕ) → first t ≡ bad → bytes (chars t) ≤ length t
no_bytes t e = omega (arith, ap bytes (chars-bad t e))

-- a character's bytes are in front of those of the rest
more_bytes : (t : List ℕ) (c n : ℕ) → first t ≡ char c n → bytes (chars (drop n t)) ≤ length (drop n t) → bytes (chars t) ≤ length t
more_bytes t c n e h =
    let w = first-within t c n e in
    omega (arith, ap bytes (chars_step t c n e), w.sized, w.fits, length-drop n t)

-- the characters of some bytes have no more bytes than these
chars-bytes : (s : List ℕ) → bytes (chars s) ≤ length s
chars-bytes = by_chars (λ (s : List ℕ). bytes (chars s) ≤ length s) no_bytes more_bytes

-- a cluster with characters
abbrev Full : List ℕ → Type 0
Full k = 0 < length k

-- it has a byte at least
full_bytes : (k : List ℕ) → Full k → 0 < bytes k
full_bytes [] h = absurd (omega arith)
full_bytes (c ∷ cs) h = omega (arith, size_pos c)

module _ (R : Repertoire) where
  -- ---- the count for a piece, for pieces on one line
  abbrev piece_cost : Word → ℕ
  piece_cost p = bytes (concat p) + (60 - columns R p) + 1

  abbrev row_cost : Row → ℕ
  row_cost [] = 0
  row_cost (p ∷ r) = piece_cost p + row_cost r

  -- for a line
  abbrev line_cost : Row → ℕ
  line_cost [] = 61
  line_cost (p ∷ r) = row_cost (p ∷ r)

  -- for lines
  abbrev lines_cost : List Line → ℕ
  lines_cost [] = 0
  lines_cost (l ∷ ls) = line_cost l.row + lines_cost ls

  -- for lines the first of which is begun: its pieces alone are counted
  abbrev begun_cost : List Line → ℕ
  begun_cost [] = 0
  begun_cost (l ∷ ls) = row_cost l.row + lines_cost ls

  -- for lines that go on from how far a line is filled
  abbrev cost_from : Filled → List Line → ℕ
  cost_from Fresh ls = lines_cost ls
  cost_from Blank ls = begun_cost ls
  cost_from (UpTo c) ls = begun_cost ls

  -- ---- how the count grows
  -- by a piece at the front of the first line
  put_cost : (f : Filled) (p : Word) (ls : List Line) → cost_from f (put p ls) ≡ piece_cost p + begun_cost ls
  put_cost Fresh p [] = omega arith
  put_cost Fresh p (l ∷ ls) = omega arith
  put_cost Blank p [] = omega arith
  put_cost Blank p (l ∷ ls) = omega arith
  put_cost (UpTo c) p [] = omega arith
  put_cost (UpTo c) p (l ∷ ls) = omega arith

  -- by nothing at the text's end
  closing_cost : (f : Filled) → cost_from f (closing f) ≤ 0
  closing_cost Fresh = omega arith
  closing_cost Blank = omega arith
  closing_cost (UpTo c) = omega arith

  -- a line has at most 61 over its pieces
  line-most : (r : Row) → line_cost r ≤ 61 + row_cost r
  line-most [] = omega arith
  line-most (p ∷ r) = omega arith

  -- and so lines where the first is not begun
  begun-most : (ls : List Line) → lines_cost ls ≤ 61 + begun_cost ls
  begun-most [] = omega arith
  begun-most (l ∷ ls) = omega (arith, line-most l.row)

  -- by white space, which may begin a line
  spaced_cost : (f : Filled) (ls : List Line) → cost_from f ls ≤ 61 + cost_from (spaced f) ls
  spaced_cost Fresh ls = begun-most ls
  spaced_cost Blank ls = omega arith
  spaced_cost (UpTo c) ls = omega arith

  -- by \n, which ends one
  newline_cost : (f : Filled) (ls : List Line) → cost_from f (empty_line at_newline ∷ ls) ≤ 61 + lines_cost ls
  newline_cost Fresh ls = omega arith
  newline_cost Blank ls = omega arith
  newline_cost (UpTo c) ls = omega arith

  -- by a cluster on the first piece: its bytes
  onto_cost : (k : List ℕ) (ps : List Word) (m : ℕ) → row_cost ps ≤ 61 + m → row_cost (onto k ps) ≤ 61 + bytes k + m
  onto_cost k [] m h = omega (arith, ap bytes (append-nil k))
  onto_cost k (p ∷ ps) m h = omega (arith, bytes-append k (concat p), piece_more R k p)

  -- a cluster that pays for a line: it has a column, or two bytes
  abbrev Pays : List ℕ → Type 0
  Pays k = 61 ≤ 60 * bytes k + columns R (k ∷ [])

  -- by such a cluster on a piece that it does not fill: the 61 of the piece are within the cluster's count
  onto_paid : (k : List ℕ) (ps : List Word) (m : ℕ) → Pays k → columns R (k ∷ []) + columns R (head_or [] ps) ≤ 60 → row_cost ps ≤ 61 + m →
      row_cost (onto k ps) ≤ 61 * bytes k + m
  onto_paid k [] m s f h = omega (arith, ap bytes (append-nil k), s, f)
  onto_paid k (p ∷ ps) m s f h = omega (arith, bytes-append k (concat p), piece_more R k p, s, f)

-- for items
abbrev items_cost : List Item → ℕ
items_cost [] = 0
items_cost (word w ∷ is) = 61 * bytes (concat w) + items_cost is
items_cost (gap ∷ is) = 61 + items_cost is
items_cost (newline ∷ is) = 61 + items_cost is

-- by a cluster without white space
grown_cost : (k : List ℕ) (is : List Item) → items_cost (grown k is) ≡ 61 * bytes k + items_cost is
grown_cost k [] = omega (arith, ap bytes (append-nil k))
grown_cost k (word w ∷ is) = omega (arith, bytes-append k (concat w))
grown_cost k (gap ∷ is) = omega (arith, ap bytes (append-nil k))
grown_cost k (newline ∷ is) = omega (arith, ap bytes (append-nil k))

-- by any cluster
item_cost : (b t : Bool) (k : List ℕ) (is : List Item) → 0 < bytes k →
    items_cost (cond b (newline ∷ is) (cond t (gap ∷ is) (grown k is))) ≤ 61 * bytes k + items_cost is
item_cost true t k is h = omega arith
item_cost false true k is h = omega arith
item_cost false false k is h = omega (arith, grown_cost k is)

-- ---- words have clusters, and these have characters
abbrev Some : Word → Type 0
Some w = (0 < length w) × Every Full w

-- a word that is begun or grown
grown_some : (k : List ℕ) (is : List Item) → Full k → Every Some (words_in is) → Every Some (words_in (grown k is))
grown_some k [] h a = ((omega arith, (h, tt)), tt)
grown_some k (word w ∷ is) h a = ((omega arith, (h, a.0.1)), a.1)
grown_some k (gap ∷ is) h a = ((omega arith, (h, tt)), a)
grown_some k (newline ∷ is) h a = ((omega arith, (h, tt)), a)

-- the words behind any cluster
item_some : (b t : Bool) (k : List ℕ) (is : List Item) → Full k → Every Some (words_in is) →
    Every Some (words_in (cond b (newline ∷ is) (cond t (gap ∷ is) (grown k is))))
item_some true t k is h a = a
item_some false true k is h a = a
item_some false false k is h a = grown_some k is h a

-- a character in front of clusters
attach_full : (b : Bool) (c : ℕ) (ks : List (List ℕ)) → Every Full ks → Every Full (attach b c ks)
attach_full true c [] h = (omega arith, tt)
attach_full true c (k ∷ ks) h = (omega arith, h.1)
attach_full false c ks h = (omega arith, h)

module _ (R : Repertoire) where
  -- clusters of characters have characters
  clusters_full : (cs : List ℕ) → Every Full (clusters R cs)
  unfolding clusters
  clusters_full [] = tt
  clusters_full (c ∷ []) = (omega arith, tt)
  clusters_full (c ∷ (d ∷ cs)) = attach_full (joined R c d) c (clusters R (d ∷ cs)) (clusters_full (d ∷ cs))

  -- the words of clusters
  items_some : (ks : List (List ℕ)) → Every Full ks → Every Some (words_in (items_of R ks))
  unfolding items_of
  items_some [] h = tt
  items_some (k ∷ ks) h = item_some (any (eqb 0x0A) k) (any R.white k) k (items_of R ks) h.0 (items_some ks h.1)

  -- the count of a text's items is at most 61 for each of its bytes
  items-cost : (ks : List (List ℕ)) → Every Full ks → items_cost (items_of R ks) ≤ 61 * bytes (concat ks)
  unfolding items_of
  items-cost [] h = omega arith
  items-cost (k ∷ ks) h =
      omega (
        arith,
        bytes-append k (concat ks),
        items-cost ks h.1,
        item_cost (any (eqb 0x0A) k) (any R.white k) k (items_of R ks) (full_bytes k h.0),
      )

  -- ---- a word's first piece has at most 60 columns
  -- a cluster stands at the front of the first piece
  onto_head : (k : List ℕ) (ps : List Word) → head_or [] (onto k ps) ≡ k ∷ head_or [] ps
  onto_head k [] = refl
  onto_head k (p ∷ ps) = refl

  -- it stands there only where it fits
  first-cut : (col : ℕ) (k : List ℕ) (ps qs : List Word) (b : Bool) → leb (col + columns R (k ∷ [])) 60 ≡ b → col ≤ 60 →
      (col + columns R (k ∷ []) ≤ 60 → col + columns R (k ∷ []) + columns R (head_or [] ps) ≤ 60) →
      col + columns R (head_or [] (cond b (onto k ps) ([] ∷ onto k qs))) ≤ 60
  unfolding columns_after
  first-cut col k ps qs true t h more =
      omega (arith, ap (columns R) (onto_head k ps), piece_more R k (head_or [] ps), more (leb-true (col + columns R (k ∷ [])) 60 t))
  first-cut col k ps qs false t h more = omega arith

  -- the first piece goes on from a column to at most 60
  first_piece : (col : ℕ) (w : Word) → col ≤ 60 → col + columns R (head_or [] (pieces R col w)) ≤ 60
  unfolding pieces columns_after
  first_piece col [] h = omega arith
  first_piece col (k ∷ ks) h =
      let n = columns R (k ∷ []) in
      first-cut col k (pieces R (col + n) ks) (pieces R n ks) (leb (col + n) 60) refl h (first_piece (col + n) ks)

  -- ---- pieces laid into lines
  -- on a line without anything the first piece fits
  abbrev Placed : Filled → List Word → Type 0
  Placed Fresh ps = columns R (head_or [] ps) ≤ 60
  Placed Blank ps = Unit {0}
  Placed (UpTo c) ps = Unit {0}

  -- so do the pieces of a word
  placed-word : (f : Filled) (w : Word) → Placed f (pieces R 0 w)
  placed-word Fresh w = omega (arith, first_piece 0 w (omega arith))
  placed-word Blank w = tt
  placed-word (UpTo c) w = tt

  -- a piece in the line begun, or in the next
  step_cost : (f : Filled) (p : Word) (ps : List Word) (e : Ends) (ls ms : List Line) (m : ℕ) (b : Bool) → leb (with f (columns R p)) 60 ≡ b →
      Placed f (p ∷ ps) → begun_cost R ls ≤ m → begun_cost R ms ≤ m → cost_from R f (cond b (put p ls) (empty_line e ∷ put p ms)) ≤ piece_cost R p + m
  step_cost f p ps e ls ms m true t s h k = omega (arith, put_cost R f p ls)
  step_cost Fresh p ps e ls ms m false t s h k = absurd (omega (arith, leb-false (columns R p) 60 t))
  step_cost Blank p ps e ls ms m false t s h k = omega (arith, put_cost R Fresh p ms)
  step_cost (UpTo c) p ps e ls ms m false t s h k = omega (arith, put_cost R Fresh p ms)

  -- some pieces
  laid_cost : (go : Filled → List Line) (n : ℕ) → ((g : Filled) → cost_from R g (go g) ≤ n) → (f : Filled) (ps : List Word) → Placed f ps →
      cost_from R f (laid R f ps go) ≤ row_cost R ps + n
  unfolding laid
  laid_cost go n h f [] s = omega (arith, h f)
  laid_cost go n h f (p ∷ ps) s =
      let w = with f (columns R p) in
      let ls = laid R (UpTo w) ps go in
      let ms = laid R (UpTo (columns R p)) ps go in
      omega (
        arith,
        step_cost f p ps (before (concat (p ∷ ps))) ls ms (row_cost R ps + n) (leb w 60) refl s (laid_cost go n h (UpTo w) ps tt)
            (laid_cost go n h (UpTo (columns R p)) ps tt),
      )

  -- ---- a printed line is no longer than its count, in a lawful repertoire
  module _ (law : Lawful R) where
    -- a row, its padding and \n: each space between pieces is within the count of the piece behind it
    row-length : (p : Word) (r : Row) → bytes (spelled (p ∷ r)) + (60 - row_columns R (p ∷ r)) + 1 ≤ row_cost R (p ∷ r)
    unfolding size
    row-length p [] = omega (arith, row_one R law p)
    row-length p (q ∷ r) = omega (arith, bytes-append (concat p) (0x20 ∷ spelled (q ∷ r)), row_more R law p q r, row-length q r)

    line-length : (r : Row) → bytes (spelled r) + (60 - row_columns R r) + 1 ≤ line_cost R r
    line-length [] = omega arith
    line-length (p ∷ r) = row-length p r

    -- a printed line
    printed-length : (l : Line) → length (printed R l) ≤ line_cost R l.row
    unfolding padded
    printed-length l =
        let cs = spelled l.row in
        let n = 60 - row_columns R l.row in
        omega (
          arith,
          length-append (encode_all cs ++ spaces n) (0x0A ∷ []),
          length-append (encode_all cs) (spaces n),
          bytes-length cs,
          spaces-length n,
          line-length l.row,
        )

    -- all of them
    lines_length : (ls : List Line) → length (concat (map (printed R) ls)) ≤ lines_cost R ls
    lines_length [] = omega arith
    lines_length (l ∷ ls) = omega (arith, length-append (printed R l) (concat (map (printed R) ls)), printed-length l, lines_length ls)

    -- ---- the count of a word's pieces, where marks have two bytes
    -- characters have as many bytes as columns, or more
    columns-bytes : (cs : List ℕ) → column_after R 0 cs ≤ bytes cs
    unfolding column_after advance
    columns-bytes [] = omega arith
    columns-bytes (c ∷ cs) = omega (arith, column_add R (0 + R.width c) cs, width-most R law c, size_pos c, columns-bytes cs)

    -- and so a cluster
    cluster_bytes : (k : List ℕ) → columns R (k ∷ []) ≤ bytes k
    cluster_bytes k = omega (arith, word-columns R (k ∷ []), ap (column_after R 0) (append-nil k), columns-bytes k)

    module _ (marks : (c : ℕ) → R.mark c ≡ true → 2 ≤ size c) where
      -- a character takes a column or has two bytes
      char_pays : (c : ℕ) → 61 ≤ 60 * size c + R.width c
      char_pays c =
          by_test _ (R.mark c) (λ t. omega (arith, marks c t))
          (λ t. omega (arith, size_pos c, law.widths c ∙ ap (λ (b : Bool). cond b 0 1) t))

      -- and so a cluster
      cluster_pays : (k : List ℕ) → Full k → Pays R k
      unfolding columns_after column_after advance
      cluster_pays [] h = absurd (omega arith)
      cluster_pays (c ∷ cs) h = omega (arith, column_add R (0 + R.width c) cs, char_pays c)

      -- by a cluster on the piece begun, or on another
      cut_cost : (b : Bool) (k : List ℕ) (ps qs : List Word) (m : ℕ) → Full k →
          (columns R (k ∷ []) ≤ 60 → columns R (k ∷ []) + columns R (head_or [] qs) ≤ 60) →
          row_cost R ps ≤ 61 + m → row_cost R qs ≤ 61 + m → row_cost R (cond b (onto k ps) ([] ∷ onto k qs)) ≤ 61 + 61 * bytes k + m
      unfolding columns_after
      cut_cost true k ps qs m s f h j = omega (arith, onto_cost R k ps m h)
      cut_cost false k ps qs m s f h j =
          by_less _ 60 (columns R (k ∷ [])) (λ t. omega (arith, t, onto_cost R k qs m j, cluster_bytes k))
          (λ t. omega (arith, onto_paid R k qs m (cluster_pays k s) (f t) j))

      -- of what is left of a word, where its first piece is begun
      pieces_cost : (col : ℕ) (w : Word) → Every Full w → row_cost R (pieces R col w) ≤ 61 + 61 * bytes (concat w)
      unfolding pieces columns_after
      pieces_cost col [] h = omega arith
      pieces_cost col (k ∷ ks) h =
          let n = columns R (k ∷ []) in
          omega (
            arith,
            bytes-append k (concat ks),
            cut_cost (leb (col + n) 60) k (pieces R (col + n) ks) (pieces R n ks) (61 * bytes (concat ks)) h.0 (first_piece n ks)
                (pieces_cost (col + n) ks h.1) (pieces_cost n ks h.1),
          )

      -- a word's first cluster has the bytes for the first piece, and for two where it has over 60 columns
      start_cost : (b : Bool) (k : List ℕ) (ps qs : List Word) (m : ℕ) → leb (0 + columns R (k ∷ [])) 60 ≡ b → Full k →
          (0 + columns R (k ∷ []) ≤ 60 → 0 + columns R (k ∷ []) + columns R (head_or [] ps) ≤ 60) →
          row_cost R ps ≤ 61 + m → row_cost R qs ≤ 61 + m → row_cost R (cond b (onto k ps) ([] ∷ onto k qs)) ≤ 61 * bytes k + m
      unfolding columns_after
      start_cost true k ps qs m t s f h j =
          onto_paid R k ps m (cluster_pays k s) (omega (arith, f (leb-true (0 + columns R (k ∷ [])) 60 t))) h
      start_cost false k ps qs m t s f h j = omega (arith, onto_cost R k qs m j, cluster_bytes k, leb-false (0 + columns R (k ∷ [])) 60 t)

      -- of a word
      word_cost : (w : Word) → Some w → row_cost R (pieces R 0 w) ≤ 61 * bytes (concat w)
      unfolding pieces
      word_cost [] h = absurd (omega arith)
      word_cost (k ∷ ks) h =
          let n = columns R (k ∷ []) in
          omega (
            arith,
            bytes-append k (concat ks),
            start_cost (leb (0 + n) 60) k (pieces R (0 + n) ks) (pieces R n ks) (61 * bytes (concat ks)) refl h.1.0 (first_piece (0 + n) ks)
                (pieces_cost (0 + n) ks h.1.1) (pieces_cost n ks h.1.1),
          )

      -- ---- the count of lines is at most that of the items
      lines-cost : (f : Filled) (is : List Item) → Every Some (words_in is) → cost_from R f (lines_from R f is) ≤ items_cost is
      unfolding lines_from
      lines-cost f [] h = closing_cost R f
      lines-cost f (word w ∷ is) h =
          omega (
            arith,
            word_cost w h.0,
            laid_cost (λ (g : Filled). lines_from R g is) (items_cost is) (λ (g : Filled). lines-cost g is h.1) f (pieces R 0 w) (placed-word f w),
          )
      lines-cost f (gap ∷ is) h = omega (arith, spaced_cost R f (lines_from R (spaced f) is), lines-cost (spaced f) is h)
      lines-cost f (newline ∷ is) h = omega (arith, newline_cost R f (lines_from R Fresh is), lines-cost Fresh is h)

-- a slip has at most 61 bytes for each byte of its text
pub slip_bound : (R : Repertoire) → Lawful R → ((c : ℕ) → R.mark c ≡ true → 2 ≤ size c) → (s : List ℕ) → length (slip R s) ≤ 61 * length s
unfolding slip lines_of
slip_bound R law marks s =
    let ks = clusters_of R s in
    let full = clusters_full R (chars s) in
    omega (
      arith,
      lines_length R law (lines_from R Fresh (text_items R s)),
      lines-cost R law marks Fresh (text_items R s) (items_some R ks full),
      items-cost R ks full,
      ap bytes (clusters-concat R (chars s)),
      chars-bytes s,
    )

-- document 01's marks have two bytes
mark-sizes : (c : ℕ) → is_mark c ≡ true → 2 ≤ size c
unfolding is_mark
mark-sizes c t =
    let low : c ≤ 0x7F → ⊥ = λ q. never ⊥ (is_mark c) t (within-below 0x300 0x333 c (omega (arith, q))) in
    by_less _ (size c) 2 (λ h. absurd (low (size_1 c (size c) refl (omega (arith, size_pos c, h))))) (λ h. h)

-- of document 01's texts
pub catalogue_bound : (s : List ℕ) → length (slip catalogue s) ≤ 61 * length s
catalogue_bound = slip_bound catalogue catalogue_lawful mark-sizes
