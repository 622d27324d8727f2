-- What order 2 asks to be proved, of the slip of every text. Over any lawful repertoire.
use Prim.Native.Nat.{ℕ, ◌≤◌}
use mathlib.Core.Path.{◌≡◌, refl, sym, ap, subst, ◌∙◌}
use mathlib.Core.Bool.{true, false}
use mathlib.Core.List.{List, [], ◌∷◌, ◌++◌, map}
use lib.Dec.{eqb}
use Rattle.lists.specs.Lists.{all, any, concat}
use Rattle.lists.proofs.Alls.{all_append, all_both, all_parts, any_none, any_parts}
use Rattle.lists.proofs.Concat.{concat-append}
use Rattle.lists.proofs.Every.{Every, every_weaken, every_append, every_parts, every_both}
use Rattle.utf8.specs.Chars.{chars}
use Rattle.utf8.specs.Encode.{scalar, encode_all}
use Rattle.utf8.proofs.Encode.{scalar_low, chars-scalar}
use Rattle.repertoire.specs.Repertoire.{Repertoire, Lawful}
use Rattle.cluster.specs.Clusters.{clusters_of}
use Rattle.cluster.proofs.Clusters.{clusters-concat}
use native.Mathlib.Omega.{arith}
use Rattle.slip_model.specs.Slip.{Word, Row, Item, word, gap, newline, grown, items_of, pieces}
use Rattle.slip_model.specs.Slip.{Line, Fresh, lines_from, text_items, lines_of, spelled, row_columns, slip}
use Rattle.slip_model.specs.Promised.{words_in, CutAt60, Rightly, EndsLast, AllNext, read_back, cut_items, inked, Promised}
use Rattle.slip_model.proofs.Words.{Plain, no-white, items_by, words_plain}
use Rattle.slip_model.proofs.Cut.{words_cut}
use Rattle.slip_model.proofs.Complete.{pieces_whole, rows_whole, words_whole, read-back}
use Rattle.slip_model.proofs.Fits.{lines_fit}
use Rattle.slip_model.proofs.Ends.{ends-rightly, ends-last}
use Rattle.slip_model.proofs.Next.{ends_next}
use Rattle.slip_model.proofs.Page.{lines_wide}
use Rattle.slip_model.proofs.Inked.{Bare, inked_lines}

-- ---- the words' characters
module _ (R : Repertoire) where
  -- words of characters
  abbrev Spelt : List Item → Type 0
  Spelt is = Every (λ (w : Word). all scalar (concat w) ≡ true) (words_in is)

  grown_spelt : (k : List ℕ) (is : List Item) → all scalar k ≡ true → Spelt is → Spelt (grown k is)
  grown_spelt k [] h p = (all_both scalar k [] h refl, tt)
  grown_spelt k (word w ∷ is) h p = (all_both scalar k (concat w) h p.0, p.1)
  grown_spelt k (gap ∷ is) h p = (all_both scalar k [] h refl, p)
  grown_spelt k (newline ∷ is) h p = (all_both scalar k [] h refl, p)

  items_spelt : (ks : List (List ℕ)) → all scalar (concat ks) ≡ true → Spelt (items_of R ks)
  unfolding items_of
  items_spelt [] h = tt
  items_spelt (k ∷ ks) h =
      let p = all_parts scalar k (concat ks) h in
      let behind = items_spelt ks p.1 in
      items_by R Spelt k ks behind behind (λ c. grown_spelt k (items_of R ks) p.0 behind)

  module _ (law : Lawful R) where
    -- the pieces of a word without white space, of characters
    bare_pieces : (ps : List Word) → all scalar (concat (concat ps)) ≡ true → any R.white (concat (concat ps)) ≡ false
        → any (eqb 0x0A) (concat (concat ps)) ≡ false → Every Bare ps
    bare_pieces [] a w n = tt
    bare_pieces (p ∷ ps) a w n =
        let e : concat (concat (p ∷ ps)) ≡ concat p ++ concat (concat ps) = concat-append p (concat ps) in
        let scalars = all_parts scalar (concat p) (concat (concat ps)) (ap (all scalar) (sym e) ∙ a) in
        let whites = any_parts R.white (concat p) (concat (concat ps)) (ap (any R.white) (sym e) ∙ w) in
        let newlines = any_parts (eqb 0x0A) (concat p) (concat (concat ps)) (ap (any (eqb 0x0A)) (sym e) ∙ n) in (
          record { scalars = scalars.0; no_space = no-white R 0x20 law.space_white (concat p) whites.0; no_newline = newlines.0 },
          bare_pieces ps scalars.1 whites.1 newlines.1,
        )

    -- the pieces of all words
    bare_words : (ws : List Word) → Every (Plain R) ws → Every (λ (w : Word). all scalar (concat w) ≡ true) ws → Every Bare (concat (map (pieces R 0) ws))
    bare_words [] p a = tt
    bare_words (w ∷ ws) p a =
        let e : concat (concat (pieces R 0 w)) ≡ concat w = ap concat (pieces_whole R 0 w) in
        every_append Bare (pieces R 0 w) (concat (map (pieces R 0) ws))
        (bare_pieces (pieces R 0 w) (ap (all scalar) e ∙ a.0) (ap (any R.white) e ∙ p.0.no_white) (ap (any (eqb 0x0A)) e ∙ p.0.no_newline))
        (bare_words ws p.1 a.1)

-- ---- rows of such pieces
bare_rows : (ls : List Line) → Every Bare (concat (map (λ (l : Line). l.row) ls)) → Every (λ (l : Line). Every Bare l.row) ls
bare_rows [] h = tt
bare_rows (l ∷ ls) h =
    let p = every_parts Bare l.row (concat (map (λ (m : Line). m.row) ls)) h in
    (p.0, bare_rows ls p.1)

row-scalars : (r : Row) → Every Bare r → all scalar (spelled r) ≡ true
row-scalars [] h = refl
row-scalars (p ∷ []) h = h.0.scalars
row-scalars (p ∷ (q ∷ r)) h =
    all_append scalar (concat p) (0x20 ∷ spelled (q ∷ r)) ∙ rw (h.0.scalars, scalar_low 0x20 (omega arith)) (row-scalars (q ∷ r) h.1)

row-newlines : (r : Row) → Every Bare r → any (eqb 0x0A) (spelled r) ≡ false
row-newlines [] h = refl
row-newlines (p ∷ []) h = h.0.no_newline
row-newlines (p ∷ (q ∷ r)) h = any_none (eqb 0x0A) (concat p) (0x20 ∷ spelled (q ∷ r)) h.0.no_newline (row-newlines (q ∷ r) h.1)

-- ---- the slip of every text
module _ (R : Repertoire) (law : Lawful R) (s : List ℕ) where
  cut : Every (λ (w : Word). CutAt60 R (pieces R 0 w)) (words_in (text_items R s))
  cut = words_cut R law (chars s)

  bare : Every (λ (l : Line). Every Bare l.row) (lines_of R s)
  unfolding lines_of
  bare =
      let items = text_items R s in
      let spelt = items_spelt R (clusters_of R s) (ap (all scalar) (clusters-concat R (chars s)) ∙ chars-scalar s) in
      bare_rows (lines_from R Fresh items)
      (subst (Every Bare) (sym (rows_whole R Fresh items)) (bare_words R law (words_in items) (words_plain R (clusters_of R s)) spelt))

  fits : Every (λ (l : Line). row_columns R l.row ≤ 60) (lines_of R s)
  unfolding lines_of
  fits = lines_fit R law (text_items R s) cut

  rightly : Every (λ (l : Line). Rightly R l.row l.ends) (lines_of R s)
  unfolding lines_of
  rightly = ends-rightly R law (text_items R s) cut

  bytes : inked (slip R s) ≡ encode_all (concat (concat (words_in (text_items R s))))
  unfolding slip lines_of
  bytes =
      let items = text_items R s in
      inked_lines R (lines_from R Fresh items) bare ∙ ap (λ (ps : List Word). encode_all (concat (concat ps))) (rows_whole R Fresh items) ∙
      ap (λ (w : Word). encode_all (concat w)) (words_whole R items)

  newlines : read_back (lines_of R s) ≡ cut_items R (text_items R s)
  unfolding lines_of
  newlines = read-back R Fresh (text_items R s)

  next : AllNext R (text_items R s) (lines_of R s)
  unfolding lines_of
  next = ends_next R Fresh (text_items R s)

  last : EndsLast (lines_of R s)
  unfolding lines_of
  last = ends-last R Fresh (text_items R s)

  -- every line's width, where it ends, and the words whole
  pub slip_promises : Promised R s
  slip_promises =
      record {
        wide =
            lines_wide R law (lines_of R s)
            (every_weaken _ _ (λ l h. (row-scalars l.row h.0, row-newlines l.row h.0, h.1)) (lines_of R s)
            (every_both (λ (l : Line). Every Bare l.row) (λ (l : Line). row_columns R l.row ≤ 60) (lines_of R s) bare fits));
        rightly = rightly;
        next = next;
        ends_last = last;
        newlines = newlines;
        cut = cut;
        bytes = bytes;
      }
