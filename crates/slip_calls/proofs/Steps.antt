-- One step over a text: over white space, over a piece of a word, and at the text's end. Over any lawful repertoire in which \n is white space.
use Prim.Native.Nat.{ℕ, ◌+◌, ◌-◌, ◌≤◌}
use mathlib.Core.Path.{◌≡◌, refl, sym, ap, subst, ◌∙◌}
use mathlib.Core.Bool.{Bool, true, false}
use mathlib.Core.List.{List, [], ◌∷◌, ◌++◌}
use native.Mathlib.Omega.{arith}
use lib.Dec.{eqb, leb}
use lib.ListN.{length, take, drop, drop_of_length-le}
use borrow.Author.Tests.{leb-true}
use Rattle.lists.specs.Lists.{any, concat, part}
use Rattle.lists.proofs.Bools.{by_test}
use Rattle.lists.proofs.Concat.{concat-append}
use Rattle.lists.proofs.Every.{Every}
use Rattle.utf8.specs.Chars.{chars, chars_from, valid}
use Rattle.utf8.specs.Encode.{encode_all}
use Rattle.utf8.proofs.Encode.{encode-chars}
use Rattle.repertoire.specs.Repertoire.{Repertoire, Lawful}
use Rattle.cluster.specs.Clusters.{clusters, clusters_of, bytes}
use Rattle.cluster.specs.declared.Cluster.{Cluster}
use Rattle.cluster.proofs.Clusters.{clusters-concat}
use Rattle.cluster.proofs.Facts.{bytes-append}
use Rattle.cluster.proofs.Parts.{cut_chars}
use Rattle.slip_model.specs.declared.Filled.{Filled}
use Rattle.slip_model.specs.declared.Filled.TheVariants.{Fresh, Blank, UpTo}
use Rattle.slip_model.specs.Slip.{Word, columns, with, spaced}
use Rattle.slip_model.proofs.Page.{ascii_bytes}
use Rattle.slip_calls.specs.declared.Piece.{Piece}
use Rattle.slip_calls.specs.declared.Place.{Place}
use Rattle.slip_calls.specs.Places.{filled_to, place_for, white_place, closing_place, placed}
use Rattle.slip_calls.specs.Pieces.{piece_from, behind_piece, PieceAt}
use Rattle.slip_calls.specs.Remaining.{remaining}
use Rattle.slip_calls.specs.Steps.{Standing, StepAt}
use Rattle.slip_calls.proofs.Clusters.{ClusterAt}
use Rattle.slip_calls.proofs.Places.{space-most}
use Rattle.slip_calls.proofs.Pieces.{goes-on}
use Rattle.slip_calls.proofs.Remaining.{remaining-newline, remaining-gap, remaining-end, remaining_piece, clusters-columns}

-- ---- places: at most 60 spaces, and a line of at most 60 columns behind them
pub record Narrow (p : Place) : Type 0 where
  pub few : p.spaces ≤ 60
  pub narrow : filled_to p.filled ≤ 60

spaced-to : (f : Filled) → filled_to (spaced f) ≡ filled_to f
spaced-to Fresh = refl
spaced-to Blank = refl
spaced-to (UpTo c) = refl

pub white-narrow : (b : Bool) (f : Filled) → filled_to f ≤ 60 → Narrow (white_place b f)
white-narrow true f h = record { few = omega arith; narrow = omega arith }
white-narrow false f h = record { few = omega arith; narrow = omega (arith, spaced-to f, h) }

pub piece_narrow : (f : Filled) (n : ℕ) → n ≤ 60 → Narrow (place_for f n)
piece_narrow f n h =
    by_test _ (leb (with f n) 60) (λ t. rw t (record { few = omega (arith, space-most f); narrow = leb-true (with f n) 60 t }))
    (λ t. rw t (record { few = omega arith; narrow = h }))

pub closing-few : (f : Filled) → (closing_place f).spaces ≤ 60
closing-few Fresh = omega arith
closing-few Blank = omega arith
closing-few (UpTo c) = omega arith

-- ---- a piece and what stands behind it are the clusters
piece_parts : (R : Repertoire) (col : ℕ) (ks : List (List ℕ)) → piece_from R col ks ++ behind_piece R col ks ≡ ks
unfolding piece_from behind_piece
piece_parts R col [] = refl
piece_parts R col (k ∷ ks) =
    let n = columns R (k ∷ []) in
    by_test _ (any R.white k) (λ t. rw t refl)
    (λ t. by_test _ (leb (col + n) 60) (λ u. rw (t, u) (ap (λ (l : List (List ℕ)). k ∷ l) (piece_parts R (col + n) ks))) (λ u. rw (t, u) refl))

-- its bytes are the first ones of the text
piece_bytes : (R : Repertoire) (t : List ℕ) → valid t ≡ true →
    let p = piece_from R 0 (clusters_of R t) in
    take (bytes (concat p)) t ≡ encode_all (concat p)
piece_bytes R t v =
    let p = piece_from R 0 (clusters_of R t) in
    let b = behind_piece R 0 (clusters_of R t) in
    let e : chars t ≡ concat p ++ concat b =
    sym (clusters-concat R (chars t)) ∙ ap concat (sym (piece_parts R 0 (clusters_of R t))) ∙ concat-append p b in
    let z = cut_chars t (concat p) (concat b) v e in
    sym (encode-chars (take (bytes (concat p)) t) z.at-boundary) ∙ ap encode_all z.front

-- no bytes between a place and itself
no_part : (s : List ℕ) (i : ℕ) → part s i i ≡ []
no_part s i = let z : i - i ≡ 0 = omega arith in rw z

module _ (R : Repertoire) (law : Lawful R) (newline-white : R.white 0x0A ≡ true) (s : List ℕ) (at : ℕ) (f : Filled) (stands : Standing s at f) where
  abbrev there : ℕ → List (List ℕ)
  there i = clusters_of R (drop i s)

  module _ (k : List ℕ) (c : Cluster) (x : ClusterAt R s at k c) where
    -- ---- over white space: b says whether \n is among its bytes
    abbrev end : ℕ
    end = at + c.len

    has-newline : any (eqb 0x0A) (part s at end) ≡ any (eqb 0x0A) k
    has-newline = ap (any (eqb 0x0A)) x.encoded ∙ ascii_bytes 0x0A k (omega arith)

    white-printed : (b : Bool) → b ≡ any (eqb 0x0A) k → any R.white k ≡ true →
        remaining R f (k ∷ there end) ≡ placed (white_place b f) ++ remaining R (white_place b f).filled (there end)
    white-printed true e w = remaining-newline R law f k (there end) (sym e)
    white-printed false e w = remaining-gap R f k (there end) (sym e) w

    pub step_white : (p : Place) → c.white ≡ true → p ≡ white_place (any (eqb 0x0A) (part s at end)) f →
        StepAt R s at f (record { place = p; from = end; end = end })
    step_white p w e =
        let b = any (eqb 0x0A) (part s at end) in
        let n = white-narrow b f stands.narrow in
        subst (λ (q : Place). StepAt R s at f (record { place = q; from = end; end = end })) (sym e)
        (record {
          forward = omega (arith, x.some);
          ordered = omega arith;
          few = n.few;
          stands = record { within = x.within; whole = x.whole; narrow = n.narrow };
          printed =
              ap (remaining R f) x.clusters ∙ white-printed b has-newline (sym x.white ∙ w) ∙
              ap (λ (l : List ℕ). placed (white_place b f) ++ (l ++ remaining R (white_place b f).filled (there end))) (sym (no_part s end));
        })

    -- ---- over a piece of a word
    -- what remains from some clusters on that begin with one
    abbrev Piecewise : List (List ℕ) → Type 0
    Piecewise ks =
        remaining R f ks ≡ placed (place_for f (columns R (piece_from R 0 ks))) ++ (encode_all (concat (piece_from R 0 ks)) ++
        remaining R (place_for f (columns R (piece_from R 0 ks))).filled (behind_piece R 0 ks))

    pub step_piece : (r : Piece) (p : Place) → c.white ≡ false → PieceAt R s at r → p ≡ place_for f r.columns →
        StepAt R s at f (record { place = p; from = at; end = r.end })
    step_piece r p w z e =
        let ks = there at in
        let word = piece_from R 0 ks in
        let clear = sym x.white ∙ w in
        let few = subst (λ (l : List (List ℕ)). Every (λ (l : List ℕ). any R.white l ≡ false → columns R (l ∷ []) ≤ 1) l) x.clusters
        (clusters-columns R law newline-white (chars (drop at s))) in
        let first = ap (piece_from R 0) x.clusters ∙ (goes-on R 0 k (there end) clear (omega (arith, few.0 clear))).one in
        let some = ap (λ (q : Word). bytes (concat q)) first in
        let n = piece_narrow f r.columns z.narrow in
        let m : r.end - at ≡ bytes (concat word) = omega (arith, z.end) in
        let bytes_there : part s at r.end ≡ encode_all (concat word) =
        ap (λ (i : ℕ). take i (drop at s)) m ∙ piece_bytes R (drop at s) stands.whole in
        subst (λ (q : Place). StepAt R s at f (record { place = q; from = at; end = r.end })) (sym e)
        (record {
          forward =
              omega (arith, z.end, some, bytes-append k (concat (piece_from R (0 + columns R (k ∷ [])) (there end))), x.some, x.sized);
          ordered = omega (arith, z.end);
          few = n.few;
          stands = record { within = z.within; whole = z.whole; narrow = n.narrow };
          printed =
              subst Piecewise (sym x.clusters) (remaining_piece R law newline-white f k (there end) clear few) ∙
              ap (λ (i : ℕ). placed (place_for f i) ++ (encode_all (concat word) ++ remaining R (place_for f i).filled (behind_piece R 0 ks)))
              (sym z.measured) ∙
              ap (λ (l : List ℕ). placed (place_for f r.columns) ++ (l ++ remaining R (place_for f r.columns).filled (behind_piece R 0 ks)))
              (sym bytes_there) ∙
              ap (λ (l : List (List ℕ)). placed (place_for f r.columns) ++ (part s at r.end ++ remaining R (place_for f r.columns).filled l))
              (sym z.behind);
        })

  -- ---- at the text's end
  pub step_end : length s ≤ at → remaining R f (there at) ≡ placed (closing_place f)
  unfolding clusters chars_from
  step_end h = ap (λ (l : List ℕ). remaining R f (clusters_of R l)) (drop_of_length-le s {i = at} h) ∙ remaining-end R f
