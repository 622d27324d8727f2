-- The two passes over a text: the length counted so far, and the page written so far. Over the repertoire of document 01.
use Prim.Native.Nat.{ℕ, ◌+◌, ◌-◌, ◌≤◌}
use mathlib.Core.Path.{◌≡◌, refl, sym, ap, ◌∙◌}
use mathlib.Core.Bool.{true}
use mathlib.Core.List.{List, [], ◌++◌, append_assoc}
use native.Mathlib.Omega.{arith}
use lib.ListN.{length, drop, length-append, length-drop}
use lib.Seq.{sets, length-sets, length-take-le}
use Rattle.lists.specs.Lists.{part}
use Rattle.lists.proofs.Stores.{sets-append}
use Rattle.utf8.specs.Utf8.{within}
use Rattle.utf8.specs.Chars.{valid}
use Rattle.repertoire.specs.Repertoire.{catalogue, is_white}
use Rattle.repertoire.proofs.Catalogue.{catalogue_lawful}
use Rattle.cluster.specs.Clusters.{clusters_of}
use Rattle.slip_model.specs.declared.Filled.{Filled}
use Rattle.slip_model.specs.declared.Filled.TheVariants.{Fresh}
use Rattle.slip_model.specs.Slip.{slip}
use Rattle.slip_model.proofs.Bound.{catalogue_bound}
use Rattle.slip_calls.specs.declared.Step.{Step}
use Rattle.slip_calls.specs.Places.{closing_place, placed}
use Rattle.slip_calls.specs.Remaining.{remaining}
use Rattle.slip_calls.specs.Steps.{Standing, StepAt}
use Rattle.slip_calls.proofs.Remaining.{remaining-slip}
use Rattle.slip_calls.proofs.Steps.{step_end}

-- \n is white space
pub newline-white : is_white 0x0A ≡ true
unfolding is_white within
newline-white = refl

-- as many bytes as the places are apart
pub part_length : (s : List ℕ) (i j : ℕ) → i ≤ j → j ≤ length s → length (part s i j) ≡ j - i
part_length s i j h k = length-take-le (j - i) (drop i s) (simp length-drop (omega arith))

module _ (s : List ℕ) where
  -- what is still to be printed
  abbrev left : ℕ → Filled → List ℕ
  left at f = remaining catalogue f (clusters_of catalogue (drop at s))

  pub slip-most : length s ≤ 131072 → length (slip catalogue s) ≤ 7995392
  slip-most h = omega (arith, catalogue_bound s)

  start-stands : valid s ≡ true → Standing s 0 Fresh
  start-stands v = record { within = omega arith; whole = v; narrow = omega arith }

  -- ---- the first pass: what has been counted, and what is left
  pub record Counted (at : ℕ) (f : Filled) (len : ℕ) : Type 0 where
    pub stands : Standing s at f
    pub counted : len + length (left at f) ≡ length (slip catalogue s)

  pub count-start : valid s ≡ true → Counted 0 Fresh 0
  count-start v = record { stands = start-stands v; counted = omega (arith, ap length (remaining-slip catalogue catalogue_lawful s)) }

  module _ (at : ℕ) (f : Filled) (len : ℕ) (z : Counted at f len) where
    pub count_more : (r : Step) (n : ℕ) → StepAt catalogue s at f r → n ≡ length (placed r.place) →
        Counted r.end r.place.filled (len + (n + (r.end - r.from)))
    count_more r n x e =
        let rest = left r.end r.place.filled in
        let printed = part s r.from r.end in
        let l = ap length x.printed in
        record {
          stands = x.stands;
          counted =
              omega (
                arith,
                z.counted,
                l,
                e,
                length-append (placed r.place) (printed ++ rest),
                length-append printed rest,
                part_length s r.from r.end x.ordered x.stands.within,
              );
        }

    pub count-end : length s ≤ at → len + length (placed (closing_place f)) ≡ length (slip catalogue s)
    count-end h = omega (arith, z.counted, ap length (step_end catalogue catalogue_lawful newline-white s at f z.stands h))

  -- ---- the second pass: what has been written over the front of the page, and what is left
  module _ (page : List ℕ) where
    pub record Written (at : ℕ) (f : Filled) (out : ℕ) (now : List ℕ) : Type 0 where
      pub stands : Standing s at f
      pub front : List ℕ
      pub parts : front ++ left at f ≡ slip catalogue s
      pub sized : out ≡ length front
      pub stored : now ≡ sets page 0 front

    pub write_start : valid s ≡ true → Written 0 Fresh 0 page
    write_start v =
        record { stands = start-stands v; front = []; parts = remaining-slip catalogue catalogue_lawful s; sized = refl; stored = refl }

    module _ (at : ℕ) (f : Filled) (out : ℕ) (now : List ℕ) (z : Written at f out now) where
      pub same_length : length now ≡ length page
      same_length = ap length z.stored ∙ length-sets page 0 z.front

      -- no more than the slip
      pub out-most : length s ≤ 131072 → out ≤ 7995392
      out-most h = omega (arith, z.sized, ap length z.parts, length-append z.front (left at f), slip-most h)

      -- bytes behind what was written
      stored_more : (l : List ℕ) → sets now out l ≡ sets page 0 (z.front ++ l)
      stored_more l =
          let e : out ≡ 0 + length z.front = omega (arith, z.sized) in
          ap (λ (p : List ℕ). sets p out l) z.stored ∙ ap (λ (i : ℕ). sets (sets page 0 z.front) i l) e ∙ sets-append page 0 z.front l

      -- a step's bytes and what is left behind them
      module _ (r : Step) (x : StepAt catalogue s at f r) where
        abbrev place : List ℕ
        place = placed r.place

        abbrev word : List ℕ
        word = part s r.from r.end

        abbrev rest : List ℕ
        rest = left r.end r.place.filled

        -- there is room for them
        pub write_fits : length (slip catalogue s) ≤ length page → (out + length place + length word ≤ length now) × (length word ≡ r.end - r.from)
        write_fits h =
            let l = ap length z.parts in
            let m = ap length x.printed in
            let w = part_length s r.from r.end x.ordered x.stands.within in (
              omega (
                arith,
                h,
                l,
                m,
                z.sized,
                same_length,
                length-append z.front (left at f),
                length-append place (word ++ rest),
                length-append word rest,
              ),
              w,
            )

        pub write_more : (out' : ℕ) (p q : List ℕ) → out' ≡ out + length place → p ≡ sets now out place → q ≡ sets p out' word →
            Written r.end r.place.filled (out' + (r.end - r.from)) q
        write_more out' p q e a b =
            let w = part_length s r.from r.end x.ordered x.stands.within in
            record {
              stands = x.stands;
              front = z.front ++ (place ++ word);
              parts =
                  append_assoc z.front (place ++ word) rest ∙ ap (λ (l : List ℕ). z.front ++ l) (append_assoc place word rest ∙ sym x.printed) ∙
                  z.parts;
              sized = omega (arith, e, z.sized, w, length-append z.front (place ++ word), length-append place word);
              stored =
                  b ∙ ap (λ (l : List ℕ). sets l out' word) a ∙ ap (λ (i : ℕ). sets (sets now out place) i word) e ∙
                  sets-append now out place word ∙ stored_more (place ++ word);
            }

      module _ (h : length s ≤ at) where
        end_parts : z.front ++ placed (closing_place f) ≡ slip catalogue s
        end_parts =
            ap (λ (l : List ℕ). z.front ++ l) (sym (step_end catalogue catalogue_lawful newline-white s at f z.stands h)) ∙ z.parts

        pub end_fits : length (slip catalogue s) ≤ length page → out + length (placed (closing_place f)) ≤ length now
        end_fits k =
            omega (arith, k, z.sized, same_length, ap length end_parts, length-append z.front (placed (closing_place f)))

        pub write_end : (p : List ℕ) → p ≡ sets now out (placed (closing_place f)) → p ≡ sets page 0 (slip catalogue s)
        write_end p e = e ∙ stored_more (placed (closing_place f)) ∙ ap (sets page 0) end_parts
