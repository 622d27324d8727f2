-- Two neighbouring clusters exchanged: what the two changes come to. Assumes nothing.
use Prim.Native.Nat.{ℕ, ◌+◌, ◌-◌, ◌≤◌}
use native.Mathlib.Omega.{arith}
use mathlib.Core.Path.{◌≡◌, sym, ap, ap₂, subst, ◌∙◌}
use mathlib.Core.List.{List, [], ◌∷◌}
use lib.ListN.{length, take}
use Rattle.lists.specs.Lists.{part}
use Rattle.utf8.specs.Chars.{In}
use Rattle.repertoire.specs.Repertoire.{catalogue}
use Rattle.repertoire.proofs.Text.{text-valid}
use Rattle.formats.specs.declared.Format.{Format}
use Rattle.edit.specs.declared.EditAnswer.{EditAnswer}
use Rattle.edit.specs.Plan.{PlannedChange, cutting, pasted, text_after, AllSuit, edited}
use Rattle.edit.specs.Calls.{Lent, text_of, sizes_of, state_of, says, Edited, Ready}
use Rattle.edit.proofs.Parts.{part_length}
use Rattle.edit.proofs.Cursor.{cursor-kept, cursor-moved, text_there, used_there}
use Rattle.edit.proofs.Made.{edited_as}
use Rattle.motion_words.specs.Places.{on_from, back_from}
use Rattle.edit_transpose.specs.TransposeChars.{transposed, exchange}
use Rattle.motion_words.proofs.Stays.{back_place}
use Rattle.edit_transpose.proofs.Suits.{cut_in, exchange_suits}

module _ (F : Format) (l : Lent) (h : Ready F l) (p : ℕ) (i : In (text_of l) p p) where
  -- the two places are in the text, on both sides of p
  pub reaches : (q : ℕ) → q ≡ on_from catalogue (text_of l) p → In (text_of l) p q
  reaches q e = subst (In (text_of l) p) (sym e) (cut_in catalogue (text_of l) h.text p i)

  pub goes_back : (o : ℕ) → o ≡ back_from catalogue (text_of l) p → o ≤ p
  goes_back o e = let b = back_place catalogue (text_of l) (text-valid catalogue (text_of l) h.text) p i.2 i.1 in let c = b.0 in omega arith

-- the two clusters at p: the one behind it, cut from p up to its end, and the start of the one before it
pub record Clusters (F : Format) (l : Lent) (p : ℕ) : Type 0 where
  pub ready : Ready F l
  pub inside : In (text_of l) p p
  pub end : ℕ
  pub end_is : end ≡ on_from catalogue (text_of l) p
  pub start : ℕ
  pub start_is : start ≡ back_from catalogue (text_of l) p
  pub cut : List ℕ
  pub cut-is : cut ≡ part (text_of l) p end

module _ {F : Format} {l : Lent} {p : ℕ} (x : Clusters F l p) where
  abbrev q : ℕ
  q = x.end

  abbrev o : ℕ
  o = x.start

  abbrev t : List ℕ
  t = text_of l

  abbrev changes : List PlannedChange
  changes = cutting p q ∷ pasted o x.cut ∷ []

  same : changes ≡ (exchange catalogue t p).changes
  same = ap₂ (λ (a : ℕ) (s : List ℕ). cutting p a ∷ pasted o s ∷ []) x.end_is (x.cut-is ∙ ap (part t p) x.end_is)
      ∙ ap (λ (a : ℕ). cutting p (on_from catalogue t p) ∷ pasted a (part t p (on_from catalogue t p)) ∷ []) x.start_is

  pub pair_suits : AllSuit catalogue changes t
  pair_suits = subst (λ (xs : List PlannedChange). AllSuit catalogue xs t) (sym same) (exchange_suits catalogue t x.ready.text p x.inside)

  cut-length : length (part t p (on_from catalogue t p)) ≡ q - p
  cut-length = part_length catalogue t p (on_from catalogue t p) (cut_in catalogue t x.ready.text p x.inside) ∙ ap (λ (a : ℕ). a - p) (sym x.end_is)

  module _ (r : EditAnswer) (t' rb tb : List ℕ) (k : Edited F l (edited catalogue F (sizes_of l) (length l.text)
      (record { changes = changes; cursor = o + (q - p); number = 0; from = 0; to = 0 }) (state_of catalogue F l)) r t' rb tb) where
    there : Edited F l (edited catalogue F (sizes_of l) (length l.text)
        (record { changes = (exchange catalogue t p).changes; cursor = o + (q - p); number = 0; from = 0; to = 0 }) (state_of catalogue F l)) r t' rb tb
    there = subst (λ (xs : List PlannedChange). Edited F l (edited catalogue F (sizes_of l) (length l.text)
        (record { changes = xs; cursor = o + (q - p); number = 0; from = 0; to = 0 }) (state_of catalogue F l)) r t' rb tb) same k

    pub not_exchanged : (r.number ≡ 0 → ⊥) → Edited F l (edited catalogue F (sizes_of l) (length l.text) (exchange catalogue t p) (state_of catalogue F l)) r t' rb tb
    not_exchanged = cursor-kept catalogue F l (sizes_of l) (length l.text) (exchange catalogue t p).changes (state_of catalogue F l) (o + (q - p))
        (exchange catalogue t p).cursor r t' rb tb there

    pub used-is : r.number ≡ 0 → r.line.len ≤ length t'
    used-is e = used_there catalogue F l (sizes_of l) (length l.text) (exchange catalogue t p).changes (state_of catalogue F l) (o + (q - p))
        (exchange catalogue t p).cursor r t' rb tb there e

    -- the text that the cursor goes through
    text-is : r.number ≡ 0 → take r.line.len t' ≡ transposed catalogue t p
    unfolding text_after
    text-is e = text_there catalogue F l (sizes_of l) (length l.text) (exchange catalogue t p).changes (state_of catalogue F l) (o + (q - p))
        (exchange catalogue t p).cursor r t' rb tb there e

    pub exchanged : r.number ≡ 0 → (n : ℕ) (r' : EditAnswer) → n ≡ on_from catalogue (take r.line.len t') (o + (q - p))
        → r' ≡ says 0 (record { len = r.line.len; cursor = n }) r.log
        → Edited F l (edited catalogue F (sizes_of l) (length l.text) (exchange catalogue t p) (state_of catalogue F l)) r' t' rb tb
    exchanged e n r' en er =
        let at : n ≡ (exchange catalogue t p).cursor =
        en ∙ ap₂ (λ (x : List ℕ) (a : ℕ). on_from catalogue x (a + (q - p))) (text-is e) x.start_is
        ∙ ap (λ (a : ℕ). on_from catalogue (transposed catalogue t p) (back_from catalogue t p + a)) (sym cut-length) in
        edited_as F l _ r' _ t' rb tb (er ∙ ap (λ (a : ℕ). says 0 (record { len = r.line.len; cursor = a }) r.log) at)
        (cursor-moved catalogue F l (sizes_of l) (length l.text) (exchange catalogue t p).changes (state_of catalogue F l) (o + (q - p))
        (exchange catalogue t p).cursor r t' rb tb there e)
