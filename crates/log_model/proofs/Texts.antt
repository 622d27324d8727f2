-- The texts of a list as one text: they are one where each of them is. Assumes nothing.
use Prim.Native.Nat.{ℕ, zero, suc, ◌+◌, ◌-◌}
use native.Mathlib.Omega.{arith}
use mathlib.Core.Path.{◌≡◌, refl, sym, ap, ◌∙◌}
use mathlib.Core.List.{List, []}
use mathlib.Core.Bool.{Bool, true, false, cond, true≢false}
use mathlib.Core.Option.{Option, some, none}
use lib.ListN.{length, get_or, take, drop, take-append-drop}
use lib.Seq.{drop-drop}
use lib.Dec.{eqb}
use borrow.Author.Tests.{eqb-true}
use Rattle.lists.proofs.Bools.{and_both, never, by_test}
use Rattle.repertoire.specs.Repertoire.{Repertoire}
use Rattle.repertoire.specs.Text.{is_text}
use Rattle.repertoire.proofs.Text.{text_nil, text-append, scan-end}
use Rattle.log_model.specs.Change.{Change, begin, end, edit, insert, delete, replace}
use Rattle.formats.specs.declared.Format.{Format}
use Rattle.log_model.specs.Layout.{texts_of, ok_change, size_of, texts_at, change_at, whole_at, push, is_some, decode_from, decode_at}
use Rattle.log_model.specs.Layout.{decode}
use Rattle.log_model.proofs.Decode.{kind-is, Whole, whole, is_some-push}
use Rattle.log_model.proofs.Sound.{written-texts}

module _ (R : Repertoire) where
  -- of a change
  pub change_text : (c : Change) → ok_change R c ≡ true → is_text R (texts_of c) ≡ true
  change_text begin e = text_nil R
  change_text end e = text_nil R
  change_text (edit (insert p s)) e = e
  change_text (edit (delete p s)) e = e
  change_text (edit (replace p o n)) e =
      let b = and_both (is_text R o) (is_text R n) e in
      text-append R o n b.0 ∙ b.1

  -- of the record at a place: what stands behind its texts decides
  pub whole-text : (F : Format) (rs ts : List ℕ) (at t : ℕ) → Whole R F rs ts at t → is_text R (drop t ts) ≡ is_text R (drop (t + texts_at F rs at (get_or rs at 0)) ts)
  whole-text F rs ts at t q =
      let k = get_or rs at 0 in
      let m = texts_at F rs at k in
      let w : is_text R (take m (drop t ts)) ≡ true = ap (is_text R) (sym (written-texts F rs ts at t k (kind-is F k q.kind))) ∙ change_text (change_at F rs ts at t k) q.fine in
      ap (is_text R) (sym (take-append-drop m (drop t ts))) ∙ text-append R (take m (drop t ts)) (drop m (drop t ts)) w ∙ ap (is_text R) (drop-drop m t ts)

  -- of a list, from any place
  module _ (F : Format) (rs ts : List ℕ) where
    text-from : (k at t : ℕ) → is_some (decode_from R F rs ts k at t) ≡ true → is_text R (drop t ts) ≡ true
    text-from zero at t e = absurd (true≢false (sym e))
    text-from (suc k) at t e = go (text-from k) (eqb at (length rs)) (eqb t (length ts)) refl (whole_at R F rs ts at t) refl e
      where
        IH : Type 0
        IH = (at t : ℕ) → is_some (decode_from R F rs ts k at t) ≡ true → is_text R (drop t ts) ≡ true

        change : Change
        change = change_at F rs ts at t (get_or rs at 0)

        rest : Option (List Change)
        rest = decode_from R F rs ts k (at + size_of F (get_or rs at 0)) (t + texts_at F rs at (get_or rs at 0))

        go : IH → (a b : Bool) → eqb t (length ts) ≡ b → (d : Bool) → whole_at R F rs ts at t ≡ d
            → is_some (cond a (cond b (some []) none) (cond d (push change rest) none)) ≡ true → is_text R (drop t ts) ≡ true
        go ih true true f d g e = scan-end R ts t (omega (arith, eqb-true t (length ts) f))
        go ih true false f d g e = absurd (true≢false (sym e))
        go ih false b f true g e = whole-text F rs ts at t (whole R F rs ts at t g) ∙ ih _ _ (sym (is_some-push change rest) ∙ e)
        go ih false b f false g e = absurd (true≢false (sym e))

    pub texts-whole : is_some (decode R F rs ts) ≡ true → is_text R ts ≡ true
    unfolding decode_at
    texts-whole e = text-from (suc (length rs - 0)) 0 0 e

    -- where they are none, no list has these bytes
    pub no_text : is_text R ts ≡ false → is_some (decode R F rs ts) ≡ false
    no_text z = by_test (is_some (decode R F rs ts) ≡ false) (is_some (decode R F rs ts)) (λ e. never _ (is_text R ts) (texts-whole e) z) (λ e. e)
