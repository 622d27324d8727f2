-- A word put in another case: what the two changes come to. Assumes nothing.
use Prim.Native.Nat.{ℕ, ◌+◌}
use mathlib.Core.Path.{◌≡◌, sym, ap, ap₂, subst, ◌∙◌}
use mathlib.Core.List.{List, [], ◌∷◌}
use lib.ListN.{length}
use Rattle.lists.specs.Lists.{part}
use Rattle.utf8.specs.Chars.{In}
use Rattle.repertoire.specs.Repertoire.{catalogue}
use Rattle.repertoire.proofs.Catalogue.{catalogue_lawful}
use Rattle.repertoire.proofs.Text.{text-valid}
use Rattle.formats.specs.declared.Format.{Format}
use Rattle.edit.specs.declared.EditAnswer.{EditAnswer}
use Rattle.edit.specs.Plan.{cutting, pasted, Plan, AllSuit, edited}
use Rattle.edit.specs.Calls.{Lent, text_of, sizes_of, state_of, Edited, Ready}
use Rattle.edit.proofs.Made.{outcome_as}
use Rattle.edit_case.specs.declared.WordAction.{WordAction}
use Rattle.motion_words.specs.Places.{words_on}
use Rattle.edit_case.specs.EditWord.{in_case, case_plan}
use Rattle.motion_words.proofs.Stays.{words_on_place}
use Rattle.edit_case.proofs.Suits.{case_suits}

module _ (F : Format) (l : Lent) (h : Ready F l) (a : ℕ) (i : In (text_of l) a a) (b : ℕ) (eb : b ≡ words_on catalogue (text_of l) 1 a) where
  pub word_in : In (text_of l) a b
  word_in =
      subst (In (text_of l) a) (sym eb)
      (let k = words_on_place catalogue (text_of l) (text-valid catalogue (text_of l) h.text) a i.2 i.1 1 in (k.0, k.1, i.2, k.2))

  module _ (w : WordAction) (x : List ℕ) (ex : x ≡ in_case catalogue w (part (text_of l) a b)) where
    pub recased_suits : AllSuit catalogue (cutting a b ∷ pasted a x ∷ []) (text_of l)
    recased_suits = subst (λ (y : List ℕ). AllSuit catalogue (cutting a b ∷ pasted a y ∷ []) (text_of l)) (sym ex)
        (case_suits catalogue (text_of l) h.text catalogue_lawful w a b word_in)

    same : (n : ℕ) → n ≡ length x → record { changes = cutting a b ∷ pasted a x ∷ []; cursor = a + n; number = 0; from = 0; to = 0 } ≡ case_plan
        catalogue (text_of l) w a (words_on catalogue (text_of l) 1 a)
    same n e =
        ap₂ (λ (y : List ℕ) (m : ℕ). record { changes = cutting a b ∷ pasted a y ∷ []; cursor = a + m; number = 0; from = 0; to = 0 }) ex (e ∙ ap length ex)
        ∙ ap (case_plan catalogue (text_of l) w a) eb

    pub recased : (n : ℕ) → n ≡ length x → (r : EditAnswer) (t rb tb : List ℕ)
        → Edited F l (edited catalogue F (sizes_of l) (length l.text)
        (record { changes = cutting a b ∷ pasted a x ∷ []; cursor = a + n; number = 0; from = 0; to = 0 }) (state_of catalogue F l)) r t rb tb
        → Edited F l (edited catalogue F (sizes_of l) (length l.text) (case_plan catalogue (text_of l) w a (words_on catalogue (text_of l) 1 a)) (state_of catalogue F l)) r t rb tb
    recased n e r t rb tb q = outcome_as F l _ _ r t rb tb (ap (λ (p : Plan). edited catalogue F (sizes_of l) (length l.text) p (state_of catalogue F l)) (same n e)) q
