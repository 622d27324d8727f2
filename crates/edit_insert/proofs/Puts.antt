-- A text put in at the cursor, as the change that it is. Assumes nothing.
use Prim.Native.Nat.{ℕ, ◌+◌, ◌-◌, ◌*◌, ◌<◌}
use native.Mathlib.Omega.{arith}
use mathlib.Core.Path.{◌≡◌, sym, ap, ap₂, subst, ◌∙◌}
use mathlib.Core.Bool.{Bool, false}
use mathlib.Core.List.{List}
use lib.ListN.{length}
use Rattle.repertoire.specs.Repertoire.{catalogue}
use Rattle.checks.specs.Outcome.{Outcome}
use Rattle.formats.specs.declared.Format.{Format}
use Rattle.log_model.specs.Change.{insert}
use Rattle.log_records.specs.declared.EditKind.TheVariants.{Insert}
use Rattle.edit.specs.declared.EditAnswer.{EditAnswer}
use Rattle.edit.specs.Plan.{State, Plan, typed, pasted, once, edited, change_out}
use Rattle.edit.specs.Calls.{Lent, text_of, sizes_of, state_of, says, Edited, Ready}
use Rattle.edit.proofs.Parts.{an_insert}
use Rattle.edit.proofs.Made.{too_long, edited_as, outcome_as}
use Rattle.edit.proofs.Once.{once-paste, once-typed}
use Rattle.utf8.specs.Encode.{encode}
use Rattle.buffer.specs.Edit.{copies}
use Rattle.buffer.proofs.Copies.{copies_length}

-- a plan on what is lent
abbrev pub carried : Format → Lent → Plan → Outcome State
carried F l p = edited catalogue F (sizes_of l) (length l.text) p (state_of catalogue F l)

module _ (F : Format) (l : Lent) where
  abbrev pos : ℕ
  pos = l.line.cursor

  -- 9, by the length alone
  pub copies_long : Ready F l → (s : List ℕ) (n : ℕ) (r : EditAnswer) → length l.text - l.line.len < length s * n → r ≡ says 9 l.line l.log
      → Edited F l (carried F l (once (pasted pos (copies n s)) (pos + length (copies n s)))) r l.text l.records l.texts
  copies_long h s n r i e =
      let w : length l.text - (l.line.len - (pos - pos)) < length (copies n s) = omega (arith, copies_length n s) in
      let p = pos + length (copies n s) in
      let q = too_long F l h false (insert pos (copies n s)) Insert pos pos (copies n s) p (an_insert (text_of l) pos (copies n s)) (omega arith) h.within w in
      outcome_as F l (change_out F (sizes_of l) (length l.text) false (insert pos (copies n s)) p (state_of catalogue F l)) _ r l.text l.records l.texts
      (once-paste catalogue F (sizes_of l) (length l.text) p (state_of catalogue F l) pos (copies n s)) (edited_as F l _ r _ l.text l.records l.texts e q)

  module _ (x : List ℕ) (m : ℕ) (r : EditAnswer) (t rb tb : List ℕ) where
    -- copies put in
    pub copies-put : (s : List ℕ) (n : ℕ) → x ≡ copies n s → m ≡ length s * n → Edited F l (carried F l (once (pasted pos x) (pos + m))) r t rb tb
        → Edited F l (carried F l (once (pasted pos (copies n s)) (pos + length (copies n s)))) r t rb tb
    copies-put s n e f q =
        subst (λ (p : Plan). Edited F l (carried F l p) r t rb tb) (ap₂ (λ (y : List ℕ) (i : ℕ). once (pasted pos y) (pos + i)) e (f ∙ sym (copies_length n s))) q

    -- a character put in as one that was typed
    pub char-put : (c : ℕ) (j : Bool) → j ≡ catalogue.alnum c → x ≡ encode c → m ≡ length x
        → Edited F l (change_out F (sizes_of l) (length l.text) j (insert pos x) (pos + m) (state_of catalogue F l)) r t rb tb
        → Edited F l (carried F l (once (typed pos c) (pos + length (encode c)))) r t rb tb
    char-put c j e f g q =
        subst (λ (i : ℕ). Edited F l (carried F l (once (typed pos c) (pos + i))) r t rb tb) (g ∙ ap length f)
        (outcome_as F l _ _ r t rb tb (once-typed catalogue F (sizes_of l) (length l.text) (pos + m) (state_of catalogue F l) pos c j x e f) q)
