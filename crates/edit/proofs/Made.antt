-- One change made and recorded: the ways it is refused, and what it leaves. Assumes nothing.
use Prim.Native.Nat.{ℕ, ◌+◌, ◌-◌, ◌≤◌, ◌<◌}
use native.Mathlib.Omega.{arith}
use mathlib.Core.Path.{◌≡◌, refl, sym, ap, ap₂, subst, ◌∙◌}
use mathlib.Core.Bool.{Bool, true, false, cond, not, ◌&&◌}
use mathlib.Core.List.{List, [], ◌∷◌}
use lib.Dec.{ltb, eqb}
use denote.Enum.Bare.{sameb}
use lib.ListN.{length, take, drop, length-drop}
use lib.Seq.{length-take-le}
use borrow.Author.Tests.{lt-ltb, le-ltb, eq-eqb, ne_eqb, eqb-true}
use Rattle.lists.specs.Lists.{part}
use Rattle.lists.proofs.Bools.{and_both}
use Rattle.lists.proofs.Parts.{none_left}
use Rattle.repertoire.specs.Repertoire.{catalogue}
use Rattle.checks.specs.Outcome.{Outcome, refused, answered}
use Rattle.buffer.specs.Edit.{inserted, cut}
use Rattle.log_model.specs.Change.{Edit, insert, delete, replace, Change, edit, place, old, new}
use Rattle.formats.specs.declared.Format.{Format}
use Rattle.log_model.specs.Layout.{ok_change}
use Rattle.log_model.specs.Recording.{note}
use Rattle.log_model.specs.Groups as groups
use Rattle.log_model.specs.UndoBytes.{fits}
use mathlib.Core.Logic.{◌⊎◌, inl, inr, ⊎_elim}
use Rattle.log_records.specs.declared.EditKind.{EditKind}
use Rattle.log_records.specs.declared.EditKind.TheVariants.{Replace}
use Rattle.log_records.specs.contracts.EditKind.{the_type}
use Rattle.log_records.specs.Records.{edit_kind}
use Rattle.log_state.specs.Outcomes.{record_out}
use Rattle.log_state.specs.declared.Log.{Log}
use Rattle.log_state.specs.declared.LogAnswer.{LogAnswer}
use Rattle.log_state.specs.Calls as log
use Rattle.log_state.proofs.Recorded as recorded
use Rattle.edit.specs.declared.EditAnswer.{EditAnswer}
use Rattle.edit.specs.Plan.{Plan, State, splice, blank, changed, change_out, edited}
use Rattle.edit.specs.Calls.{Lent, log_lent, text_of, sizes_of, state_of, says, Edited, Makes, Ready}
use Rattle.edit.proofs.Answers.{length-kept}
use Rattle.edit.proofs.Splice.{splice-length, cut-put, splice_none}

-- ---- what recording answered
module _ (F : Format) (l : log.Lent) (u : List Change) (g : groups.Log) (a : LogAnswer) (rb tb : List ℕ) (q : log.Logged F l (record_out F (log.sizes_of l) u g) a rb tb) where
  pub record Took : Type 0 where
    pub room : fits F (log.sizes_of l) u ≡ true
    pub state : a.log ≡ log.log_of F (record { undo = u; redo = []; level = g.level })
    pub bytes : log.Stored F (record { undo = u; redo = []; level = g.level }) rb tb

  pub record Refused : Type 0 where
    pub full : fits F (log.sizes_of l) u ≡ false
    pub records : rb ≡ l.records
    pub texts : tb ≡ l.texts

  split : (b : Bool) → fits F (log.sizes_of l) u ≡ b → log.Logged F l
      (cond b (answered 0 0 0 (record { undo = u; redo = []; level = g.level })) (refused 10)) a rb tb → ((a.number ≡ 0) × Took) ⊎ ((a.number ≡ 10) × Refused)
  split true e r = inl (ap (λ (x : LogAnswer). x.number) r.answer, record { room = e; state = ap (λ (x : LogAnswer). x.log) r.answer; bytes = r.bytes })
  split false e r = inr (ap (λ (x : LogAnswer). x.number) r.answer, record { full = e; records = r.bytes.records; texts = r.bytes.texts })

  ways : ((a.number ≡ 0) × Took) ⊎ ((a.number ≡ 10) × Refused)
  unfolding record_out
  ways = split (fits F (log.sizes_of l) u) refl q

  pub took : a.number ≡ 0 → Took
  took e = ⊎_elim (λ w. w.1) (λ w. absurd (omega (arith, w.0))) ways

  pub was_refused : (a.number ≡ 0 → ⊥) → Refused
  was_refused h = ⊎_elim (λ w. absurd (h w.0)) (λ w. w.1) ways

-- ---- a change of nothing
pub blank-is : (x : Edit) (k : EditKind) (a b m : ℕ) → edit_kind x ≡ k → a ≤ b → length (old x) ≡ b - a → length (new x) ≡ m → ((not (sameb the_type k Replace) && eqb a b) && eqb m 0) ≡ blank x
blank-is (insert p []) k a b m e h f g = rw (sym e, eq-eqb a b (omega arith), eq-eqb m 0 (omega arith))
blank-is (insert p (c ∷ s)) k a b m e h f g = rw (sym e, eq-eqb a b (omega arith), ne_eqb m 0 (λ z. omega arith))
blank-is (delete p []) k a b m e h f g = rw (sym e, eq-eqb a b (omega arith), eq-eqb m 0 (omega arith))
blank-is (delete p (c ∷ s)) k a b m e h f g = rw (sym e, ne_eqb a b (λ z. omega arith))
blank-is (replace p o n) k a b m e h f g = rw (sym e)

-- as the code tests it
pub blank-by : (x y : Bool) {a b : Bool} → a ≡ b → ((b && x) && y) ≡ ((a && x) && y)
blank-by x y e = ap (λ (c : Bool). (c && x) && y) (sym e)

-- ---- the change x in the text of l
module _ (F : Format) (l : Lent) (h : Ready F l) (j : Bool) (x : Edit) (k : EditKind) (a b : ℕ) (n : List ℕ) (p : ℕ)
    (d : log.Numbered x k a (part (text_of l) a b) n) (h₁ : a ≤ b) (h₂ : b ≤ l.line.len) where
  abbrev u : List Change
  u = (log.value_of catalogue F (log_lent l)).undo

  abbrev outcome : Outcome State
  outcome = change_out F (sizes_of l) (length l.text) j x p (state_of catalogue F l)

  cut-size : length (old x) ≡ b - a
  cut-size = ap length d.old ∙ length-take-le (b - a) (drop a (text_of l)) (simp length-drop (omega (arith, length-kept F l h)))

  pub is-blank : ((not (sameb the_type k Replace) && eqb a b) && eqb (length n) 0) ≡ blank x
  is-blank = blank-is x k a b (length n) d.kind h₁ cut-size (ap length d.new)

  is-splice : changed x (text_of l) ≡ splice (text_of l) a b n
  is-splice =
      let e : place x + length (old x) ≡ b = omega (arith, d.place, cut-size) in
      ap₂ (λ (i k : ℕ). splice (text_of l) i k (new x)) d.place e ∙ ap (splice (text_of l) a b) d.new

  size : length (changed x (text_of l)) ≡ l.line.len - (b - a) + length n
  size = ap length is-splice ∙ splice-length (text_of l) a b n h₁ (omega (arith, length-kept F l h)) ∙ ap (λ (i : ℕ). i - (b - a) + length n) (length-kept F l h)

  -- 9
  pub too_long : length l.text - (l.line.len - (b - a)) < length n → Edited F l outcome (says 9 l.line l.log) l.text l.records l.texts
  unfolding change_out
  too_long c = rw (lt-ltb (length l.text) (length (changed x (text_of l))) (omega (arith, size, h.used)))
      (record { answer = refl; bytes = record { text = refl; records = refl; texts = refl } })

  module _ (fits-text : length n ≤ length l.text - (l.line.len - (b - a))) where
    no_nine : ltb (length l.text) (length (changed x (text_of l))) ≡ false
    no_nine = le-ltb (length l.text) (length (changed x (text_of l))) (omega (arith, size, h.used))

    -- nothing is recorded
    pub unrecorded : blank x ≡ true
        → Edited F l outcome (says 0 (record { len = l.line.len; cursor = p })
        (record { undo = l.log.undo; redo = record { records = 0; texts = 0 }; level = l.log.level })) l.text l.records l.texts
    unfolding change_out
    unrecorded e =
        let q = took F (log_lent l) u (log.value_of catalogue F (log_lent l)) _ l.records l.texts (recorded.only_dropped F (log_lent l) h.log u refl) refl in
        let m = is-blank ∙ e in
        let z : changed x (text_of l) ≡ text_of l = is-splice ∙ nothing-cut (and_both (not (sameb the_type k Replace) && eqb a b) (eqb (length n) 0) m) in
        let t : take (length (text_of l)) l.text ≡ text_of l = ap (λ (i : ℕ). take i l.text) (length-kept F l h) in
        rw (no_nine, e, q.room, z)
        (record {
          answer = ap₂ (λ (i : ℕ) (g : Log). says 0 (record { len = i; cursor = p }) g) (sym (length-kept F l h)) q.state;
          bytes = record { text = t; log = q.bytes };
        })
      where
        nothing-cut : ((not (sameb the_type k Replace) && eqb a b) ≡ true) × (eqb (length n) 0 ≡ true) → splice (text_of l) a b n ≡ text_of l
        nothing-cut m =
            let e : a ≡ b = eqb-true a b (and_both (not (sameb the_type k Replace)) (eqb a b) m.0).1 in
            ap₂ (λ (i : ℕ) (s : List ℕ). splice (text_of l) a i s) (sym e) (none_left n (eqb-true (length n) 0 m.1)) ∙ splice_none (text_of l) a

    module _ (some : blank x ≡ false) (r : LogAnswer) (rb tb : List ℕ)
        (q : log.Logged F (log_lent l) (record_out F (sizes_of l) (note j x u) (log.value_of catalogue F (log_lent l))) r rb tb) where
      -- 10
      pub no_room : (r.number ≡ 0 → ⊥) → Edited F l outcome (says 10 l.line l.log) l.text rb tb
      unfolding change_out
      no_room e =
          let w = was_refused F (log_lent l) (note j x u) (log.value_of catalogue F (log_lent l)) r rb tb q e in
          rw (no_nine, some, w.full) (record { answer = refl; bytes = record { text = refl; records = w.records; texts = w.texts } })

      made_in : r.number ≡ 0 → (t : List ℕ) (m : ℕ) → m ≡ l.line.len - (b - a) + length n → take m t ≡ splice (text_of l) a b n
          → Edited F l outcome (says 0 (record { len = m; cursor = p }) r.log) t rb tb
      unfolding change_out
      made_in e t m f i =
          let w = took F (log_lent l) (note j x u) (log.value_of catalogue F (log_lent l)) r rb tb q e in
          let y : length (changed x (text_of l)) ≡ m = size ∙ sym f in
          let z : take (length (changed x (text_of l))) t ≡ changed x (text_of l) = ap (λ (k : ℕ). take k t) y ∙ i ∙ sym is-splice in
          rw (no_nine, some, w.room)
          (record {
            answer = ap₂ (λ (k : ℕ) (g : Log). says 0 (record { len = k; cursor = p }) g) (sym y) w.state;
            bytes = record { text = z; log = w.bytes };
          })

      -- by a cut, and then an insertion
      pub made : r.number ≡ 0 → (t₁ t₂ : List ℕ) → take (l.line.len - (b - a)) t₁ ≡ cut (text_of l) a b
          → take (l.line.len - (b - a) + length n) t₂ ≡ inserted (take (l.line.len - (b - a)) t₁) a n
          → Edited F l outcome (says 0 (record { len = l.line.len - (b - a) + length n; cursor = p }) r.log) t₂ rb tb
      made e t₁ t₂ c i = made_in e t₂ (l.line.len - (b - a) + length n) refl
          (i ∙ ap (λ (s : List ℕ). inserted s a n) c ∙ cut-put (text_of l) a b n (omega (arith, length-kept F l h)))

-- ---- the bytes that are cut, as they are lent from the buffer
module _ (F : Format) (l : Lent) (j : Bool) (k : EditKind) (a : ℕ) (n s s' : List ℕ) (e : s ≡ s') where
  pub numbered_as : log.Numbered (log.edit_of k a s n) k a s n → log.Numbered (log.edit_of k a s' n) k a s' n
  numbered_as d = subst (λ (x : List ℕ). log.Numbered (log.edit_of k a x n) k a x n) e d

  pub ok_as : ok_change catalogue (edit (log.edit_of k a s n)) ≡ true → ok_change catalogue (edit (log.edit_of k a s' n)) ≡ true
  ok_as o = subst (λ (x : List ℕ). ok_change catalogue (edit (log.edit_of k a x n)) ≡ true) e o

  pub logged_as : (r : LogAnswer) (rb tb : List ℕ) → log.Logged F (log_lent l)
      (record_out F (sizes_of l) (note j (log.edit_of k a s n) (log.value_of catalogue F (log_lent l)).undo) (log.value_of catalogue F (log_lent l))) r rb tb
      → log.Logged F (log_lent l) (record_out F (sizes_of l) (note j (log.edit_of k a s' n) (log.value_of catalogue F (log_lent l)).undo) (log.value_of catalogue F (log_lent l))) r rb tb
  logged_as r rb tb q = subst (λ (x : List ℕ). log.Logged F (log_lent l)
      (record_out F (sizes_of l) (note j (log.edit_of k a x n) (log.value_of catalogue F (log_lent l)).undo) (log.value_of catalogue F (log_lent l))) r rb tb) e q

-- the answer as a function gave it
pub edited_as : (F : Format) (l : Lent) (o : Outcome State) (r r' : EditAnswer) (t rb tb : List ℕ) → r ≡ r' → Edited F l o r' t rb tb → Edited F l o r t rb tb
edited_as F l o r r' t rb tb e q = record { answer = e ∙ q.answer; bytes = q.bytes }

-- the outcome said in another way
pub outcome_as : (F : Format) (l : Lent) (o o' : Outcome State) (r : EditAnswer) (t rb tb : List ℕ) → o ≡ o' → Edited F l o r t rb tb → Edited F l o' r t rb tb
outcome_as F l o o' r t rb tb e q = subst (λ (x : Outcome State). Edited F l x r t rb tb) e q

-- the plan that was carried out is p
pub plan_made : (F : Format) (l : Lent) {q p : Plan} → q ≡ p → {r : EditAnswer} {t rb tb : List ℕ} → Makes F l q r t rb tb → Makes F l p r t rb tb
plan_made F l e {r} {t} {rb} {tb} x =
    outcome_as F l _ _ r t rb tb (ap (λ (p : Plan). edited catalogue F (sizes_of l) (length l.text) p (state_of catalogue F l)) e) x
