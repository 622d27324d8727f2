use native.Mathlib.Omega.{arith}
use mathlib.Core.Path.{◌≡◌, sym, ap, subst, ◌∙◌}
use mathlib.Core.List.{List, [], ◌∷◌}
use Prim.Native.Nat.{ℕ}
use lib.Seq.{length-take-le}
use Rattle.lists.specs.Lists.{part}
use Rattle.repertoire.specs.Repertoire.{catalogue}
use Rattle.repertoire.specs.Text.{is_text}
use Rattle.log_state.specs.Calls as log
use Rattle.log_state.proofs.Recorded.{listed}
use Rattle.formats.specs.declared.Format.{Format}
use Rattle.edit.specs.declared.EditAnswer.{EditAnswer}
use Rattle.edit.specs.Plan.{PlannedChange, cutting, pasted, Plan, once}
use Rattle.edit.specs.Calls.{Lent, lent, text_of, Makes}
use Rattle.edit.proofs.Made.{edited_as}
use Rattle.edit.proofs.Underway.{Underway, begins, goes-on, ends, next_suits}
use Rattle.edit_transpose.specs.declared.Words.{Words}
use Rattle.edit_transpose.specs.WordPairs.{words_plan}
use Rattle.edit_transpose.proofs.Four.{words_suit}
use Rattle.edit_transpose.proofs.put_words.Goals as goal
use Rattle.edit_transpose.proofs.put_words.Goals.{After-cut_out-r1, After-cut_out-r3, After-put_in-r2, Start}

-- ---- the plan, and its four changes
abbrev plan : Lent → Words → Plan
plan l w = words_plan (text_of l) w

abbrev put1 : Lent → Words → PlannedChange
put1 l w = pasted w.beg2 (part (text_of l) w.beg1 w.end1)

abbrev cut2 : Words → PlannedChange
cut2 w = cutting w.beg1 w.end1

abbrev put2 : Lent → Words → PlannedChange
put2 l w = pasted w.beg1 (part (text_of l) w.beg2 w.end2)

-- a word that was read is the one of the plan
as_read : (f : Format) (l : Lent) (p at : ℕ) {x y : List ℕ} → x ≡ y → {r : EditAnswer} {t rb tb : List ℕ}
    → Makes f l (once (pasted p x) at) r t rb tb → Makes f l (once (pasted p y) at) r t rb tb
as_read f l p at e {r} {t} {rb} {tb} q = subst (λ (z : List ℕ). Makes f l (once (pasted p z) at) r t rb tb) e q

-- ---- what is lent at the entry and after each change, and that the other changes remain
abbrev lending : Start → Lent
lending c = let a = c.args in lent a.text.now a.records.now a.texts.now a.checked.line a.checked.log

abbrev lent1 : After-cut_out-r1 → Lent
lent1 c = let k = c.cut_out-r1 in lent k.new.text k.new.records k.new.texts k.result.line k.result.log

remaining1 : (c : After-cut_out-r1) →
    let a = c.args in
    let l = lent a.text.now a.records.now a.texts.now a.checked.line a.checked.log in
    Underway a.checked.format l (plan l a.w) (put1 l a.w ∷ cut2 a.w ∷ put2 l a.w ∷ []) (lent1 c)
remaining1 c =
    let a = c.args in
    let l = lent a.text.now a.records.now a.texts.now a.checked.line a.checked.log in
    let q = c.requires in
    let k = c.cut_out-r1 in
    goes-on a.checked.format l (plan l a.w) _ _ l
    (begins a.checked.format l (plan l a.w) q.ready (words_suit catalogue (text_of l) q.ready.text a.w q.apart) q.text_value q.log_value) k.result _ _ _
    k.ensures k.auto.text k.auto.records k.auto.texts

abbrev lent2 : After-put_in-r2 → Lent
lent2 c = let k = c.put_in-r2 in lent k.new.text k.new.records k.new.texts k.result.line k.result.log

remaining2 : (c : After-put_in-r2) →
    let a = c.args in
    let l = lent a.text.now a.records.now a.texts.now a.checked.line a.checked.log in
    let k = c.cut_out-r1 in
    Underway a.checked.format l (plan l a.w) (put1 l a.w ∷ cut2 a.w ∷ put2 l a.w ∷ [])
    (lent k.new.text k.new.records k.new.texts k.result.line k.result.log) →
    Underway a.checked.format l (plan l a.w) (cut2 a.w ∷ put2 l a.w ∷ []) (lent2 c)
remaining2 c before =
    let a = c.args in
    let l = lent a.text.now a.records.now a.texts.now a.checked.line a.checked.log in
    let k = c.cut_out-r1 in
    let l1 = lent k.new.text k.new.records k.new.texts k.result.line k.result.log in
    let m = c.put_in-r2 in
    goes-on a.checked.format l (plan l a.w) _ _ l1 before m.result _ _ _ (as_read a.checked.format l1 a.w.beg2 a.w.beg2 c.requires.first_value m.ensures)
    m.auto.text m.auto.records m.auto.texts

abbrev lent3 : After-cut_out-r3 → Lent
lent3 c = let k = c.cut_out-r3 in lent k.new.text k.new.records k.new.texts k.result.line k.result.log

remaining3 : (c : After-cut_out-r3) →
    let a = c.args in
    let l = lent a.text.now a.records.now a.texts.now a.checked.line a.checked.log in
    let k = c.put_in-r2 in
    Underway a.checked.format l (plan l a.w) (cut2 a.w ∷ put2 l a.w ∷ []) (lent k.new.text k.new.records k.new.texts k.result.line k.result.log) →
    Underway a.checked.format l (plan l a.w) (put2 l a.w ∷ []) (lent3 c)
remaining3 c before =
    let a = c.args in
    let l = lent a.text.now a.records.now a.texts.now a.checked.line a.checked.log in
    let k = c.put_in-r2 in
    let m = c.cut_out-r3 in
    goes-on a.checked.format l (plan l a.w) _ _ (lent k.new.text k.new.records k.new.texts k.result.line k.result.log) before m.result _ _ _ m.ensures
    m.auto.text m.auto.records m.auto.texts

-- ---- the answers
pub cut_out-r1-requires : goal.cut_out-r1-requires
cut_out-r1-requires c = record {
  fit = c.requires.ready.log.fit;
  ready = c.requires.ready;
  in_text = c.requires.apart.second;
  last_at = (λ e. c.requires.last_at);
}

pub put_in-r2-requires : goal.put_in-r2-requires
put_in-r2-requires c =
    let k = goal.at.put_in-r2-requires c in
    let r = remaining1 k.After-cut_out-r1 in
    let q = next_suits c.args.checked.format (lending k.Start) (plan (lending k.Start) c.args.w) (put1 (lending k.Start) c.args.w) _
    (lent1 k.After-cut_out-r1) r in
    record {
      fit = c.requires.ready.log.fit;
      ready = r.ready;
      in_text = q.0;
      new_text = ap (is_text catalogue) c.requires.first_value ∙ q.1;
    }

pub slice_bounds-last_start-end : goal.slice_bounds-last_start-end
slice_bounds-last_start-end c =
    let k = goal.at.slice_bounds-last_start-end c in
    omega (arith, (remaining2 k.After-put_in-r2 (remaining1 k.After-cut_out-r1)).ready.log.hold.room)

pub slice_bounds-last_start-end-2 : goal.slice_bounds-last_start-end-2
slice_bounds-last_start-end-2 c =
    let k = goal.at.slice_bounds-last_start-end-2 c in
    sym (length-take-le _ _ (omega (arith, (remaining2 k.After-put_in-r2 (remaining1 k.After-cut_out-r1)).ready.log.hold.room)))

pub last_start-last2-requires : goal.last_start-last2-requires
last_start-last2-requires c =
    let k = goal.at.last_start-last2-requires c in
    record {
      fit = c.requires.ready.log.fit;
      listed = listed c.args.checked.format (log.lent _ _ _)
          (remaining2 k.After-put_in-r2 (remaining1 k.After-cut_out-r1)).ready.log;
    }

pub cut_out-r3-requires : goal.cut_out-r3-requires
cut_out-r3-requires c =
    let k = goal.at.cut_out-r3-requires c in
    let r = remaining2 k.After-put_in-r2 (remaining1 k.After-cut_out-r1) in
    record {
      fit = c.requires.ready.log.fit;
      ready = r.ready;
      in_text = next_suits c.args.checked.format (lending k.Start) (plan (lending k.Start) c.args.w) (cut2 c.args.w) _ (lent2 k.After-put_in-r2) r;
      last_at = λ e. c.last_start-last2.ensures;
    }

pub put_in-r4-requires : goal.put_in-r4-requires
put_in-r4-requires c =
    let k = goal.at.put_in-r4-requires c in
    let r = remaining3 k.After-cut_out-r3 (remaining2 k.After-put_in-r2 (remaining1 k.After-cut_out-r1)) in
    let q = next_suits c.args.checked.format (lending k.Start) (plan (lending k.Start) c.args.w) (put2 (lending k.Start) c.args.w) _
    (lent3 k.After-cut_out-r3) r in
    record {
      fit = c.requires.ready.log.fit;
      ready = r.ready;
      in_text = q.0;
      new_text = ap (is_text catalogue) c.requires.second_value ∙ q.1;
    }

-- each change keeps the buffers' lengths
pub shape_of-text : goal.shape_of-text
shape_of-text c =
    let k = goal.at.shape_of-text c in
    c.put_in-r4.auto.text ∙ c.cut_out-r3.auto.text ∙ (remaining2 k.After-put_in-r2 (remaining1 k.After-cut_out-r1)).text

pub shape_of-records : goal.shape_of-records
shape_of-records c =
    let k = goal.at.shape_of-records c in
    c.put_in-r4.auto.records ∙ c.cut_out-r3.auto.records ∙ (remaining2 k.After-put_in-r2 (remaining1 k.After-cut_out-r1)).records

pub shape_of-texts : goal.shape_of-texts
shape_of-texts c =
    let k = goal.at.shape_of-texts c in
    c.put_in-r4.auto.texts ∙ c.cut_out-r3.auto.texts ∙ (remaining2 k.After-put_in-r2 (remaining1 k.After-cut_out-r1)).texts

pub returns : goal.returns
returns c =
    let k = goal.at.returns c in
    let a = c.args in
    let l = lending k.Start in
    let m = c.put_in-r4 in
    edited_as a.checked.format l _ _ _ _ _ _ c.says.ensures
    (ends a.checked.format l (plan l a.w) (lent m.new.text m.new.records m.new.texts m.result.line m.result.log)
    (goes-on a.checked.format l (plan l a.w) _ _ (lent3 k.After-cut_out-r3)
    (remaining3 k.After-cut_out-r3 (remaining2 k.After-put_in-r2 (remaining1 k.After-cut_out-r1))) m.result _ _ _
    (as_read a.checked.format (lent3 k.After-cut_out-r3) a.w.beg1 a.w.beg1 c.requires.second_value m.ensures) m.auto.text m.auto.records m.auto.texts))
