-- What an edit's key comes to where the checks pass: a plan that is carried out. Assumes nothing.
use Prim.Native.Nat.{ℕ}
use native.Mathlib.Omega.{arith}
use mathlib.Core.Path.{◌≡◌, refl, sym, ap, subst, ◌∙◌}
use mathlib.Core.Bool.{Bool, true, false, cond, not}
use mathlib.Core.List.{List}
use lib.ListN.{length}
use Rattle.repertoire.specs.Repertoire.{catalogue}
use Rattle.repertoire.specs.Text.{is_char}
use Rattle.formats.specs.declared.Format.{Format}
use Rattle.keymap.specs.declared.Movement.TheVariants as m
use Rattle.checks.specs.Checks.{Tests, no_tests, own_tests}
use Rattle.checks.specs.Outcome.{Outcome, refused, answered}
use Rattle.checks.proofs.Outcomes.{called-passed}
use Rattle.edit.specs.declared.EditAnswer.{EditAnswer}
use Rattle.log_model.specs.UndoBytes.{fits}
use Rattle.edit.specs.Plan.{Plan, State, planned, list_after, too_long, edited}
use Rattle.edit.specs.Calls.{Lent, text_of, sizes_of, state_of, checked, edit_call, Edited, Makes}
use Rattle.edit.proofs.Made.{outcome_as}
use Rattle.edit_insert.specs.Inserts.{insert_plan}
use Rattle.edit_kill.specs.Kills.{places_plan, kill_range}
use Rattle.edit_transpose.specs.TransposeChars.{transpose_chars_plan}
use Rattle.edit_transpose.specs.TransposeWords.{transpose_words_plan}
use Rattle.edit_case.specs.declared.WordAction.TheVariants.{Capitalize, Lowercase, Uppercase}
use Rattle.edit_case.specs.EditWord.{edit_word_plan, action_list}
use Rattle.key_press.specs.declared.EditKey.{EditKey}
use Rattle.key_press.specs.declared.EditKey.TheVariants as ek
use Rattle.calls.specs.Calls.{edit_outcome}
use Rattle.key_model.specs.Stands.{edit_for}
use Rattle.key_model.specs.Own.{fit_key}
use Rattle.key_line.proofs.Answered.{Refuses}

-- by the two tests of a plan: too long a text, and room in the log
by_tests : (b d : Bool) (k i j : ℕ) (s : State) → Refuses (cond b (refused 9) (cond d (answered k i j s) (refused 10)))
by_tests true d k i j s = omega arith
by_tests false true k i j s = tt
by_tests false false k i j s = omega arith

module _ (F : Format) (l : Lent) where
  -- the plan of a key's edit
  abbrev pub plan_for : EditKey → Plan
  plan_for (ek.Typed c n) = insert_plan l.line.cursor c n
  plan_for (ek.Delete n) = places_plan l.line.cursor (kill_range catalogue (text_of l) l.line.cursor (m.ForwardChar n))
  plan_for ek.TransposeChars = transpose_chars_plan catalogue (text_of l) l.line.cursor
  plan_for (ek.TransposeWords n) = transpose_words_plan catalogue (text_of l) n l.line.cursor
  plan_for ek.Capitalize = edit_word_plan catalogue (text_of l) Capitalize l.line.cursor
  plan_for ek.Lowercase = edit_word_plan catalogue (text_of l) Lowercase l.line.cursor
  plan_for ek.Uppercase = edit_word_plan catalogue (text_of l) Uppercase l.line.cursor

  abbrev out : Plan → Outcome State
  out p = edited catalogue F (sizes_of l) (length l.text) p (state_of catalogue F l)

  -- 9 and 10 are the only numbers that refuse a plan
  plan_refuses : (p : Plan) → Refuses (out p)
  unfolding edited
  plan_refuses p =
      by_tests (too_long (length l.text) p.changes (text_of l))
      (fits F (sizes_of l) (list_after catalogue p.changes (text_of l) (state_of catalogue F l).log.undo)) p.number p.from p.to
      (planned catalogue p (state_of catalogue F l))

  module _ (z : checked catalogue F l no_tests ≡ 0) where
    made : (own : Tests) (p : Plan) → checked catalogue F l own ≡ 0 → edit_call catalogue F l own p ≡ out p
    made own p e = called-passed (λ (o : Outcome State). o ≡ out p) (out p) 0 (checked catalogue F l own) e refl refl

    key_plan : (k : EditKey) → fit_key catalogue k ≡ true → edit_outcome catalogue F l (edit_for k) ≡ out (plan_for k)
    unfolding action_list
    key_plan (ek.Typed c n) e =
        made (own_tests false (not (is_char catalogue c)) false) (plan_for (ek.Typed c n))
        (ap (λ (b : Bool). checked catalogue F l (own_tests false (not b) false)) e ∙ z)
    key_plan (ek.Delete n) e = made no_tests (plan_for (ek.Delete n)) z
    key_plan ek.TransposeChars e = made no_tests (plan_for ek.TransposeChars) z
    key_plan (ek.TransposeWords n) e = made no_tests (plan_for (ek.TransposeWords n)) z
    key_plan ek.Capitalize e = made no_tests (plan_for ek.Capitalize) z
    key_plan ek.Lowercase e = made no_tests (plan_for ek.Lowercase) z
    key_plan ek.Uppercase e = made no_tests (plan_for ek.Uppercase) z

    pub key_refuses : (k : EditKey) → fit_key catalogue k ≡ true → Refuses (edit_outcome catalogue F l (edit_for k))
    key_refuses k e = subst Refuses (sym (key_plan k e)) (plan_refuses (plan_for k))

    -- the key k is x, and the plan of x is made
    pub key-made : {k : EditKey} (x : EditKey) → k ≡ x → fit_key catalogue k ≡ true → {r : EditAnswer} {t rb tb : List ℕ}
        → Makes F l (plan_for x) r t rb tb → Edited F l (edit_outcome catalogue F l (edit_for k)) r t rb tb
    key-made {k} x i e {r} {t} {rb} {tb} q =
        outcome_as F l (out (plan_for x)) (edit_outcome catalogue F l (edit_for k)) r t rb tb
        (ap (λ (y : EditKey). out (plan_for y)) (sym i) ∙ sym (key_plan k e)) q
