-- What a movement's key comes to where the checks pass: the cursor at a place that is found, and text and log as they were. Assumes nothing.
use Prim.Native.Nat.{ℕ}
use mathlib.Core.Path.{◌≡◌, refl, sym, ap, ap₂, subst, ◌∙◌}
use mathlib.Core.List.{List}
use lib.ListN.{length}
use Rattle.std.specs.Prelude.{Option, None, Some}
use Rattle.repertoire.specs.Repertoire.{catalogue}
use Rattle.formats.specs.declared.Format.{Format}
use Rattle.formats.specs.Formats.{format_for}
use Rattle.keymap.specs.Codes.{word_list, at_list}
use Rattle.keymap.specs.declared.Word.TheVariants.{Emacs}
use Rattle.keymap.specs.declared.At.TheVariants.{AfterEnd}
use Rattle.motion.specs.Steps.{next_pos, prev_pos}
use Rattle.motion_words.specs.Words.{prev_word_pos, next_word_pos}
use Rattle.motion_lines.specs.Lines.{start_of_line, end_of_line}
use Rattle.motion_calls.specs.Moves.{move_call, elsewhere}
use Rattle.checks.specs.declared.Line.{Line}
use Rattle.checks.specs.declared.LineAnswer.{LineAnswer}
use Rattle.checks.specs.Checks.{Tests, no_tests, both, refusal, lent_text, line_tests}
use Rattle.checks.specs.Answers.{line_answer, moved_to}
use Rattle.checks.specs.Outcome.{Outcome}
use Rattle.checks.proofs.Lowest.{refusal-both}
use Rattle.checks.proofs.LowerNumbers.{lower_none, lower-nothing}
use Rattle.checks.proofs.Outcomes.{called-passed}
use Rattle.log_state.specs.declared.Log.{Log}
use Rattle.log_state.specs.Logs.{log_tests}
use Rattle.edit.specs.declared.EditAnswer.{EditAnswer}
use Rattle.edit.specs.Calls.{Lent, format_of, says, checked, Ready, Edited}
use Rattle.edit.proofs.Answers.{log-kept, length-kept, state-kept}
use Rattle.key_press.specs.declared.MoveKey.{MoveKey}
use Rattle.key_press.specs.declared.MoveKey.TheVariants as mk
use Rattle.calls.specs.Calls.{move_outcome, moved_by}
use Rattle.key_model.specs.Stands.{move_for}
use Rattle.key_line.proofs.Answered.{Refuses}

-- ---- on a text, and its line
module _ (t : List ℕ) (line : Line) where
  -- the place that a key goes to
  abbrev pub found_for : MoveKey → Option ℕ
  found_for mk.Home = elsewhere line (start_of_line (lent_text t line) line.cursor)
  found_for mk.End = elsewhere line (end_of_line (lent_text t line) line.cursor)
  found_for (mk.Backward n) = prev_pos catalogue (lent_text t line) line.cursor n
  found_for (mk.Forward n) = next_pos catalogue (lent_text t line) line.cursor n
  found_for (mk.PrevWord n) = prev_word_pos catalogue (lent_text t line) line.cursor Emacs n
  found_for (mk.NextWord n) = next_word_pos catalogue (lent_text t line) line.cursor AfterEnd Emacs n

  module _ (z : refusal (both (line_tests catalogue (format_for (length t)) t line) no_tests) ≡ 0) where
    goes : (f : Option ℕ) → move_call catalogue t line no_tests (moved_to line f) ≡ moved_to line f
    unfolding move_call
    goes f = called-passed (λ (o : Outcome Line). o ≡ moved_to line f) (moved_to line f) 0 _ z refl refl

    pub key_goes : (k : MoveKey) → move_outcome catalogue t line (move_for k) ≡ moved_to line (found_for k)
    unfolding word_list at_list
    key_goes mk.Home = goes (found_for mk.Home)
    key_goes mk.End = goes (found_for mk.End)
    key_goes (mk.Backward n) = goes (found_for (mk.Backward n))
    key_goes (mk.Forward n) = goes (found_for (mk.Forward n))
    key_goes (mk.PrevWord n) = goes (found_for (mk.PrevWord n))
    key_goes (mk.NextWord n) = goes (found_for (mk.NextWord n))

    -- the key k is x, and f is the place that x goes to
    pub key-moved : {k : MoveKey} (x : MoveKey) → k ≡ x → {f : Option ℕ} → f ≡ found_for x → {r : LineAnswer} → r ≡ line_answer line (moved_to line f)
        → r ≡ line_answer line (move_outcome catalogue t line (move_for k))
    key-moved {k} x i {f} e {r} q =
        q ∙ ap (λ (y : Option ℕ). line_answer line (moved_to line y)) (e ∙ ap found_for (sym i)) ∙ sym (ap (line_answer line) (key_goes k))

-- ---- the tests of the text alone, where all pass
alone : (a : Tests) → refusal (both a no_tests) ≡ refusal a
unfolding refusal
alone a = refusal-both a no_tests ∙ lower_none (refusal a)

pub line-passed : {F : Format} (l : Lent) → F ≡ format_of l → checked catalogue F l no_tests ≡ 0
    → refusal (both (line_tests catalogue (format_of l) l.text l.line) no_tests) ≡ 0
line-passed {F} l f e =
    let t : Format → Tests = λ (G : Format). line_tests catalogue G l.text l.line in
    let u = both (log_tests catalogue F l.log l.records l.texts) no_tests in
    ap (λ (G : Format). refusal (both (t G) no_tests)) (sym f) ∙ alone (t F)
    ∙ (lower-nothing (refusal (t F)) (refusal u) (sym (refusal-both (t F) u) ∙ e)).0

-- ---- on what a key is lent: the answer of a movement, and the log as it was
abbrev pub with_log : LineAnswer → Log → EditAnswer
with_log a g = record { number = a.number; from = a.from; to = a.to; line = a.line; log = g }

module _ (F : Format) (l : Lent) where
  found_refuses : (f : Option ℕ) → Refuses (moved_by catalogue F l (moved_to l.line f))
  found_refuses (Some p) = tt
  found_refuses None = tt

  found_left : Ready F l → (f : Option ℕ) → Edited F l (moved_by catalogue F l (moved_to l.line f)) (with_log (line_answer l.line (moved_to l.line f)) l.log)
      l.text l.records l.texts
  found_left h (Some p) =
      record {
        answer = ap₂ (λ (n : ℕ) (x : Log). says 0 (record { len = n; cursor = p }) x) (sym (length-kept F l h)) (log-kept F l h);
        bytes = state-kept F l h p;
      }
  found_left h None =
      record {
        answer = ap₂ (λ (n : ℕ) (x : Log). says 1 (record { len = n; cursor = l.line.cursor }) x) (sym (length-kept F l h)) (log-kept F l h);
        bytes = state-kept F l h l.line.cursor;
      }

  module _ (f : F ≡ format_of l) (e : checked catalogue F l no_tests ≡ 0) (k : MoveKey) where
    abbrev moved : Outcome Line
    moved = move_outcome catalogue l.text l.line (move_for k)

    is_found : moved ≡ moved_to l.line (found_for l.text l.line k)
    is_found = key_goes l.text l.line (line-passed l f e) k

    pub move_refuses : Refuses (moved_by catalogue F l moved)
    move_refuses = subst (λ (o : Outcome Line). Refuses (moved_by catalogue F l o)) (sym is_found) (found_refuses (found_for l.text l.line k))

    pub move-left : Ready F l → {a : LineAnswer} → a ≡ line_answer l.line moved
        → Edited F l (moved_by catalogue F l moved) (with_log a l.log) l.text l.records l.texts
    move-left h {a} q =
        subst (λ (y : LineAnswer). Edited F l (moved_by catalogue F l moved) (with_log y l.log) l.text l.records l.texts) (sym q)
        (subst (λ (o : Outcome Line). Edited F l (moved_by catalogue F l o) (with_log (line_answer l.line o) l.log) l.text l.records l.texts) (sym is_found)
        (found_left h (found_for l.text l.line k)))
