-- The conditions of demand 3 can be met: P12 with cancel as a run that meets them, and what the theorem gives for it. Assumes nothing.
use mathlib.Core.Path.{◌≡◌, refl, ap}
use mathlib.Core.List.{List, [], ◌∷◌}
use Prim.Native.Nat.{ℕ, zero, suc, ◌≤◌}
use native.Mathlib.Omega.{arith}
use lib.ListN.{length}
use Rattle.utf8.specs.Utf8.{within, one, two, lead3, three, lead4, four, first_of, first}
use Rattle.utf8.specs.Chars.{chars_from, valid_from, start_before}
use Rattle.utf8.specs.Encode.{scalar, size, encode}
use Rattle.repertoire.specs.Repertoire.{catalogue, is_member, is_control, is_mark, is_alnum}
use Rattle.repertoire.specs.Text.{is_text, is_char}
use Rattle.checks.specs.Outcome.{answered}
use Rattle.checks.specs.Checks.{refusal}
use Rattle.log_model.specs.Change.{Change, begin, end, edit, insert, delete}
use Rattle.formats.specs.Formats.{format_for, log_format}
use Rattle.log_model.specs.Layout.{size_of, texts_at, change_at, whole_at, decode_at}
use Rattle.log_model.specs.Recording.{note, record_insert}
use Rattle.log_model.specs.UndoBytes.{undo_records, undo_texts, all_numbers_fit, fits}
use Rattle.log_model.specs.Groups.{end_all, ends_any}
use Rattle.log_state.specs.Logs.{over_sizes, damaged}
use Rattle.log_state.specs.Calls as logs
use Rattle.log_state.specs.Calls.{undos, redos}
use Rattle.log_state.specs.Outcomes.{begin_out, end_out}
use Rattle.log_state.specs.declared.Used.{Used}
use Rattle.edit.specs.Plan.{State, splice, text_after, list_after, too_long, edited}
use Rattle.edit.specs.Calls.{Lent, log_lent, answer_of}
use Rattle.undo_step.specs.UndoStep.{misfit, exchanging, undoing}
use Rattle.undo.specs.Undo.{walk, undo_out}
use Rattle.undo_cancel.specs.Cancel.{opens, walk_to, begins_down, cancel_out}
use Rattle.calls.specs.Calls as calls
use Rattle.session.specs.Calls.{asked}
use Rattle.session.specs.Runs.{buffers_of, Step, AnyStep, left, SameText, SameLog, HandedOn, Run, left_by, below, Closed}
use Rattle.session.specs.Demand3.{Starts, ones, Demand3}
use Rattle.session.proofs.Played.{lending}
use Rattle.session.proofs.Demand3.{demand_3_catalogue}

-- the undo list, the redo list and the level as well
abbrev at : List ℕ → List Change → List Change → ℕ → State
at t u r level = record { text = t; cursor = length t; log = record { undo = u; redo = r; level = level } }

abbrev q : Change
q = edit (insert 0 (0x71 ∷ []))

abbrev r : Change
r = edit (insert 1 (0x72 ∷ []))

-- type q; begin; cancel; begin; type r; end; undo 1: the state before each, and the last one
abbrev s0 : State
s0 = at [] [] [] 0

abbrev s1 : State
s1 = at (0x71 ∷ []) (q ∷ []) [] 0

abbrev s2 : State
s2 = at (0x71 ∷ []) (begin ∷ q ∷ []) [] 1

abbrev s5 : State
s5 = at (0x71 ∷ 0x72 ∷ []) (r ∷ begin ∷ q ∷ []) [] 1

abbrev s6 : State
s6 = at (0x71 ∷ 0x72 ∷ []) (end ∷ r ∷ begin ∷ q ∷ []) [] 0

abbrev s7 : State
s7 = at (0x71 ∷ []) (q ∷ []) (end ∷ edit (delete 1 (0x72 ∷ [])) ∷ begin ∷ []) 0

-- ---- the calls: each is lent the bytes of its state in buffers of 16, 32 and 32 bytes
unfoldable pub type_q : Step (asked (calls.edit (calls.insert 0x71 1)))
unfolding format_for
type_q = record {
  lent = lending s0;
  answer = answer_of log_format (lending s0) (answered 0 0 0 s1);
  after = buffers_of (lending s1);
  lengths = record
      { text = refl; records = refl; texts = refl };
}

unfoldable pub begins : Step (asked (calls.log calls.begin))
unfolding format_for
begins = record {
  lent = lending s1;
  answer = logs.answer_of log_format (log_lent (lending s1)) (answered 0 1 0 s2.log);
  after = buffers_of
      (lending s2);
  lengths = record { text = refl; records = refl; texts = refl };
}

-- with the mark that begin answered; the log's buffers are lent to read
unfoldable pub cancels : Step (asked (calls.cancel begins.answer.from))
unfolding format_for
cancels = record {
  lent = lending s2;
  answer = answer_of log_format (lending s2) (answered 0 0 0 s1);
  after = buffers_of (lending s2);
  lengths = record
      { text = refl; records = refl; texts = refl };
}

unfoldable pub type_r : Step (asked (calls.edit (calls.insert 0x72 1)))
unfolding format_for
type_r = record {
  lent = lending s2;
  answer = answer_of log_format (lending s2) (answered 0 0 0 s5);
  after = buffers_of (lending s5);
  lengths = record
      { text = refl; records = refl; texts = refl };
}

unfoldable pub ends : Step (asked (calls.log calls.end))
unfolding format_for
ends = record {
  lent = lending s5;
  answer = logs.answer_of log_format (log_lent (lending s5)) (answered 0 0 0 s6.log);
  after = buffers_of
      (lending s6);
  lengths = record { text = refl; records = refl; texts = refl };
}

unfoldable pub undoes : Step (asked (calls.undo 1))
unfolding format_for
undoes =
    record {
      lent = lending s6;
      answer = answer_of log_format (lending s6) (answered 0 0 0 s7);
      after = record { text = (lending s7).text; records = (lending s6).records; texts = (lending s6).texts };
      lengths = record { text = refl; records = refl; texts = refl };
    }

abbrev story : List AnyStep
story =
    (asked (calls.edit (calls.insert 0x71 1)), type_q) ∷ (asked (calls.log calls.begin), begins) ∷ (asked (calls.cancel begins.answer.from), cancels) ∷
    (asked (calls.log calls.begin), begins) ∷ (asked (calls.edit (calls.insert 0x72 1)), type_r)
    ∷ (asked (calls.log calls.end), ends) ∷ (asked (calls.undo 1), undoes) ∷ []

-- what is handed on in buffers of the same lengths
pub handed : (a b : Lent) → b.line ≡ a.line → SameText a b → SameLog a b → length a.text ≡ 16 → length a.records ≡ 32 → length a.texts ≡ 32
    → length b.text ≡ 16 → length b.records ≡ 32
    → length b.texts ≡ 32 → HandedOn a b
unfolding format_for
handed a b x y z i j k l m n =
    record {
      line = x;
      text = y;
      log = z;
      no_smaller = record { text = omega arith; records = omega arith; texts = omega arith };
      sized = record { text = omega arith; records = omega arith; texts = omega arith };
    }

-- the story meets the conditions
ran : Run catalogue (lending s0) story
unfolding type_q begins cancels type_r ends undoes format_for Run within one two lead3 three lead4 four first_of first chars_from valid_from start_before
    scalar size encode is_member is_control is_mark is_alnum is_text is_char refusal size_of texts_at change_at whole_at decode_at note record_insert undo_records
    undo_texts all_numbers_fit fits end_all ends_any over_sizes damaged undos redos begin_out end_out splice text_after list_after too_long edited misfit exchanging
    undoing walk undo_out opens walk_to begins_down cancel_out below
ran = (
  handed (lending s0) type_q.lent refl (record { len = refl; bytes = refl }) (record { state = refl; records = refl; texts = refl }) refl refl refl refl refl refl,
  record { answer = refl; bytes = record { text = refl; log = record { records = refl; texts = refl } } },
  (
    handed (left (asked (calls.edit (calls.insert 0x71 1))) type_q) begins.lent refl (record { len = refl; bytes = refl })
        (record { state = refl; records = refl; texts = refl }) refl refl refl refl refl refl,
    (record { answer = refl; bytes = record { records = refl; texts = refl } }, refl),
    (
      handed (left (asked (calls.log calls.begin)) begins) cancels.lent refl (record { len = refl; bytes = refl })
          (record { state = refl; records = refl; texts = refl }) refl refl refl refl refl refl,
      (record { answer = refl; bytes = record { text = refl; log = record { records = refl; texts = refl } } }, refl, refl),
      (
        handed (left (asked (calls.cancel 1)) cancels) begins.lent refl (record { len = refl; bytes = refl })
            (record { state = refl; records = refl; texts = refl }) refl refl refl refl refl refl,
        (record { answer = refl; bytes = record { records = refl; texts = refl } }, refl),
        (
          handed (left (asked (calls.log calls.begin)) begins) type_r.lent refl (record { len = refl; bytes = refl })
              (record { state = refl; records = refl; texts = refl }) refl refl refl refl refl refl,
          record { answer = refl; bytes = record { text = refl; log = record { records = refl; texts = refl } } },
          (
            handed (left (asked (calls.edit (calls.insert 0x72 1))) type_r) ends.lent refl (record { len = refl; bytes = refl })
                (record { state = refl; records = refl; texts = refl }) refl refl refl refl refl refl,
            (record { answer = refl; bytes = record { records = refl; texts = refl } }, refl),
            (
              handed (left (asked (calls.log calls.end)) ends) undoes.lent refl (record { len = refl; bytes = refl })
                  (record { state = refl; records = refl; texts = refl }) refl refl refl refl refl refl,
              (record { answer = refl; bytes = record { text = refl; log = record { records = refl; texts = refl } } }, refl, refl),
              tt,
            ),
          ),
        ),
      ),
    ),
  ),
)

closed : Closed catalogue story []
unfolding Closed below type_q begins cancels type_r ends undoes
closed = (tt, (tt, (tt, (tt, (tt, (tt, (refl, refl)))))))

-- the first call is handed a text, a cursor and a log as 01 asks
starts : Starts catalogue (lending s0)
unfolding format_for refusal over_sizes damaged valid_from is_text decode_at chars_from
starts = record { log = refl; passes = refl }

-- so demand 3 holds of it
pub story_demand : Demand3 catalogue (lending s0) (left_by (lending s0) story)
story_demand = demand_3_catalogue (lending s0) starts story ran closed

-- ---- there is one unit: the list is not empty, and one undo call empties it
abbrev s8 : State
s8 = record { text = []; cursor = 0; log = record { undo = []; redo = edit (delete 0 (0x71 ∷ [])) ∷ end ∷ edit (delete 1 (0x72 ∷ [])) ∷ begin ∷ []; level = 0 } }

unfoldable pub last : Step (asked (calls.undo 1))
unfolding format_for
last =
    record {
      lent = lending s7;
      answer = answer_of log_format (lending s7) (answered 0 0 0 s8);
      after = record { text = (lending s8).text; records = (lending s7).records; texts = (lending s7).texts };
      lengths = record { text = refl; records = refl; texts = refl };
    }

last_ran : Run catalogue (left_by (lending s0) story) (ones (last ∷ []))
unfolding type_q begins cancels type_r ends undoes last format_for Run left_by within one two lead3 three lead4 four first_of first chars_from valid_from
    start_before scalar size encode is_member is_control is_mark is_alnum is_text is_char refusal size_of texts_at change_at whole_at decode_at note record_insert
    undo_records undo_texts all_numbers_fit fits end_all ends_any over_sizes damaged undos redos begin_out end_out splice text_after list_after too_long edited misfit
    exchanging undoing walk undo_out opens walk_to begins_down cancel_out below
last_ran = (
  handed (left (asked (calls.undo 1)) undoes) last.lent refl (record { len = refl; bytes = refl })
      (record { state = refl; records = refl; texts = refl }) refl refl refl refl refl refl,
  (record { answer = refl; bytes = record { text = refl; log = record { records = refl; texts = refl } } }, refl, refl),
  tt,
)

pub one_unit : story_demand.units ≡ 1
unfolding type_q begins cancels type_r ends undoes last format_for Run left_by
one_unit =
    let none = (story_demand.counted [] tt).1 in
    let one = (story_demand.counted (last ∷ []) last_ran).0 refl in
    by_le story_demand.units one (λ e. absurd (let z : ◌≡◌ {A = ℕ} 5 0 = ap (λ (x : Used). x.records) (none e) in omega arith))
  where
    by_le : (n : ℕ) → n ≤ 1 → (n ≤ 0 → ⊥) → n ≡ 1
    by_le zero h k = absurd (k (omega arith))
    by_le (suc n) h k = omega arith
