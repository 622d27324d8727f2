-- Keys among the calls of demand 3's list: a run with a typed key, a C-k and a C-_ that meets the conditions, and what the theorem gives for it. A key goes
-- with any ring: the first one is refused for its ring. Assumes nothing.
use mathlib.Core.Path.{◌≡◌, refl, ap}
use mathlib.Core.Bool.{true≢false}
use mathlib.Core.List.{List, [], ◌∷◌}
use Prim.Native.Nat.{ℕ}
use native.Mathlib.Omega.{arith}
use Rattle.numbers.specs.Numbers.{le}
use Rattle.utf8.specs.Utf8.{within, one, two, lead3, three, lead4, four, first_of, first}
use Rattle.utf8.specs.Chars.{chars_from, valid_from, start_before}
use Rattle.utf8.specs.Encode.{scalar, size, encode, encode_all}
use Rattle.repertoire.specs.Repertoire.{catalogue, is_member, is_control, is_mark, is_alnum}
use Rattle.repertoire.specs.Text.{is_text, is_char}
use Rattle.cluster.specs.Clusters.{joined, clusters}
use Rattle.motion_lines.specs.Lines.{before_newline, end_of_line}
use Rattle.checks.specs.Outcome.{refused, answered}
use Rattle.checks.specs.Checks.{refusal}
use Rattle.log_model.specs.Change.{Change, edit, insert, delete}
use Rattle.formats.specs.Formats.{format_for, log_format}
use Rattle.log_model.specs.Layout.{size_of, texts_at, change_at, whole_at, decode_at}
use Rattle.log_model.specs.Recording.{note, record_insert, record_delete}
use Rattle.log_model.specs.UndoBytes.{undo_records, undo_texts, all_numbers_fit, fits}
use Rattle.log_state.specs.Logs.{over_sizes, damaged}
use Rattle.log_state.specs.Calls.{undos, redos}
use Rattle.log_state.specs.declared.Log.{Log}
use Rattle.edit.specs.Plan.{State, splice, text_after, list_after, too_long, edited}
use Rattle.edit_kill.specs.Kills.{kill_line}
use Rattle.undo_step.specs.UndoStep.{misfit, exchanging, undoing}
use Rattle.undo.specs.Undo.{walk, undo_out}
use Rattle.kill_ring.specs.Ring as ring
use Rattle.kill_ring.specs.Calls as rings
use Rattle.kill_ring.specs.declared.Action.{Action}
use Rattle.kill_ring.specs.declared.Action.TheVariants.{Kill, Other}
use Rattle.key_press.specs.Keys.{with_digit, value, behind, is_counted, count_of, key_in, control, escaped, press_of, foreign_key}
use Rattle.key_model.specs.Keyed.{key_state, key_call}
use Rattle.key_model.specs.Contract.{key_answer}
use Rattle.session.specs.Calls.{key}
use Rattle.session.specs.Runs.{buffers_of, Step, AnyStep, left, Run, left_by, Closed}
use Rattle.session.specs.Demand3.{Starts, Demand3}
use Rattle.session.proofs.Played.{state, buffer, lending}
use Rattle.session.proofs.Demand3.{demand_3_catalogue}
use Rattle.session.proofs.Example.{handed}

-- "|ab": q is typed, twice since the first ring is damaged; C-k; C-_
abbrev q : Change
q = edit (insert 0 (0x71 ∷ []))

abbrev ab : List ℕ
ab = 0x61 ∷ 0x62 ∷ []

abbrev s0 : State
s0 = state ab 0 []

abbrev s1 : State
s1 = state (0x71 ∷ ab) 1 (q ∷ [])

abbrev s2 : State
s2 = state (0x71 ∷ []) 1 (edit (delete 1 ab) ∷ q ∷ [])

abbrev s3 : State
s3 = record { text = 0x71 ∷ ab; cursor = 3; log = record { undo = q ∷ []; redo = edit (insert 1 ab) ∷ []; level = 0 } }

-- ---- rings with room for one slot: none in use, and the one that C-k fills
abbrev empty : Action → ring.KillRing
empty a = record { size = 1; slots = []; index = 0; action = a }

abbrev filled : Action → ring.KillRing
filled a = record { size = 1; slots = ab ∷ []; index = 0; action = a }

abbrev before : rings.Lent
before = rings.lent (buffer 4096 []) (le 2 0) (rings.ring_of (empty Other))

abbrev behind_kill : rings.Lent
behind_kill = rings.lent (buffer 4096 ab) (le 2 2) (rings.ring_of (filled Kill))

-- a last action that is none: check 8
abbrev wrecked : rings.Lent
wrecked = rings.lent [] [] (record { size = 0; count = 0; index = 0; action = 3; yanked = 0 })

-- ---- the keys
abbrev typed : List ℕ
typed = 0x71 ∷ []

abbrev control_k : List ℕ
control_k = 0x0B ∷ []

abbrev control_underscore : List ℕ
control_underscore = 0x1F ∷ []

unfoldable pub refuses : Step (key typed wrecked)
unfolding format_for
refuses =
    record {
      lent = lending s0;
      answer = record { answer = key_answer log_format (lending s0) wrecked (refused 8); slots = []; lens = [] };
      after = buffers_of (lending s0);
      lengths = record { text = refl; records = refl; texts = refl };
    }

unfoldable pub types : Step (key typed before)
unfolding format_for
types =
    record {
      lent = lending s0;
      answer = record { answer = key_answer log_format (lending s0) before (answered 0 0 0 (key_state s1 (empty Other))); slots = before.slots; lens = before.lens };
      after = buffers_of (lending s1);
      lengths = record { text = refl; records = refl; texts = refl };
    }

unfoldable pub kills : Step (key control_k before)
unfolding format_for
kills =
    record {
      lent = lending s1;
      answer =
          record { answer = key_answer log_format (lending s1) before (answered 0 0 0 (key_state s2 (filled Kill))); slots = behind_kill.slots; lens = behind_kill.lens };
      after = buffers_of (lending s2);
      lengths = record { text = refl; records = refl; texts = refl };
    }

-- the log's buffers are as they were
unfoldable pub undoes : Step (key control_underscore behind_kill)
unfolding format_for
undoes =
    record {
      lent = lending s2;
      answer =
          record {
            answer = key_answer log_format (lending s2) behind_kill (answered 0 0 0 (key_state s3 (filled Other)));
            slots = behind_kill.slots;
            lens = behind_kill.lens;
          };
      after = record { text = (lending s3).text; records = (lending s2).records; texts = (lending s2).texts };
      lengths = record { text = refl; records = refl; texts = refl };
    }

abbrev story : List AnyStep
story = (key typed wrecked, refuses) ∷ (key typed before, types) ∷ (key control_k before, kills) ∷ (key control_underscore behind_kill, undoes) ∷ []

-- the story meets the conditions
ran : Run catalogue (lending s0) story
unfolding refuses types kills undoes format_for Run within one two lead3 three lead4 four first_of first chars_from valid_from start_before
    scalar size encode encode_all is_member is_control is_mark is_alnum is_text is_char refusal size_of texts_at change_at whole_at decode_at note record_insert
    record_delete undo_records undo_texts all_numbers_fit fits over_sizes damaged undos redos splice text_after list_after too_long edited misfit exchanging undoing
    walk undo_out ring.put_at ring.kill_out rings.slots_from rings.any_over rings.over_sizes rings.action_breaks rings.any_foreign rings.damaged rings.SlotsIn
    joined clusters before_newline end_of_line kill_line with_digit value behind is_counted count_of key_in control escaped press_of foreign_key key_call
ran = (
  handed (lending s0) refuses.lent refl (record { len = refl; bytes = refl }) (record { state = refl; records = refl; texts = refl }) refl refl refl refl refl refl,
  record {
    outcome = record { answer = refl; bytes = (record { text = refl; records = refl; texts = refl }, record { slots = refl; lens = refl }) };
    kept = record { text = λ e. refl; log = λ e. (refl, refl); ring = λ e. record { slots = refl; lens = refl }; still = λ n e g. refl };
  },
  (
    handed (left (key typed wrecked) refuses) types.lent refl (record { len = refl; bytes = refl })
        (record { state = refl; records = refl; texts = refl }) refl refl refl refl refl refl,
    record {
      outcome = record { answer = refl; bytes = (record { text = refl; log = record { records = refl; texts = refl } }, tt) };
      kept = record {
        text = λ e. absurd (true≢false e);
        log = λ e. absurd (true≢false e);
        ring = λ e. record { slots = refl; lens = refl };
        still = λ n e g. absurd (let z : ◌≡◌ {A = ℕ} 5 0 = ap (λ (x : Log). x.undo.records) g in omega arith);
      };
    },
    (
      handed (left (key typed before) types) kills.lent refl (record { len = refl; bytes = refl })
          (record { state = refl; records = refl; texts = refl }) refl refl refl refl refl refl,
      record {
        outcome = record { answer = refl; bytes = (record { text = refl; log = record { records = refl; texts = refl } }, (refl, refl, tt)) };
        kept = record {
          text = λ e. absurd (true≢false e);
          log = λ e. absurd (true≢false e);
          ring = λ e. absurd (true≢false e);
          still = λ n e g. absurd (let z : ◌≡◌ {A = ℕ} 10 5 = ap (λ (x : Log). x.undo.records) g in omega arith);
        };
      },
      (
        handed (left (key control_k before) kills) undoes.lent refl (record { len = refl; bytes = refl })
            (record { state = refl; records = refl; texts = refl }) refl refl refl refl refl refl,
        record {
          outcome = record { answer = refl; bytes = (record { text = refl; log = record { records = refl; texts = refl } }, (refl, refl, tt)) };
          kept = record {
            text = λ e. absurd (true≢false e);
            log = λ e. (refl, refl);
            ring = λ e. record { slots = refl; lens = refl };
            still = λ n e g. absurd (let z : ◌≡◌ {A = ℕ} 5 10 = ap (λ (x : Log). x.undo.records) g in omega arith);
          };
        },
        tt,
      ),
    ),
  ),
)

-- C-_ comes where no group is open
closed : Closed catalogue story []
unfolding Closed with_digit value behind is_counted count_of key_in control escaped press_of first first_of one is_char scalar within is_member
closed = (tt, (tt, (tt, (refl, refl))))

starts : Starts catalogue (lending s0)
unfolding format_for refusal over_sizes damaged valid_from is_text decode_at chars_from first first_of one is_member within
starts = record { log = refl; passes = refl }

-- so demand 3 holds of it
pub keys_demand : Demand3 catalogue (lending s0) (left_by (lending s0) story)
keys_demand = demand_3_catalogue (lending s0) starts story ran closed
