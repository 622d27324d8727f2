-- From the contract of each entry to what the next call is handed: the state that a call's outcome leaves stands in the bytes, the line and the log that it
-- left, and in those that the next call is lent. Assumes nothing.
use Prim.Native.Nat.{ℕ, zero, suc, ◌+◌, ◌≤◌}
use native.Mathlib.Omega.{arith}
use mathlib.Core.Path.{◌≡◌, refl, sym, ap, ap₂, subst, ◌∙◌}
use mathlib.Core.Bool.{false, cond}
use mathlib.Core.List.{List, [], ◌∷◌, map, reverse}
use mathlib.Core.Option.{Option, some, none}
use lib.Dec.{eqb, leb}
use lib.ListN.{length, take, length-append, length-reverse}
use Rattle.repertoire.specs.Repertoire.{Repertoire}
use Rattle.checks.specs.declared.Line.{Line}
use Rattle.checks.specs.declared.LineAnswer.{LineAnswer}
use Rattle.checks.specs.Answers.{line_answer}
use Rattle.checks.specs.Outcome.{Outcome, refused, answered, called, number_in, leaves}
use Rattle.log_model.specs.Change.{Change, turn}
use Rattle.formats.specs.declared.Format.{Format}
use Rattle.log_model.specs.Layout.{encode_records, encode_texts}
use Rattle.log_model.specs.Groups as groups
use Rattle.log_model.specs.UndoBytes.{Places, last_insert_at}
use Rattle.log_model.proofs.Decode.{records_many}
use Rattle.log_model.proofs.Holds.{records-append, texts-append}
use Rattle.log_state.specs.Calls as logs
use Rattle.log_state.specs.Outcomes.{places_out}
use Rattle.log_state.specs.declared.Log.{Log}
use Rattle.log_state.specs.declared.LogAnswer.{LogAnswer}
use Rattle.log_state.specs.declared.Used.{Used}
use Rattle.edit.specs.Plan.{State}
use Rattle.edit.specs.Calls.{Lent, lent, format_of, log_lent, text_of, state_of, answer_of, Stored, Edited}
use Rattle.edit.specs.declared.EditAnswer.{EditAnswer}
use Rattle.calls.specs.Calls as calls
use Rattle.calls.specs.Calls.{MoveCall, move_outcome, moved_by, log_outcome, logged_by}
use Rattle.calls.specs.CallContracts.{Buffers}
use Rattle.kill_ring.specs.Calls as rings
use Rattle.key_model.specs.declared.KeyAnswer.{KeyAnswer}
use Rattle.key_model.specs.Keyed.{KeyState, key_call, line_of}
use Rattle.key_model.specs.Contract.{KeyBuffers, KeyDone}
use Rattle.session.specs.Calls.{Call, asked, key}
use Rattle.session.specs.Runs.{Sized, buffers_of, Step, left, used_records, used_texts, SameText, SameLog, HandedOn, below, open_after}
use Rattle.session.specs.Demand3.{Emptied}
use Rattle.session.proofs.Values as values
use Rattle.session.proofs.Values.{Handed, lent_for, outcome_of, mark_in}
use Rattle.session.proofs.Formats.{MeetsIn}
use Rattle.session.proofs.Moves.{Within}

-- the state s stands in what was left
pub record Stands (F : Format) (s : State) (l : Lent) : Type 0 where
  pub stored : Stored F s l.text l.records l.texts
  pub line : l.line ≡ record { len = length s.text; cursor = s.cursor }
  pub log : l.log ≡ logs.log_of F s.log

-- ---- its bytes
-- the used lengths of both lists together
module _ (F : Format) (s : State) (g : Log) (e : g ≡ logs.log_of F s.log) where
  abbrev us : List Change
  us = reverse s.log.undo

  abbrev rs : List Change
  rs = map turn s.log.redo

  records-length : g.undo.records + g.redo.records ≡ length (encode_records F (logs.row F s.log))
  records-length = ap (λ (x : Log). x.undo.records + x.redo.records) e ∙ sym (ap length (records-append F us rs) ∙ length-append (encode_records F us) (encode_records F rs))

  texts-length : g.undo.texts + g.redo.texts ≡ length (encode_texts (logs.row F s.log))
  texts-length = ap (λ (x : Log). x.undo.texts + x.redo.texts) e ∙ sym (ap length (texts-append us rs) ∙ length-append (encode_texts us) (encode_texts rs))

module _ (F : Format) (s : State) (l : Lent) (h : Stands F s l) where
  pub text-is : text_of l ≡ s.text
  text-is = ap (λ (x : Line). take x.len l.text) h.line ∙ h.stored.text

  pub records_are : used_records l ≡ encode_records F (logs.row F s.log)
  records_are = ap (λ (n : ℕ). take n l.records) (records-length F s l.log h.log) ∙ h.stored.log.records

  pub texts_are : used_texts l ≡ encode_texts (logs.row F s.log)
  texts_are = ap (λ (n : ℕ). take n l.texts) (texts-length F s l.log h.log) ∙ h.stored.log.texts

  -- with no record in the undo list its used lengths are 0
  pub none_emptied : s.log.undo ≡ [] → Emptied l
  none_emptied e = ap (λ (g : Log). g.undo) h.log ∙ ap (λ (u : List Change). logs.used_by F (reverse u)) e

  -- and the other way round
  pub emptied_none : Emptied l → s.log.undo ≡ []
  emptied_none e =
      no_change s.log.undo
      (omega (arith, ap (λ (g : Log). g.undo.records) h.log, ap (λ (x : Used). x.records) e, records_many F (reverse s.log.undo), length-reverse s.log.undo))
    where
      no_change : (u : List Change) → length u ≤ 0 → u ≡ []
      no_change [] k = refl
      no_change (c ∷ u) k = absurd (omega arith)

-- the same text stands in the same bytes
pub same_text : (F : Format) (s s' : State) (a b : Lent) → Stands F s a → Stands F s' b → s'.text ≡ s.text → SameText a b
same_text F s s' a b h k e =
    record {
      len = ap (λ (x : Line). x.len) k.line ∙ ap length e ∙ sym (ap (λ (x : Line). x.len) h.line);
      bytes = text-is F s' b k ∙ e ∙ sym (text-is F s a h);
    }

-- and so does the same log
pub same_log : (F : Format) (s s' : State) (a b : Lent) → Stands F s a → Stands F s' b → s'.log ≡ s.log → SameLog a b
same_log F s s' a b h k e =
    record {
      state = k.log ∙ ap (logs.log_of F) e ∙ sym h.log;
      records = records_are F s' b k ∙ ap (λ (g : groups.Log). encode_records F (logs.row F g)) e ∙ sym (records_are F s a h);
      texts = texts_are F s' b k ∙ ap (λ (g : groups.Log). encode_texts (logs.row F g)) e ∙ sym (texts_are F s a h);
    }

-- ---- what is handed on
module _ (F : Format) (one : (l : Lent) → format_of l ≡ F) (s : State) (a b : Lent) (h : Stands F s a) (k : HandedOn a b) where
  -- the state stands in it too
  pub handed_stands : Stands F s b
  handed_stands =
      let line = k.line ∙ h.line in
      let log = k.log.state ∙ h.log in
      record {
        stored =
            record {
              text = sym (ap (λ (x : Line). take x.len b.text) line) ∙ k.text.bytes ∙ text-is F s a h;
              log =
                  record {
                    records = sym (ap (λ (n : ℕ). take n b.records) (records-length F s b.log log)) ∙ k.log.records ∙ records_are F s a h;
                    texts = sym (ap (λ (n : ℕ). take n b.texts) (texts-length F s b.log log)) ∙ k.log.texts ∙ texts_are F s a h;
                  };
            };
        line = line;
        log = log;
      }

  -- it is what a list of calls on values hands on
  pub handed_is : b ≡ lent_for F s (buffers_of b)
  handed_is = ap₂ (λ (x : Line) (g : Log). lent b.text b.records b.texts x g) handed_stands.line handed_stands.log

  pub handed_on : Handed F (buffers_of a) s (buffers_of b)
  handed_on = record { stored = handed_stands.stored; no_smaller = k.no_smaller; sized = subst (λ (G : Format). Sized G (buffers_of b)) (one b) k.sized }

-- ---- what a call leaves
module _ (R : Repertoire) (F : Format) (s : State) (l : Lent) (h : Stands F s l) where
  -- an edit, undo, redo, cancel
  edited-leaves : (o : Outcome State) (r : EditAnswer) (t rb tb : List ℕ) → Edited F l o r t rb tb → Stands F (leaves o s) (lent t rb tb r.line r.log)
  edited-leaves (refused k) r t rb tb e =
      record {
        stored = rw (e.bytes.text, e.bytes.records, e.bytes.texts) h.stored;
        line = ap (λ (a : EditAnswer). a.line) e.answer ∙ h.line;
        log = ap (λ (a : EditAnswer). a.log) e.answer ∙ h.log;
      }
  edited-leaves (answered k p q s') r t rb tb e =
      record { stored = e.bytes; line = ap (λ (a : EditAnswer). a.line) e.answer; log = ap (λ (a : EditAnswer). a.log) e.answer }

  -- a key
  keyed_leaves : (ring : rings.Lent) (o : Outcome KeyState) (r : KeyAnswer) (b : KeyBuffers) → KeyDone F l ring o r b
      → Stands F (leaves (line_of o) s) (lent b.text b.records b.texts r.line r.log)
  keyed_leaves ring (refused k) r b e =
      record {
        stored = rw (e.bytes.0.text, e.bytes.0.records, e.bytes.0.texts) h.stored;
        line = ap (λ (a : KeyAnswer). a.line) e.answer ∙ h.line;
        log = ap (λ (a : KeyAnswer). a.log) e.answer ∙ h.log;
      }
  keyed_leaves ring (answered k p q v) r b e =
      record { stored = e.bytes.0; line = ap (λ (a : KeyAnswer). a.line) e.answer; log = ap (λ (a : KeyAnswer). a.log) e.answer }

  -- begin, end: the text's buffer is not lent
  logged_leaves : (o : Outcome groups.Log) (r : LogAnswer) (rb tb : List ℕ) → logs.Logged F (log_lent l) o r rb tb
      → Stands F (leaves (logged_by R F l o) s) (lent l.text rb tb l.line r.log)
  logged_leaves (refused k) r rb tb e =
      record {
        stored = rw (e.bytes.records, e.bytes.texts) h.stored;
        line = h.line;
        log = ap (λ (a : LogAnswer). a.log) e.answer ∙ h.log;
      }
  logged_leaves (answered k p q g) r rb tb e =
      let t = text-is F s l h in
      record {
        stored = record { text = subst (λ (x : List ℕ). take (length x) l.text ≡ x) (sym t) h.stored.text; log = e.bytes };
        line = ap (λ (n : ℕ). record { len = n; cursor = l.line.cursor }) (ap (λ (x : Line). x.len) h.line ∙ ap length (sym t));
        log = ap (λ (a : LogAnswer). a.log) e.answer;
      }

  module _ (is : state_of R F l ≡ s) where
    -- a movement: the cursor alone is another, and a refusal changes nothing
    moved-leaves : (o : Outcome Line) → Within l o → Stands F (leaves (moved_by R F l o) s) (lent l.text l.records l.texts (line_answer l.line o).line l.log)
    moved-leaves (refused k) w = record { stored = h.stored; line = h.line; log = h.log }
    moved-leaves (answered k p q x) w =
        subst (λ (y : State). Stands F (record { text = y.text; cursor = x.cursor; log = y.log }) (lent l.text l.records l.texts x l.log)) (sym is)
        (record {
          stored = record { text = h.stored.text; log = h.stored.log };
          line = ap (λ (n : ℕ). record { len = n; cursor = x.cursor }) (w.len ∙ ap (λ (y : Line). y.len) h.line);
          log = h.log;
        })

    -- last_insert: the log's buffers are lent to read
    read-leaves : (o : Outcome groups.Log) → leaves o (state_of R F l).log ≡ (state_of R F l).log → logs.Bytes F (log_lent l) o l.records l.texts
    read-leaves (refused k) e = record { records = refl; texts = refl }
    read-leaves (answered k p q g) e = subst (λ (x : groups.Log). logs.Stored F x l.records l.texts) (sym (e ∙ ap (λ (x : State). x.log) is)) h.stored.log

-- last_insert leaves the log as it was
inserted-leaves : (n : ℕ) (p : Option Places) (g : groups.Log) → leaves (called n (places_out p g)) g ≡ g
inserted-leaves zero none g = refl
inserted-leaves zero (some p) g = refl
inserted-leaves (suc n) p g = refl

module _ (R : Repertoire) (F : Format) where
  -- in buffers that are as they were
  same-stands : (s : State) (l : Lent) (t rb tb : List ℕ) (x : Line) (g : Log) → t ≡ l.text → rb ≡ l.records → tb ≡ l.texts
      → Stands F s (lent l.text l.records l.texts x g) → Stands F s (lent t rb tb x g)
  same-stands s l t rb tb x g p q r h = rw (p, q, r) h

  text_same : (s : State) (l : Lent) (t rb tb : List ℕ) (x : Line) (g : Log) → t ≡ l.text → Stands F s (lent l.text rb tb x g) → Stands F s (lent t rb tb x g)
  text_same s l t rb tb x g p h = rw p h

  -- undo, redo, cancel: the log's buffers are lent to read
  pub walked_leaves : (s s' : State) (l : Lent) (o : Outcome State) (r : EditAnswer) (b : Buffers) → Stands F s l
      → Edited F l o r b.text l.records l.texts × (b.records ≡ l.records) × (b.texts ≡ l.texts) → leaves o s ≡ s'
      → Stands F s' (lent b.text b.records b.texts r.line r.log)
  walked_leaves s s' l o r b h m e = rw (m.1, m.2) (subst (λ (x : State). Stands F x (lent b.text l.records l.texts r.line r.log)) e
      (edited-leaves R F s l h o r b.text l.records l.texts m.0))

  -- every call: what its outcome leaves stands in what it left
  pub step_leaves : (s : State) (c : Call) (x : Step c) → Stands F s x.lent → state_of R F x.lent ≡ s
      → ((y : MoveCall) → Within x.lent (move_outcome R x.lent.text x.lent.line y)) → MeetsIn R F c x.lent x.answer x.after
      → Stands F (leaves (outcome_of R F x.lent c) s) (left c x)
  step_leaves s (asked (calls.edit y)) x h is w m = edited-leaves R F s x.lent h _ x.answer _ _ _ m
  step_leaves s (asked (calls.move y)) x h is w m =
      let o = move_outcome R x.lent.text x.lent.line y in
      same-stands _ x.lent _ _ _ _ _ m.1.text m.1.records m.1.texts
      (subst (λ (a : LineAnswer). Stands F (leaves (moved_by R F x.lent o) s) (lent x.lent.text x.lent.records x.lent.texts a.line x.lent.log)) (sym m.0)
      (moved-leaves R F s x.lent h is o (w y)))
  step_leaves s (asked (calls.log calls.begin)) x h is w m = text_same _ x.lent _ _ _ _ _ m.1 (logged_leaves R F s x.lent h _ x.answer _ _ m.0)
  step_leaves s (asked (calls.log calls.end)) x h is w m = text_same _ x.lent _ _ _ _ _ m.1 (logged_leaves R F s x.lent h _ x.answer _ _ m.0)
  step_leaves s (asked (calls.log calls.last_insert)) x h is w m =
      let l = x.lent in
      let n = logs.checked R F (log_lent l) false in
      same-stands _ l _ _ _ _ _ m.1.text m.1.records m.1.texts
      (logged_leaves R F s l h (log_outcome R F (log_lent l) calls.last_insert) x.answer l.records l.texts
      (record {
        answer = m.0;
        bytes = read-leaves R F s l h is (log_outcome R F (log_lent l) calls.last_insert)
            (inserted-leaves n (last_insert_at (state_of R F l).log.undo) (state_of R F l).log);
      }))
  step_leaves s (asked (calls.undo n)) x h is w m = walked_leaves s _ x.lent _ x.answer x.after h m refl
  step_leaves s (asked (calls.redo n)) x h is w m = walked_leaves s _ x.lent _ x.answer x.after h m refl
  step_leaves s (asked (calls.cancel n)) x h is w m = walked_leaves s _ x.lent _ x.answer x.after h m refl
  step_leaves s (key k ring) x h is w m = keyed_leaves R F s x.lent h ring (key_call R F x.lent ring k) x.answer.answer _ m.outcome

  -- ---- the groups that are open then, by the answers and by the outcomes
  log-number : (l : Lent) (o : Outcome groups.Log) → (logs.answer_of F (log_lent l) o).number ≡ number_in (logged_by R F l o)
  log-number l (refused k) = refl
  log-number l (answered k p q g) = refl

  log-mark : (l : Lent) (o : Outcome groups.Log) → (logs.answer_of F (log_lent l) o).from ≡ mark_in (logged_by R F l o)
  log-mark l (refused k) = refl
  log-mark l (answered k p q g) = refl

  pub edit-number : (l : Lent) (o : Outcome State) → (answer_of F l o).number ≡ number_in o
  edit-number l (refused k) = refl
  edit-number l (answered k p q g) = refl

  pub opened : (c : Call) (x : Step c) (g : List ℕ) → MeetsIn R F c x.lent x.answer x.after → open_after c x g ≡ values.open_after c (outcome_of R F x.lent c) g
  opened (asked (calls.edit y)) x g m = refl
  opened (asked (calls.move y)) x g m = refl
  opened (asked (calls.log calls.begin)) x g m =
      let o = log_outcome R F (log_lent x.lent) calls.begin in
      ap₂ (λ (k i : ℕ). cond (leb k 1) (i ∷ g) g) (ap (λ (r : LogAnswer). r.number) m.0.answer ∙ log-number x.lent o)
      (ap (λ (r : LogAnswer). r.from) m.0.answer ∙ log-mark x.lent o)
  opened (asked (calls.log calls.end)) x g m =
      let o = log_outcome R F (log_lent x.lent) calls.end in
      ap (λ (k : ℕ). cond (leb k 1) [] g) (ap (λ (r : LogAnswer). r.number) m.0.answer ∙ log-number x.lent o)
  opened (asked (calls.log calls.last_insert)) x g m = refl
  opened (asked (calls.undo n)) x g m = refl
  opened (asked (calls.redo n)) x g m = refl
  opened (asked (calls.cancel n)) x g m =
      let o = outcome_of R F x.lent (asked (calls.cancel n)) in
      ap (λ (k : ℕ). cond (eqb k 0) (below n g) g) (ap (λ (r : EditAnswer). r.number) m.0.answer ∙ edit-number x.lent o)
  opened (key k ring) x g m = refl
