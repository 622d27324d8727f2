-- The answer and the bytes of an outcome: a refusal, and a log that the buffers hold. Assumes nothing.
use Prim.Native.Nat.{ℕ, ◌+◌}
use native.Mathlib.Omega.{arith}
use mathlib.Core.Path.{◌≡◌, refl, sym, ap, ap₂, subst, ◌∙◌}
use mathlib.Core.Bool.{true, false}
use mathlib.Core.List.{List, [], ◌++◌, map, reverse}
use lib.ListN.{length, take, length-append}
use lib.Seq.{length-take-le}
use Rattle.repertoire.specs.Repertoire.{Repertoire}
use Rattle.checks.specs.Outcome.{Outcome, refused, answered, called}
use Rattle.checks.specs.Refused.{number_of}
use Rattle.checks.specs.declared.Refused.{Refused}
use Rattle.log_model.specs.Change.{Change, turn}
use Rattle.formats.specs.declared.Format.{Format}
use Rattle.log_model.specs.Layout.{encode_records, encode_texts}
use Rattle.log_model.specs.Holds.{Holds}
use Rattle.log_model.specs.Groups as groups
use Rattle.log_model.specs.UndoBytes.{fits}
use Rattle.log_model.proofs.Holds.{records-append, texts-append}
use Rattle.log_state.specs.declared.Log.{Log}
use Rattle.log_state.specs.declared.LogAnswer.{LogAnswer}
use Rattle.log_state.specs.Outcomes.{record_out}
use Rattle.log_state.specs.Calls.{Lent, sizes_of, says, log_of, answer_of, Stored, Logged}
use Rattle.log_state.proofs.Refusals.{why_called, all_called}

-- the state of a log by its numbers
abbrev pub state : ℕ → ℕ → ℕ → ℕ → ℕ → Log
state a b c d v = record { undo = record { records = a; texts = b }; redo = record { records = c; texts = d }; level = v }

module _ (F : Format) (l : Lent) where
  -- a refusal: the state that came in, and not a byte changed
  pub refuses : (k : ℕ) → Logged F l (refused k) (says k l.log) l.records l.texts
  refuses k = record { answer = refl; bytes = record { records = refl; texts = refl } }

  -- a check refuses, or the checks pass
  pub refused_by : (why : Refused) (n : ℕ) (o : Outcome groups.Log) → number_of why ≡ n → Logged F l (called n o) (says (number_of why) l.log) l.records l.texts
  refused_by why n o e =
      subst (λ (x : Outcome groups.Log). Logged F l x (says (number_of why) l.log) l.records l.texts) (why_called o n why e) (refuses (number_of why))

  pub passed_by : (n : ℕ) (o : Outcome groups.Log) (r : LogAnswer) (rb tb : List ℕ) → 0 ≡ n → Logged F l o r rb tb → Logged F l (called n o) r rb tb
  passed_by n o r rb tb e = subst (λ (x : Outcome groups.Log). Logged F l x r rb tb) (all_called o n e)

  -- a call that writes nothing
  pub refused_says : (why : Refused) (n : ℕ) (o : Outcome groups.Log) → number_of why ≡ n → says (number_of why) l.log ≡ answer_of F l (called n o)
  refused_says why n o e = (refused_by why n o e).answer

  pub passed-says : (n : ℕ) (o : Outcome groups.Log) (r : LogAnswer) → 0 ≡ n → r ≡ answer_of F l o → r ≡ answer_of F l (called n o)
  passed-says n o r e q = q ∙ ap (answer_of F l) (all_called o n e)

  -- the answer as a function gave it
  pub answered_as : (o : Outcome groups.Log) (r r' : LogAnswer) (rb tb : List ℕ) → r ≡ r' → Logged F l o r' rb tb → Logged F l o r rb tb
  answered_as o r r' rb tb e q = record { answer = e ∙ q.answer; bytes = q.bytes }

  -- and the records as it left them
  pub ended_as : (o : Outcome groups.Log) (r r' : LogAnswer) (rb rb' tb : List ℕ) → r ≡ r' → rb ≡ rb' → Logged F l o r' rb' tb → Logged F l o r rb tb
  ended_as o r r' rb rb' tb e f q = rw f (answered_as o r r' rb' tb e q)

-- ---- a log that the buffers hold
module _ (R : Repertoire) (F : Format) (rb tb : List ℕ) (a b c d v : ℕ) (u r : List Change) (h : Holds R F rb tb a b c d (reverse u) (map turn r)) where
  long : a + c ≡ length (encode_records F (reverse u ++ map turn r))
  long = sym (length-take-le (a + c) rb h.room) ∙ ap length h.both.records

  long_texts : b + d ≡ length (encode_texts (reverse u ++ map turn r))
  long_texts = sym (length-take-le (b + d) tb h.space) ∙ ap length h.both.texts

  redo-records : c ≡ length (encode_records F (map turn r))
  redo-records = omega (arith, long, h.records, ap length (records-append F (reverse u) (map turn r)), length-append (encode_records F (reverse u)) (encode_records F (map turn r)))

  redo-texts : d ≡ length (encode_texts (map turn r))
  redo-texts = omega (arith, long_texts, h.texts, ap length (texts-append (reverse u) (map turn r)), length-append (encode_texts (reverse u)) (encode_texts (map turn r)))

  -- its state is its used lengths, and its bytes are in the used parts
  pub holds_state : state a b c d v ≡ log_of F (record { undo = u; redo = r; level = v })
  holds_state =
      ap₂ (λ (x y : ℕ). state x y c d v) h.records h.texts
      ∙ ap₂ (λ (x y : ℕ). state (length (encode_records F (reverse u))) (length (encode_texts (reverse u))) x y v) redo-records redo-texts

  pub holds_bytes : Stored F (record { undo = u; redo = r; level = v }) rb tb
  holds_bytes = record { records = ap (λ (n : ℕ). take n rb) (sym long) ∙ h.both.records; texts = ap (λ (n : ℕ). take n tb) (sym long_texts) ∙ h.both.texts }

  pub answers : (l : Lent) (k i j : ℕ) → Logged F l (answered k i j (record { undo = u; redo = r; level = v }))
      (record { number = k; from = i; to = j; log = state a b c d v }) rb tb
  answers l k i j = record { answer = ap (λ (g : Log). record { number = k; from = i; to = j; log = g }) holds_state; bytes = holds_bytes }

-- ---- a list that is recorded, or does not fit
module _ (R : Repertoire) (F : Format) (l : Lent) (u : List Change) (g : groups.Log) where
  pub log_full : fits F (sizes_of l) u ≡ false → Logged F l (record_out F (sizes_of l) u g) (says 10 l.log) l.records l.texts
  unfolding record_out
  log_full e = rw e (refuses F l 10)

  pub log_takes : (rb tb : List ℕ) (a b : ℕ) → fits F (sizes_of l) u ≡ true → Holds R F rb tb a b 0 0 (reverse u) []
      → Logged F l (record_out F (sizes_of l) u g) (says 0 (state a b 0 0 g.level)) rb tb
  unfolding record_out
  log_takes rb tb a b e h = rw e (answers R F rb tb a b 0 0 g.level u [] h l 0 0 0)

  -- the list said in another way
  pub recorded_as : (v : List Change) (r : LogAnswer) (rb tb : List ℕ) → u ≡ v → Logged F l (record_out F (sizes_of l) u g) r rb tb → Logged F l (record_out F (sizes_of l) v g) r rb tb
  recorded_as v r rb tb e q = subst (λ (w : List Change). Logged F l (record_out F (sizes_of l) w g) r rb tb) e q
