-- The contract of a key: the whole answer, the bytes of the five buffers, and which of them are as they were, past their used lengths too.
use Rattle.std.specs.Prelude.{ℕ, ◌≡◌, Bool, true, false, List, eqb, length, take}
use Rattle.std.proofs.Math.Option.{Option, some, none}
use Rattle.repertoire.specs.Repertoire.{Repertoire, catalogue}
use Rattle.formats.specs.declared.Format.{Format}
use Rattle.checks.specs.Outcome.{Outcome, refused, answered}
use Rattle.log_state.specs.Calls.{log_of}
use Rattle.edit.specs.declared.EditAnswer.{EditAnswer}
use Rattle.log_records.specs.Walks.{LastAt}
use Rattle.edit.specs.Calls.{Lent, format_of, checked, Ready, Same, Stored}
use Rattle.kill_ring.specs.declared.Ring.{Ring}
use Rattle.kill_ring.specs.Calls as rings
use Rattle.key_press.specs.Keys.{press_of}
use Rattle.calls.specs.Calls.{Asked, edit, move, log, undo, redo, cancel}
use Rattle.key_model.specs.declared.KeyAnswer.{KeyAnswer}
use Rattle.key_model.specs.Stands.{KeyCalls, unbound, line, kill, yank, yank_pop, stands_for}
use Rattle.key_model.specs.Keyed.{KeyState, done, key_call, on_line}
use Rattle.key_model.specs.Own.{key_own}

-- ---- the answer of an outcome
-- that of the call on the line, and a ring
abbrev pub with_ring : EditAnswer → Ring → KeyAnswer
with_ring a r = record { number = a.number; from = a.from; to = a.to; line = a.line; log = a.log; ring = r }

abbrev pub key_answer : Format → Lent → rings.Lent → Outcome KeyState → KeyAnswer
key_answer F l g (refused k) = record { number = k; from = 0; to = 0; line = l.line; log = l.log; ring = g.ring }
key_answer F l g (answered k a b h) =
    record {
      number = k;
      from = a;
      to = b;
      line = record { len = length h.state.text; cursor = h.state.cursor };
      log = log_of F h.state.log;
      ring = rings.ring_of h.ring;
    }

-- ---- the bytes of the buffers afterwards
pub record KeyBuffers : Type 0 where
  pub text : List ℕ
  pub records : List ℕ
  pub texts : List ℕ
  pub slots : List ℕ
  pub lens : List ℕ

abbrev pub key_buffers : List ℕ → List ℕ → List ℕ → List ℕ → List ℕ → KeyBuffers
key_buffers t rb tb slots lens = record { text = t; records = rb; texts = tb; slots = slots; lens = lens }

pub record RingSame (g : rings.Lent) (b : KeyBuffers) : Type 0 where
  pub slots : b.slots ≡ g.slots
  pub lens : b.lens ≡ g.lens

-- a refusal changes no byte; else the used parts are the bytes of text, log and ring
abbrev pub KeyBytes : Format → Lent → rings.Lent → Outcome KeyState → KeyBuffers → Type 0
KeyBytes F l g (refused k) b = Same l b.text b.records b.texts × RingSame g b
KeyBytes F l g (answered k a c h) b = Stored F h.state b.text b.records b.texts × rings.SlotsIn b.slots b.lens 0 h.ring.slots

pub record KeyDone (F : Format) (l : Lent) (g : rings.Lent) (o : Outcome KeyState) (r : KeyAnswer) (b : KeyBuffers) : Type 0 where
  pub answer : r ≡ key_answer F l g o
  pub bytes : KeyBytes F l g o b

-- ---- a buffer that none of the key's calls writes is as it was: an edit writes text and log, undo the text alone, a movement nothing; a kill answered 0 the
-- ring's two
abbrev pub writes_text : Option Asked → Bool
writes_text none = false
writes_text (some (edit x)) = true
writes_text (some (move x)) = false
writes_text (some (log x)) = false
writes_text (some (undo n)) = true
writes_text (some (redo n)) = true
writes_text (some (cancel mark)) = true

abbrev pub writes_log : Option Asked → Bool
writes_log none = false
writes_log (some (edit x)) = true
writes_log (some (move x)) = false
writes_log (some (log x)) = true
writes_log (some (undo n)) = false
writes_log (some (redo n)) = false
writes_log (some (cancel mark)) = false

abbrev pub writes_ring : KeyCalls → ℕ → Bool
writes_ring unbound k = false
writes_ring (line a) k = false
writes_ring (kill x mvt mode) k = eqb k 0
writes_ring (yank n) k = false
writes_ring yank_pop k = false

module _ (R : Repertoire) (F : Format) (l : Lent) (g : rings.Lent) (x : KeyCalls) where
  pub record Kept (r : KeyAnswer) (b : KeyBuffers) : Type 0 where
    pub text : writes_text (on_line R F l g x) ≡ false → b.text ≡ l.text
    pub log : writes_log (on_line R F l g x) ≡ false → (b.records ≡ l.records) × (b.texts ≡ l.texts)
    pub ring : writes_ring x r.number ≡ false → RingSame g b
    -- an undo that leaves the log as it was handled no record
    pub still : (n : ℕ) → x ≡ line (undo n) → r.log ≡ l.log → b.text ≡ l.text

  pub record Keyed (o : Outcome KeyState) (r : KeyAnswer) (b : KeyBuffers) : Type 0 where
    pub outcome : KeyDone F l g o r b
    pub kept : Kept r b

-- of a key's bytes, in the format that goes with the text buffer that is lent
abbrev pub Presses : Repertoire → List ℕ → Lent → rings.Lent → KeyAnswer → KeyBuffers → Type 0
Presses R s l g r b = Keyed R (format_of l) l g (stands_for (press_of R s)) (key_call R (format_of l) l g s) r b

-- ---- of one kind of key: what holds where all checks have passed, the newest record begins at `last`; and what it does then
pub record Passed (F : Format) (l : Lent) (g : rings.Lent) (x : KeyCalls) (last : ℕ) : Type 0 where
  pub format : F ≡ format_of l
  pub line : checked catalogue F l (key_own catalogue F l g x) ≡ 0
  pub ready : Ready F l
  pub newest : LastAt catalogue F (take l.log.undo.records l.records) last
  pub ring : rings.checked catalogue g false false ≡ 0

abbrev pub Does : Format → Lent → rings.Lent → KeyCalls → KeyAnswer → KeyBuffers → Type 0
Does F l g x r b = Keyed catalogue F l g x (done catalogue F l g x) r b
