-- A key that kills: what it does is the cut of its movement's range and the ring's kill of it, or nothing. Assumes nothing.
use Prim.Native.Nat.{ℕ}
use mathlib.Core.Path.{◌≡◌, refl, sym, ap, ap₂, subst, ◌∙◌}
use mathlib.Core.Bool.{Bool, true, false, cond, true≢false}
use mathlib.Core.List.{[], ◌∷◌}
use lib.Dec.{eqb}
use lib.ListN.{length}
use borrow.Author.Tests.{eq-eqb}
use Rattle.std.specs.Prelude.{Option, None}
use Rattle.lists.specs.Lists.{part}
use Rattle.repertoire.specs.Repertoire.{catalogue}
use Rattle.keymap.specs.Codes.{word_list, at_list, movements}
use Rattle.formats.specs.declared.Format.{Format}
use Rattle.checks.specs.Checks.{no_tests}
use Rattle.checks.specs.Outcome.{Outcome, refused, answered, called}
use Rattle.edit.specs.declared.EditAnswer.{EditAnswer}
use Rattle.edit.specs.Plan.{State, cutting, list_after, too_long, edited}
use Rattle.edit.specs.Calls.{Lent, text_of, sizes_of, state_of, checked, says, Edited}
use Rattle.edit.proofs.Answers.{stays}
use Rattle.edit_kill.specs.Kills.{cut_plan, kill_range}
use Rattle.log_model.specs.UndoBytes.{fits}
use Rattle.kill_ring.specs.declared.Mode.{Mode}
use Rattle.kill_ring.specs.Ring.{KillRing, kill_out}
use Rattle.kill_ring.specs.Calls as rings
use Rattle.kill_ring.proofs.Passed.{passed}
use Rattle.kill_ring.proofs.Kills.{ready-slots}
use Rattle.kill_ring.proofs.Value.{ring_back}
use Rattle.key_press.specs.declared.KillKey.{KillKey}
use Rattle.key_press.specs.declared.KillKey.TheVariants as kk
use Rattle.calls.specs.Calls.{edit_outcome}
use Rattle.key_model.specs.declared.KeyAnswer.{KeyAnswer}
use Rattle.key_model.specs.Stands.{KeyCalls, unbound, line, kill, yank, yank_pop, kill_for, movement_for, mode_for, kill_by}
use Rattle.key_model.specs.Keyed.{KeyState, together, killed_to, done}
use Rattle.key_model.specs.Contract.{with_ring, KeyBuffers, key_buffers, RingSame, KeyDone, Kept, Passed, Does}
use Rattle.motion_lines.specs.declared.Span.{Span}
use Rattle.motion_lines.specs.Lines.{places}

-- ---- a key that kills is answered 0 where it is answered by a cut
abbrev Zero : {S : Type 0} → Outcome S → Type 0
Zero (refused k) = Unit {0}
Zero (answered k a b s) = k ≡ 0

either_zero : (b c : Bool) (s : State) → Zero (cond b (refused 9) (cond c (answered 0 0 0 s) (refused 10)))
either_zero true c s = tt
either_zero false true s = refl
either_zero false false s = tt

together-zero : (o : Outcome State) (q : Outcome KillRing) → Zero o → Zero (together o q)
together-zero (refused j) (refused k) z = tt
together-zero (refused j) (answered k a b r) z = tt
together-zero (answered k a b s) (refused j) z = tt
together-zero (answered k a b s) (answered k' a' b' r) z = z

-- so the ring is as it was where it is not
ring-same : (F : Format) (l : Lent) (g : rings.Lent) (o : Outcome KeyState) {r : KeyAnswer} {b : KeyBuffers} → Zero o → KeyDone F l g o r b
    → eqb r.number 0 ≡ false → RingSame g b
ring-same F l g (refused k) z d e = d.bytes.1
ring-same F l g (answered k i j h) {r} z d e =
    absurd (true≢false (sym (eq-eqb r.number 0 (ap (λ (x : KeyAnswer). x.number) d.answer ∙ z)) ∙ e))

-- ---- a kill is no call that undoes
abbrev is_line : KeyCalls → Bool
is_line unbound = false
is_line (line a) = true
is_line (kill x mvt mode) = false
is_line (yank n) = false
is_line yank_pop = false

module _ (F : Format) (l : Lent) (g : rings.Lent) (k : KillKey) (last : ℕ) (p : Passed F l g (kill_by k) last) where
  abbrev range : Option Span
  range = kill_range catalogue (text_of l) l.line.cursor (movement_for k)

  -- what the line's call comes to, by the range
  abbrev cuts : Option Span → Outcome State
  cuts r = edited catalogue F (sizes_of l) (length l.text) (cut_plan l.line.cursor r) (state_of catalogue F l)

  by_range : (k : KillKey) → edit_outcome catalogue F l (kill_for k)
      ≡ called (checked catalogue F l no_tests) (edited catalogue F (sizes_of l) (length l.text)
      (cut_plan l.line.cursor (kill_range catalogue (text_of l) l.line.cursor (movement_for k))) (state_of catalogue F l))
  unfolding word_list at_list movements
  by_range kk.Line = refl
  by_range kk.Discard = refl
  by_range (kk.PrevWord n) = refl
  by_range (kk.Word n) = refl

  done_by : (r : Option Span) → range ≡ r → done catalogue F l g (kill_by k) ≡ together (cuts r) (killed_to catalogue F l g r (mode_for k))
  done_by r e =
      ap₂ together (by_range k ∙ ap (λ (c : ℕ). called c (cuts range)) p.line ∙ ap cuts e) (ap (λ (x : Option Span). killed_to catalogue F l g x (mode_for k)) e)

  kept : {r : KeyAnswer} {b : KeyBuffers} → (eqb r.number 0 ≡ false → RingSame g b) → Kept catalogue F l g (kill_by k) r b
  kept h =
      record {
        text = λ e. absurd (true≢false e);
        log = λ e. absurd (true≢false e);
        ring = h;
        still = λ n e. absurd (true≢false (sym (ap is_line e)));
      }

  -- a range: it is cut, and goes to the ring
  pub kill_does : (a b : ℕ) → range ≡ places a b → (m : Mode) → m ≡ mode_for k → {r : KeyAnswer} {z : KeyBuffers}
      → KeyDone F l g (together (cuts (places a b)) (kill_out m (part (text_of l) a b) (rings.value_of g))) r z → Does F l g (kill_by k) r z
  unfolding edited
  kill_does a b e m i {r} {z} d =
      record {
        outcome =
            subst (λ (o : Outcome KeyState). KeyDone F l g o r z)
            (ap (λ (x : Mode). together (cuts (places a b)) (kill_out x (part (text_of l) a b) (rings.value_of g))) i ∙ sym (done_by (places a b) e)) d;
        kept =
            kept
            (ring-same F l g (together (cuts (places a b)) (kill_out m (part (text_of l) a b) (rings.value_of g)))
            (together-zero (cuts (places a b)) (kill_out m (part (text_of l) a b) (rings.value_of g))
            (either_zero (too_long (length l.text) (cutting a b ∷ []) (text_of l))
            (fits F (sizes_of l) (list_after catalogue (cutting a b ∷ []) (text_of l) (state_of catalogue F l).log.undo)) _)) d);
      }

  -- none: 1, with all as it was
  pub nothing_does : range ≡ None → {r : KeyAnswer} → r ≡ with_ring (says 1 l.line l.log) g.ring
      → Does F l g (kill_by k) r (key_buffers l.text l.records l.texts g.slots g.lens)
  nothing_does e {r} f =
      record {
        outcome =
            subst (λ (o : Outcome KeyState). KeyDone F l g o r (key_buffers l.text l.records l.texts g.slots g.lens))
            (sym (done_by None e)) (with-ring (cuts None) (stays F l p.ready (says 1 l.line l.log) refl));
        kept = kept (λ z. record { slots = refl; lens = refl });
      }
    where
      with-ring : (o : Outcome State) → Edited F l o (says 1 l.line l.log) l.text l.records l.texts
          → KeyDone F l g (together o (answered 1 0 0 (rings.value_of g))) r (key_buffers l.text l.records l.texts g.slots g.lens)
      with-ring (refused j) x =
          record {
            answer = f ∙ ap (λ (a : EditAnswer). with_ring a g.ring) x.answer;
            bytes = (x.bytes, record { slots = refl; lens = refl });
          }
      with-ring (answered j i i' s) x =
          let w = passed catalogue g false false p.ring in
          record {
            answer = f ∙ ap₂ with_ring x.answer (sym (ring_back catalogue g w));
            bytes = (x.bytes, ready-slots catalogue g w);
          }
