-- Order 1 of document 02: what a key's call on the line tests of its own. The yanks alone have such tests, of what the ring gives: 2 of a slot longer than
-- the text's buffer, 5 and 6 of the size of the yank before. Insert's test of its character always passes: a key types those of the repertoire alone.
use Rattle.std.specs.Prelude.{ℕ, zero, suc, ◌-◌, ◌≡◌, Bool, false, true, not, List, ltb}
use Rattle.utf8.specs.Chars.{boundary}
use Rattle.repertoire.specs.Repertoire.{Repertoire, catalogue}
use Rattle.repertoire.specs.Text.{is_char}
use Rattle.formats.specs.declared.Format.{Format}
use Rattle.checks.specs.Checks.{Tests, no_tests, both, own_tests}
use Rattle.checks.specs.Outcome.{Outcome, refused, answered}
use Rattle.checks.specs.declared.Line.{Line}
use Rattle.log_state.specs.declared.Log.{Log}
use Rattle.edit.specs.declared.Own.{Own}
use Rattle.edit.specs.Calls.{Lent, lent, text_of, own, checked}
use Rattle.edit_insert.specs.Inserts.{text_tests}
use Rattle.kill_ring.specs.Ring.{KillRing, slot_at, yank_out, yank_pop_out}
use Rattle.kill_ring.specs.Calls as rings
use Rattle.key_press.specs.declared.Press.{Press}
use Rattle.key_press.specs.declared.Press.TheVariants as p
use Rattle.key_press.specs.declared.EditKey.{EditKey}
use Rattle.key_press.specs.declared.EditKey.TheVariants as ek
use Rattle.key_model.specs.Stands.{KeyCalls, unbound, line, kill, yank, yank_pop}
use Rattle.key_model.specs.Keyed.{ring_now}

-- what is typed is a character of the repertoire
abbrev pub fit_key : Repertoire → EditKey → Bool
fit_key R (ek.Typed c n) = is_char R c
fit_key R (ek.Delete n) = true
fit_key R ek.TransposeChars = true
fit_key R (ek.TransposeWords n) = true
fit_key R ek.Capitalize = true
fit_key R ek.Lowercase = true
fit_key R ek.Uppercase = true

abbrev pub fit_press : Repertoire → Press → Bool
fit_press R p.Unbound = true
fit_press R (p.Move k) = true
fit_press R (p.Edit k) = fit_key R k
fit_press R (p.Undo n) = true
fit_press R (p.Kill k) = true
fit_press R (p.Yank n) = true
fit_press R p.YankPop = true

-- none where the ring gives no text
abbrev pub tests_given : Outcome KillRing → (ℕ → ℕ → KillRing → Tests) → Tests
tests_given (refused k) f = no_tests
tests_given (answered zero slot size r) f = f slot size r
tests_given (answered (suc k) slot size r) f = no_tests

module _ (R : Repertoire) (F : Format) (l : Lent) (g : rings.Lent) where
  abbrev pub yank_tests : ℕ → ℕ → KillRing → Tests
  yank_tests slot size r = text_tests R F l (slot_at r slot) false false

  abbrev pub pop_tests : ℕ → ℕ → KillRing → Tests
  pop_tests slot size r =
      text_tests R F l (slot_at r slot) (ltb l.line.cursor size) (not (boundary (text_of l) (l.line.cursor - size)))

  abbrev pub key_own : KeyCalls → Tests
  key_own unbound = no_tests
  key_own (line a) = no_tests
  key_own (kill x mvt mode) = no_tests
  key_own (yank n) = tests_given (yank_out (ring_now R F l g)) yank_tests
  key_own yank_pop = tests_given (yank_pop_out (ring_now R F l g)) pop_tests

-- o says what a key tests of its own, on the text t, beside whether it is foreign: in any format, with any log, its number is that of those tests
abbrev pub Tried : List ℕ → Line → rings.Lent → Bool → KeyCalls → Own → Type 0
Tried t lineLent g foreign x o =
    (F : Format) (rb tb : List ℕ) (log : Log) → checked catalogue F (lent t rb tb lineLent log) (own o)
    ≡ checked catalogue F (lent t rb tb lineLent log) (both (own_tests false foreign false) (key_own catalogue F (lent t rb tb lineLent log) g x))
