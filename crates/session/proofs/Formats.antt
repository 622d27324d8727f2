-- Today one format goes with every text buffer, so that a run has one: what its calls meet, each in the format of its buffers, they meet in that one.
-- Assumes nothing.
use mathlib.Core.Path.{◌≡◌, refl, subst}
use mathlib.Core.Bool.{false}
use mathlib.Core.List.{List, [], ◌∷◌}
use lib.ListN.{length}
use Rattle.formats.specs.declared.Format.{Format}
use Rattle.formats.specs.Formats.{log_format}
use Rattle.formats.proofs.Formats.{format-same}
use Rattle.repertoire.specs.Repertoire.{Repertoire}
use Rattle.checks.specs.Checks.{own_tests}
use Rattle.edit.specs.Calls.{Lent, format_of, checked}
use Rattle.calls.specs.Calls.{Asked, edit, move, log, undo, redo, cancel}
use Rattle.calls.specs.CallContracts as contracts
use Rattle.calls.specs.CallContracts.{Buffers, format_in}
use Rattle.key_press.specs.Keys.{press_of}
use Rattle.key_model.specs.Stands.{stands_for}
use Rattle.key_model.specs.Keyed.{key_call}
use Rattle.key_model.specs.Contract.{key_buffers, Keyed}
use Rattle.session.specs.Calls.{Call, asked, key, AnswerTo, Meets}
use Rattle.session.specs.Runs.{Sized, buffers_of, AnyStep, left, HandedOn, Run}
use Rattle.session.specs.Demand3.{Starts}

pub one_format : (l : Lent) → format_of l ≡ log_format
one_format l = format-same (length l.text) 0

of_call : (a : Asked) (l : Lent) → format_in a l ≡ log_format
of_call (edit x) l = one_format l
of_call (move x) l = one_format l
of_call (log x) l = refl
of_call (undo n) l = one_format l
of_call (redo n) l = one_format l
of_call (cancel m) l = one_format l

pub sized_in : (l : Lent) → Sized (format_of l) (buffers_of l) → Sized log_format (buffers_of l)
sized_in l h = subst (λ (F : Format). Sized F (buffers_of l)) (one_format l) h

module _ (R : Repertoire) where
  pub passes_in : (l : Lent) → Starts R l → checked R log_format l (own_tests false false false) ≡ 0
  passes_in l z = subst (λ (F : Format). checked R F l (own_tests false false false) ≡ 0) (one_format l) z.passes

  -- what a call meets in a format
  abbrev pub MeetsIn : Format → (c : Call) → Lent → AnswerTo c → Buffers → Type 0
  MeetsIn F (asked a) l r b = contracts.MeetsIn R F a l r b
  MeetsIn F (key k h) l r b =
      Keyed R F l h (stands_for (press_of R k)) (key_call R F l h k) r.answer (key_buffers b.text b.records b.texts r.slots r.lens)

  meets_in : (c : Call) (l : Lent) (r : AnswerTo c) (b : Buffers) → Meets R c l r b → MeetsIn log_format c l r b
  meets_in (asked a) l r b m = subst (λ (F : Format). MeetsIn F (asked a) l r b) (of_call a l) m
  meets_in (key k h) l r b m = subst (λ (F : Format). MeetsIn F (key k h) l r b) (one_format l) m

  -- a run in one format
  unfoldable pub RunIn : Format → Lent → List AnyStep → Type 0
  RunIn F l [] = Unit {0}
  RunIn F l (x ∷ xs) = HandedOn l x.1.lent × MeetsIn F x.0 x.1.lent x.1.answer x.1.after × RunIn F (left x.0 x.1) xs

  pub run_in : (xs : List AnyStep) (l : Lent) → Run R l xs → RunIn log_format l xs
  unfolding Run RunIn
  run_in [] l r = tt
  run_in (x ∷ xs) l r = (r.0, meets_in x.0 x.1.lent x.1.answer x.1.after r.1, run_in xs (left x.0 x.1) r.2)
