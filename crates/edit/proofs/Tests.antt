-- The tests of a call: what is asked of places inside a text that is none does not matter, and what holds where they pass. Assumes nothing.
use mathlib.Core.Path.{◌≡◌, refl, sym, ap, ◌∙◌}
use mathlib.Core.Bool.{Bool, true, false, cond, ◌||◌}
use Prim.Native.Nat.{ℕ, ◌≤◌}
use lib.Dec.{ltb}
use lib.ListN.{length}
use borrow.Author.Tests.{ltb-false, not-false}
use Rattle.lists.proofs.Bools.{or_none, never}
use Rattle.utf8.specs.Chars.{valid}
use Rattle.repertoire.specs.Repertoire.{Repertoire, catalogue}
use Rattle.repertoire.specs.Text.{is_text}
use Rattle.repertoire.proofs.Text.{text-valid}
use Rattle.checks.specs.Checks.{Tests, with_split, both, later_number, refusal, line_tests, own_tests}
use Rattle.checks.proofs.Fit.{Passed, fit}
use Rattle.formats.specs.declared.Format.{Format}
use Rattle.log_state.specs.Logs.{log_tests}
use Rattle.edit.specs.declared.EditAnswer.{EditAnswer}
use Rattle.edit.specs.Plan.{Plan}
use Rattle.edit.specs.Calls.{Lent, text_of, says, Edited, checked, edit_call}
use Rattle.edit.proofs.Answers.{refused_by}

-- where the checks pass, the call's own tests do
pub own-passed : (R : Repertoire) (F : Format) (l : Lent) (own : Tests) → checked R F l own ≡ 0 → Passed own
own-passed R F l own e =
    let log = log_tests R F l.log l.records l.texts in
    let p = (fit R F l.text l.line (both log own) e).1 in
    record {
      sizes = (or_none log.sizes own.sizes p.sizes).1;
      code = p.code;
      foreign = p.foreign;
      place = p.place;
      split = p.split;
      prompt = p.prompt;
      damaged = (or_none log.damaged own.damaged p.damaged).1;
      later = p.later;
    }

module _ (F : Format) (l : Lent) (t : Tests) where
  abbrev L : Tests
  L = log_tests catalogue F l.log l.records l.texts

  abbrev T : Tests
  T = line_tests catalogue F l.text l.line

  abbrev chain : Bool → Bool → Bool → Bool → Bool → Bool → Bool → ℕ → Bool → ℕ
  chain s c f p x y d k a = cond s 2 (cond c 3 (cond f 4 (cond p 5 (cond (x || (false || a)) 6 (cond y 7 (cond d 8 k))))))

  skip : (s c f p x y d : Bool) (k : ℕ) (a b : Bool) → (s ≡ false → f ≡ false → p ≡ false → x ≡ false → a ≡ b) → chain s c f p x y d k a ≡ chain s c f p x y d k b
  skip true c f p x y d k a b e = refl
  skip false true f p x y d k a b e = refl
  skip false false true p x y d k a b e = refl
  skip false false false true x y d k a b e = refl
  skip false false false false true y d k a b e = refl
  skip false false false false false y d k a b e = ap (chain false false false false false y d k) (e refl refl refl refl)

  -- the call's own 6 is looked at only where the text and its cursor pass 2, 4, 5 and 6
  pub split-within : (a b : Bool) → (T.sizes ≡ false → T.foreign ≡ false → T.place ≡ false → T.split ≡ false → a ≡ b)
      → checked catalogue F l (with_split a t) ≡ checked catalogue F l (with_split b t)
  unfolding refusal
  split-within a b e =
      skip (T.sizes || (L.sizes || t.sizes)) (false || (false || t.code)) (T.foreign || (false || t.foreign)) (T.place || (false || t.place))
      T.split (false || (false || t.prompt)) (false || (L.damaged || t.damaged)) (later_number t.later) a b
      (λ p q r s. e (or_none T.sizes (L.sizes || t.sizes) p).0 (or_none T.foreign (false || t.foreign) q).0 (or_none T.place (false || t.place) r).0 s)

  pub split_as : (a b : Bool) → (T.sizes ≡ false → T.foreign ≡ false → a ≡ b) → checked catalogue F l (with_split a t) ≡ checked catalogue F l (with_split b t)
  split_as a b e = split-within a b (λ p q r s. e p q)

  -- and only where 4 passes the call's own text
  pub own-split_as : (a b : Bool) → (t.foreign ≡ false → a ≡ b) → checked catalogue F l (with_split a t) ≡ checked catalogue F l (with_split b t)
  unfolding refusal
  own-split_as a b e =
      skip (T.sizes || (L.sizes || t.sizes)) (false || (false || t.code)) (T.foreign || (false || t.foreign)) (T.place || (false || t.place))
      T.split (false || (false || t.prompt)) (false || (L.damaged || t.damaged)) (later_number t.later) a b
      (λ p q r s. e (or_none T.foreign (false || t.foreign) q).1)

-- a text that 2 and 4 pass
pub text-lent : (F : Format) (l : Lent) → (line_tests catalogue F l.text l.line).sizes ≡ false
    → (line_tests catalogue F l.text l.line).foreign ≡ false → (l.line.len ≤ length l.text) × (valid (text_of l) ≡ true)
text-lent F l s f = (
  ltb-false _ _ (or_none (ltb F.text (length l.text)) (ltb (length l.text) l.line.len) s).1,
  text-valid catalogue
      (text_of l) (not-false (is_text catalogue (text_of l)) f),
)

-- a code that names nothing
pub unnamed : (F : Format) (l : Lent) (p : Plan) (k : ℕ) (r : EditAnswer) → k ≡ checked catalogue F l (own_tests true false false) → r ≡ says k l.line l.log
    → Edited F l (edit_call catalogue F l (own_tests true false false) p) r l.text l.records l.texts
unnamed F l p k r e q = refused_by F l k (checked catalogue F l (own_tests true false false)) _ r (sym e) (λ z. code_named (sym e ∙ z)) q
  where
    code_named : checked catalogue F l (own_tests true false false) ≡ 0 → ⊥
    code_named z = never ⊥ true refl (own-passed catalogue F l (own_tests true false false) z).code
