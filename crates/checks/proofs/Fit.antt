-- The checks of a lent text, one law for each way they go, and what holds where they pass. Assumes nothing.
use mathlib.Core.Path.{◌≡◌, refl}
use mathlib.Core.Bool.{Bool, true, false, cond}
use mathlib.Core.List.{List}
use Prim.Native.Nat.{ℕ, zero, suc, ◌<◌, ◌≤◌}
use native.Mathlib.Omega.{arith}
use borrow.Author.Tests.{ltb-false, not-false}
use lib.Dec.{ltb}
use lib.ListN.{length}
use lib.Seq.{length-take-le}
use Rattle.lists.proofs.Bools.{never, or_none}
use Rattle.formats.specs.declared.Format.{Format}
use Rattle.formats.specs.Formats as formats
use Rattle.utf8.specs.Chars.{valid, boundary}
use Rattle.repertoire.specs.Repertoire.{Repertoire}
use Rattle.repertoire.specs.Text.{is_text}
use Rattle.repertoire.proofs.Text.{text-valid}
use Rattle.checks.specs.Checks.{Tests, both, later_number, refusal, lent_text, line_tests, own_tests}
use Rattle.checks.specs.declared.Line.{Line}

-- no test is met
pub record Passed (t : Tests) : Type 0 where
  pub sizes : t.sizes ≡ false
  pub code : t.code ≡ false
  pub foreign : t.foreign ≡ false
  pub place : t.place ≡ false
  pub split : t.split ≡ false
  pub prompt : t.prompt ≡ false
  pub damaged : t.damaged ≡ false
  pub later : t.later ≡ 0

not_met : (b : Bool) (n m : ℕ) → cond b n m ≡ 0 → 0 < n → (b ≡ false) × (m ≡ 0)
not_met true n m e h = absurd (omega arith)
not_met false n m e h = (refl, e)

later_none : (k : ℕ) → later_number k ≡ 0 → k ≡ 0
later_none zero e = refl
later_none (suc k) e = absurd (omega arith)

pub refusal-passed : (t : Tests) → refusal t ≡ 0 → Passed t
unfolding refusal
refusal-passed t e =
    let a = not_met t.sizes 2 _ e (omega arith) in
    let b = not_met t.code 3 _ a.1 (omega arith) in
    let c = not_met t.foreign 4 _ b.1 (omega arith) in
    let d = not_met t.place 5 _ c.1 (omega arith) in
    let f = not_met t.split 6 _ d.1 (omega arith) in
    let g = not_met t.prompt 7 _ f.1 (omega arith) in
    let h = not_met t.damaged 8 _ g.1 (omega arith) in
    record { sizes = a.0; code = b.0; foreign = c.0; place = d.0; split = f.0; prompt = g.0; damaged = h.0; later = later_none t.later h.1 }

-- a lent text and its cursor that pass
pub record Fit (R : Repertoire) (F : Format) (buffer : List ℕ) (line : Line) : Type 0 where
  pub limit : length buffer ≤ F.text
  pub used : line.len ≤ length buffer
  pub text : is_text R (lent_text buffer line) ≡ true
  pub within : line.cursor ≤ line.len
  pub at-boundary : boundary (lent_text buffer line) line.cursor ≡ true

module _ (R : Repertoire) (F : Format) (buffer : List ℕ) (line : Line) where
  pub fit : (own : Tests) → refusal (both (line_tests R F buffer line) own) ≡ 0 → Fit R F buffer line × Passed own
  fit own e =
      let t = line_tests R F buffer line in
      let p = refusal-passed (both t own) e in
      let s = or_none t.sizes own.sizes p.sizes in
      let u = or_none (ltb F.text (length buffer)) (ltb (length buffer) line.len) s.0 in
      let f = or_none t.foreign own.foreign p.foreign in
      let q = or_none t.place own.place p.place in
      let x = or_none t.split own.split p.split in (
        record {
          limit = ltb-false F.text (length buffer) u.0;
          used = ltb-false (length buffer) line.len u.1;
          text = not-false (is_text R (lent_text buffer line)) f.0;
          within = ltb-false line.len line.cursor q.0;
          at-boundary = not-false (boundary (lent_text buffer line) line.cursor) x.0;
        },
        record {
          sizes = s.1;
          code = p.code;
          foreign = f.1;
          place = q.1;
          split = x.1;
          prompt = p.prompt;
          damaged = p.damaged;
          later = p.later;
        },
      )

  pub fit-valid : Fit R F buffer line → valid (lent_text buffer line) ≡ true
  fit-valid f = text-valid R (lent_text buffer line) f.text

  pub fit-within : Fit R F buffer line → line.cursor ≤ length (lent_text buffer line)
  fit-within f = let h = f.within in let l = length-take-le line.len buffer f.used in omega arith

  pub fit-limit : formats.Fit F → Fit R F buffer line → length (lent_text buffer line) ≤ 131072
  fit-limit g f = let m = g.text in let h = f.limit in let u = f.used in let l = length-take-le line.len buffer f.used in omega arith

  -- a number that names nothing is always refused
  pub code-refused : (foreign place : Bool) → refusal (both (line_tests R F buffer line) (own_tests true foreign place)) ≡ 0 → ⊥
  code-refused foreign place e = never _ true refl (fit (own_tests true foreign place) e).1.code
