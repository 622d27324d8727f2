-- The call by its parts: its tests, and what it does where they pass. Assumes nothing.
use mathlib.Core.Path.{◌≡◌, sym, ap, subst, ◌∙◌}
use mathlib.Core.Bool.{Bool, true, false, cond}
use mathlib.Core.List.{List}
use Prim.Native.Nat.{ℕ, ◌-◌, ◌≤◌}
use native.Mathlib.Omega.{arith}
use lib.ListN.{length, take, drop}
use lib.Seq.{length-take-le}
use Rattle.lists.specs.Lists.{part}
use Rattle.utf8.specs.Chars.{valid, boundary, In}
use Rattle.repertoire.specs.Repertoire.{catalogue}
use Rattle.repertoire.proofs.Text.{text-valid}
use Rattle.keymap.specs.declared.Movement.{Movement}
use Rattle.checks.specs.Checks.{Tests, both, refusal, line_tests, own_tests}
use Rattle.checks.specs.declared.Line.{Line}
use Rattle.checks.proofs.Fit.{Fit, fit, fit-valid, fit-within}
use Rattle.motion_ranges.specs.Ranges.{is_foreign}
use Rattle.formats.specs.declared.Format.{Format}
use Rattle.edit.specs.declared.EditAnswer.{EditAnswer}
use Rattle.edit.specs.Plan.{edited}
use Rattle.edit.specs.Calls.{Lent, text_of, sizes_of, state_of, says, own, checked, Edited, Ready}
use Rattle.edit.proofs.Parts.{raw_part}
use Rattle.edit.proofs.Answers.{refused_by, passed_by}
use Rattle.edit.proofs.Tests.{split-within, own-passed}
use Rattle.motion_lines.specs.declared.Span.{Span}
use Rattle.edit_indent_plans.specs.Touched.{split_lines, splits, touched}
use Rattle.edit_indent_plans.specs.IndentPlans.{lines_in, indent_plan}
use Rattle.edit_indent.specs.Indents.{indent_tests, indent_of}
use Rattle.edit_indent_plans.proofs.Spans.{Inside, touched_in}
use Rattle.edit_indent_plans.proofs.Suits.{part-valid}

-- ---- check 6, of a text and a cursor that pass 2, 4, 5 and 6
module _ (F : Format) (text : List ℕ) (line : Line) (mvt : Movement) (amount : ℕ) where
  abbrev first : ℕ
  first = refusal (both (line_tests catalogue F text line) (own_tests false false false))

  abbrev t : List ℕ
  t = take line.len text

  pub untried : (dedent : Bool) → dedent ≡ false → false ≡ cond dedent (splits catalogue amount (lines_in t (touched catalogue t line.cursor mvt))) false
  untried dedent e = sym (ap (λ (c : Bool). cond c (splits catalogue amount (lines_in t (touched catalogue t line.cursor mvt))) false) e)

  module _ {k : ℕ} (kq : k ≡ first) (z : k ≡ 0) where
    fits : Fit catalogue F text line
    fits = (fit catalogue F text line (own_tests false false false) (sym kq ∙ z)).0

    pub text-used : line.len ≤ length text
    text-used = fits.used

    pub text-fit : (valid t ≡ true) × (boundary t line.cursor ≡ true) × (line.cursor ≤ length t)
    text-fit = (fit-valid catalogue F text line fits, fits.at-boundary, fit-within catalogue F text line fits)

    module _ (r : Span) (e : r ≡ touched catalogue t line.cursor mvt) where
      pub lines-in : In t r.start r.end
      lines-in = let v = text-fit in subst (Inside t) (sym e) (touched_in catalogue t line.cursor v.0 v.1 v.2 mvt)

      pub lines_end : r.end ≤ length text
      lines_end = let i = lines-in in let j = i.1 in omega (arith, length-take-le line.len text fits.used, fits.used)

      raw : take (r.end - r.start) (drop r.start text) ≡ part t r.start r.end
      raw = let i = lines-in in let j = i.1 in sym (raw_part text line.len r.start r.end (omega (arith, length-take-le line.len text fits.used)))

      pub raw_valid : valid (take (r.end - r.start) (drop r.start text)) ≡ true
      raw_valid = ap valid raw ∙ part-valid t r.start r.end text-fit.0 lines-in

      pub tested : (b dedent : Bool) → dedent ≡ true → b ≡ splits catalogue amount (split_lines (take (r.end - r.start) (drop r.start text)))
          → b ≡ cond dedent (splits catalogue amount (lines_in t (touched catalogue t line.cursor mvt))) false
      tested b dedent d f =
          f ∙ ap (λ (x : List ℕ). splits catalogue amount (split_lines x)) raw ∙ ap (λ (q : Span). splits catalogue amount (lines_in t q)) e
          ∙ sym (ap (λ (c : Bool). cond c (splits catalogue amount (lines_in t (touched catalogue t line.cursor mvt))) false) d)

-- the four tests are all of the first
passes : (F : Format) (l : Lent) → (line_tests catalogue F l.text l.line).sizes ≡ false
    → (line_tests catalogue F l.text l.line).foreign ≡ false → (line_tests catalogue F l.text l.line).place ≡ false
    → (line_tests catalogue F l.text l.line).split ≡ false
    → refusal (both (line_tests catalogue F l.text l.line) (own_tests false false false)) ≡ 0
unfolding refusal
passes F l s f p x = rw (s, f, p, x)

pub ready-text : {F : Format} (l : Lent) → Ready F l → (valid (text_of l) ≡ true) × (boundary (text_of l) l.line.cursor ≡ true) × (l.line.cursor ≤ length (text_of l))
ready-text l h = let w = h.within in (text-valid catalogue (text_of l) h.text, h.at-boundary, omega (arith, length-take-le l.line.len l.text h.used))

-- ---- the call
module _ (F : Format) (l : Lent) (mvt : Movement) (amount : ℕ) (dedent : Bool) where
  abbrev tests : Tests
  tests = indent_tests catalogue (text_of l) l.line.cursor mvt amount dedent

  abbrev mine : Bool
  mine = cond dedent (splits catalogue amount (lines_in (text_of l) (touched catalogue (text_of l) l.line.cursor mvt))) false

  module _ (f b : Bool) (fq : f ≡ is_foreign catalogue mvt) (bq : refusal (both (line_tests catalogue F l.text l.line) (own_tests false false false)) ≡ 0 → b ≡ mine)
      (k : ℕ) (kq : k ≡ checked catalogue F l (own (record { sizes = false; code = false; foreign = f; place = false; split = b }))) where
    number : checked catalogue F l tests ≡ k
    number =
        sym (kq ∙ ap (λ (g : Bool). checked catalogue F l (own (record { sizes = false; code = false; foreign = g; place = false; split = b }))) fq
        ∙ split-within F l tests b mine (λ s g p x. bq (passes F l s g p x)))

    pub indent-refused : (k ≡ 0 → ⊥) → (r : EditAnswer) → r ≡ says k l.line l.log → Edited F l (indent_of catalogue F l amount dedent mvt) r l.text l.records l.texts
    indent-refused h r q = refused_by F l k (checked catalogue F l tests) _ r number h q

    module _ (z : k ≡ 0) (h : Ready F l) (s : Span) (e : s ≡ touched catalogue (text_of l) l.line.cursor mvt) where
      pub indent_in : In (text_of l) s.start s.end
      indent_in =
          let v = ready-text l h in
          subst (Inside (text_of l)) (sym e) (touched_in catalogue (text_of l) l.line.cursor v.0 v.1 v.2 mvt)

      pub indent-whole : dedent ≡ true → splits catalogue amount (split_lines (part (text_of l) s.start s.end)) ≡ false
      indent-whole d =
          ap (λ (q : Span). splits catalogue amount (lines_in (text_of l) q)) e
          ∙ sym (ap (λ (c : Bool). cond c (splits catalogue amount (lines_in (text_of l) (touched catalogue (text_of l) l.line.cursor mvt))) false) d)
          ∙ (own-passed catalogue F l tests (number ∙ z)).split

      pub indent-passed : (d : Bool) → dedent ≡ d → (r : EditAnswer) (tn rb tb : List ℕ)
          → Edited F l (edited catalogue F (sizes_of l) (length l.text)
          (indent_plan catalogue amount d l.line.cursor s.start (split_lines (part (text_of l) s.start s.end))) (state_of catalogue F l)) r tn rb tb
          → Edited F l (indent_of catalogue F l amount dedent mvt) r tn rb tb
      indent-passed d y r tn rb tb q =
          passed_by F l k (checked catalogue F l tests) _ r tn rb tb number z
          (subst (λ (c : Bool). Edited F l (edited catalogue F (sizes_of l) (length l.text)
          (indent_plan catalogue amount c l.line.cursor (touched catalogue (text_of l) l.line.cursor mvt).start
          (lines_in (text_of l) (touched catalogue (text_of l) l.line.cursor mvt))) (state_of catalogue F l)) r tn rb tb) (sym y)
          (subst (λ (x : Span). Edited F l (edited catalogue F (sizes_of l) (length l.text)
          (indent_plan catalogue amount d l.line.cursor x.start (lines_in (text_of l) x)) (state_of catalogue F l)) r tn rb tb) e q))
