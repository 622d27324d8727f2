use mathlib.Core.Path.{sym, ◌∙◌}
use borrow.Author.Tests.{lt-ltb, le-ltb}
use lib.Seq.{length-take-le}
use Rattle.repertoire.specs.Repertoire.{catalogue}
use Rattle.repertoire.proofs.Text.{text-valid}
use Rattle.checks.specs.Checks.{refusal}
use Rattle.checks.proofs.refusal_in.Goals as goal
use Rattle.checks.proofs.refusal_in.Goals.{then-f-text-via-then-f-text, then-f-text-via-else-f-text+then-text-line}
use Rattle.checks.proofs.refusal_in.Goals.{then-not-check_text-via-then-not-check_text}
use Rattle.checks.proofs.refusal_in.Goals.{then-not-check_text-via-else-not-check_text+then-foreign}
use Rattle.checks.proofs.refusal_in.Goals.{then-line-via-then-line, then-line-via-else-line+then-place}

pub returns-then-f-text : goal.returns-then-f-text
unfolding refusal
returns-then-f-text c =
    elim c.then-f-text.branch [
      | then-f-text-via-then-f-text w ↦ simp (lt-ltb _ _ w.if-f-text.true)
      | then-f-text-via-else-f-text+then-text-line w ↦ simp (le-ltb _ _ w.if-f-text.false, lt-ltb _ _ w.if-text-line.true)
    ]

pub returns-then-code : goal.returns-then-code
unfolding refusal
returns-then-code c = simp (le-ltb _ _ c.if-f-text.false, le-ltb _ _ c.if-text-line.false, c.if-code.true)

pub slice_bounds-lent-end : goal.slice_bounds-lent-end
slice_bounds-lent-end c = sym (length-take-le _ _ c.if-text-line.false)

pub returns-then-not-check_text : goal.returns-then-not-check_text
unfolding refusal
returns-then-not-check_text c =
    elim c.then-not-check_text.branch [
      | then-not-check_text-via-then-not-check_text w ↦
          let e = sym c.check_text.ensures ∙ w.if-not-check_text.true in
          simp (le-ltb _ _ c.if-f-text.false, le-ltb _ _ c.if-text-line.false, c.if-code.false, e)
      | then-not-check_text-via-else-not-check_text+then-foreign w ↦
          let e = sym c.check_text.ensures ∙ w.if-not-check_text.false in
          simp (le-ltb _ _ c.if-f-text.false, le-ltb _ _ c.if-text-line.false, c.if-code.false, e, w.if-foreign.true)
    ]

pub returns-then-line : goal.returns-then-line
unfolding refusal
returns-then-line c =
    let e = sym c.check_text.ensures ∙ c.if-not-check_text.false in
    let sizes = le-ltb _ _ c.if-f-text.false in
    let used = le-ltb _ _ c.if-text-line.false in
    elim c.then-line.branch [
      | then-line-via-then-line w ↦ simp (sizes, used, c.if-code.false, e, c.if-foreign.false, lt-ltb _ _ w.if-line.true)
      | then-line-via-else-line+then-place w ↦
          simp (sizes, used, c.if-code.false, e, c.if-foreign.false, le-ltb _ _ w.if-line.false, w.if-place.true)
    ]

pub returns-then-not-is_boundary : goal.returns-then-not-is_boundary
unfolding refusal
returns-then-not-is_boundary c =
    let e = sym c.check_text.ensures ∙ c.if-not-check_text.false in
    simp (
      le-ltb _ _ c.if-f-text.false,
      le-ltb _ _ c.if-text-line.false,
      c.if-code.false,
      e,
      c.if-foreign.false,
      le-ltb _ _ c.if-line.false,
      c.if-place.false,
      sym (c.is_boundary.ensures.text (text-valid catalogue _ e)) ∙ c.if-not-is_boundary.true,
    )

pub returns : goal.returns
unfolding refusal
returns c =
    let e = sym c.check_text.ensures ∙ c.if-not-check_text.false in
    simp (
      le-ltb _ _ c.if-f-text.false,
      le-ltb _ _ c.if-text-line.false,
      c.if-code.false,
      e,
      c.if-foreign.false,
      le-ltb _ _ c.if-line.false,
      c.if-place.false,
      sym (c.is_boundary.ensures.text (text-valid catalogue _ e)) ∙ c.if-not-is_boundary.false,
    )
