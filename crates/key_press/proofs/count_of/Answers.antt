use native.Mathlib.Omega.{arith}
use Prim.Native.Nat.{ℕ, ◌+◌}
use mathlib.Core.Path.{◌≡◌, sym, ap, subst, ◌∙◌}
use lib.ListN.{length, get_or}
use Rattle.lists.proofs.Parts.{get_or_any}
use Rattle.key_press.specs.Keys.{is_digit, with_digit, CountedAs}
use Rattle.key_press.proofs.Counts.{Reading, not-counted, too_short, no_escape, no_digit, begins, goes-on, stops, ends}
use Rattle.key_press.proofs.count_of.Goals as goal
use Rattle.key_press.proofs.count_of.Goals.{then-key-lt2-via-then-key-lt2, then-key-lt2-via-else-key-lt2+then-key-ne27}
use Rattle.key_press.proofs.count_of.Goals.{then-key-lt2-via-else-key-lt2+else-key-ne27+then-not-is_digit}
use Rattle.key_press.proofs.count_of.Goals.{After-is_digit-in-loop-at}

-- the byte at the place that the loop has come to
digit : (c : After-is_digit-in-loop-at) → c.is_digit-in-loop-at.result ≡ is_digit (get_or c.args.key.now c.loop-at.at 256)
digit c = c.is_digit-in-loop-at.ensures ∙ ap is_digit (sym (get_or_any c.args.key.now c.loop-at.at 256 0 (omega arith)))

pub returns-then-key-lt2 : goal.returns-then-key-lt2
returns-then-key-lt2 c =
    let s = c.args.key.now in
    elim c.then-key-lt2.branch [
      | then-key-lt2-via-then-key-lt2 w ↦ not-counted s (too_short s w.if-key-lt2.true)
      | then-key-lt2-via-else-key-lt2+then-key-ne27 w ↦
          not-counted s (no_escape s (λ e. w.if-key-ne27.true (sym (get_or_any s 0 256 0 (omega arith)) ∙ e)))
      | then-key-lt2-via-else-key-lt2+else-key-ne27+then-not-is_digit w ↦
          not-counted s
          (no_digit s (get_or_any s 0 256 0 (omega arith) ∙ w.if-key-ne27.false)
          (ap is_digit (get_or_any s 1 256 0 (omega arith)) ∙ sym w.is_digit.ensures ∙ w.if-not-is_digit.true))
    ]

pub loop-at-init : goal.loop-at-init
loop-at-init c =
    let s = c.args.key.now in
    begins s (omega arith) (get_or_any s 0 256 0 (omega arith) ∙ c.if-key-ne27.false)
    (ap is_digit (get_or_any s 1 256 0 (omega arith)) ∙ sym c.is_digit.ensures ∙ c.if-not-is_digit.false)

pub returns-then-not-is_digit-2 : goal.returns-then-not-is_digit-2
returns-then-not-is_digit-2 c =
    stops _ c.loop-at.n c.loop-at.at c.loop-at.invariant (omega arith)
    (sym (digit (goal.at.returns-then-not-is_digit-2 c).After-is_digit-in-loop-at) ∙ c.if-not-is_digit-2.true)

pub loop-at-preserved : goal.loop-at-preserved
loop-at-preserved c =
    let here = goal.at.loop-at-preserved c in
    let s = c.args.key.now in
    let n = c.loop-at.n in
    subst (λ m. Reading s m (c.loop-at.at + 1))
    (sym (c.with_digit-n.ensures ∙ ap (with_digit n) (sym (get_or_any s c.loop-at.at 256 0 (omega arith)))))
    (goes-on s n c.loop-at.at c.loop-at.invariant (omega arith)
    (sym (digit here.After-is_digit-in-loop-at) ∙ c.if-not-is_digit-2.false))

pub returns : goal.returns
returns c =
    let s = c.args.key.now in
    let e : c.loop-at.at ≡ length s = omega arith in
    subst (λ (i : ℕ). CountedAs s (record { n = c.loop-at.n; at = i })) e
    (ends s c.loop-at.n c.loop-at.at c.loop-at.invariant (omega arith))
