use borrow.Author.Rules.{rules}
use mathlib.Core.Path.{◌≡◌, refl, sym, ap, ◌∙◌}
use native.Mathlib.Omega.{arith}
use Prim.Native.Nat.{◌+◌, ◌-◌, ◌<◌}
use Rattle.repertoire.specs.Repertoire.{catalogue}
use Rattle.motion_words.specs.Words.{is_before_end}
use Rattle.motion_words.proofs.Indices.{told}
use Rattle.motion_words.proofs.Walks.{landing, rounds, rounds_done, rounds_out, rounds_in, in_out, in_hit, in_on, first-all, first-passed}
use Rattle.motion_words.proofs.next_word.Goals as goal
use Rattle.motion_words.proofs.next_word.Goals.{in-BeforeEnd, in_default, then-matches, else-matches}

pub outer-init : goal.outer-init
outer-init c =
    let a = c.args in
    let all : a.n - 0 ≡ a.n = omega arith in
    let before : c.match-matches.matches ≡ is_before_end a.at = elim c.match-matches.branch [
      | in-BeforeEnd w ↦ w.matches-is ∙ sym (ap is_before_end w.in-BeforeEnd.is)
      | in_default w ↦ search rules
    ] in
    elim c.if-matches.branch [
      | then-matches w ↦ (
        omega (arith, w.first_len-next.ensures.1),
        refl,
        rw all
            (first-passed catalogue a.t.now a.at a.word a.n c.if-matches.next (sym before ∙ w.if-matches.true)
            (w.next-is ∙ w.first_len-next.ensures.0)),
      )
      | else-matches w ↦ (
        omega (arith, w.next-is),
        refl,
        rw all
            (first-all catalogue a.t.now a.at a.word a.n (sym before ∙ w.if-matches.false)
            ∙ ap (λ k. rounds catalogue a.t.now a.at a.word a.n k 0) (sym w.next-is)),
      )
    ]

pub inner-init : goal.inner-init
inner-init c =
    let a = c.args in
    let x = told catalogue a.t.now c.outer.next _ c.outer.invariant.0
    (c.next_cluster-x.ensures.known, c.next_cluster-x.ensures.within) in
    let h : 0 < (a.n - c.outer.counter) = omega arith in (
      x.fits,
      h,
      refl,
      refl,
      c.outer.invariant.2 ∙ rounds_in catalogue a.t.now a.at a.word c.outer.next _ x.known (a.n - c.outer.counter) c.outer.found
          h c.if-x-eq0.false,
    )

pub inner-preserved : goal.inner-preserved
inner-preserved c =
    let a = c.args in
    let y = told catalogue a.t.now c.inner.next _ c.inner.invariant.0 (c.next_cluster-y.ensures.known, c.next_cluster-y.ensures.within) in (
      y.fits,
      c.inner.invariant.1,
      c.inner.invariant.2,
      c.inner.invariant.3,
      c.inner.invariant.4
          ∙ in_on catalogue a.t.now a.at a.word c.inner.next _ y.known (a.n - c.outer.counter) c.inner.i c.inner.x _ c.if-y-eq0.false
          c.stops_at.ensures c.if-stops_at.false,
    )

pub outer-preserved : goal.outer-preserved
outer-preserved c =
    let a = c.args in
    let y = told catalogue a.t.now c.inner.next _ c.inner.invariant.0 (c.next_cluster-y.ensures.known, c.next_cluster-y.ensures.within) in
    let left : a.n - (c.outer.counter + 1) ≡ a.n - c.outer.counter - 1 = omega arith in (
      y.fits,
      c.inner.invariant.3,
      rw left
          (c.inner.invariant.4
          ∙ in_hit catalogue a.t.now a.at a.word c.inner.next _ y.known (a.n - c.outer.counter) c.inner.i c.inner.x _ _ c.if-y-eq0.false
          c.stops_at.ensures c.if-stops_at.true c.lands_on-found.ensures),
    )

pub returns-after-outer : goal.returns-after-outer
returns-after-outer c =
    let a = c.args in
    sym
    (c.outer.invariant.2
    ∙ rounds_done catalogue a.t.now a.at a.word (a.n - c.outer.counter) c.outer.next c.outer.found (omega arith)
    ∙ ap (landing c.outer.found) (sym c.outer.invariant.1))

pub returns-then-x-eq0 : goal.returns-then-x-eq0
returns-then-x-eq0 c =
    let a = c.args in
    let x = told catalogue a.t.now c.outer.next _ c.outer.invariant.0
    (c.next_cluster-x.ensures.known, c.next_cluster-x.ensures.within) in
    let h : 0 < (a.n - c.outer.counter) = omega arith in
    sym (c.outer.invariant.2 ∙ rounds_out catalogue a.t.now a.at a.word c.outer.next _ x.known (a.n - c.outer.counter) c.outer.found h
    c.if-x-eq0.true)

pub returns-then-y-eq0 : goal.returns-then-y-eq0
returns-then-y-eq0 c =
    let a = c.args in
    let y = told catalogue a.t.now c.inner.next _ c.inner.invariant.0 (c.next_cluster-y.ensures.known, c.next_cluster-y.ensures.within) in
    sym
    (c.inner.invariant.4
    ∙ in_out catalogue a.t.now a.at a.word c.inner.next _ y.known (a.n - c.outer.counter) c.inner.i c.inner.x c.if-y-eq0.true
    ∙ ap (λ p. landing p c.inner.i) (sym c.inner.invariant.2))
