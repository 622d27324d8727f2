use mathlib.Core.Path.{◌≡◌, refl, sym, ap, ◌∙◌}
use native.Mathlib.Omega.{arith}
use Prim.Native.Nat.{◌+◌, ◌-◌, ◌<◌}
use Rattle.utf8.proofs.Boundary.{boundary_end}
use Rattle.repertoire.specs.Repertoire.{catalogue}
use Rattle.motion_words.proofs.Indices.{back_step}
use Rattle.motion_words.proofs.Walks.{back_first, back_done, back_out, back_in, in_back_out, in_back_hit, in_back_on}
use Rattle.motion_words.proofs.prev_word.Goals as goal

pub outer-init : goal.outer-init
outer-init c =
    let all : c.args.n - 0 ≡ c.args.n = omega arith in
    (omega arith, boundary_end _ c.requires, rw all (back_first catalogue _ _ _))

pub inner-init : goal.inner-init
inner-init c =
    let a = c.args in
    let s = back_step catalogue a.t.now c.outer.rest _ c.outer.invariant.0 c.outer.invariant.1 c.prev_cluster-y.ensures.known
    c.if-y-eq0.false in
    let h : 0 < (a.n - c.outer.counter) = omega arith in (
      omega arith,
      s.at-boundary,
      h,
      refl,
      c.outer.invariant.2
          ∙ ap (λ z. z.found)
          (back_in catalogue a.t.now a.word c.outer.rest _ c.outer.invariant.0 c.outer.invariant.1 c.prev_cluster-y.ensures.known
          (a.n - c.outer.counter) c.outer.found h c.if-y-eq0.false),
    )

pub inner-preserved : goal.inner-preserved
inner-preserved c =
    let a = c.args in
    let s = back_step catalogue a.t.now c.inner.rest _ c.inner.invariant.0 c.inner.invariant.1 c.prev_cluster-x.ensures.known
    c.if-x-eq0.false in (
      omega arith,
      s.at-boundary,
      c.inner.invariant.2,
      c.inner.invariant.3,
      c.inner.invariant.4
          ∙ ap (λ z. z.found)
          (in_back_on catalogue a.t.now a.word c.inner.rest _ c.inner.invariant.0 c.inner.invariant.1 c.prev_cluster-x.ensures.known
          (a.n - c.outer.counter) c.inner.j
          c.inner.y _ c.if-x-eq0.false c.is_start_of_word.ensures c.if-is_start_of_word.false),
    )

pub outer-preserved : goal.outer-preserved
outer-preserved c =
    let a = c.args in
    let s = back_step catalogue a.t.now c.inner.rest _ c.inner.invariant.0 c.inner.invariant.1 c.prev_cluster-x.ensures.known
    c.if-x-eq0.false in
    let left : a.n - (c.outer.counter + 1) ≡ a.n - c.outer.counter - 1 = omega arith in (
      omega arith,
      s.at-boundary,
      rw left
          (c.inner.invariant.4
          ∙ ap (λ z. z.found)
          (in_back_hit catalogue a.t.now a.word c.inner.rest _ c.inner.invariant.0 c.inner.invariant.1 c.prev_cluster-x.ensures.known
          (a.n - c.outer.counter) c.inner.j
          c.inner.y _ c.if-x-eq0.false c.is_start_of_word.ensures c.if-is_start_of_word.true)),
    )

pub returns-after-outer : goal.returns-after-outer
returns-after-outer c =
    let a = c.args in
    sym
    (c.outer.invariant.2
    ∙ ap (λ z. z.found) (back_done catalogue a.t.now a.word (a.n - c.outer.counter) c.outer.rest c.outer.found (omega arith)))

pub returns-then-y-eq0 : goal.returns-then-y-eq0
returns-then-y-eq0 c =
    let a = c.args in
    let h : 0 < (a.n - c.outer.counter) = omega arith in
    sym
    (c.outer.invariant.2
    ∙ ap (λ z. z.found)
    (back_out catalogue a.t.now a.word c.outer.rest _ c.outer.invariant.0 c.outer.invariant.1 c.prev_cluster-y.ensures.known
    (a.n - c.outer.counter) c.outer.found h c.if-y-eq0.true))

pub returns-then-x-eq0 : goal.returns-then-x-eq0
returns-then-x-eq0 c =
    let a = c.args in
    c.inner.invariant.3
    ∙ sym
    (c.inner.invariant.4
    ∙ ap (λ z. z.found)
    (in_back_out catalogue a.t.now a.word c.inner.rest _ c.inner.invariant.0 c.inner.invariant.1 c.prev_cluster-x.ensures.known
    (a.n - c.outer.counter) c.inner.j c.inner.y
    c.if-x-eq0.true))
