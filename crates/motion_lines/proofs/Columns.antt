-- Laws of columns: a cluster of a line by steps over its clusters, and the line some lines above or below. Assumes nothing.
use mathlib.Core.Path.{◌≡◌, refl, sym, ap, ◌∙◌}
use mathlib.Core.Bool.{cond}
use mathlib.Core.List.{List, [], ◌∷◌, map}
use Prim.Native.Nat.{ℕ, zero, suc, ◌+◌, ◌-◌, ◌<◌, ◌≤◌}
use native.Mathlib.Omega.{arith}
use lib.Dec.{eqb, ltb, leb-suc-suc}
use lib.ListN.{length, take, drop}
use lib.Seq.{drop-drop}
use borrow.Author.Tests.{eq-eqb, ne_eqb, lt-ltb, le-ltb}
use Rattle.std.specs.Prelude.{None, Some}
use Rattle.lists.specs.Lists.{sum, part}
use Rattle.lists.proofs.Bools.{by_test}
use Rattle.lists.proofs.Parts.{part-tail}
use Rattle.repertoire.specs.Repertoire.{Repertoire}
use Rattle.cluster.specs.Clusters.{first_cluster, bytes, first_size}
use Rattle.cluster.specs.Facts.{facts}
use Rattle.cluster.specs.declared.Cluster.{Cluster}
use Rattle.cluster.proofs.Steps.{step_some, step_none}
use Rattle.layout.specs.Width.{width}
use Rattle.motion.specs.Steps.{sizes}
use Rattle.motion_lines.specs.Lines.{start_of_line, end_of_line}
use Rattle.motion_lines.specs.Columns.{nth_cluster, offset, line_above, line_below, width_before, land_up, line_up, land_down, column_of}
use Rattle.motion_lines.specs.Columns.{line_down}
use Rattle.motion_lines.specs.declared.Span.{Span}

-- ---- part number n of parts of these sizes that stand from a on, other where there are no more than n
pub nth_of : List ℕ → ℕ → ℕ → ℕ → ℕ
nth_of l a n other = cond (ltb n (length l)) (a + sum (take n l)) other

nth_none : (a n other : ℕ) → nth_of [] a n other ≡ other
unfolding nth_of
nth_none a n other = rw (le-ltb n 0 (omega arith))

nth_here : (x : ℕ) (l : List ℕ) (a n other : ℕ) → n ≡ 0 → nth_of (x ∷ l) a n other ≡ a
unfolding nth_of
nth_here x l a zero other e = rw (lt-ltb 0 (suc (length l)) (omega arith)) (omega arith)
nth_here x l a (suc n) other e = absurd (omega arith)

nth_on : (x : ℕ) (l : List ℕ) (a n other : ℕ) → (n ≡ 0 → ⊥) → nth_of (x ∷ l) a n other ≡ nth_of l (a + x) (n - 1) other
unfolding nth_of
nth_on x l a zero other e = absurd (e refl)
nth_on x l a (suc n) other e =
    let m : suc n - 1 ≡ n = omega arith in
    let z : a + (x + sum (take n l)) ≡ a + x + sum (take n l) = omega arith in
    rw (m, z, leb-suc-suc (suc n) (length l))

module _ (R : Repertoire) where
  sizes_none : (u : List ℕ) → first_size R u ≡ 0 → sizes R u ≡ []
  unfolding sizes
  sizes_none u z = ap (map bytes) (step_none R u z)

  sizes_on : (u : List ℕ) → (first_size R u ≡ 0 → ⊥) → sizes R u ≡ first_size R u ∷ sizes R (drop (first_size R u) u)
  unfolding sizes
  sizes_on u z = let p : 0 < first_size R u = omega (arith, z) in ap (map bytes) (step_some R u p)

  -- ---- a scan over the clusters of t, which starts at a, stands at a place and has some clusters left to pass
  pub nth_from : List ℕ → ℕ → ℕ → ℕ → ℕ → ℕ
  nth_from t a other at left = nth_of (sizes R (drop at t)) (a + at) left other

  pub nth_start : (s : List ℕ) (a b n other : ℕ) → nth_cluster R s a b n other ≡ nth_from (part s a b) a other 0 n
  unfolding nth_cluster nth_of nth_from
  nth_start s a b n other = let z : a + 0 ≡ a = omega arith in rw z

  module _ (t : List ℕ) (a other at left : ℕ) where
    -- k is the first cluster at the place
    module _ (k : Cluster) (q : k ≡ facts R (first_cluster R (take (length t - at) (drop at t)))) where
      sized : k.len ≡ first_size R (drop at t)
      sized = ap (λ (x : Cluster). x.len) q ∙ ap (first_size R) (part-tail t at)

      pub nth_stuck : k.len ≡ 0 → nth_from t a other at left ≡ other
      unfolding nth_from
      nth_stuck z = rw (sizes_none (drop at t) (sym sized ∙ z)) (nth_none (a + at) left other)

      some : (k.len ≡ 0 → ⊥) → sizes R (drop at t) ≡ k.len ∷ sizes R (drop (at + k.len) t)
      some z =
          sizes_on (drop at t) (λ x. z (sized ∙ x)) ∙ ap (λ (x : ℕ). x ∷ sizes R (drop x (drop at t))) (sym sized) ∙
          ap (λ (l : List ℕ). k.len ∷ sizes R l) (drop-drop k.len at t)

      pub nth_found : (k.len ≡ 0 → ⊥) → left ≡ 0 → nth_from t a other at left ≡ a + at
      unfolding nth_from
      nth_found z e = rw (some z) (nth_here k.len _ (a + at) left other e)

      pub nth_more : (k.len ≡ 0 → ⊥) → (left ≡ 0 → ⊥) → nth_from t a other at left ≡ nth_from t a other (at + k.len) (left - 1)
      unfolding nth_from
      nth_more z e =
          let x : a + at + k.len ≡ a + (at + k.len) = omega arith in
          rw (some z) (nth_on k.len _ (a + at) left other e ∙ ap (λ (y : ℕ). nth_of (sizes R (drop (at + k.len) t)) y (left - 1) other) x)

-- ---- the line n lines above one from a to e
module _ (s : List ℕ) where
  pub above_none : (n a e : ℕ) → n ≤ 0 → line_above s n a e ≡ record { start = a; end = e }
  unfolding line_above
  above_none zero a e h = refl
  above_none (suc n) a e h = absurd (omega arith)

  pub above-first : (n a e : ℕ) → a ≡ 0 → line_above s n a e ≡ record { start = a; end = e }
  unfolding line_above
  above-first zero a e z = refl
  above-first (suc n) a e z = rw (eq-eqb a 0 z)

  pub above_on : (n a e r : ℕ) → 0 < n → (a ≡ 0 → ⊥) → r ≡ start_of_line s (a - 1) → line_above s n a e ≡ line_above s (n - 1) r (a - 1)
  unfolding line_above
  above_on zero a e r h z q = absurd (omega arith)
  above_on (suc n) a e r h z q =
      let m : suc n - 1 ≡ n = omega arith in
      rw (ne_eqb a 0 z, m) (ap (λ (x : ℕ). line_above s n x (a - 1)) (sym q))

  -- ---- and below
  pub below_none : (n a e : ℕ) → n ≤ 0 → line_below s n a e ≡ record { start = a; end = e }
  unfolding line_below
  below_none zero a e h = refl
  below_none (suc n) a e h = absurd (omega arith)

  pub below_last : (n a e : ℕ) → e ≡ length s → line_below s n a e ≡ record { start = a; end = e }
  unfolding line_below
  below_last zero a e z = refl
  below_last (suc n) a e z = rw (eq-eqb e (length s) z)

  pub below_on : (n a e r : ℕ) → 0 < n → (e ≡ length s → ⊥) → r ≡ end_of_line s (e + 1) → line_below s n a e ≡ line_below s (n - 1) (e + 1) r
  unfolding line_below
  below_on zero a e r h z q = absurd (omega arith)
  below_on (suc n) a e r h z q =
      let m : suc n - 1 ≡ n = omega arith in
      rw (ne_eqb e (length s) z, m) (ap (line_below s n (e + 1)) (sym q))

-- ---- the same column above and below
pub offset-le : (a prompt : ℕ) → offset a prompt ≤ prompt
offset-le a prompt = by_test _ (eqb a 0) (λ t. rw t (omega arith)) (λ t. rw t (omega arith))

module _ (R : Repertoire) (s : List ℕ) (pos n prompt : ℕ) where
  -- the cursor's line starts at own
  module _ (own : ℕ) (q : own ≡ start_of_line s pos) where
    pub line_up_none : own ≡ 0 → None ≡ line_up R s pos n prompt
    unfolding line_up
    line_up_none z = rw (eq-eqb (start_of_line s pos) 0 (sym q ∙ z))

    pub line_up_some : (column m top : ℕ) (l : Span) (before wanted p : ℕ) → (own ≡ 0 → ⊥) → column ≡ width R 0 (part s own pos) → m ≡ n - 1 →
        top ≡ start_of_line s (own - 1) → l ≡ line_above s m top (own - 1) → before ≡ offset l.start prompt → wanted ≡ column - before →
        p ≡ nth_cluster R s l.start l.end wanted (own - 1) → Some p ≡ line_up R s pos n prompt
    unfolding line_up
    line_up_some column m top l before wanted p z c r t a b w e =
        let k : l ≡ line_above s (n - 1) (start_of_line s (start_of_line s pos - 1)) (start_of_line s pos - 1) =
        a ∙ ap (λ (x : ℕ). line_above s x top (own - 1)) r ∙ ap (λ (x : ℕ). line_above s (n - 1) x (own - 1)) t ∙
        ap (λ (x : ℕ). line_above s (n - 1) (start_of_line s (x - 1)) (x - 1)) q
        in
        rw (ne_eqb (start_of_line s pos) 0 (λ x. z (q ∙ x)))
        (ap Some
        (e ∙ ap (λ (x : ℕ). nth_cluster R s l.start l.end x (own - 1)) (w ∙ ap (λ (x : ℕ). column - x) b) ∙
        ap (λ (x : ℕ). land_up R s x (own - 1) prompt l) (c ∙ ap (λ (x : ℕ). width R 0 (part s x pos)) q) ∙
        ap (λ (x : ℕ). land_up R s (width_before R s pos 0) (x - 1) prompt l) q ∙
        ap (land_up R s (width_before R s pos 0) (start_of_line s pos - 1) prompt) k))

  -- it ends at e
  module _ (e : ℕ) (q : e ≡ end_of_line s pos) where
    pub line_down_none : length s ≤ e → None ≡ line_down R s pos n prompt
    unfolding line_down
    line_down_none h = rw (le-ltb (end_of_line s pos) (length s) (omega arith))

    pub line_down_some : (own before w m x : ℕ) (l : Span) (p : ℕ) → e < length s → own ≡ start_of_line s pos → before ≡ offset own prompt →
        w ≡ width R before (part s own pos) → m ≡ n - 1 → x ≡ end_of_line s (e + 1) → l ≡ line_below s m (e + 1) x →
        p ≡ nth_cluster R s l.start l.end (w + before) l.end → Some p ≡ line_down R s pos n prompt
    unfolding line_down
    line_down_some own before w m x l p h o b c r y a f =
        let k : l ≡ line_below s (n - 1) (end_of_line s pos + 1) (end_of_line s (end_of_line s pos + 1)) =
        a ∙ ap (λ (z : ℕ). line_below s z (e + 1) x) r ∙ ap (line_below s (n - 1) (e + 1)) y ∙
        ap (λ (z : ℕ). line_below s (n - 1) (z + 1) (end_of_line s (z + 1))) q
        in
        rw (lt-ltb (end_of_line s pos) (length s) (omega arith))
        (ap Some
        (f ∙ ap (λ (z : ℕ). land_down R s (z + before) l) c ∙ ap (λ (z : ℕ). land_down R s (width R z (part s own pos) + z) l) b ∙
        ap (λ (z : ℕ). land_down R s (width R (offset z prompt) (part s z pos) + offset z prompt) l) o ∙ ap (land_down R s (column_of R s pos prompt)) k))
