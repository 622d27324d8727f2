-- A slot written over, or one more behind the last. Assumes nothing.
use Prim.Native.Nat.{ℕ, zero, suc, ◌+◌, ◌≤◌, ◌<◌}
use native.Mathlib.Nat.{not-suc-le-zero, le_of_suc-le-suc}
use native.Mathlib.Omega.{arith}
use mathlib.Core.Path.{◌≡◌, refl, sym, ap, ◌∙◌}
use mathlib.Core.Bool.{Bool, cond}
use mathlib.Core.List.{List, [], ◌∷◌}
use borrow.Author.Tests.{eq-eqb, ne_eqb}
use lib.Dec.{eqb}
use lib.ListN.{length, get_or}
use Rattle.lists.proofs.Bools.{by_less}
use Rattle.kill_ring.specs.Ring.{put_at}

-- written over
pub put_over : (ss : List (List ℕ)) (i : ℕ) (s : List ℕ) → i < length ss → length (put_at ss i s) ≡ length ss
unfolding put_at
put_over [] i s h = absurd (not-suc-le-zero h)
put_over (t ∷ ss) zero s h = refl
put_over (t ∷ ss) (suc i) s h = ap suc (put_over ss i s (le_of_suc-le-suc h))

-- one more
pub put-behind : (ss : List (List ℕ)) (i : ℕ) (s : List ℕ) → i ≡ length ss → length (put_at ss i s) ≡ length ss + 1
unfolding put_at
put-behind [] i s e = refl
put-behind (t ∷ ss) zero s e = absurd (omega arith)
put-behind (t ∷ ss) (suc i) s e = ap suc (put-behind ss i s (omega arith)) ∙ omega arith

-- the count afterwards
pub put-length : (ss : List (List ℕ)) (i n : ℕ) (s : List ℕ) → length ss ≡ n → i ≤ n → cond (eqb i n) (n + 1) n ≡ length (put_at ss i s)
put-length ss i n s e h =
    by_less (cond (eqb i n) (n + 1) n ≡ length (put_at ss i s)) i n
    (λ k. ap (λ (b : Bool). cond b (n + 1) n) (ne_eqb i n (λ q. omega arith)) ∙ sym e ∙ sym (put_over ss i s (omega arith)))
    (λ k.
    let q : i ≡ n = omega arith in
    ap (λ (b : Bool). cond b (n + 1) n) (eq-eqb i n q) ∙ ap (λ (m : ℕ). m + 1) (sym e) ∙ sym (put-behind ss i s (q ∙ sym e)))

-- what stands there then
pub put_there : (ss : List (List ℕ)) (i : ℕ) (s : List ℕ) → i ≤ length ss → get_or (put_at ss i s) i [] ≡ s
unfolding put_at
put_there [] zero s h = refl
put_there [] (suc i) s h = absurd (not-suc-le-zero h)
put_there (t ∷ ss) zero s h = refl
put_there (t ∷ ss) (suc i) s h = put_there ss i s (le_of_suc-le-suc h)

-- the slot is in use then
pub put_in : (ss : List (List ℕ)) (i : ℕ) (s : List ℕ) → i ≤ length ss → i < length (put_at ss i s)
put_in ss i s h =
    by_less (i < length (put_at ss i s)) i (length ss)
    (λ k. let e = put_over ss i s k in omega arith)
    (λ k. let e = put-behind ss i s (omega arith) in omega arith)

-- written twice, the last stays
pub put_twice : (ss : List (List ℕ)) (i : ℕ) (s t : List ℕ) → i ≤ length ss → put_at (put_at ss i s) i t ≡ put_at ss i t
unfolding put_at
put_twice [] zero s t h = refl
put_twice [] (suc i) s t h = absurd (not-suc-le-zero h)
put_twice (x ∷ ss) zero s t h = refl
put_twice (x ∷ ss) (suc i) s t h = ap (λ (r : List (List ℕ)). x ∷ r) (put_twice ss i s t (le_of_suc-le-suc h))
