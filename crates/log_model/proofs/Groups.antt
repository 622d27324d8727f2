-- Groups: Begins that stand last and Ends put, truncating, and the last text put in. Assumes nothing.
use Prim.Native.Nat.{ℕ, zero, suc, ◌+◌, ◌-◌, ◌≤◌}
use native.Mathlib.Omega.{arith}
use mathlib.Core.Path.{◌≡◌, refl, sym, ap, ap₂, ◌∙◌}
use mathlib.Core.List.{List, [], ◌∷◌, ◌++◌, reverse, reverse-cons, reverse-reverse, append_assoc, append-nil}
use mathlib.Core.Bool.{Bool, true, false, cond}
use mathlib.Core.Option.{Option, some, none}
use lib.ListN.{length, take, drop, replicate, length-append, length-reverse, drop_of_length-le}
use lib.Seq.{take_all, drop_at, drop-append-le}
use Rattle.lists.specs.Lists.{part}
use Rattle.lists.proofs.Bools.{by_less}
use lib.Dec.{ltb}
use borrow.Author.Tests.{lt-ltb, le-ltb}
use Rattle.repertoire.specs.Repertoire.{Repertoire}
use Rattle.log_model.specs.Change.{insert, delete, replace, Change, begin, end, edit}
use Rattle.formats.specs.declared.Format.{Format}
use Rattle.log_model.specs.Layout.{AllGood}
use Rattle.log_model.specs.Groups.{end_all, ends_any, is_begin, is_end, passed, last_insert}
use Rattle.log_model.specs.UndoBytes.{undo_records, undo_texts, Places, last_insert_at}
use Rattle.log_model.proofs.Newest.{reverse_snoc}
use Rattle.log_model.proofs.UndoBytes.{records_cons, texts_cons}

-- ---- the newest records that meet a test, and those behind them
abbrev pub run : (Change → Bool) → List Change → ℕ
run f [] = 0
run f (c ∷ u) = cond (f c) (suc (run f u)) 0

pub passed_run : (f : Change → Bool) (u : List Change) → passed f u ≡ drop (run f u) u
unfolding passed
passed_run f [] = refl
passed_run f (c ∷ u) = go (f c) (passed_run f u)
  where
    go : (b : Bool) → passed f u ≡ drop (run f u) u → cond b (passed f u) (c ∷ u) ≡ drop (cond b (suc (run f u)) 0) (c ∷ u)
    go true e = e
    go false e = refl

pub run_count : (f : Change → Bool) (u : List Change) → run f u + length (passed f u) ≡ length u
unfolding passed
run_count f [] = refl
run_count f (c ∷ u) = go (f c) (run_count f u)
  where
    go : (b : Bool) → run f u + length (passed f u) ≡ length u
        → cond b (suc (run f u)) 0 + length (cond b (passed f u) (c ∷ u)) ≡ suc (length u)
    go true e = omega arith
    go false e = omega arith

pub passed_short : (f : Change → Bool) (u : List Change) → length (passed f u) ≤ length u
unfolding passed
passed_short f [] = omega arith
passed_short f (c ∷ u) = go (f c) (passed_short f u)
  where
    go : (b : Bool) → length (passed f u) ≤ length u → length (cond b (passed f u) (c ∷ u)) ≤ suc (length u)
    go true e = omega arith
    go false e = omega arith

pub passed_twice : (f : Change → Bool) (u : List Change) → passed f (passed f u) ≡ passed f u
unfolding passed
passed_twice f [] = refl
passed_twice f (c ∷ u) = go (f c) refl (passed_twice f u)
  where
    go : (b : Bool) → f c ≡ b → passed f (passed f u) ≡ passed f u → passed f (cond b (passed f u) (c ∷ u)) ≡ cond b (passed f u) (c ∷ u)
    go true e g = g
    go false e g = rw e

-- ---- Begins that stand last: the first m of them have no text
pub begins_texts : (m : ℕ) (u : List Change) → m ≤ run is_begin u → undo_texts u ≡ undo_texts (drop m u)
begins_texts zero u h = refl
begins_texts (suc m) [] h = absurd (omega arith)
begins_texts (suc m) (begin ∷ u) h = texts_cons begin u ∙ append-nil (undo_texts u) ∙ begins_texts m u (omega arith)
begins_texts (suc m) (end ∷ u) h = absurd (omega arith)
begins_texts (suc m) (edit x ∷ u) h = absurd (omega arith)

-- ---- Ends put: one byte each, and no text
one_more : (k b : ℕ) → replicate k b ++ (b ∷ []) ≡ b ∷ replicate k b
one_more zero b = refl
one_more (suc k) b = ap (λ (l : List ℕ). b ∷ l) (one_more k b)

pub ends-records : (F : Format) (k : ℕ) (u : List Change) → undo_records F (replicate k end ++ u) ≡ undo_records F u ++ replicate k 2
ends-records F zero u = sym (append-nil (undo_records F u))
ends-records F (suc k) u =
    records_cons F end (replicate k end ++ u) ∙ ap (λ (l : List ℕ). l ++ (2 ∷ [])) (ends-records F k u)
    ∙ append_assoc (undo_records F u) (replicate k 2) (2 ∷ [])
    ∙ ap (λ (l : List ℕ). undo_records F u ++ l) (one_more k 2)

pub ends-texts : (k : ℕ) (u : List Change) → undo_texts (replicate k end ++ u) ≡ undo_texts u
ends-texts zero u = refl
ends-texts (suc k) u = texts_cons end (replicate k end ++ u) ∙ append-nil (undo_texts (replicate k end ++ u)) ∙ ends-texts k u

module _ (R : Repertoire) (w : ℕ) where
  pub good-ends : (k : ℕ) (u : List Change) → AllGood R w u → AllGood R w (replicate k end ++ u)
  good-ends zero u g = g
  good-ends (suc k) u g = ((tt, refl), good-ends k u g)

  pub good-drop : (m : ℕ) (u : List Change) → AllGood R w u → AllGood R w (drop m u)
  good-drop zero u g = g
  good-drop (suc m) [] g = tt
  good-drop (suc m) (c ∷ u) g = good-drop m u g.1

-- ---- end: for each level a Begin on top is dropped, else an End is put
-- as long as Begins stand there
pub end_begins : (n m : ℕ) (u : List Change) → m ≤ run is_begin u → (end_all (m + n) u ≡ end_all n (drop m u)) × (ends_any (m + n) u ≡ ends_any n (drop m u))
unfolding end_all ends_any
end_begins n zero u h = let e : 0 + n ≡ n = omega arith in (ap (λ (k : ℕ). end_all k u) e, ap (λ (k : ℕ). ends_any k u) e)
end_begins n (suc m) [] h = absurd (omega arith)
end_begins n (suc m) (begin ∷ u) h =
    let e : suc m + n ≡ suc (m + n) = omega arith in
    let r = end_begins n m u (omega arith) in
    (ap (λ (k : ℕ). end_all k (begin ∷ u)) e ∙ r.0, ap (λ (k : ℕ). ends_any k (begin ∷ u)) e ∙ r.1)
end_begins n (suc m) (end ∷ u) h = absurd (omega arith)
end_begins n (suc m) (edit x ∷ u) h = absurd (omega arith)

-- an End once put, Ends follow
more_ends : (k : ℕ) (u : List Change) → replicate k end ++ (end ∷ u) ≡ end ∷ (replicate k end ++ u)
more_ends zero u = refl
more_ends (suc k) u = ap (λ (v : List Change). end ∷ v) (more_ends k u)

all-ends : (k : ℕ) (u : List Change) → end_all k (end ∷ u) ≡ replicate k end ++ (end ∷ u)
unfolding end_all
all-ends zero u = refl
all-ends (suc k) u = all-ends k (end ∷ u) ∙ more_ends k (end ∷ u)

-- where no Begin stands on top, each level puts an End
pub end-ends : (k : ℕ) (u : List Change) → (end_all k (passed is_begin u) ≡ replicate k end ++ passed is_begin u) × (ends_any k (passed is_begin u) ≡ ltb 0 k)
unfolding end_all ends_any passed
end-ends zero u = (refl, refl)
end-ends (suc k) [] = (all-ends k [] ∙ more_ends k [], sym (lt-ltb 0 (suc k) (omega arith)))
end-ends (suc k) (begin ∷ u) = end-ends (suc k) u
end-ends (suc k) (end ∷ u) = (all-ends k (end ∷ u) ∙ more_ends k (end ∷ u), sym (lt-ltb 0 (suc k) (omega arith)))
end-ends (suc k) (edit x ∷ u) = (all-ends k (edit x ∷ u) ∙ more_ends k (edit x ∷ u), sym (lt-ltb 0 (suc k) (omega arith)))

-- m Begins are dropped and k Ends put: all Begins, or no level is left
pub record Ended (level m k : ℕ) (u : List Change) : Type 0 where
  pub list : end_all level u ≡ replicate k end ++ drop m u
  pub any : ends_any level u ≡ ltb 0 k

ended-all : (level : ℕ) (u : List Change) → run is_begin u ≤ level → Ended level (run is_begin u) (level - run is_begin u) u
ended-all level u h =
    let m = run is_begin u in
    let e : level ≡ m + (level - m) = omega arith in
    let b = end_begins (level - m) m u (omega arith) in
    let p : drop m u ≡ passed is_begin u = sym (passed_run is_begin u) in
    let q = end-ends (level - m) u in
    record {
      list = ap (λ (k : ℕ). end_all k u) e ∙ b.0 ∙ ap (end_all (level - m)) p ∙ q.0 ∙ ap (λ (v : List Change). replicate (level - m) end ++ v) (sym p);
      any = ap (λ (k : ℕ). ends_any k u) e ∙ b.1 ∙ ap (ends_any (level - m)) p ∙ q.1;
    }

ended_some : (level : ℕ) (u : List Change) → level ≤ run is_begin u → Ended level level (level - level) u
unfolding end_all ends_any
ended_some level u h =
    let e : level ≡ level + 0 = omega arith in
    let z : level - level ≡ 0 = omega arith in
    let b = end_begins 0 level u h in
    rw z (record { list = ap (λ (k : ℕ). end_all k u) e ∙ b.0; any = ap (λ (k : ℕ). ends_any k u) e ∙ b.1 })

-- as many Begins as there are levels, or all that stand there
pub ended-least : (level : ℕ) (u : List Change) (m : ℕ) → m ≡ cond (ltb (run is_begin u) level) (run is_begin u) level → (m ≤ run is_begin u)
    × (m ≤ level) × Ended level m (level - m) u
ended-least level u m e =
    by_less _ (run is_begin u) level
    (λ h. let f : m ≡ run is_begin u = e ∙ rw (lt-ltb (run is_begin u) level h) in rw f (omega arith, omega arith, ended-all level u (omega arith)))
    (λ h. let f : m ≡ level = e ∙ rw (le-ltb (run is_begin u) level h) in rw f (omega arith, omega arith, ended_some level u h))

-- ---- truncate: the first len records, oldest first
kept-front : (n : ℕ) (us : List Change) → n ≤ length us → reverse (drop (length us - n) (reverse us)) ≡ take n us
kept-front zero us h = ap reverse (drop_of_length-le (reverse us) {i = length us - 0} (omega (arith, length-reverse us)))
kept-front (suc n) [] h = absurd (omega arith)
kept-front (suc n) (c ∷ us) h =
    let e : suc (length us) - suc n ≡ length us - n = omega arith in
    ap₂ (λ (k : ℕ) (l : List Change). reverse (drop k l)) e (reverse-cons c us)
    ∙ ap reverse (drop-append-le (length us - n) (reverse us) (c ∷ []) (omega (arith, length-reverse us)))
    ∙ reverse_snoc (drop (length us - n) (reverse us)) c
    ∙ ap (λ (l : List Change). c ∷ l) (kept-front n us (omega arith))

pub truncated-is : (len : ℕ) (us : List Change) → reverse (drop (length (reverse us) - len) (reverse us)) ≡ take len us
truncated-is len us =
    by_less _ len (length us)
    (λ h. ap (λ (n : ℕ). reverse (drop (n - len) (reverse us))) (length-reverse us) ∙ kept-front len us (omega arith))
    (λ h.
    let z : length (reverse us) - len ≡ 0 = omega (arith, length-reverse us) in
    ap (λ (n : ℕ). reverse (drop n (reverse us))) z ∙ reverse-reverse us ∙ sym (take_all len us h))

-- ---- last_insert
-- Ends are passed, and have no text
pub ends-passed : (u : List Change) → (last_insert_at u ≡ last_insert_at (passed is_end u)) × (undo_texts u ≡ undo_texts (passed is_end u))
unfolding last_insert_at passed
ends-passed [] = (refl, refl)
ends-passed (begin ∷ u) = (refl, refl)
ends-passed (end ∷ u) = let r = ends-passed u in (r.0, texts_cons end u ∙ append-nil (undo_texts u) ∙ r.1)
ends-passed (edit x ∷ u) = (refl, refl)

-- at its places stands its text
abbrev pub between : List ℕ → Places → List ℕ
between l p = part l p.0 p.1

abbrev pub text_at : List ℕ → Option Places → Option (List ℕ)
text_at l none = none
text_at l (some p) = some (between l p)

part-behind-front : (a s : List ℕ) (i j : ℕ) → length a ≡ i → i + length s ≡ j → part (a ++ s) i j ≡ s
part-behind-front a s i j e f = rw (drop_at a s i e) (take_all (j - i) s (omega arith))

pub last_insert-at : (u : List Change) → text_at (undo_texts u) (last_insert_at u) ≡ last_insert u
unfolding last_insert_at last_insert
last_insert-at [] = refl
last_insert-at (begin ∷ u) = refl
last_insert-at (end ∷ u) = ap (λ (l : List ℕ). text_at l (last_insert_at u)) (texts_cons end u ∙ append-nil (undo_texts u)) ∙ last_insert-at u
last_insert-at (edit (delete p s) ∷ u) = refl
last_insert-at (edit (insert p s) ∷ u) =
    ap (λ (l : List ℕ). some (between l (length (undo_texts u), length (undo_texts u) + length s))) (texts_cons (edit (insert p s)) u)
    ∙ ap some (part-behind-front (undo_texts u) s (length (undo_texts u)) (length (undo_texts u) + length s) refl refl)
last_insert-at (edit (replace p o n) ∷ u) =
    let i = length (undo_texts u) + length o in
    ap (λ (l : List ℕ). some (between l (i, i + length n))) (texts_cons (edit (replace p o n)) u ∙ sym (append_assoc (undo_texts u) o n))
    ∙ ap some (part-behind-front (undo_texts u ++ o) n i (i + length n) (length-append (undo_texts u) o) refl)
