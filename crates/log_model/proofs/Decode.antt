-- Reading a layout: record by record, by kind, and the list that was written is read. Assumes nothing.
use Prim.Native.Nat.{ℕ, zero, suc, ◌+◌, ◌-◌, ◌≤◌, ◌<◌}
use native.Mathlib.Omega.{arith}
use mathlib.Core.Path.{◌≡◌, refl, sym, ap, ap₂, ◌∙◌}
use mathlib.Core.List.{List, [], ◌∷◌, ◌++◌, append_assoc}
use mathlib.Core.Bool.{Bool, true, false, ◌&&◌, cond}
use mathlib.Core.Option.{Option, some, none}
use lib.ListN.{length, get_or, take, drop, length-append}
use lib.Seq.{get_or_at, drop_at, take_at}
use lib.Dec.{leb, ltb, eqb}
use borrow.Author.Tests.{ltb-true, leb-true, eqb-true, eqb-false, lt-ltb, le-leb, eq-eqb, ne_eqb}
use Rattle.lists.proofs.Bools.{and_both, by_test}
use Rattle.repertoire.specs.Repertoire.{Repertoire}
use Rattle.repertoire.specs.Text.{is_text}
use Rattle.log_model.specs.Change.{Edit, Change, begin, end, edit, insert, delete, replace}
use Rattle.numbers.specs.Numbers.{top, le, num_at}
use Rattle.formats.specs.declared.Format.{Format}
use Rattle.log_model.specs.Layout.{kind_of, record_of, texts_of, encode_records, encode_texts, Representable, AllGood, ok_change, size_of}
use Rattle.log_model.specs.Layout.{first_len}
use Rattle.log_model.specs.Layout.{second_len, texts_at, change_at, whole_at, push, is_some, decode_from, decode_at, decode}
use Rattle.numbers.proofs.Numbers.{length-le, num_le}

-- ---- a choice by the kind k, where the kinds of edits are raised by o
module _ {A : Type 0} (o k : ℕ) (a b c d e : A) where
  abbrev choice : A
  choice = cond (eqb k 1) a (cond (eqb k 2) b (cond (eqb k (3 + o)) c (cond (eqb k (4 + o)) d e)))

  choice_begin : k ≡ 1 → choice ≡ a
  choice_begin h = simp (eq-eqb k 1 h)

  choice_end : k ≡ 2 → choice ≡ b
  choice_end h = simp (ne_eqb k 1 (λ x. omega arith), eq-eqb k 2 h)

  choice_insert : k ≡ 3 + o → choice ≡ c
  choice_insert h = simp (ne_eqb k 1 (λ x. omega arith), ne_eqb k 2 (λ x. omega arith), eq-eqb k (3 + o) h)

  choice_delete : k ≡ 4 + o → choice ≡ d
  choice_delete h = simp (ne_eqb k 1 (λ x. omega arith), ne_eqb k 2 (λ x. omega arith), ne_eqb k (3 + o) (λ x. omega arith), eq-eqb k (4 + o) h)

  choice_other : (k ≡ 1 → ⊥) → (k ≡ 2 → ⊥) → (k ≡ 3 + o → ⊥) → (k ≡ 4 + o → ⊥) → choice ≡ e
  choice_other f g h i = simp (ne_eqb k 1 f, ne_eqb k 2 g, ne_eqb k (3 + o) h, ne_eqb k (4 + o) i)

-- ---- a record's size by its kind
module _ (F : Format) (k : ℕ) where
  pub size-begin : k ≡ 1 → size_of F k ≡ 1
  unfolding size_of
  size-begin h = choice_begin F.offset k _ _ _ _ _ h

  pub size-end : k ≡ 2 → size_of F k ≡ 1
  unfolding size_of
  size-end h = choice_end F.offset k _ _ _ _ _ h

  pub size-insert : k ≡ 3 + F.offset → size_of F k ≡ 1 + F.width + F.width
  unfolding size_of
  size-insert h = choice_insert F.offset k _ _ _ _ _ h

  pub size-delete : k ≡ 4 + F.offset → size_of F k ≡ 1 + F.width + F.width
  unfolding size_of
  size-delete h = choice_delete F.offset k _ _ _ _ _ h

  pub size-replace : k ≡ 5 + F.offset → size_of F k ≡ 1 + F.width + F.width + F.width
  unfolding size_of
  size-replace h = choice_other F.offset k _ _ _ _ _ (λ x. omega arith) (λ x. omega arith) (λ x. omega arith) (λ x. omega arith) ∙ rw (eq-eqb k (5 + F.offset) h)

  -- no kind has no size
  pub size_none : (k ≡ 1 → ⊥) → (k ≡ 2 → ⊥) → (k ≡ 3 + F.offset → ⊥) → (k ≡ 4 + F.offset → ⊥) → (k ≡ 5 + F.offset → ⊥) → size_of F k ≡ 0
  unfolding size_of
  size_none f g h i j = choice_other F.offset k _ _ _ _ _ f g h i ∙ rw (ne_eqb k (5 + F.offset) j)

-- ---- the size of its texts by its kind
module _ (F : Format) (rs : List ℕ) (at k : ℕ) where
  pub texts-begin : k ≡ 1 → texts_at F rs at k ≡ 0
  unfolding texts_at
  texts-begin h = choice_begin F.offset k _ _ _ _ _ h

  pub texts-end : k ≡ 2 → texts_at F rs at k ≡ 0
  unfolding texts_at
  texts-end h = choice_end F.offset k _ _ _ _ _ h

  pub texts-insert : k ≡ 3 + F.offset → texts_at F rs at k ≡ first_len F rs at
  unfolding texts_at
  texts-insert h = choice_insert F.offset k _ _ _ _ _ h

  pub texts-delete : k ≡ 4 + F.offset → texts_at F rs at k ≡ first_len F rs at
  unfolding texts_at
  texts-delete h = choice_delete F.offset k _ _ _ _ _ h

  pub texts-replace : k ≡ 5 + F.offset → texts_at F rs at k ≡ first_len F rs at + second_len F rs at
  unfolding texts_at
  texts-replace h = choice_other F.offset k _ _ _ _ _ (λ x. omega arith) (λ x. omega arith) (λ x. omega arith) (λ x. omega arith)

-- ---- the change by its kind
module _ (F : Format) (rs ts : List ℕ) (at t k : ℕ) where
  pub change_begin : k ≡ 1 → change_at F rs ts at t k ≡ begin
  unfolding change_at
  change_begin h = choice_begin F.offset k _ _ _ _ _ h

  pub change_end : k ≡ 2 → change_at F rs ts at t k ≡ end
  unfolding change_at
  change_end h = choice_end F.offset k _ _ _ _ _ h

  pub change_insert : k ≡ 3 + F.offset → change_at F rs ts at t k ≡ edit (insert (num_at F.width rs (at + 1)) (take (first_len F rs at) (drop t ts)))
  unfolding change_at
  change_insert h = choice_insert F.offset k _ _ _ _ _ h

  pub change_delete : k ≡ 4 + F.offset → change_at F rs ts at t k ≡ edit (delete (num_at F.width rs (at + 1)) (take (first_len F rs at) (drop t ts)))
  unfolding change_at
  change_delete h = choice_delete F.offset k _ _ _ _ _ h

  pub change_replace : k ≡ 5 + F.offset
      → change_at F rs ts at t k ≡ edit (replace (num_at F.width rs (at + 1)) (take (first_len F rs at) (drop t ts)) (take (second_len F rs at) (drop (t + first_len F rs at) ts)))
  unfolding change_at
  change_replace h = choice_other F.offset k _ _ _ _ _ (λ x. omega arith) (λ x. omega arith) (λ x. omega arith) (λ x. omega arith)

-- ---- the kinds
pub data KindIs (F : Format) (k : ℕ) : Type 0 where
  is-begin : k ≡ 1 → KindIs F k
  is-end : k ≡ 2 → KindIs F k
  is-insert : k ≡ 3 + F.offset → KindIs F k
  is-delete : k ≡ 4 + F.offset → KindIs F k
  is-replace : k ≡ 5 + F.offset → KindIs F k

-- a record with a size has one of them
pub kind-is : (F : Format) (k : ℕ) → 0 < size_of F k → KindIs F k
kind-is F k h =
    by_test (KindIs F k) (eqb k 1) (λ e. is-begin (eqb-true k 1 e))
    (λ a. by_test (KindIs F k) (eqb k 2) (λ e. is-end (eqb-true k 2 e))
    (λ b. by_test (KindIs F k) (eqb k (3 + F.offset)) (λ e. is-insert (eqb-true k (3 + F.offset) e))
    (λ c. by_test (KindIs F k) (eqb k (4 + F.offset)) (λ e. is-delete (eqb-true k (4 + F.offset) e))
    (λ d. by_test (KindIs F k) (eqb k (5 + F.offset)) (λ e. is-replace (eqb-true k (5 + F.offset) e))
    (λ f. let z = size_none F k (eqb-false k 1 a) (eqb-false k 2 b) (eqb-false k (3 + F.offset) c) (eqb-false k (4 + F.offset) d)
    (eqb-false k (5 + F.offset) f) in absurd (omega arith))))))

-- a kind that is none of the others is that of a replacement
pub is_replacement : (F : Format) (k : ℕ) → KindIs F k → 2 < k → (k ≡ 3 + F.offset → ⊥) → (k ≡ 4 + F.offset → ⊥) → k ≡ 5 + F.offset
is_replacement F k (is-begin e) h f g = absurd (omega arith)
is_replacement F k (is-end e) h f g = absurd (omega arith)
is_replacement F k (is-insert e) h f g = absurd (f e)
is_replacement F k (is-delete e) h f g = absurd (g e)
is_replacement F k (is-replace e) h f g = e

-- a Begin and an End have no body, an insertion and a deletion one of two numbers, a replacement one of three
module _ (F : Format) (k : ℕ) where
  pub size_low : KindIs F k → k ≤ 2 → size_of F k ≡ 1
  size_low (is-begin e) h = size-begin F k e
  size_low (is-end e) h = size-end F k e
  size_low (is-insert e) h = absurd (omega arith)
  size_low (is-delete e) h = absurd (omega arith)
  size_low (is-replace e) h = absurd (omega arith)

  pub size_mid : KindIs F k → 2 < k → k ≤ 4 + F.offset → size_of F k ≡ 1 + F.width + F.width
  size_mid (is-begin e) h i = absurd (omega arith)
  size_mid (is-end e) h i = absurd (omega arith)
  size_mid (is-insert e) h i = size-insert F k e
  size_mid (is-delete e) h i = size-delete F k e
  size_mid (is-replace e) h i = absurd (omega arith)

  pub size_high : KindIs F k → 4 + F.offset < k → size_of F k ≡ 1 + F.width + F.width + F.width
  size_high (is-begin e) h = absurd (omega arith)
  size_high (is-end e) h = absurd (omega arith)
  size_high (is-insert e) h = absurd (omega arith)
  size_high (is-delete e) h = absurd (omega arith)
  size_high (is-replace e) h = size-replace F k e

-- no text, one, two
module _ (F : Format) (rs : List ℕ) (at k : ℕ) where
  pub texts_low : KindIs F k → k ≤ 2 → texts_at F rs at k ≡ 0
  texts_low (is-begin e) h = texts-begin F rs at k e
  texts_low (is-end e) h = texts-end F rs at k e
  texts_low (is-insert e) h = absurd (omega arith)
  texts_low (is-delete e) h = absurd (omega arith)
  texts_low (is-replace e) h = absurd (omega arith)

  pub texts_mid : KindIs F k → 2 < k → k ≤ 4 + F.offset → texts_at F rs at k ≡ first_len F rs at
  texts_mid (is-begin e) h i = absurd (omega arith)
  texts_mid (is-end e) h i = absurd (omega arith)
  texts_mid (is-insert e) h i = texts-insert F rs at k e
  texts_mid (is-delete e) h i = texts-delete F rs at k e
  texts_mid (is-replace e) h i = absurd (omega arith)

  pub texts_high : KindIs F k → 4 + F.offset < k → texts_at F rs at k ≡ first_len F rs at + second_len F rs at
  texts_high (is-begin e) h = absurd (omega arith)
  texts_high (is-end e) h = absurd (omega arith)
  texts_high (is-insert e) h = absurd (omega arith)
  texts_high (is-delete e) h = absurd (omega arith)
  texts_high (is-replace e) h = texts-replace F rs at k e

-- and their bytes
module _ (R : Repertoire) (F : Format) (rs ts : List ℕ) (at t k : ℕ) where
  pub fine_low : KindIs F k → k ≤ 2 → ok_change R (change_at F rs ts at t k) ≡ true
  fine_low (is-begin e) h = rw (change_begin F rs ts at t k e)
  fine_low (is-end e) h = rw (change_end F rs ts at t k e)
  fine_low (is-insert e) h = absurd (omega arith)
  fine_low (is-delete e) h = absurd (omega arith)
  fine_low (is-replace e) h = absurd (omega arith)

  pub fine_mid : KindIs F k → 2 < k → k ≤ 4 + F.offset → ok_change R (change_at F rs ts at t k) ≡ is_text R (take (first_len F rs at) (drop t ts))
  fine_mid (is-begin e) h i = absurd (omega arith)
  fine_mid (is-end e) h i = absurd (omega arith)
  fine_mid (is-insert e) h i = ap (ok_change R) (change_insert F rs ts at t k e)
  fine_mid (is-delete e) h i = ap (ok_change R) (change_delete F rs ts at t k e)
  fine_mid (is-replace e) h i = absurd (omega arith)

  pub fine_high : KindIs F k → 4 + F.offset < k
      → ok_change R (change_at F rs ts at t k) ≡ (is_text R (take (first_len F rs at) (drop t ts)) && is_text R (take (second_len F rs at) (drop (t + first_len F rs at) ts)))
  fine_high (is-begin e) h = absurd (omega arith)
  fine_high (is-end e) h = absurd (omega arith)
  fine_high (is-insert e) h = absurd (omega arith)
  fine_high (is-delete e) h = absurd (omega arith)
  fine_high (is-replace e) h = ap (ok_change R) (change_replace F rs ts at t k e)

-- ---- what whole_at says
pub record Whole (R : Repertoire) (F : Format) (rs ts : List ℕ) (at t : ℕ) : Type 0 where
  pub kind : 0 < size_of F (get_or rs at 0)
  pub body : at + size_of F (get_or rs at 0) ≤ length rs
  pub room : t + texts_at F rs at (get_or rs at 0) ≤ length ts
  pub fine : ok_change R (change_at F rs ts at t (get_or rs at 0)) ≡ true

module _ (R : Repertoire) (F : Format) (rs ts : List ℕ) where
  pub whole : (at t : ℕ) → whole_at R F rs ts at t ≡ true → Whole R F rs ts at t
  unfolding whole_at
  whole at t e =
      let n = size_of F (get_or rs at 0) in
      let m = texts_at F rs at (get_or rs at 0) in
      let x = and_both (ltb 0 n) _ e in
      let y = and_both (leb (at + n) (length rs)) _ x.1 in
      let z = and_both (leb (t + m) (length ts)) _ y.1 in
      record { kind = ltb-true 0 n x.0; body = leb-true _ _ y.0; room = leb-true _ _ z.0; fine = z.1 }

  pub whole_true : (at t : ℕ) → Whole R F rs ts at t → whole_at R F rs ts at t ≡ true
  unfolding whole_at
  whole_true at t h = simp (lt-ltb _ _ h.kind, le-leb _ _ h.body, le-leb _ _ h.room, h.fine)

  pub whole_false : (at t : ℕ) → (Whole R F rs ts at t → ⊥) → whole_at R F rs ts at t ≡ false
  whole_false at t no_whole = by_test (whole_at R F rs ts at t ≡ false) (whole_at R F rs ts at t) (λ e. absurd (no_whole (whole at t e))) (λ e. e)

  -- the fuel does not matter
  pub fuel : (k j at t : ℕ) → length rs - at < k → length rs - at < j → at ≤ length rs → decode_from R F rs ts k at t ≡ decode_from R F rs ts j at t
  fuel zero j at t h i l = absurd (omega arith)
  fuel (suc k) zero at t h i l = absurd (omega arith)
  fuel (suc k) (suc j) at t h i l = go (fuel k j) (eqb at (length rs)) refl (whole_at R F rs ts at t) refl
    where
      IH : Type 0
      IH = (at t : ℕ) → length rs - at < k → length rs - at < j → at ≤ length rs → decode_from R F rs ts k at t ≡ decode_from R F rs ts j at t

      more : IH → Whole R F rs ts at t → (at ≡ length rs → ⊥) → decode_from R F rs ts k (at + size_of F (get_or rs at 0))
          (t + texts_at F rs at (get_or rs at 0)) ≡ decode_from R F rs ts j (at + size_of F (get_or rs at 0)) (t + texts_at F rs at (get_or rs at 0))
      more ih q ne =
          let z = q.kind in
          let y = q.body in
          ih _ _ (omega arith) (omega arith) (omega arith)

      go : IH → (b : Bool) → eqb at (length rs) ≡ b → (d : Bool) → whole_at R F rs ts at t ≡ d → decode_from R F rs ts (suc k) at t ≡ decode_from R F rs ts (suc j) at t
      go ih true e d f = simp e
      go ih false e true f = simp (e, f, more ih (whole at t f) (eqb-false at (length rs) e))
      go ih false e false f = simp (e, f)

  -- ---- reading goes record by record: at the end, at what is no whole record, at a record
  pub at-end : (at t : ℕ) → at ≡ length rs → decode_at R F rs ts at t ≡ cond (eqb t (length ts)) (some []) none
  unfolding decode_at
  at-end at t e = simp (eq-eqb at (length rs) e)

  pub at-bad : (at t : ℕ) → at < length rs → whole_at R F rs ts at t ≡ false → decode_at R F rs ts at t ≡ none
  unfolding decode_at
  at-bad at t l f = simp (ne_eqb at (length rs) (λ e. omega arith), f)

  pub at_step : (at t : ℕ) → Whole R F rs ts at t → decode_at R F rs ts at t ≡ push (change_at F rs ts at t (get_or rs at 0))
      (decode_at R F rs ts (at + size_of F (get_or rs at 0)) (t + texts_at F rs at (get_or rs at 0)))
  unfolding decode_at
  at_step at t q =
      let z = q.kind in
      let y = q.body in
      simp (ne_eqb at (length rs) (λ e. omega arith), whole_true at t q)
      (ap (push (change_at F rs ts at t (get_or rs at 0))) (fuel (length rs - at) (suc (length rs - (at + size_of F (get_or rs at 0))))
      (at + size_of F (get_or rs at 0)) (t + texts_at F rs at (get_or rs at 0)) (omega arith) (omega arith) y))

-- ---- whether there is a list, step by step
pub is_some-push : (c : Change) (o : Option (List Change)) → is_some (push c o) ≡ is_some o
is_some-push c none = refl
is_some-push c (some cs) = refl

is_some_last : (b : Bool) → is_some (cond b (some []) none) ≡ b
is_some_last true = refl
is_some_last false = refl

module _ (R : Repertoire) (F : Format) (rs ts : List ℕ) (at t : ℕ) where
  pub some_end : at ≡ length rs → is_some (decode_at R F rs ts at t) ≡ eqb t (length ts)
  some_end e = ap is_some (at-end R F rs ts at t e) ∙ is_some_last (eqb t (length ts))

  pub some_bad : at < length rs → whole_at R F rs ts at t ≡ false → is_some (decode_at R F rs ts at t) ≡ false
  some_bad l e = ap is_some (at-bad R F rs ts at t l e)

  pub some_step : Whole R F rs ts at t → is_some (decode_at R F rs ts at t) ≡ is_some (decode_at R F rs ts (at + size_of F (get_or rs at 0)) (t + texts_at F rs at (get_or rs at 0)))
  some_step q = ap is_some (at_step R F rs ts at t q) ∙ is_some-push (change_at F rs ts at t (get_or rs at 0))
      (decode_at R F rs ts (at + size_of F (get_or rs at 0)) (t + texts_at F rs at (get_or rs at 0)))

-- ---- a record that was written is read
-- the first two numbers of a body, and the third
nums2 : (w k a b at : ℕ) (p rest : List ℕ) → length p ≡ at → a < top w → b < top w
    → (num_at w (p ++ (k ∷ (le w a ++ (le w b ++ rest)))) (at + 1) ≡ a) × (num_at w (p ++ (k ∷ (le w a ++ (le w b ++ rest)))) (at + 1 + w) ≡ b)
nums2 w k a b at p rest e ha hb = (
  simp append_assoc at (num_le w a (at + 1) (p ++ (k ∷ [])) (le w b ++ rest) (simp length-append (omega arith)) ha),
  simp append_assoc at (num_le w b (at + 1 + w) ((p ++ (k ∷ [])) ++ le w a) rest (simp (length-append, length-le) (omega arith)) hb),
)

num3 : (w k a b c at : ℕ) (p rest : List ℕ) → length p ≡ at → c < top w
    → num_at w (p ++ (k ∷ (le w a ++ (le w b ++ (le w c ++ rest))))) (at + 1 + w + w) ≡ c
num3 w k a b c at p rest e hc =
    simp append_assoc at (num_le w c (at + 1 + w + w) (((p ++ (k ∷ [])) ++ le w a) ++ le w b) rest (simp (length-append, length-le) (omega arith)) hc)

-- the text of n bytes at t
pub text_at : (q s rest : List ℕ) (t n : ℕ) → length q ≡ t → n ≡ length s → take n (drop t (q ++ (s ++ rest))) ≡ s
text_at q s rest t n e f = rw (drop_at q (s ++ rest) t e) (take_at s rest n (sym f))

-- the change c is what stands at at and t
pub record Reads (F : Format) (c : Change) (rs ts : List ℕ) (at t : ℕ) : Type 0 where
  pub kind : get_or rs at 0 ≡ kind_of F c
  pub size : size_of F (get_or rs at 0) ≡ length (record_of F c)
  pub texts : texts_at F rs at (get_or rs at 0) ≡ length (texts_of c)
  pub change : change_at F rs ts at t (get_or rs at 0) ≡ c

pub reads : (F : Format) (c : Change) (p q rest trest : List ℕ) (at t : ℕ) → length p ≡ at → length q ≡ t → Representable F.width c
    → Reads F c (p ++ (record_of F c ++ rest)) (q ++ (texts_of c ++ trest)) at t
reads F begin p q rest trest at t e f h =
    let k = get_or_at p 1 rest 0 at e in
    record { kind = k; size = size-begin F _ k; texts = texts-begin F _ at _ k; change = change_begin F _ _ at t _ k }
reads F end p q rest trest at t e f h =
    let k = get_or_at p 2 rest 0 at e in
    record { kind = k; size = size-end F _ k; texts = texts-end F _ at _ k; change = change_end F _ _ at t _ k }
reads F (edit (insert a s)) p q rest trest at t e f h =
    let w = F.width in
    let o = 3 + F.offset in
    let k = get_or_at p o (le w a ++ (le w (length s) ++ rest)) 0 at e in
    let n = nums2 w o a (length s) at p rest e h.0 h.1 in
    rw (append_assoc (le w a) (le w (length s)) rest)
    (record {
      kind = k;
      size = size-insert F _ k ∙ simp (length-append, length-le) (omega arith);
      texts = texts-insert F _ at _ k ∙ n.1;
      change = change_insert F _ _ at t _ k ∙ simp (n.0, n.1, text_at q s trest t (length s) f refl);
    })
reads F (edit (delete a s)) p q rest trest at t e f h =
    let w = F.width in
    let o = 4 + F.offset in
    let k = get_or_at p o (le w a ++ (le w (length s) ++ rest)) 0 at e in
    let n = nums2 w o a (length s) at p rest e h.0 h.1 in
    rw (append_assoc (le w a) (le w (length s)) rest)
    (record {
      kind = k;
      size = size-delete F _ k ∙ simp (length-append, length-le) (omega arith);
      texts = texts-delete F _ at _ k ∙ n.1;
      change = change_delete F _ _ at t _ k ∙ simp (n.0, n.1, text_at q s trest t (length s) f refl);
    })
reads F (edit (replace a s u)) p q rest trest at t e f h =
    let w = F.width in
    let o = 5 + F.offset in
    let k = get_or_at p o (le w a ++ (le w (length s) ++ (le w (length u) ++ rest))) 0 at e in
    let n = nums2 w o a (length s) at p (le w (length u) ++ rest) e h.0 h.1 in
    let m = num3 w o a (length s) (length u) at p rest e h.2 in
    let v = text_at (q ++ s) u trest (t + length s) (length u) (simp length-append (omega arith)) refl in
    let v' : take (length u) (drop (t + length s) (q ++ (s ++ (u ++ trest)))) ≡ u = rw append_assoc at v in
    rw (append_assoc (le w a) (le w (length s) ++ le w (length u)) rest, append_assoc (le w (length s)) (le w (length u)) rest, append_assoc s u trest)
    (record {
      kind = k;
      size = size-replace F _ k ∙ simp (length-append, length-le) (omega arith);
      texts = texts-replace F _ at _ k ∙ simp (n.1, m, length-append);
      change = change_replace F _ _ at t _ k ∙ simp (n.0, n.1, m, text_at q s (u ++ trest) t (length s) f refl, v');
    })

-- the numbers of an edit's record stand in its body
abbrev pub NumbersAt : (F : Format) → Edit → List ℕ → ℕ → Type 0
NumbersAt F (insert a s) rs at = (num_at F.width rs (at + 1) ≡ a) × (first_len F rs at ≡ length s)
NumbersAt F (delete a s) rs at = (num_at F.width rs (at + 1) ≡ a) × (first_len F rs at ≡ length s)
NumbersAt F (replace a s u) rs at = (num_at F.width rs (at + 1) ≡ a) × (first_len F rs at ≡ length s) × (second_len F rs at ≡ length u)

pub numbers-at : (F : Format) (x : Edit) (p rest : List ℕ) (at : ℕ) → length p ≡ at → Representable F.width (edit x) → NumbersAt F x (p ++ (record_of F (edit x) ++ rest)) at
numbers-at F (insert a s) p rest at e h =
    let w = F.width in
    rw (append_assoc (le w a) (le w (length s)) rest) (nums2 w (3 + F.offset) a (length s) at p rest e h.0 h.1)
numbers-at F (delete a s) p rest at e h =
    let w = F.width in
    rw (append_assoc (le w a) (le w (length s)) rest) (nums2 w (4 + F.offset) a (length s) at p rest e h.0 h.1)
numbers-at F (replace a s u) p rest at e h =
    let w = F.width in
    let n = nums2 w (5 + F.offset) a (length s) at p (le w (length u) ++ rest) e h.0 h.1 in
    let m = num3 w (5 + F.offset) a (length s) (length u) at p rest e h.2 in
    rw (append_assoc (le w a) (le w (length s) ++ le w (length u)) rest, append_assoc (le w (length s)) (le w (length u)) rest) (n.0, n.1, m)

pub record_pos : (F : Format) (c : Change) → 0 < length (record_of F c)
record_pos F begin = omega arith
record_pos F end = omega arith
record_pos F (edit (insert a s)) = omega arith
record_pos F (edit (delete a s)) = omega arith
record_pos F (edit (replace a s u)) = omega arith

-- there are no more records than bytes
pub records_many : (F : Format) (us : List Change) → length us ≤ length (encode_records F us)
records_many F [] = omega arith
records_many F (c ∷ us) = omega (arith, records_many F us, record_pos F c, length-append (record_of F c) (encode_records F us))

-- a list that was written is read, from any place
module _ (R : Repertoire) (F : Format) where
  pub decode-encode-at : (cs : List Change) (p q : List ℕ) (at t : ℕ) → length p ≡ at → length q ≡ t → AllGood R F.width cs
      → decode_at R F (p ++ encode_records F cs) (q ++ encode_texts cs) at t ≡ some cs
  decode-encode-at [] p q at t e f h =
      rw (at-end R F (p ++ []) (q ++ []) at t (simp length-append (omega arith))) (rw (eq-eqb t (length (q ++ [])) (simp length-append (omega arith))))
  decode-encode-at (c ∷ cs) p q at t e f h =
      let rs = p ++ (record_of F c ++ encode_records F cs) in
      let ts = q ++ (texts_of c ++ encode_texts cs) in
      let r = reads F c p q (encode_records F cs) (encode_texts cs) at t e f h.0.0 in
      let n : length (p ++ record_of F c) ≡ at + size_of F (get_or rs at 0) = simp (length-append, r.size) (omega arith) in
      let m : length (q ++ texts_of c) ≡ t + texts_at F rs at (get_or rs at 0) = simp (length-append, r.texts) (omega arith) in
      let more : decode_at R F ((p ++ record_of F c) ++ encode_records F cs) ((q ++ texts_of c) ++ encode_texts cs) (at + size_of F (get_or rs at 0))
      (t + texts_at F rs at (get_or rs at 0)) ≡ some cs
      = decode-encode-at cs (p ++ record_of F c) (q ++ texts_of c) (at + size_of F (get_or rs at 0)) (t + texts_at F rs at (get_or rs at 0)) n m h.1 in
      let more' : decode_at R F rs ts (at + size_of F (get_or rs at 0)) (t + texts_at F rs at (get_or rs at 0)) ≡ some cs = rw
      (append_assoc p (record_of F c) (encode_records F cs), append_assoc q (texts_of c) (encode_texts cs)) at more in
      let pos = record_pos F c in
      let ok : Whole R F rs ts at t = record {
        kind = rw r.size pos;
        body = simp (length-append, r.size) (omega arith);
        room = simp
            (length-append, r.texts) (omega arith);
        fine = ap (ok_change R) r.change ∙ h.0.1;
      } in
      at_step R F rs ts at t ok ∙ ap₂ push r.change more'

  pub decode-encode : (cs : List Change) → AllGood R F.width cs → decode R F (encode_records F cs) (encode_texts cs) ≡ some cs
  decode-encode cs h = decode-encode-at cs [] [] 0 0 refl refl h
