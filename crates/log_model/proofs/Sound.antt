-- What is read is what was written: a list that decode finds has the bytes as its layout. Assumes nothing.
use Prim.Native.Nat.{ℕ, ◌+◌, ◌≤◌, ◌<◌}
use native.Mathlib.Omega.{arith}
use mathlib.Core.Path.{◌≡◌, refl, sym, ap, ap₂, subst, ◌∙◌}
use mathlib.Core.List.{List, [], ◌∷◌, ◌++◌, append_assoc}
use mathlib.Core.Bool.{Bool, true, false, cond}
use mathlib.Core.Option.{Option, some, none}
use lib.ListN.{length, get_or, take, drop, length-drop, take-append-drop, drop_of_length-le}
use lib.Seq.{drop-cons, drop-drop, take-add, length-take-le}
use lib.Dec.{eqb}
use borrow.Author.Tests.{eqb-true, eqb-false}
use Rattle.repertoire.specs.Repertoire.{Repertoire}
use Rattle.log_model.specs.Change.{Change}
use Rattle.formats.specs.declared.Format.{Format}
use Rattle.log_model.specs.Layout.{record_of, texts_of, Representable, ok_change, Layout, size_of, first_len, second_len, texts_at}
use Rattle.log_model.specs.Layout.{change_at, whole_at, push, decode_at, decode}
use Rattle.numbers.proofs.Numbers.{Bytes, num_small, le_num}
use Rattle.log_model.proofs.Decode.{size-begin, size-end, size-insert, size-delete, size-replace, texts-begin, texts-end}
use Rattle.log_model.proofs.Decode.{texts-insert, texts-delete, texts-replace, change_begin, change_end, change_insert}
use Rattle.log_model.proofs.Decode.{change_delete, change_replace, KindIs, is-begin, is-end, is-insert, is-delete, is-replace}
use Rattle.log_model.proofs.Decode.{kind-is, Whole, whole, at-end, at-bad, at_step}

-- ---- a part cut in two, and a record's parts
cut : (l : List ℕ) (at n m : ℕ) → take (n + m) (drop at l) ≡ take n (drop at l) ++ take m (drop (at + n) l)
cut l at n m = take-add n m (drop at l) ∙ ap (λ (x : List ℕ). take n (drop at l) ++ take m x) (drop-drop n at l)

cut1 : (l : List ℕ) (at w : ℕ) → at < length l → take (1 + w) (drop at l) ≡ get_or l at 0 ∷ take w (drop (at + 1) l)
cut1 l at w h = cut l at 1 w ∙ rw (drop-cons l at 0 h)

cut2 : (l : List ℕ) (at w : ℕ) → at < length l → take (1 + w + w) (drop at l) ≡ get_or l at 0 ∷ (take w (drop (at + 1) l) ++ take w (drop (at + 1 + w) l))
cut2 l at w h =
    let e : at + (1 + w) ≡ at + 1 + w = omega arith in
    cut l at (1 + w) w ∙ rw (cut1 l at w h, e)

cut3 : (l : List ℕ) (at w : ℕ) → at < length l → take (1 + w + w + w) (drop at l) ≡ get_or l at 0 ∷
    (take w (drop (at + 1) l) ++ (take w (drop (at + 1 + w) l) ++ take w (drop (at + 1 + w + w) l)))
cut3 l at w h =
    let e : at + (1 + w + w) ≡ at + 1 + w + w = omega arith in
    cut l at (1 + w + w) w ∙ rw (cut2 l at w h, e) (ap (λ (x : List ℕ). get_or l at 0 ∷ x)
    (append_assoc (take w (drop (at + 1) l)) (take w (drop (at + 1 + w) l)) (take w (drop (at + 1 + w + w) l))))

-- a text's length is what its record says
text-length : (ts : List ℕ) (t n : ℕ) → t + n ≤ length ts → length (take n (drop t ts)) ≡ n
text-length ts t n h = length-take-le n (drop t ts) (simp length-drop (omega arith))

-- ---- the record at a place, of the kind k
module _ (F : Format) (rs ts : List ℕ) (at t k : ℕ) where
  -- written again it is the bytes there
  pub written : KindIs F k → get_or rs at 0 ≡ k → Bytes rs → at + size_of F k ≤ length rs → t + texts_at F rs at k ≤ length ts
      → record_of F (change_at F rs ts at t k) ≡ take (size_of F k) (drop at rs)
  written (is-begin e) g b h i =
      let n = size-begin F k e in
      rw (change_begin F rs ts at t k e, n, drop-cons rs at 0 (omega arith), g ∙ e)
  written (is-end e) g b h i =
      let n = size-end F k e in
      rw (change_end F rs ts at t k e, n, drop-cons rs at 0 (omega arith), g ∙ e)
  written (is-insert e) g b h i =
      let n = size-insert F k e in
      let m = texts-insert F rs at k e in
      rw (
        change_insert F rs ts at t k e,
        n,
        text-length ts t (first_len F rs at) (omega arith),
        le_num F.width rs (at + 1) b (omega arith),
        le_num
            F.width rs (at + 1 + F.width) b (omega arith),
        cut2 rs at F.width (omega arith),
        g ∙ e,
      )
  written (is-delete e) g b h i =
      let n = size-delete F k e in
      let m = texts-delete F rs at k e in
      rw (
        change_delete F rs ts at t k e,
        n,
        text-length ts t (first_len F rs at) (omega arith),
        le_num F.width rs (at + 1) b (omega arith),
        le_num
            F.width rs (at + 1 + F.width) b (omega arith),
        cut2 rs at F.width (omega arith),
        g ∙ e,
      )
  written (is-replace e) g b h i =
      let n = size-replace F k e in
      let m = texts-replace F rs at k e in
      rw (
        change_replace F rs ts at t k e,
        n,
        text-length ts t (first_len F rs at) (omega arith),
        text-length ts (t + first_len F rs at)
            (second_len F rs at) (omega arith),
        le_num F.width rs (at + 1) b (omega arith),
        le_num F.width rs (at + 1 + F.width) b (omega arith),
        le_num F.width rs (at + 1 + F.width + F.width) b (omega arith),
        cut3 rs at F.width (omega arith),
        g ∙ e,
      )

  -- its texts are the bytes there
  pub written-texts : KindIs F k → texts_of (change_at F rs ts at t k) ≡ take (texts_at F rs at k) (drop t ts)
  written-texts (is-begin e) = rw (change_begin F rs ts at t k e, texts-begin F rs at k e)
  written-texts (is-end e) = rw (change_end F rs ts at t k e, texts-end F rs at k e)
  written-texts (is-insert e) = rw (change_insert F rs ts at t k e, texts-insert F rs at k e)
  written-texts (is-delete e) = rw (change_delete F rs ts at t k e, texts-delete F rs at k e)
  written-texts (is-replace e) = rw (change_replace F rs ts at t k e, texts-replace F rs at k e) (sym (cut ts t (first_len F rs at) (second_len F rs at)))

  -- its numbers fit
  pub written_representable : KindIs F k → Bytes rs → t + texts_at F rs at k ≤ length ts → Representable F.width (change_at F rs ts at t k)
  written_representable (is-begin e) b i = rw (change_begin F rs ts at t k e) tt
  written_representable (is-end e) b i = rw (change_end F rs ts at t k e) tt
  written_representable (is-insert e) b i =
      let m = texts-insert F rs at k e in
      rw (change_insert F rs ts at t k e, text-length ts t (first_len F rs at) (omega arith)) (num_small F.width rs (at + 1) b, num_small F.width rs (at + 1 + F.width) b)
  written_representable (is-delete e) b i =
      let m = texts-delete F rs at k e in
      rw (change_delete F rs ts at t k e, text-length ts t (first_len F rs at) (omega arith)) (num_small F.width rs (at + 1) b, num_small F.width rs (at + 1 + F.width) b)
  written_representable (is-replace e) b i =
      let m = texts-replace F rs at k e in
      rw (change_replace F rs ts at t k e, text-length ts t (first_len F rs at) (omega arith), text-length ts (t + first_len F rs at) (second_len F rs at) (omega arith))
      (num_small F.width rs (at + 1) b, num_small F.width rs (at + 1 + F.width) b, num_small F.width rs (at + 1 + F.width + F.width) b)

-- ---- what is pushed and what stands at the end
push_cons : (c : Change) (cs : List Change) (d : Change) (o : Option (List Change)) → push d o ≡ some (c ∷ cs) → (d ≡ c) × (o ≡ some cs)
push_cons c cs d none e = absurd (let z : ◌≡◌ {A = ℕ} 0 1 = cc in omega arith)
push_cons c cs d (some ds) e = (cc, cc)

push_nil : (d : Change) (o : Option (List Change)) → push d o ≡ some [] → ⊥
push_nil d none e = let z : ◌≡◌ {A = ℕ} 0 1 = cc in omega arith
push_nil d (some ds) e = let z : ◌≡◌ {A = ℕ} 0 1 = cc in omega arith

last_nil : (b : Bool) → ◌≡◌ {A = Option (List Change)} (cond b (some []) none) (some []) → b ≡ true
last_nil true e = refl
last_nil false e = absurd (let z : ◌≡◌ {A = ℕ} 0 1 = cc in omega arith)

last_cons : (b : Bool) (c : Change) (cs : List Change) → cond b (some []) none ≡ some (c ∷ cs) → ⊥
last_cons true c cs e = let z : ◌≡◌ {A = ℕ} 0 1 = cc in omega arith
last_cons false c cs e = let z : ◌≡◌ {A = ℕ} 0 1 = cc in omega arith

none_some : (cs : List Change) → none ≡ some cs → ⊥
none_some cs e = let z : ◌≡◌ {A = ℕ} 0 1 = cc in omega arith

-- ---- a list that is found has the bytes as its layout, from any place
module _ (R : Repertoire) (F : Format) (rs ts : List ℕ) where
  pub sound_at : Bytes rs → (cs : List Change) (at t : ℕ) → at ≤ length rs → t ≤ length ts → decode_at R F rs ts at t ≡ some cs → Layout R F (drop at rs) (drop t ts) cs
  sound_at b [] at t l m d = go (eqb at (length rs)) refl (whole_at R F rs ts at t) refl
    where
      go : (x : Bool) → eqb at (length rs) ≡ x → (y : Bool) → whole_at R F rs ts at t ≡ y → Layout R F (drop at rs) (drop t ts) []
      go true e y f =
          let p : at ≡ length rs = eqb-true at (length rs) e in
          let q : t ≡ length ts = eqb-true t (length ts) (last_nil (eqb t (length ts)) (sym (at-end R F rs ts at t p) ∙ d)) in
          record { records = drop_of_length-le rs {i = at} (omega arith); texts = drop_of_length-le ts {i = t} (omega arith); good = tt }
      go false e true f = absurd (push_nil (change_at F rs ts at t (get_or rs at 0))
          (decode_at R F rs ts (at + size_of F (get_or rs at 0)) (t + texts_at F rs at (get_or rs at 0))) (sym (at_step R F rs ts at t (whole R F rs ts at t f)) ∙ d))
      go false e false f =
          let ne = eqb-false at (length rs) e in
          absurd (none_some [] (sym (at-bad R F rs ts at t (omega arith) f) ∙ d))
  sound_at b (c ∷ cs) at t l m d = go (sound_at b cs) (eqb at (length rs)) refl (whole_at R F rs ts at t) refl
    where
      IH : Type 0
      IH = (at t : ℕ) → at ≤ length rs → t ≤ length ts → decode_at R F rs ts at t ≡ some cs → Layout R F (drop at rs) (drop t ts) cs

      k : ℕ
      k = get_or rs at 0

      step : IH → Whole R F rs ts at t → Layout R F (drop at rs) (drop t ts) (c ∷ cs)
      step ih q =
          let n = size_of F k in
          let m = texts_at F rs at k in
          let is = kind-is F k q.kind in
          let p = push_cons c cs (change_at F rs ts at t k) (decode_at R F rs ts (at + n) (t + m)) (sym (at_step R F rs ts at t q) ∙ d) in
          let r = ih (at + n) (t + m) q.body q.room p.1 in
          record {
            records = sym (take-append-drop n (drop at rs)) ∙ ap₂ ◌++◌
                (sym (written F rs ts at t k is refl b q.body q.room) ∙ ap (record_of F) p.0) (drop-drop n at rs ∙ r.records);
            texts = sym (take-append-drop m (drop t ts)) ∙ ap₂ ◌++◌ (sym (written-texts F rs ts at t k is) ∙ ap texts_of p.0) (drop-drop m t ts ∙ r.texts);
            good = ((subst (Representable F.width) p.0 (written_representable F rs ts at t k is b q.room), ap (ok_change R) (sym p.0) ∙ q.fine), r.good);
          }

      go : IH → (x : Bool) → eqb at (length rs) ≡ x → (y : Bool) → whole_at R F rs ts at t ≡ y → Layout R F (drop at rs) (drop t ts) (c ∷ cs)
      go ih true e y f = absurd (last_cons (eqb t (length ts)) c cs (sym (at-end R F rs ts at t (eqb-true at (length rs) e)) ∙ d))
      go ih false e true f = step ih (whole R F rs ts at t f)
      go ih false e false f =
          let ne = eqb-false at (length rs) e in
          absurd (none_some (c ∷ cs) (sym (at-bad R F rs ts at t (omega arith) f) ∙ d))

  pub decode_sound : (cs : List Change) → Bytes rs → decode R F rs ts ≡ some cs → Layout R F rs ts cs
  decode_sound cs b d = sound_at b cs 0 0 (omega arith) (omega arith) d
