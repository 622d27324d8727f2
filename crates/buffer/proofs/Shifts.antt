-- Bytes shifted: a turn of the loop that moves them up, a gap closed, bytes filled in, and an insertion and a copy as writes into the tail.
-- Assumes nothing.
use mathlib.Core.Path.{◌≡◌, sym, ap, ◌∙◌}
use mathlib.Core.List.{List, [], ◌∷◌, ◌++◌, append_assoc, append-nil}
use Prim.Native.Nat.{ℕ, suc, ◌+◌, ◌-◌, ◌≤◌}
use native.Mathlib.Omega.{arith}
use borrow.Rule.Slice.PartMut.{put_mid}
use lib.ListN.{length, get_or, set, take, drop, length-take, length-drop}
use lib.ListN.{length-append, take-append-drop, replicate, length-replicate, drop_of_length-le, get_or-append}
use lib.Seq.{slice, slice-cons, slice_empty, take-suc, append_snoc, set_at, get_or-take, length-take-le, take_all, paste}
use lib.Seq.{take_at, drop_at, take-take, drop-drop, take-paste, sets, sets-eq}
use Rattle.std.proofs.lemmas.List.Edits.{paste_all}
use Rattle.std.proofs.lemmas.Slice.{put_mid-paste}
use Rattle.lists.proofs.Parts.{drop-take}
use Rattle.buffer.specs.Edit.{shifted, inserted, cut, written}

-- a turn of the loop that moves bytes up
pub shift_step : (d : List ℕ) (n used i m : ℕ) → m ≡ i + 1 → m ≤ used → used + n ≤ length d
    → set (shifted d n used m) (i + n) (get_or (shifted d n used m) i 0) ≡ shifted d n used i
unfolding shifted
shift_step d n used i m e h k =
    let X : List ℕ = slice m used d ++ drop (used + n) d in
    let y : ℕ = get_or d (i + n) 0 in
    let e1 : m + n ≡ suc (i + n) = omega arith in
    let e2 : m ≡ suc i = omega arith in
    let len : length (take (i + n) d) ≡ i + n = length-take-le (i + n) d (omega arith) in
    let len2 : length (take (m + n) d) ≡ m + n = length-take-le (m + n) d (omega arith) in
    let whole : take (m + n) d ++ X ≡ take (i + n) d ++ (y ∷ X) =
    ap (λ (q : ℕ). take q d ++ X) e1 ∙ ap (λ (l : List ℕ). l ++ X) (take-suc d (i + n) 0 (omega arith)) ∙ append_snoc (take (i + n) d) y X in
    let read : get_or (take (m + n) d ++ X) i 0 ≡ get_or d i 0 =
    get_or-append (take (m + n) d) X 0 i (omega arith) ∙ get_or-take (m + n) d i 0 (omega arith) in
    let cons : slice i used d ≡ get_or d i 0 ∷ slice m used d =
    slice-cons i used d 0 (omega arith) (omega arith) ∙ ap (λ (q : ℕ). get_or d i 0 ∷ slice q used d) (sym e2) in
    ap (λ (v : ℕ). set (take (m + n) d ++ X) (i + n) v) read
    ∙ ap (λ (l : List ℕ). set l (i + n) (get_or d i 0)) whole
    ∙ set_at (take (i + n) d) y X (get_or d i 0) (i + n) len
    ∙ ap (λ (l : List ℕ). take (i + n) d ++ (l ++ drop (used + n) d)) (sym cons)

-- before the first turn nothing has moved
pub shift_none : (d : List ℕ) (n used : ℕ) → d ≡ shifted d n used used
unfolding shifted
shift_none d n used =
    sym (ap (λ (l : List ℕ). take (used + n) d ++ (l ++ drop (used + n) d)) (slice_empty used d) ∙ take-append-drop (used + n) d)

-- the bytes behind a gap copied to where it begins
pub cut_law : (d : List ℕ) (used a b : ℕ) → a ≤ b → b ≤ used → used ≤ length d
    → take (used - (b - a)) (paste d a (drop b d) (used - b)) ≡ cut (take used d) a b
unfolding cut
cut_law d used a b h k r =
    let e : used - (b - a) ≡ a + (used - b) = omega arith in
    let f : used - b ≤ length (drop b d) = simp length-drop (omega arith) in
    ap (λ (q : ℕ). take q (paste d a (drop b d) (used - b))) e
    ∙ take-paste d a (drop b d) (used - b) (omega arith) f
    ∙ ap (λ (q : List ℕ). take a d ++ q) (sym (drop-take b used d))
    ∙ ap (λ (q : List ℕ). q ++ drop b (take used d)) (sym (take-take a used d (omega arith)))

-- a write into the tail is an insertion into the text
pub insert_law : (l : List ℕ) (used at : ℕ) (x R : List ℕ) → at ≤ used → used ≤ length l
    → take (used + length x) (take at l ++ (x ++ (take (used - at) (drop at l) ++ R))) ≡ inserted (take used l) at x
unfolding inserted
insert_law l used at x R h k =
    let P : List ℕ = take at l ++ (x ++ take (used - at) (drop at l)) in
    let len : length P ≡ used + length x = simp (length-append, length-take, length-drop) (omega arith) in
    let shape : take at l ++ (x ++ (take (used - at) (drop at l) ++ R)) ≡ P ++ R = simp append_assoc in
    ap (λ (q : List ℕ). take (used + length x) q) shape
    ∙ take_at P R (used + length x) len
    ∙ ap (λ (q : List ℕ). take at l ++ (x ++ q)) (sym (drop-take at used l))
    ∙ ap (λ (q : List ℕ). q ++ (x ++ drop at (take used l))) (sym (take-take at used l h))

-- a move up and then a write over the front
pub write_law : (d x e f : List ℕ) (used : ℕ) → used + length x ≤ length d → f ≡ shifted d (length x) used 0 → e ≡ x ++ drop (length x) f
    → e ≡ written d used x
unfolding shifted written
write_law d x e f used h p q =
    let z : 0 + length x ≡ length x = omega arith in
    q
    ∙ ap (λ (l : List ℕ). x ++ drop (length x) l) (p ∙ ap (λ (k : ℕ). take k d ++ (take used d ++ drop (used + length x) d)) z)
    ∙ ap (λ (l : List ℕ). x ++ l) (drop_at (take (length x) d) (take used d ++ drop (used + length x) d) (length x) (length-take-le (length x) d (omega arith)))

-- the whole list after its part from at on was written
pub back_law : (l x y : List ℕ) (used at : ℕ) → at ≤ used → used + length x ≤ length l
    → y ≡ written (take (length l - at) (drop at l)) (used - at) x
    → take (used + length x) (take at l ++ (y ++ drop (length l - at) (drop at l))) ≡ inserted (take used l) at x
unfolding written
back_law l x y used at h k p =
    let K : ℕ = length l - at in
    let D : List ℕ = drop at l in
    let all : take K D ≡ D = take_all K D (simp length-drop (omega arith)) in
    let R : List ℕ = drop (used - at + length x) D ++ drop K D in
    let e : y ≡ x ++ (take (used - at) D ++ drop (used - at + length x) D) =
    p ∙ ap (λ (q : List ℕ). x ++ (take (used - at) q ++ drop (used - at + length x) q)) all in
    ap (λ (q : List ℕ). take (used + length x) (take at l ++ (q ++ drop K D))) e
    ∙ ap (λ (q : List ℕ). take (used + length x) (take at l ++ q)) (simp append_assoc)
    ∙ insert_law l used at x R h (omega arith)

-- n bytes b over the part from at on
pub fill_law : (l y : List ℕ) (at n b : ℕ) → at + n ≤ length l → y ≡ replicate (length (take (at + n - at) (drop at l))) b
    → put_mid at (at + n - at) l y ≡ sets l at (replicate n b)
fill_law l y at n b h e =
    let x : List ℕ = replicate n b in
    let k : n ≡ at + n - at = omega arith in
    let len : n ≡ length x = sym (length-replicate n b) in
    let part : length (take (at + n - at) (drop at l)) ≡ n = length-take-le (at + n - at) (drop at l) (simp length-drop (omega arith)) ∙ sym k in
    put_mid-paste at (at + n - at) l y x n (e ∙ ap (λ (i : ℕ). replicate i b) part) k len
    ∙ paste_all l at x n len
    ∙ sym (sets-eq x l at (omega arith) ∙ append_assoc (take at l) x (drop (at + length x) l) ∙
    ap (λ (i : ℕ). take at l ++ (x ++ drop (at + i) l)) (sym len))

-- nothing put in, and nothing cut out
pub insert_none : (s x : List ℕ) (used at : ℕ) → length x ≡ 0 → take (used + length x) s ≡ inserted (take used s) at x
unfolding inserted
insert_none s [] used at e =
    let z : used + 0 ≡ used = omega arith in
    rw z (sym (take-append-drop at (take used s)))
insert_none s (b ∷ x) used at e = absurd (omega arith)

pub cut_none : (s : List ℕ) (used from to : ℕ) → from ≡ to → take (used - (to - from)) s ≡ cut (take used s) from to
unfolding cut
cut_none s used from to e =
    let z : used - (to - from) ≡ used = omega arith in
    rw (z, e) (sym (take-append-drop to (take used s)))

-- the whole list after bytes were written over the front of its part from at on
pub copy_law : (l x y : List ℕ) (at : ℕ) → at + length x ≤ length l → y ≡ x ++ drop (length x) (take (length l - at) (drop at l))
    → take at l ++ (y ++ drop (length l - at) (drop at l)) ≡ sets l at x
copy_law l x y at h e =
    let K : ℕ = length l - at in
    let D : List ℕ = drop at l in
    let len : length D ≡ K = length-drop at l in
    let none : drop K D ≡ [] = drop_of_length-le D {i = K} (omega arith) in
    let front : y ≡ x ++ drop (at + length x) l =
    e ∙ ap (λ (q : List ℕ). x ++ drop (length x) q) (take_all K D (omega arith)) ∙ ap (λ (q : List ℕ). x ++ q) (drop-drop (length x) at l) in
    ap (λ (q : List ℕ). take at l ++ (y ++ q)) none
    ∙ ap (λ (q : List ℕ). take at l ++ q) (append-nil y ∙ front)
    ∙ sym (sets-eq x l at h ∙ append_assoc (take at l) x (drop (at + length x) l))
