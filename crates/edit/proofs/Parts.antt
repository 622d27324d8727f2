-- Parts of a text: what lies between two places, between two characters, and as it is lent from the buffer. Assumes nothing.
use Prim.Native.Nat.{ℕ, ◌+◌, ◌-◌, ◌≤◌}
use native.Mathlib.Omega.{arith}
use mathlib.Core.Path.{◌≡◌, refl, sym, ap, ◌∙◌}
use mathlib.Core.Bool.{true}
use mathlib.Core.List.{List, [], ◌++◌}
use lib.ListN.{length, take, drop, length-drop, take-append-drop}
use lib.Seq.{length-take-le, take-take, drop-drop}
use Rattle.lists.proofs.Parts.{drop-take}
use Rattle.lists.specs.Lists.{part}
use Rattle.utf8.specs.Chars.{boundary, In}
use Rattle.utf8.proofs.Boundary.{boundary-drop}
use Rattle.repertoire.specs.Repertoire.{Repertoire}
use Rattle.repertoire.specs.Text.{is_text}
use Rattle.repertoire.proofs.Text.{text-cut}
use Rattle.log_model.specs.Change.{insert}
use Rattle.log_records.specs.declared.EditKind.TheVariants.{Insert}
use Rattle.log_state.specs.Calls.{Numbered}

-- nothing lies between a place and itself
pub part_none : (t : List ℕ) (a : ℕ) → part t a a ≡ []
part_none t a = let e : a - a ≡ 0 = omega arith in ap (λ (n : ℕ). take n (drop a t)) e

-- so that a text put in is a change of nothing there
pub an_insert : (t : List ℕ) (p : ℕ) (s : List ℕ) → Numbered (insert p s) Insert p (part t p p) s
an_insert t p s = record { kind = refl; place = refl; old = sym (part_none t p); new = refl }

-- a text is what lies before a part, the part, and what lies behind it
pub part-between : (t : List ℕ) (a b : ℕ) → a ≤ b → t ≡ take a t ++ (part t a b ++ drop b t)
part-between t a b h =
    let z : a + (b - a) ≡ b = omega arith in
    let e : drop b t ≡ drop (b - a) (drop a t) = sym (drop-drop (b - a) a t ∙ ap (λ (n : ℕ). drop n t) z) in
    sym (ap (λ (l : List ℕ). take a t ++ (part t a b ++ l)) e ∙ ap (λ (l : List ℕ). take a t ++ l) (take-append-drop (b - a) (drop a t)) ∙ take-append-drop a t)

-- one that lies between two characters
module _ (R : Repertoire) (t : List ℕ) (a b : ℕ) (i : In t a b) where
  pub part_length : length (part t a b) ≡ b - a
  part_length = length-take-le (b - a) (drop a t) (simp length-drop (let h = i.0 in let k = i.1 in omega arith))

  pub part-text : is_text R t ≡ true → is_text R (part t a b) ≡ true
  part-text v =
      let h = i.0 in
      let e : a + (b - a) ≡ b = omega arith in
      let rest = (text-cut R t a v i.2).1 in
      (text-cut R (drop a t) (b - a) rest (sym (boundary-drop t a (b - a) i.2) ∙ ap (boundary t) e ∙ i.3)).0

-- as it is lent from the buffer
pub raw_part : (t : List ℕ) (len a b : ℕ) → b ≤ len → part (take len t) a b ≡ take (b - a) (drop a t)
raw_part t len a b h = ap (take (b - a)) (drop-take a len t) ∙ take-take (b - a) (len - a) (drop a t) (omega arith)
