-- A word in another case: written into a buffer, and put in for itself. Assumes nothing.
use Prim.Native.Nat.{ℕ, ◌+◌, ◌-◌, ◌≤◌}
use native.Mathlib.Omega.{arith}
use mathlib.Core.Path.{◌≡◌, refl, sym, ap, ap₂, subst, ◌∙◌}
use mathlib.Core.Bool.{true}
use mathlib.Core.List.{List, [], ◌∷◌, ◌++◌, append_assoc, append-nil}
use lib.ListN.{length, take, drop, length-append, length-drop, drop_of_length-le}
use lib.Seq.{sets, length-sets, sets-eq, length-take-le, drop-drop}
use borrow.Author.Tests.{le-leb}
use Rattle.std.specs.Prelude.{Option, Some, is_some, leb}
use Rattle.lists.proofs.Bools.{by_less}
use Rattle.lists.proofs.Parts.{part-tail}
use Rattle.lists.proofs.Stores.{take-sets}
use Rattle.utf8.specs.Chars.{boundary, chars_from, valid_from}
use Rattle.repertoire.specs.Repertoire.{Repertoire, Lawful, catalogue}
use Rattle.repertoire.specs.Text.{is_text}
use Rattle.repertoire.specs.Case.{cased, cased_into, CasedInto}
use Rattle.repertoire.specs.declared.Case.{Case}
use Rattle.repertoire.specs.declared.Case.TheVariants.{Upper, Lower}
use Rattle.repertoire.proofs.Cased.{cased-text}
use Rattle.repertoire.proofs.Catalogue.{cased-le}
use Rattle.repertoire.proofs.Text.{text-append, text-cut, text-valid}
use Rattle.cluster.specs.Clusters.{clusters, first_size}
use Rattle.cluster.proofs.Parts.{first-cut}
use Rattle.edit_case.specs.declared.WordAction.{WordAction}
use Rattle.edit_case.specs.declared.WordAction.TheVariants.{Capitalize, Lowercase, Uppercase}
use Rattle.edit_case.specs.EditWord.{in_case, Written, WrittenAt}

-- ---- written into a buffer
room-at : (out s : List ℕ) (at : ℕ) → at + length s ≤ length out → leb (length s) (length (take (length out - at) (drop at out))) ≡ true
room-at out s at h =
    let n : length (take (length out - at) (drop at out)) ≡ length out - at = ap length (part-tail out at) ∙ length-drop at out in
    le-leb (length s) (length (take (length out - at) (drop at out))) (omega arith)

pub case_some :
    (k : Case) (out s : List ℕ) (at : ℕ) (after : List ℕ) (r : Option ℕ) → at + length s ≤ length out →
    CasedInto (take (length out - at) (drop at out)) k s after r → is_some r ≡ true
case_some k out s at after r h q = ap is_some q.counted ∙ rw (room-at out s at h)

pub case_back :
    (k : Case) (out s : List ℕ) (at : ℕ) (after : List ℕ) (r : Option ℕ) (count : ℕ) → at + length s ≤ length out →
    CasedInto (take (length out - at) (drop at out)) k s after r → r ≡ Some count →
    WrittenAt (cased catalogue k s) out at (take at out ++ (after ++ drop (length out - at) (drop at out))) count
unfolding cased_into
case_back k out s at after r count h q u =
    let x = cased catalogue k s in
    let d : take (length out - at) (drop at out) ≡ drop at out = part-tail out at in
    let room = room-at out s at h in
    let all : cased_into (length (take (length out - at) (drop at out))) k s ≡ x = rw room in
    let told : r ≡ Some (length x) = rw room at q.counted in
    let l = cased-le k s in
    let is : after ≡ sets (drop at out) 0 x = q.bytes ∙ ap₂ (λ (a b : List ℕ). sets a 0 b) d all in
    let none : drop (length out - at) (drop at out) ≡ [] = drop_of_length-le (drop at out) {i = length out - at} (simp length-drop (omega arith)) in
    record {
      bytes =
          ap₂ (λ (a b : List ℕ). take at out ++ (a ++ b)) is none ∙ ap (λ (a : List ℕ). take at out ++ a) (append-nil (sets (drop at out) 0 x))
          ∙ ap (λ (a : List ℕ). take at out ++ a) (sets-eq x (drop at out) 0 (simp length-drop (omega arith)))
          ∙ ap (λ (a : List ℕ). take at out ++ (x ++ a)) (drop-drop (0 + length x) at out
          ∙ ap (λ (i : ℕ). drop i out) (let z : at + (0 + length x) ≡ at + length x = omega arith in z))
          ∙ sym (sets-eq x out at (omega arith) ∙ append_assoc (take at out) x (drop (at + length x) out));
      counted = cc;
    }

-- to the front of a buffer
pub case_front : (x before after : List ℕ) (count : ℕ) → length x ≤ length before → WrittenAt x before 0 after count → Written x after count
case_front x before after count h q =
    let z : length x ≡ 0 + length x = omega arith in
    record { bytes = ap₂ take (q.counted ∙ z) q.bytes ∙ take-sets before 0 x (omega arith); counted = q.counted }

-- in two parts, the second behind the first
pub two-written : (x y before mid after : List ℕ) (a b : ℕ) → length x + length y ≤ length before → WrittenAt x before 0 mid a
    → WrittenAt y mid a after b → Written (x ++ y) after (a + b)
two-written x y before mid after a b h p q =
    let n : a + b ≡ a + length y = ap (λ (i : ℕ). a + i) q.counted in
    let c = p.counted in
    let m : length mid ≡ length before = ap length p.bytes ∙ length-sets before 0 x in
    record {
      bytes =
          ap₂ take n q.bytes ∙ take-sets mid a y (omega arith)
          ∙ ap (λ (l : List ℕ). l ++ y) (case_front x before mid a (omega arith) p).bytes;
      counted = n ∙ ap (λ (i : ℕ). i + length y) c ∙ sym (length-append x y);
    }

-- ---- the three actions
module _ (s before after : List ℕ) (count : ℕ) (h : length s ≤ length before) where
  pub upper-written : WrittenAt (cased catalogue Upper s) before 0 after count → Written (in_case catalogue Uppercase s) after count
  upper-written q = case_front (cased catalogue Upper s) before after count (let l = cased-le Upper s in omega arith) q

  pub lower-written : WrittenAt (cased catalogue Lower s) before 0 after count → Written (in_case catalogue Lowercase s) after count
  lower-written q = case_front (cased catalogue Lower s) before after count (let l = cased-le Lower s in omega arith) q

-- the first cluster's length is within the text
module _ (s before : List ℕ) (m : ℕ) (e : m ≡ first_size catalogue s) (f : m ≤ length s) (h : length s ≤ length before) where
  pub room-behind : (mid : List ℕ) (a : ℕ) → WrittenAt (cased catalogue Upper (take m s)) before 0 mid a → a + length (take (length s - m) (drop m s)) ≤ length mid
  room-behind mid a q =
      let l = cased-le Upper (take m s) in
      omega (arith, q.counted, length-take-le m s f, ap length q.bytes, length-sets before 0 (cased catalogue Upper (take m s)), ap length (part-tail s m), length-drop m s)

  pub capital_written : (mid after : List ℕ) (a b : ℕ) → WrittenAt (cased catalogue Upper (take m s)) before 0 mid a
      → WrittenAt (cased catalogue Lower (take (length s - m) (drop m s))) mid a after b → Written (in_case catalogue Capitalize s) after (a + b)
  capital_written mid after a b p q =
      let x = cased catalogue Upper (take m s) in
      let y = cased catalogue Lower (drop m s) in
      let u = cased-le Upper (take m s) in
      let v = cased-le Lower (drop m s) in
      let d = length-drop m s in
      subst (λ (n : ℕ). Written (cased catalogue Upper (take n s) ++ cased catalogue Lower (drop n s)) after (a + b)) e
      (two-written x y before mid after a b (omega (arith, length-take-le m s f)) p (subst (λ (l : List ℕ). WrittenAt (cased catalogue Lower l) mid a after b) (part-tail s m) q))

  -- so that no sum passes the machine's range
  pub count_small : (mid after : List ℕ) (a b : ℕ) → WrittenAt (cased catalogue Upper (take m s)) before 0 mid a
      → WrittenAt (cased catalogue Lower (take (length s - m) (drop m s))) mid a after b → a + b ≤ length s
  count_small mid after a b p q =
      let u = cased-le Upper (take m s) in
      let v = cased-le Lower (take (length s - m) (drop m s)) in
      omega (arith, p.counted, q.counted, length-take-le m s f, ap length (part-tail s m), length-drop m s)

pub by_action : (w w' : WordAction) (s after : List ℕ) (count : ℕ) → w ≡ w' → Written (in_case catalogue w' s) after count → Written (in_case catalogue w s) after count
by_action w w' s after count e q = subst (λ (x : WordAction). Written (in_case catalogue x s) after count) (sym e) q

-- ---- a text stays a text
nothing-first : (R : Repertoire) → boundary [] (first_size R []) ≡ true
unfolding clusters chars_from valid_from
nothing-first R = refl

module _ (R : Repertoire) (s : List ℕ) (is : is_text R s ≡ true) where
  first-boundary : boundary s (first_size R s) ≡ true
  first-boundary =
      by_less (boundary s (first_size R s) ≡ true) 0 (length s) (λ h. (first-cut R s (text-valid R s is) h).cut.at-boundary) (λ h. no_bytes s (omega arith))
    where
      no_bytes : (t : List ℕ) → length t ≡ 0 → boundary t (first_size R t) ≡ true
      no_bytes [] e = nothing-first R
      no_bytes (b ∷ t) e = absurd (omega arith)

  pub case_text : Lawful R → (w : WordAction) → is_text R (in_case R w s) ≡ true
  case_text law Capitalize =
      let c = text-cut R s (first_size R s) is first-boundary in
      text-append R (cased R Upper (take (first_size R s) s)) (cased R Lower (drop (first_size R s) s))
      (cased-text R law Upper (take (first_size R s) s) c.0) ∙ cased-text R law Lower (drop (first_size R s) s) c.1
  case_text law Lowercase = cased-text R law Lower s is
  case_text law Uppercase = cased-text R law Upper s is
