-- Laws of upper and lower case, over any repertoire. Assumes nothing.
use mathlib.Core.Path.{◌≡◌, refl, ap, ◌∙◌}
use mathlib.Core.Bool.{true}
use mathlib.Core.List.{List, [], ◌∷◌, ◌++◌}
use Prim.Native.Nat.{ℕ, ◌≤◌}
use native.Mathlib.Omega.{arith}
use lib.ListN.{length, drop, length-append, length-drop}
use Rattle.lists.specs.Lists.{all}
use Rattle.lists.proofs.Bools.{and_both}
use Rattle.lists.proofs.Alls.{all_append, all_weaken}
use Rattle.utf8.specs.Utf8.{char, bad, first}
use Rattle.utf8.specs.Chars.{chars}
use Rattle.utf8.specs.Encode.{scalar, size, encode_all}
use Rattle.utf8.proofs.Chars.{first-within, chars_step, chars-bad}
use Rattle.utf8.proofs.Append.{by_chars}
use Rattle.utf8.proofs.Encode.{first-scalar, encode_all-append, chars-encode, valid-encode}
use Rattle.repertoire.specs.Repertoire.{Repertoire, Lawful}
use Rattle.repertoire.specs.declared.Case.{Case}
use Rattle.repertoire.specs.declared.Case.TheVariants.{Upper, Lower}
use Rattle.repertoire.specs.Case.{case_of, case_all, cased}
use Rattle.repertoire.specs.Text.{is_text}
use Rattle.repertoire.proofs.Text.{text_members}

-- no mapping is longer in bytes than its character, and each has a form in UTF-8
pub case_sizes : (R : Repertoire) → Lawful R → (k : Case) (c : ℕ) → scalar c ≡ true →
    (length (encode_all (case_of R k c)) ≤ size c) × (all scalar (case_of R k c) ≡ true)
case_sizes R law Upper = law.upper_sizes
case_sizes R law Lower = law.lower_sizes

module _ (R : Repertoire) (k : Case) where
  -- ---- one character at a time
  pub case_step : (t : List ℕ) (c n : ℕ) → first t ≡ char c n → cased R k t ≡ encode_all (case_of R k c) ++ cased R k (drop n t)
  unfolding cased case_all
  case_step t c n e =
      ap (λ (l : List ℕ). encode_all (case_all R k l)) (chars_step t c n e) ∙ encode_all-append (case_of R k c) (case_all R k (chars (drop n t)))

  pub case_none : (t : List ℕ) → first t ≡ bad → cased R k t ≡ []
  unfolding cased case_all encode_all
  case_none t e = ap (λ (l : List ℕ). encode_all (case_all R k l)) (chars-bad t e)

  -- the bytes do not get more
  pub case_le : Lawful R → (s : List ℕ) → length (cased R k s) ≤ length s
  case_le law =
      by_chars (λ (s : List ℕ). length (cased R k s) ≤ length s) (λ t e. rw (case_none t e) (omega arith))
      (λ t c n e h.
      let w = first-within t c n e in
      let a = w.fits in
      let b = w.sized in
      let m = (case_sizes R law k c (first-scalar t c n e)).0 in
      rw (case_step t c n e, length-append (encode_all (case_of R k c)) (cased R k (drop n t))) (omega (arith, length-drop n t)))

-- ---- a text stays a text
module _ (R : Repertoire) (law : Lawful R) where
  text-encode : (cs : List ℕ) → all R.member cs ≡ true → is_text R (encode_all cs) ≡ true
  unfolding is_text
  text-encode cs e =
      let s = all_weaken R.member scalar law.scalars cs e in
      rw (valid-encode cs s, chars-encode cs s, e)

  mapped_members : (k : Case) (c : ℕ) → R.member c ≡ true → all R.member (case_of R k c) ≡ true
  mapped_members Upper = law.uppers
  mapped_members Lower = law.lowers

  case_members : (k : Case) (cs : List ℕ) → all R.member cs ≡ true → all R.member (case_all R k cs) ≡ true
  unfolding case_all
  case_members k [] e = refl
  case_members k (c ∷ cs) e =
      let p = and_both (R.member c) (all R.member cs) e in
      rw (all_append R.member (case_of R k c) (case_all R k cs), mapped_members k c p.0) (case_members k cs p.1)

  pub cased-text : (k : Case) (s : List ℕ) → is_text R s ≡ true → is_text R (cased R k s) ≡ true
  unfolding cased
  cased-text k s e = text-encode (case_all R k (chars s)) (case_members k (chars s) (text_members R s e))
