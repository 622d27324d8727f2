-- A mapping, and a text in upper or lower case, written into a buffer. Assumes nothing.
use mathlib.Core.Path.{◌≡◌, refl, sym, ap, ◌∙◌}
use mathlib.Core.Bool.{true, ◌&&◌}
use mathlib.Core.List.{List, [], ◌∷◌, ◌++◌, append-nil, append_assoc}
use Prim.Native.Nat.{ℕ, ◌+◌, ◌<◌, ◌≤◌}
use native.Mathlib.Omega.{arith}
use borrow.Author.Tests.{le-leb, lt-leb}
use lib.ListN.{length, drop, length-append}
use lib.Seq.{sets, length-sets, drop-drop}
use Rattle.std.specs.Prelude.{Option, Some, None, is_some}
use Rattle.lists.proofs.Bools.{and_both}
use Rattle.lists.proofs.Stores.{sets-append}
use Rattle.utf8.specs.Utf8.{char, bad, first}
use Rattle.utf8.specs.Encode.{scalar, size, encode, encode_all, EncodedAt}
use Rattle.utf8.proofs.Encode.{size-encode, encode-single, first-scalar, written}
use Rattle.repertoire.specs.Repertoire.{Repertoire, Lawful, catalogue}
use Rattle.repertoire.specs.declared.Case.{Case}
use Rattle.repertoire.specs.declared.Mapped.{Mapped}
use Rattle.repertoire.specs.declared.Mapped.TheVariants.{One, Two}
use Rattle.repertoire.specs.Case.{case_of, as_chars, cased, cased_into, MappedFits, MappedAt, CasedInto}
use Rattle.repertoire.proofs.Text.{within-at}
use Rattle.repertoire.proofs.Cased.{case_sizes, case_step, case_none}

-- ---- a mapping
-- a character that has a form in UTF-8 and for which there is room at a place
pub record Fitting (s : List ℕ) (at c : ℕ) : Type 0 where
  pub form : scalar c ≡ true
  pub room : at + size c ≤ length s

-- is written whole
put :
    (s : List ℕ) (at c : ℕ) (after : List ℕ) (o : Option ℕ) → EncodedAt s at c after o → Fitting s at c →
    (after ≡ sets s at (encode c)) × (o ≡ Some (length (encode c)))
put s at c after o w f = written s at c after o w f.form f.room

pub put_some : (s : List ℕ) (at c : ℕ) (after : List ℕ) (o : Option ℕ) → EncodedAt s at c after o → Fitting s at c → is_some o ≡ true
put_some s at c after o w f = ap is_some (put s at c after o w f).1

pub one_fits : (s : List ℕ) (at : ℕ) (m : Mapped) (a : ℕ) → MappedFits (length s) at m → m ≡ One a → Fitting s at a
one_fits s at m a k g =
    let f : MappedFits (length s) at (One a) = rw g at k in
    record { form = (and_both (scalar a) true f.forms).0; room = rw (encode-single a, size-encode a) at f.room }

pub wrote_one :
    (s : List ℕ) (at : ℕ) (m : Mapped) (a : ℕ) (after : List ℕ) (o : Option ℕ) (r : ℕ) → MappedFits (length s) at m → m ≡ One a →
    EncodedAt s at a after o → o ≡ Some r → MappedAt s at m after r
wrote_one s at m a after o r k g w e =
    let p = put s at a after o w (one_fits s at m a k g) in
    let counted : r ≡ length (encode a) = let x = p.1 in cc in
    let q = sym (encode-single a) in
    rw g (record { bytes = p.0 ∙ ap (sets s at) q; counted = counted ∙ ap length q })

module _ (s : List ℕ) (at : ℕ) (m : Mapped) (a b : ℕ) (k : MappedFits (length s) at m) (g : m ≡ Two a b) where
  two_length : length (encode_all (as_chars m)) ≡ length (encode a) + length (encode b)
  unfolding encode_all
  two_length =
      rw g
      (length-append (encode a) (encode_all (b ∷ [])) ∙ ap (λ (l : List ℕ). length (encode a) + length l) (encode-single b))

  pub first_fits : Fitting s at a
  first_fits =
      let f : MappedFits (length s) at (Two a b) = rw g at k in
      record { form = (and_both (scalar a) (scalar b && true) f.forms).0; room = omega (arith, k.room, two_length, size-encode a) }

  -- the first of two characters is written
  module _ (mid : List ℕ) (o : Option ℕ) (n : ℕ) (w : EncodedAt s at a mid o) (e : o ≡ Some n) where
    half_bytes : mid ≡ sets s at (encode a)
    half_bytes = (put s at a mid o w first_fits).0

    half_counted : n ≡ length (encode a)
    half_counted = let x = (put s at a mid o w first_fits).1 in cc

    pub second_fits : Fitting mid (at + n) b
    second_fits =
        let f : MappedFits (length s) at (Two a b) = rw g at k in
        let l : length mid ≡ length s = ap length half_bytes ∙ length-sets s at (encode a) in
        record {
          form = (and_both (scalar b) true (and_both (scalar a) (scalar b && true) f.forms).1).0;
          room = omega (arith, k.room, two_length, half_counted, size-encode b);
        }

    -- the second follows it
    pub wrote_two : (after : List ℕ) (p : Option ℕ) (r : ℕ) → EncodedAt mid (at + n) b after p → p ≡ Some r → MappedAt s at m after (n + r)
    unfolding encode_all
    wrote_two after p r v u =
        let x = put mid (at + n) b after p v second_fits in
        let counted : r ≡ length (encode b) = let y = x.1 in cc in
        let q : encode a ++ encode_all (b ∷ []) ≡ encode a ++ encode b = ap (λ (l : List ℕ). encode a ++ l) (encode-single b) in
        rw g
        (record {
          bytes = x.0 ∙ rw (half_bytes, half_counted) (sets-append s at (encode a) (encode b)) ∙ ap (sets s at) (sym q);
          counted = rw (half_counted, counted) (sym (length-append (encode a) (encode b))) ∙ ap length (sym q);
        })

-- ---- a text
-- the first i bytes of s are written, as n bytes
pub record Writing (R : Repertoire) (k : Case) (before s after : List ℕ) (i n : ℕ) : Type 0 where
  pub done : List ℕ
  pub bytes : after ≡ sets before 0 done
  pub counted : n ≡ length done
  pub rest : done ++ cased R k (drop i s) ≡ cased R k s
  pub under : n ≤ i
  pub within : i ≤ length s
  pub room : length s ≤ length before

pub writing_length : {R : Repertoire} {k : Case} {before s after : List ℕ} {i n : ℕ} → Writing R k before s after i n → length after ≡ length before
writing_length {R} {k} {before} w = ap length w.bytes ∙ length-sets before 0 w.done

module _ (R : Repertoire) (k : Case) (before s : List ℕ) where
  pub writing_start : length s ≤ length before → Writing R k before s before 0 0
  writing_start h = record { done = []; bytes = refl; counted = refl; rest = refl; under = omega arith; within = omega arith; room = h }

  module _ (law : Lawful R) (after : List ℕ) (i n c len : ℕ) (m : Mapped) (w : Writing R k before s after i n) (f : first (drop i s) ≡ char c len)
      (e : as_chars m ≡ case_of R k c) where
    -- the character c at i has a mapping that fits
    pub writing_fits : MappedFits (length after) n m
    writing_fits =
        let o = case_sizes R law k c (first-scalar (drop i s) c len f) in
        let p = within-at s i c len w.within f in
        record { forms = rw e o.1; room = rw e (omega (arith, o.0, p.1, p.2, writing_length w)) }

    pub writing_step : (out : List ℕ) (r : ℕ) → MappedAt after n m out r → Writing R k before s out (i + len) (n + r)
    writing_step out r a =
        let o = case_sizes R law k c (first-scalar (drop i s) c len f) in
        let p = within-at s i c len w.within f in
        let x = encode_all (case_of R k c) in
        let b : out ≡ sets after n x = a.bytes ∙ ap (λ (l : List ℕ). sets after n (encode_all l)) e in
        let d : r ≡ length x = a.counted ∙ ap (λ (l : List ℕ). length (encode_all l)) e in
        let z : n ≡ 0 + length w.done = omega (arith, w.counted) in
        record {
          done = w.done ++ x;
          bytes = b ∙ rw (w.bytes, z) (sets-append before 0 w.done x);
          counted = omega (arith, w.counted, length-append w.done x);
          rest =
              append_assoc w.done x (cased R k (drop (i + len) s)) ∙
              rw (← drop-drop len i s, ← case_step R k (drop i s) c len f) w.rest;
          under = omega (arith, w.under, o.0, p.2);
          within = p.1;
          room = w.room;
        }

pub no_room : (before : List ℕ) (k : Case) (s : List ℕ) → length before < length s → CasedInto before k s before None
unfolding cased_into
no_room before k s h = let l = lt-leb (length s) (length before) h in record { bytes = rw l; counted = rw l }

-- no further character
pub writing_end : (before : List ℕ) (k : Case) (s after : List ℕ) (i n : ℕ) → Writing catalogue k before s after i n → first (drop i s) ≡ bad →
    CasedInto before k s after (Some n)
unfolding cased_into
writing_end before k s after i n w f =
    let l = le-leb (length s) (length before) w.room in
    let e : w.done ≡ cased catalogue k s = sym (append-nil w.done) ∙ ap (λ (l : List ℕ). w.done ++ l) (sym (case_none catalogue k (drop i s) f)) ∙ w.rest in
    record { bytes = w.bytes ∙ rw (l, e); counted = ap Some w.counted ∙ rw (l, e) }
