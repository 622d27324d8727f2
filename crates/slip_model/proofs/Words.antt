-- The words of a text: each has a cluster, and none has white space or \n in it. Assumes nothing.
use Prim.Native.Nat.{ℕ, ◌<◌}
use mathlib.Core.Path.{◌≡◌, refl, sym, ap, ◌∙◌}
use mathlib.Core.Bool.{Bool, true, false, cond}
use mathlib.Core.List.{List, [], ◌∷◌}
use native.Mathlib.Omega.{arith}
use lib.Dec.{eqb}
use lib.ListN.{length}
use borrow.Author.Tests.{eqb-true}
use Rattle.lists.specs.Lists.{any, concat}
use Rattle.lists.proofs.Bools.{or_none, never, by_test}
use Rattle.lists.proofs.Every.{Every}
use Rattle.lists.proofs.Alls.{any_none}
use Rattle.repertoire.specs.Repertoire.{Repertoire}
use Rattle.slip_model.specs.Slip.{Word, Item, word, gap, newline, grown, items_of}
use Rattle.slip_model.specs.Promised.{words_in}

-- a word as a text has it
pub record Plain (R : Repertoire) (w : Word) : Type 0 where
  pub no_white : any R.white (concat w) ≡ false
  pub no_newline : any (eqb 0x0A) (concat w) ≡ false
  pub some : 0 < length w

-- characters without \n and without white space
pub record Clear (R : Repertoire) (k : List ℕ) : Type 0 where
  pub no_newline : any (eqb 0x0A) k ≡ false
  pub no_white : any R.white k ≡ false

-- where no white space is, a character that is white space is not
pub no-white : (R : Repertoire) (w : ℕ) → R.white w ≡ true → (cs : List ℕ) → any R.white cs ≡ false → any (eqb w) cs ≡ false
no-white R w h [] e = refl
no-white R w h (c ∷ cs) e =
    let p = or_none (R.white c) (any R.white cs) e in
    by_test (any (eqb w) (c ∷ cs) ≡ false) (eqb w c) (λ t. never _ (R.white c) (ap R.white (sym (eqb-true w c t)) ∙ h) p.0)
    (λ t. rw t (no-white R w h cs p.1))

-- one test after the other, each kept as a fact
by_tests : (P : List Item → Type 0) (a b : Bool) (x y z : List Item) → P x → P y → (a ≡ false → b ≡ false → P z) → P (cond a x (cond b y z))
by_tests P true b x y z p q r = p
by_tests P false true x y z p q r = q
by_tests P false false x y z p q r = r refl refl

module _ (R : Repertoire) where
  -- the items from a cluster on: a newline, a gap, or the cluster, which is clear, in front of what follows
  pub items_by : (P : List Item → Type 0) (k : List ℕ) (ks : List (List ℕ)) → P (newline ∷ items_of R ks) → P (gap ∷ items_of R ks) →
      (Clear R k → P (grown k (items_of R ks))) → P (items_of R (k ∷ ks))
  unfolding items_of
  items_by P k ks p q r =
      by_tests P (any (eqb 0x0A) k) (any R.white k) (newline ∷ items_of R ks) (gap ∷ items_of R ks) (grown k (items_of R ks)) p q
      (λ e f. r (record { no_newline = e; no_white = f }))

  -- a clear cluster is a word
  plain-one : (k : List ℕ) → Clear R k → Plain R (k ∷ [])
  plain-one k h =
      record {
        no_white = any_none R.white k [] h.no_white refl;
        no_newline = any_none (eqb 0x0A) k [] h.no_newline refl;
        some = omega arith;
      }

  -- and in front of a word it makes one
  plain_more : (k : List ℕ) (w : Word) → Clear R k → Plain R w → Plain R (k ∷ w)
  plain_more k w h p =
      record {
        no_white = any_none R.white k (concat w) h.no_white p.no_white;
        no_newline = any_none (eqb 0x0A) k (concat w) h.no_newline p.no_newline;
        some = omega arith;
      }

  -- in front of items
  grown-plain : (k : List ℕ) (is : List Item) → Clear R k → Every (Plain R) (words_in is) → Every (Plain R) (words_in (grown k is))
  grown-plain k [] h p = (plain-one k h, tt)
  grown-plain k (word w ∷ is) h p = (plain_more k w h p.0, p.1)
  grown-plain k (gap ∷ is) h p = (plain-one k h, p)
  grown-plain k (newline ∷ is) h p = (plain-one k h, p)

  -- every word is plain
  pub words_plain : (ks : List (List ℕ)) → Every (Plain R) (words_in (items_of R ks))
  unfolding items_of
  words_plain [] = tt
  words_plain (k ∷ ks) =
      items_by (λ (is : List Item). Every (Plain R) (words_in is)) k ks (words_plain ks) (words_plain ks)
      (λ h. grown-plain k (items_of R ks) h (words_plain ks))
