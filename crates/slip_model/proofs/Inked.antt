-- The bytes of a page that are neither spaces nor \n are the words' bytes, complete and in order. Assumes nothing.
use Prim.Native.Nat.{ℕ, zero, suc, ◌-◌}
use mathlib.Core.Path.{◌≡◌, refl, sym, ap, ◌∙◌}
use mathlib.Core.Bool.{Bool, true, false, cond, ◌||◌}
use mathlib.Core.List.{List, [], ◌∷◌, ◌++◌, map, append-nil}
use native.Mathlib.Omega.{arith}
use lib.Dec.{eqb}
use borrow.Author.Tests.{eqb-false, ne_eqb}
use Rattle.lists.specs.Lists.{all, any, concat}
use Rattle.lists.proofs.Bools.{or_none}
use Rattle.lists.proofs.Concat.{concat-append}
use Rattle.lists.proofs.Every.{Every}
use Rattle.utf8.specs.Encode.{scalar, encode, encode_all}
use Rattle.utf8.proofs.Encode.{encode_all-append}
use Rattle.repertoire.specs.Repertoire.{Repertoire}
use Rattle.slip_model.specs.Slip.{Word, Row, Line, spaces, spelled, row_columns, padded, printed}
use Rattle.slip_model.specs.Promised.{inked}
use Rattle.slip_model.proofs.Page.{ascii_bytes}

-- a piece that a word of a text has: characters, and neither a space nor \n among them
pub record Bare (p : Word) : Type 0 where
  pub scalars : all scalar (concat p) ≡ true
  pub no_space : any (eqb 0x20) (concat p) ≡ false
  pub no_newline : any (eqb 0x0A) (concat p) ≡ false

-- ---- what is kept of bytes
cond-append : (t : Bool) (x : ℕ) (l m : List ℕ) → cond t (l ++ m) (x ∷ (l ++ m)) ≡ cond t l (x ∷ l) ++ m
cond-append true x l m = refl
cond-append false x l m = refl

-- of some bytes and more, that of both
inked-append : (a b : List ℕ) → inked (a ++ b) ≡ inked a ++ inked b
inked-append [] b = refl
inked-append (x ∷ a) b =
    let t = eqb x 0x20 || eqb x 0x0A in
    ap (λ (l : List ℕ). cond t l (x ∷ l)) (inked-append a b) ∙ cond-append t x (inked a) (inked b)

-- a byte tested from the other side
other_side : (a b : ℕ) → eqb a b ≡ false → eqb b a ≡ false
other_side a b e = ne_eqb b a (λ q. eqb-false a b e (sym q))

-- all of it, where neither a space nor \n stands
inked-all : (l : List ℕ) → any (eqb 0x20) l ≡ false → any (eqb 0x0A) l ≡ false → inked l ≡ l
inked-all [] s n = refl
inked-all (x ∷ l) s n =
    let p = or_none (eqb 0x20 x) (any (eqb 0x20) l) s in
    let q = or_none (eqb 0x0A x) (any (eqb 0x0A) l) n in
    rw (other_side 0x20 x p.0, other_side 0x0A x q.0) (ap (λ (m : List ℕ). x ∷ m) (inked-all l p.1 q.1))

-- nothing of spaces
inked-spaces : (n : ℕ) → inked (spaces n) ≡ []
inked-spaces zero = refl
inked-spaces (suc n) = inked-spaces n

-- all the bytes of a piece
inked_piece : (p : Word) → Bare p → inked (encode_all (concat p)) ≡ encode_all (concat p)
inked_piece p h =
    inked-all (encode_all (concat p)) (ascii_bytes 0x20 (concat p) (omega arith) ∙ h.no_space) (ascii_bytes 0x0A (concat p) (omega arith) ∙ h.no_newline)

-- ---- rows
-- a piece in front of what follows on its line
inked-front : (p : Word) (cs : List ℕ) (r : Row) → Bare p → inked (encode_all cs) ≡ encode_all (concat (concat r)) →
    inked (encode_all (concat p ++ cs)) ≡ encode_all (concat (concat (p ∷ r)))
inked-front p cs r h e =
    let here = encode_all (concat p) in
    ap inked (encode_all-append (concat p) cs) ∙ inked-append here (encode_all cs) ∙ rw (inked_piece p h, e)
    (sym (ap encode_all (concat-append p (concat r)) ∙ encode_all-append (concat p) (concat (concat r))))

-- a space in front of characters is not kept
inked-space : (cs : List ℕ) → inked (encode_all (0x20 ∷ cs)) ≡ inked (encode_all cs)
unfolding encode_all encode
inked-space cs = refl

-- of a row, the bytes of its pieces
inked-row : (r : Row) → Every Bare r → inked (encode_all (spelled r)) ≡ encode_all (concat (concat r))
unfolding encode_all
inked-row [] h = refl
inked-row (p ∷ []) h = ap (λ (l : List ℕ). inked (encode_all l)) (sym (append-nil (concat p))) ∙ inked-front p [] [] h.0 refl
inked-row (p ∷ (q ∷ r)) h =
    inked-front p (0x20 ∷ spelled (q ∷ r)) (q ∷ r) h.0 (inked-space (spelled (q ∷ r)) ∙ inked-row (q ∷ r) h.1)

-- nor is anything of the padding and the closing \n
inked-printed : (R : Repertoire) (l : Line) → Every Bare l.row → inked (printed R l) ≡ encode_all (concat (concat l.row))
unfolding padded
inked-printed R l h =
    let n = 60 - row_columns R l.row in
    let cs = encode_all (spelled l.row) in
    inked-append (cs ++ spaces n) (0x0A ∷ []) ∙ append-nil (inked (cs ++ spaces n)) ∙ inked-append cs (spaces n) ∙
    ap (λ (m : List ℕ). inked cs ++ m) (inked-spaces n) ∙ append-nil (inked cs) ∙ inked-row l.row h

-- of all lines, the bytes of their pieces, in order
pub inked_lines : (R : Repertoire) (ls : List Line) → Every (λ (l : Line). Every Bare l.row) ls →
    inked (concat (map (printed R) ls)) ≡ encode_all (concat (concat (concat (map (λ (l : Line). l.row) ls))))
unfolding encode_all
inked_lines R [] h = refl
inked_lines R (l ∷ ls) h =
    let rows = concat (map (λ (m : Line). m.row) ls) in
    inked-append (printed R l) (concat (map (printed R) ls)) ∙ rw (inked-printed R l h.0, inked_lines R ls h.1)
    (sym (ap (λ x. encode_all (concat x)) (concat-append l.row rows) ∙
    ap encode_all (concat-append (concat l.row) (concat rows)) ∙ encode_all-append (concat (concat l.row)) (concat (concat rows))))
