-- The record of a number in a list: where it stands in the bytes, and how a walk over the records goes on. Assumes nothing.
use Prim.Native.Nat.{ℕ, suc, ◌+◌, ◌≤◌, ◌<◌}
use native.Mathlib.Omega.{arith}
use native.Mathlib.Numerals.{add-one}
use mathlib.Core.Path.{◌≡◌, refl, sym, ap, subst, ◌∙◌}
use mathlib.Core.List.{List, [], ◌∷◌, ◌++◌}
use lib.ListN.{length, get_or, take, drop, length-append}
use lib.Seq.{split_at, take-suc, take_all}
use Rattle.lists.proofs.Bools.{by_less}
use Rattle.repertoire.specs.Repertoire.{Repertoire}
use Rattle.log_model.specs.Change.{Change, begin}
use Rattle.log_model.specs.Holds.{Listed}
use Rattle.formats.specs.declared.Format.{Format}
use Rattle.log_model.specs.Layout.{kind_of, record_of, texts_of, encode_records, encode_texts, ok_change, Layout, size_of, texts_at}
use Rattle.log_model.proofs.Decode.{Whole, Reads, reads, record_pos}
use Rattle.log_model.proofs.Holds.{records-append, texts-append, records_snoc, texts_snoc, good_right}

module _ (R : Repertoire) (F : Format) (rs ts : List ℕ) where
  -- the change c of a list is what is read behind the records and the texts of those before it
  pub reads_at : (us vs : List Change) (c : Change) (at t : ℕ) → Layout R F rs ts (us ++ (c ∷ vs)) → at ≡ length (encode_records F us)
      → t ≡ length (encode_texts us) → Reads F c rs ts at t
  reads_at us vs c at t l e f =
      rw (l.records ∙ records-append F us (c ∷ vs), l.texts ∙ texts-append us (c ∷ vs))
      (reads F c (encode_records F us) (encode_texts us) (encode_records F vs) (encode_texts vs) at t (sym e) (sym f) (good_right R F.width us (c ∷ vs) l.good).0.0)

  -- and it is a whole record
  pub whole-at : (us vs : List Change) (c : Change) (at t : ℕ) → Layout R F rs ts (us ++ (c ∷ vs)) → at ≡ length (encode_records F us)
      → t ≡ length (encode_texts us) → Whole R F rs ts at t
  whole-at us vs c at t l e f =
      let q = reads_at us vs c at t l e f in
      let a = length-append (encode_records F us) (record_of F c ++ encode_records F vs) in
      let b = length-append (record_of F c) (encode_records F vs) in
      let d = length-append (encode_texts us) (texts_of c ++ encode_texts vs) in
      let g = length-append (texts_of c) (encode_texts vs) in
      let n = ap length (l.records ∙ records-append F us (c ∷ vs)) in
      let m = ap length (l.texts ∙ texts-append us (c ∷ vs)) in
      record {
        kind = rw q.size (record_pos F c);
        body = rw q.size (omega arith);
        room = rw q.texts (omega arith);
        fine = ap (ok_change R) q.change ∙ (good_right R F.width us (c ∷ vs) l.good).0.1;
      }

-- where the changes before number i end
pub record At (F : Format) (cs : List Change) (i at t : ℕ) : Type 0 where
  pub records : at ≡ length (encode_records F (take i cs))
  pub texts : t ≡ length (encode_texts (take i cs))

pub at-start : (F : Format) (cs : List Change) → At F cs 0 0 0
at-start F cs = record { records = refl; texts = refl }

-- number i is a whole record, that change is read there, and number i + 1 stands behind it
pub record Here (R : Repertoire) (F : Format) (rs ts : List ℕ) (cs : List Change) (i at t : ℕ) : Type 0 where
  pub all : Whole R F rs ts at t
  pub reads : Reads F (get_or cs i begin) rs ts at t
  pub next : At F cs (i + 1) (at + size_of F (get_or rs at 0)) (t + texts_at F rs at (get_or rs at 0))

module _ (R : Repertoire) (F : Format) (rs ts : List ℕ) (cs : List Change) (i at t : ℕ) where
  pub here : Layout R F rs ts cs → i < length cs → At F cs i at t → Here R F rs ts cs i at t
  here l h a =
      record {
        all = whole-at R F rs ts (take i cs) (drop (suc i) cs) c at t lays a.records a.texts;
        reads = q;
        next =
            record {
              records = rw (add-one i, take-suc cs i begin h) (omega
                  (arith, q.size, a.records, ap length (records_snoc F (take i cs) c), length-append (encode_records F (take i cs)) (record_of F c)));
              texts = rw (add-one i, take-suc cs i begin h) (omega (
                arith,
                q.texts,
                a.texts,
                ap length (texts_snoc (take i cs) c),
                length-append
                    (encode_texts (take i cs)) (texts_of c),
              ));
            };
      }
    where
      c : Change
      c = get_or cs i begin

      lays : Layout R F rs ts (take i cs ++ (c ∷ drop (suc i) cs))
      lays = subst (Layout R F rs ts) (split_at cs i begin h) l

      q : Reads F c rs ts at t
      q = reads_at R F rs ts (take i cs) (drop (suc i) cs) c at t lays a.records a.texts

  -- the list ends where its bytes do
  pub past : Layout R F rs ts cs → At F cs i at t → length rs ≤ at → length cs ≤ i
  past l a h =
      by_less (length cs ≤ i) i (length cs)
      (λ x. let q = (here l x a).all in absurd (omega (arith, q.kind, q.body)))
      (λ x. x)

  pub before-end : Layout R F rs ts cs → At F cs i at t → at < length rs → i < length cs
  before-end l a h =
      by_less (i < length cs) i (length cs)
      (λ x. x)
      (λ x. absurd (omega (arith, a.records, ap (λ (y : List Change). length (encode_records F y)) (take_all i cs x), ap length l.records)))

-- ---- a walk over the records
-- it has come to at: P holds of the changes of the list before it
pub record Upto (F : Format) (cs : List Change) (at : ℕ) (P : List Change → Type 0) : Type 0 where
  pub count : ℕ
  pub size : ℕ
  pub place : At F cs count at size
  pub holds : P (take count cs)

-- the change c stands at at, behind the changes us
pub record Next (F : Format) (rs : List ℕ) (at : ℕ) (us : List Change) (c : Change) : Type 0 where
  pub place : at ≡ length (encode_records F us)
  pub kind : get_or rs at 0 ≡ kind_of F c
  pub texts : texts_at F rs at (get_or rs at 0) ≡ length (texts_of c)
  pub behind : at + size_of F (get_or rs at 0) ≡ length (encode_records F (us ++ (c ∷ [])))

module _ (R : Repertoire) (F : Format) (rs : List ℕ) where
  -- in every list that has these records
  abbrev pub Come : ℕ → (List Change → Type 0) → Type 0
  Come at P = (ts : List ℕ) (cs : List Change) → Layout R F rs ts cs → Upto F cs at P

  pub come_start : (P : List Change → Type 0) → P [] → Come 0 P
  come_start P p ts cs l = record { count = 0; size = 0; place = at-start F cs; holds = p }

  -- a record is passed, of n bytes
  pub come_next : (at n : ℕ) (P Q : List Change → Type 0) → at < length rs → n ≡ size_of F (get_or rs at 0)
      → ((us : List Change) (c : Change) → Next F rs at us c → P us → Q (us ++ (c ∷ []))) → Come at P
      → Come (at + n) Q
  come_next at n P Q h e f w ts cs l =
      let u = w ts cs l in
      let i = u.count in
      let c = get_or cs i begin in
      let x = before-end R F rs ts cs i at u.size l u.place h in
      let q = here R F rs ts cs i at u.size l x u.place in
      let s : take (i + 1) cs ≡ take i cs ++ (c ∷ []) = rw (add-one i) (take-suc cs i begin x) in
      record {
        count = i + 1;
        size = u.size + texts_at F rs at (get_or rs at 0);
        place = rw e q.next;
        holds =
            rw s
            (f (take i cs) c
            (record {
              place = u.place.records;
              kind = q.reads.kind;
              texts = q.reads.texts;
              behind = q.next.records
                  ∙ ap (λ (y : List Change). length (encode_records F y)) s;
            })
            u.holds);
      }

  -- all records are passed
  pub come_end : (at : ℕ) (P : List Change → Type 0) → length rs ≤ at → Come at P → (ts : List ℕ) (cs : List Change) → Layout R F rs ts cs → P cs
  come_end at P h w ts cs l =
      let u = w ts cs l in
      subst P (take_all u.count cs (past R F rs ts cs u.count at u.size l u.place h)) u.holds

  -- a whole record stands there
  pub come_whole : (at : ℕ) (P : List Change → Type 0) → Listed R F rs → at < length rs → Come at P → (0 < size_of F (get_or rs at 0)) × (at + size_of F (get_or rs at 0) ≤ length rs)
  come_whole at P r h w =
      let u = w r.texts r.changes r.lays in
      let x = before-end R F rs r.texts r.changes u.count at u.size r.lays u.place h in
      let q = (here R F rs r.texts r.changes u.count at u.size r.lays x u.place).all in
      (q.kind, q.body)
