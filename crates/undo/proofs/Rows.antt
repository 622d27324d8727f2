-- The row of records in the two buffers: the change that stands at a place of it is read there. Assumes nothing.
use Prim.Native.Nat.{ℕ, ◌+◌, ◌≤◌}
use native.Mathlib.Omega.{arith}
use mathlib.Core.Path.{◌≡◌, refl, sym, ap, subst, ◌∙◌}
use mathlib.Core.List.{List, ◌∷◌, ◌++◌, append_assoc}
use lib.ListN.{length, take, drop, length-append, take-append-drop}
use Rattle.std.specs.Prelude.{Some}
use Rattle.repertoire.specs.Repertoire.{Repertoire}
use Rattle.log_model.specs.Change.{Change}
use Rattle.formats.specs.declared.Format.{Format}
use Rattle.log_model.specs.Layout.{record_of, texts_of, encode_records, encode_texts, Representable, AllGood}
use Rattle.log_model.specs.Holds.{Holds}
use Rattle.log_model.proofs.Decode.{Reads, reads, record_pos, text_at}
use Rattle.log_model.proofs.Holds.{records-append, texts-append, good_right}
use Rattle.log_records.specs.Records.{numbers_of, IsWhole, record_at}
use Rattle.log_records.proofs.Records.{record_is}

-- ---- the change c stands at at and t
pub record Stands (F : Format) (rb tb : List ℕ) (at t : ℕ) (c : Change) : Type 0 where
  pub space : t + length (texts_of c) ≤ length tb
  pub read : record_at F rb at ≡ Some (numbers_of F c)
  pub texts : take (length (texts_of c)) (drop t tb) ≡ texts_of c

module _ {R : Repertoire} {F : Format} {rb tb : List ℕ} {ur ut rr rt : ℕ} {us rs : List Change} (h : Holds R F rb tb ur ut rr rt us rs)
    (xs ys : List Change) (c : Change) (row : us ++ rs ≡ xs ++ (c ∷ ys)) where
  abbrev behind : List ℕ
  behind = encode_records F ys ++ drop (ur + rr) rb

  abbrev texts-behind : List ℕ
  texts-behind = encode_texts ys ++ drop (ut + rt) tb

  representable : Representable F.width c
  representable = (good_right R F.width xs (c ∷ ys) (subst (AllGood R F.width) row h.both.good)).0.0

  in_records : rb ≡ encode_records F xs ++ (record_of F c ++ behind)
  in_records =
      sym (take-append-drop (ur + rr) rb)
      ∙ ap (λ (l : List ℕ). l ++ drop (ur + rr) rb) (h.both.records ∙ ap (encode_records F) row ∙ records-append F xs (c ∷ ys))
      ∙ simp append_assoc

  in_texts : tb ≡ encode_texts xs ++ (texts_of c ++ texts-behind)
  in_texts =
      sym (take-append-drop (ut + rt) tb)
      ∙ ap (λ (l : List ℕ). l ++ drop (ut + rt) tb) (h.both.texts ∙ ap encode_texts row ∙ texts-append xs (c ∷ ys))
      ∙ simp append_assoc

  module _ {at t : ℕ} (e : at ≡ length (encode_records F xs)) (f : t ≡ length (encode_texts xs)) where
    reads_in : Reads F c rb tb at t
    reads_in =
        subst (λ (z : List ℕ). Reads F c z tb at t) (sym in_records)
        (subst (λ (z : List ℕ). Reads F c (encode_records F xs ++ (record_of F c ++ behind)) z at t) (sym in_texts)
        (reads F c (encode_records F xs) (encode_texts xs) behind texts-behind at t (sym e) (sym f) representable))

    whole : IsWhole F rb at
    whole =
        let s = reads_in.size in (
          omega (arith, s, record_pos F c),
          omega (arith, s, e, ap length in_records, length-append (encode_records F xs) (record_of F c ++ behind), length-append (record_of F c) behind),
        )

    -- the change between xs and ys stands behind the records and the texts of xs
    pub stands : Stands F rb tb at t c
    stands =
        record {
          space = omega (arith, f, ap length in_texts, length-append (encode_texts xs) (texts_of c ++ texts-behind), length-append (texts_of c) texts-behind);
          read = record_is F rb at whole tb t c reads_in;
          texts = subst (λ (z : List ℕ). take (length (texts_of c)) (drop t z) ≡ texts_of c) (sym in_texts)
              (text_at (encode_texts xs) (texts_of c) texts-behind t (length (texts_of c)) (sym f) refl);
        }
