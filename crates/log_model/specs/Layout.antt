-- Document 01, "Log and ring": the layout of a list of changes in bytes. A record is one byte of kind, then a body whose length the kind fixes;
-- numbers are little-endian; texts follow record order, old before new. The width of a number and the offset of the kinds of edits are those of a format.
use Rattle.std.specs.Prelude.{ℕ, zero, suc, ◌+◌, ◌-◌, ◌<◌, ◌≡◌, List, [], ◌∷◌, ◌++◌, Bool, true, false, ◌&&◌, cond, length, get_or, take}
use Rattle.std.specs.Prelude.{drop, leb, ltb, eqb}
use Rattle.std.proofs.Math.Option.{Option, some, none}
use Rattle.numbers.specs.Numbers.{top, le, num_at}
use Rattle.formats.specs.declared.Format.{Format}
use Rattle.repertoire.specs.Repertoire.{Repertoire}
use Rattle.repertoire.specs.Text.{is_text}
use Rattle.log_model.specs.Change.{insert, delete, replace, Change, begin, end, edit}

module _ (F : Format) where
  -- the byte of kind
  abbrev pub kind_of : Change → ℕ
  kind_of begin = 1
  kind_of end = 2
  kind_of (edit (insert p s)) = 3 + F.offset
  kind_of (edit (delete p s)) = 4 + F.offset
  kind_of (edit (replace p o n)) = 5 + F.offset

  -- 1 Begin, 2 End, 3 Insert, 4 Delete: place and length; 5 Replace: place, old length, new length
  abbrev pub record_of : Change → List ℕ
  record_of begin = 1 ∷ []
  record_of end = 2 ∷ []
  record_of (edit (insert p s)) = (3 + F.offset) ∷ (le F.width p ++ le F.width (length s))
  record_of (edit (delete p s)) = (4 + F.offset) ∷ (le F.width p ++ le F.width (length s))
  record_of (edit (replace p o n)) = (5 + F.offset) ∷ (le F.width p ++ (le F.width (length o) ++ le F.width (length n)))

  abbrev pub encode_records : List Change → List ℕ
  encode_records [] = []
  encode_records (c ∷ cs) = record_of c ++ encode_records cs

abbrev pub texts_of : Change → List ℕ
texts_of begin = []
texts_of end = []
texts_of (edit (insert p s)) = s
texts_of (edit (delete p s)) = s
texts_of (edit (replace p o n)) = o ++ n

abbrev pub encode_texts : List Change → List ℕ
encode_texts [] = []
encode_texts (c ∷ cs) = texts_of c ++ encode_texts cs

-- the change's numbers fit w bytes
abbrev pub Representable : ℕ → Change → Type 0
Representable w begin = Unit {0}
Representable w end = Unit {0}
Representable w (edit (insert p s)) = (p < top w) × (length s < top w)
Representable w (edit (delete p s)) = (p < top w) × (length s < top w)
Representable w (edit (replace p o n)) = (p < top w) × (length o < top w) × (length n < top w)

module _ (R : Repertoire) where
  -- each text is in the repertoire
  abbrev pub ok_change : Change → Bool
  ok_change begin = true
  ok_change end = true
  ok_change (edit (insert p s)) = is_text R s
  ok_change (edit (delete p s)) = is_text R s
  ok_change (edit (replace p o n)) = is_text R o && is_text R n

  abbrev pub Good : ℕ → Change → Type 0
  Good w c = Representable w c × (ok_change c ≡ true)

  abbrev pub AllGood : ℕ → List Change → Type 0
  AllGood w [] = Unit {0}
  AllGood w (c ∷ cs) = Good w c × AllGood w cs

  -- rs and ts are the layout of cs
  pub record Layout (F : Format) (rs ts : List ℕ) (cs : List Change) : Type 0 where
    pub records : rs ≡ encode_records F cs
    pub texts : ts ≡ encode_texts cs
    pub good : AllGood F.width cs

-- ---- reading, for "damaged" alone: a record's size by its kind (0: no kind), the size of its texts, and the change
module _ (F : Format) where
  unfoldable pub size_of : ℕ → ℕ
  size_of k =
      cond (eqb k 1) 1
      (cond (eqb k 2) 1
      (cond (eqb k (3 + F.offset)) (1 + F.width + F.width)
      (cond (eqb k (4 + F.offset)) (1 + F.width + F.width)
      (cond (eqb k (5 + F.offset)) (1 + F.width + F.width + F.width)
      0))))

  -- the first and the second length in the body of the record at a place
  abbrev pub first_len : List ℕ → ℕ → ℕ
  first_len rs at = num_at F.width rs (at + 1 + F.width)

  abbrev pub second_len : List ℕ → ℕ → ℕ
  second_len rs at = num_at F.width rs (at + 1 + F.width + F.width)

  unfoldable pub texts_at : List ℕ → ℕ → ℕ → ℕ
  texts_at rs at k =
      cond (eqb k 1) 0
      (cond (eqb k 2) 0
      (cond (eqb k (3 + F.offset)) (first_len rs at)
      (cond (eqb k (4 + F.offset)) (first_len rs at)
      (first_len rs at + second_len rs at))))

  unfoldable pub change_at : List ℕ → List ℕ → ℕ → ℕ → ℕ → Change
  change_at rs ts at t k =
      cond (eqb k 1) begin
      (cond (eqb k 2) end
      (cond (eqb k (3 + F.offset)) (edit (insert (num_at F.width rs (at + 1)) (take (first_len rs at) (drop t ts))))
      (cond (eqb k (4 + F.offset)) (edit (delete (num_at F.width rs (at + 1)) (take (first_len rs at) (drop t ts))))
      (edit
      (replace (num_at F.width rs (at + 1)) (take (first_len rs at) (drop t ts)) (take (second_len rs at) (drop (t + first_len rs at) ts)))))))

abbrev pub push : Change → Option (List Change) → Option (List Change)
push c none = none
push c (some cs) = some (c ∷ cs)

abbrev pub is_some : Option (List Change) → Bool
is_some none = false
is_some (some cs) = true

module _ (R : Repertoire) (F : Format) (rs ts : List ℕ) where
  -- a whole record stands at at, and its texts, which are of the repertoire, at t
  unfoldable pub whole_at : ℕ → ℕ → Bool
  whole_at at t =
      ltb 0 (size_of F (get_or rs at 0)) && (leb (at + size_of F (get_or rs at 0)) (length rs) &&
      (leb (t + texts_at F rs at (get_or rs at 0)) (length ts) && ok_change R (change_at F rs ts at t (get_or rs at 0))))

  abbrev pub decode_from : ℕ → ℕ → ℕ → Option (List Change)
  decode_from zero at t = none
  decode_from (suc k) at t =
      cond (eqb at (length rs))
      (cond (eqb t (length ts)) (some []) none)
      (cond (whole_at at t)
      (push (change_at F rs ts at t (get_or rs at 0)) (decode_from k (at + size_of F (get_or rs at 0)) (t + texts_at F rs at (get_or rs at 0))))
      none)

  -- the changes from a place on: a record takes a byte at least
  unfoldable pub decode_at : ℕ → ℕ → Option (List Change)
  decode_at at t = decode_from (suc (length rs - at)) at t

  -- the changes that these bytes are the layout of
  abbrev pub decode : Option (List Change)
  decode = decode_at 0 0
