-- What a call leaves in the buffers is what the next call finds there. Assumes nothing.
use Prim.Native.Nat.{ℕ, zero, suc, ◌+◌, ◌≤◌}
use native.Mathlib.Omega.{arith}
use mathlib.Core.Path.{◌≡◌, refl, sym, ap, ap₂, subst, ◌∙◌}
use mathlib.Core.Bool.{true, false, not}
use mathlib.Core.List.{List, [], ◌∷◌, ◌++◌, map, reverse, reverse-reverse}
use mathlib.Core.Option.{Option}
use lib.ListN.{length, take, length-append}
use borrow.Author.Tests.{le-ltb}
use Rattle.utf8.specs.Chars.{boundary, In}
use Rattle.repertoire.specs.Repertoire.{Repertoire, catalogue}
use Rattle.repertoire.specs.Text.{is_text}
use Rattle.log_model.specs.Change.{Change, turn}
use Rattle.formats.specs.Formats.{Fit}
use Rattle.formats.specs.declared.Format.{Format}
use Rattle.log_model.specs.Layout.{AllGood, Layout, is_some, decode, encode_records, encode_texts}
use Rattle.log_model.specs.Holds.{Holds}
use Rattle.log_model.specs.Groups as groups
use Rattle.log_model.proofs.Decode.{decode-encode}
use Rattle.log_model.proofs.Newest.{turned_back}
use Rattle.log_model.proofs.Holds.{records-append, texts-append, good-append, front, behind}
use Rattle.log_model.proofs.UndoBytes.{good_oldest}
use Rattle.checks.specs.Checks.{refusal, own_tests}
use Rattle.log_state.specs.Logs.{over_sizes, broken, damaged}
use Rattle.log_state.specs.Calls as log
use Rattle.edit.specs.Plan.{State}
use Rattle.edit.specs.Calls.{Lent, lent, checked, state_of, Stored, Ready}

-- a list from which n bytes can be taken has as many
pub take_within : (n : ℕ) (l : List ℕ) → length (take n l) ≡ n → n ≤ length l
take_within zero l e = omega arith
take_within (suc n) [] e = absurd (omega arith)
take_within (suc n) (b ∷ l) e = let h = take_within n l (omega arith) in omega arith

-- ---- the log
module _ (R : Repertoire) (F : Format) (g : groups.Log) (rb tb : List ℕ) (s : log.Stored F g rb tb) (gu : AllGood R F.width g.undo)
    (gr : AllGood R F.width (map turn g.redo)) where
  abbrev us : List Change
  us = reverse g.undo

  abbrev rs : List Change
  rs = map turn g.redo

  abbrev stored : log.Lent
  stored = log.lent rb tb (log.log_of F g)

  row-records : length (encode_records F us) + length (encode_records F rs) ≡ length (encode_records F (us ++ rs))
  row-records = sym (ap length (records-append F us rs) ∙ length-append (encode_records F us) (encode_records F rs))

  row-texts : length (encode_texts us) + length (encode_texts rs) ≡ length (encode_texts (us ++ rs))
  row-texts = sym (ap length (texts-append us rs) ∙ length-append (encode_texts us) (encode_texts rs))

  stored_holds : Holds R F rb tb (length (encode_records F us)) (length (encode_texts us)) (length (encode_records F rs)) (length (encode_texts rs)) us rs
  stored_holds =
      record {
        both =
            record {
              records = ap (λ (n : ℕ). take n rb) row-records ∙ s.records;
              texts = ap (λ (n : ℕ). take n tb) row-texts ∙ s.texts;
              good = good-append R F.width us rs (good_oldest R F.width g.undo gu) gr;
            };
        records = refl;
        texts = refl;
        room = omega (arith, row-records, take_within (length (encode_records F (us ++ rs))) rb (ap length s.records));
        space = omega (arith, row-texts, take_within (length (encode_texts (us ++ rs))) tb (ap length s.texts));
      }

  read : (a b : List ℕ) (cs : List Change) → Layout R F a b cs → log.or_nil (decode R F a b) ≡ cs
  read a b cs x = ap₂ (λ (p q : List ℕ). log.or_nil (decode R F p q)) x.records x.texts ∙ ap log.or_nil (decode-encode R F cs x.good)

  undos-stored : log.undos R F stored ≡ us
  unfolding log.undos
  undos-stored = read _ _ us (front R F rb tb (length (encode_records F us)) (length (encode_texts us)) (length (encode_records F rs)) (length (encode_texts rs)) us rs stored_holds)

  redos-stored : log.redos R F stored ≡ rs
  unfolding log.redos
  redos-stored = read _ _ rs (behind R F rb tb (length (encode_records F us)) (length (encode_texts us)) (length (encode_records F rs)) (length (encode_texts rs)) us rs stored_holds)

  -- the log that the bytes hold
  pub log-stored : log.value_of R F stored ≡ g
  log-stored =
      ap₂ (λ (u r : List Change). record { undo = u; redo = r; level = g.level }) (ap reverse undos-stored ∙ reverse-reverse g.undo)
      (ap (map turn) redos-stored ∙ turned_back g.redo)

  pub log_holds : Holds R F rb tb (length (encode_records F us)) (length (encode_texts us)) (length (encode_records F rs)) (length (encode_texts rs))
      (log.undos R F stored) (log.redos R F stored)
  log_holds =
      subst (λ (x : List Change). Holds R F rb tb (length (encode_records F us)) (length (encode_texts us)) (length (encode_records F rs))
      (length (encode_texts rs)) x (log.redos R F stored)) (sym undos-stored)
      (subst (λ (x : List Change). Holds R F rb tb (length (encode_records F us)) (length (encode_texts us)) (length (encode_records F rs))
      (length (encode_texts rs)) us x) (sym redos-stored) stored_holds)

  -- check 2 passes it
  pub log-sized : length rb ≤ F.records → length tb ≤ F.texts → over_sizes F (log.log_of F g) rb tb ≡ false
  unfolding over_sizes
  log-sized a b = rw (le-ltb F.records (length rb) a, le-ltb F.texts (length tb) b, le-ltb (length rb) _ stored_holds.room, le-ltb (length tb) _ stored_holds.space)

  whole : (a b : List ℕ) (cs : List Change) → Layout R F a b cs → broken R F a b ≡ false
  whole a b cs x = ap₂ (λ (p q : List ℕ). broken R F p q) x.records x.texts ∙ ap (λ (o : Option (List Change)). not (is_some o)) (decode-encode R F cs x.good)

  -- and so does check 8
  pub log-whole : g.level ≤ 255 → damaged R F (log.log_of F g) rb tb ≡ false
  unfolding damaged
  log-whole v =
      let f = front R F rb tb (length (encode_records F us)) (length (encode_texts us)) (length (encode_records F rs)) (length (encode_texts rs)) us rs stored_holds in
      let b = behind R F rb tb (length (encode_records F us)) (length (encode_texts us)) (length (encode_records F rs)) (length (encode_texts rs)) us rs stored_holds in
      rw (le-ltb 255 g.level v, whole _ _ us f, whole _ _ rs b)

-- ---- text, cursor and log
module _ (R : Repertoire) (F : Format) (s : State) (t rb tb : List ℕ) (q : Stored F s t rb tb) (gu : AllGood R F.width s.log.undo)
    (gr : AllGood R F.width (map turn s.log.redo)) where
  abbrev pub lent_next : Lent
  lent_next = lent t rb tb (record { len = length s.text; cursor = s.cursor }) (log.log_of F s.log)

  pub state-stored : state_of R F lent_next ≡ s
  state-stored = ap₂ (λ (x : List ℕ) (g : groups.Log). record { text = x; cursor = s.cursor; log = g }) q.text (log-stored R F s.log rb tb q.log gu gr)

  -- the checks 2 to 8 pass it
  pub state-passes : length t ≤ F.text → length rb ≤ F.records → length tb ≤ F.texts → s.log.level ≤ 255 → is_text R s.text ≡ true
      → In s.text s.cursor s.cursor → checked R F lent_next (own_tests false false false) ≡ 0
  unfolding refusal
  state-passes a b c v e i =
      rw (
        le-ltb F.text (length t) a,
        le-ltb (length t) (length s.text) (take_within (length s.text) t (ap length q.text)),
        log-sized R F
            s.log rb tb q.log gu gr b c,
        q.text,
        e,
        le-ltb (length s.text) s.cursor i.1,
        i.2,
        log-whole R F s.log rb tb q.log gu gr v,
      )

-- over 01's repertoire: what the functions ask for where the checks have passed
module _ (F : Format) (s : State) (t rb tb : List ℕ) (q : Stored F s t rb tb) (gu : AllGood catalogue F.width s.log.undo)
    (gr : AllGood catalogue F.width (map turn s.log.redo)) where
  pub state-ready : length t ≤ F.text → length rb ≤ F.records → length tb ≤ F.texts → Fit F → s.log.level ≤ 255
      → is_text catalogue s.text ≡ true → In s.text s.cursor s.cursor → Ready F (lent_next catalogue F s t rb tb q gu gr)
  state-ready a b c w v e i =
      record {
        limit = a;
        used = take_within (length s.text) t (ap length q.text);
        text = ap (is_text catalogue) q.text ∙ e;
        within = i.1;
        at-boundary = ap (λ (x : List ℕ). boundary x s.cursor) q.text ∙ i.2;
        log = record { fit = w; records = b; texts = c; level = v; hold = log_holds catalogue F s.log rb tb q.log gu gr };
      }
