-- A state that a list of calls leaves, in the next call's buffers: the call finds the state there, and checks 2 to 8 pass it. Assumes nothing.
use Prim.Native.Nat.{ℕ, ◌≤◌}
use native.Mathlib.Omega.{arith}
use mathlib.Core.Path.{◌≡◌, refl, ap}
use mathlib.Core.Bool.{true, false, ◌&&◌}
use mathlib.Core.List.{List, [], ◌∷◌, ◌++◌, map, reverse}
use lib.Dec.{ltb}
use lib.ListN.{length, length-append, length-reverse}
use borrow.Author.Tests.{ltb-true}
use Rattle.lists.proofs.Bools.{and_both}
use Rattle.repertoire.specs.Repertoire.{Repertoire}
use Rattle.repertoire.specs.Text.{is_text}
use Rattle.checks.specs.Checks.{own_tests}
use Rattle.log_model.specs.Change.{Edit, insert, delete, replace, Change, begin, end, edit, old, new, turn}
use Rattle.numbers.specs.Numbers.{top}
use Rattle.formats.specs.declared.Format.{Format}
use Rattle.formats.specs.Formats.{records_max}
use Rattle.log_model.specs.Layout.{Good, AllGood, encode_records}
use Rattle.log_model.specs.UndoBytes.{numbers_fit, all_numbers_fit}
use Rattle.log_model.proofs.Decode.{records_many}
use Rattle.edit.specs.Plan.{State}
use Rattle.edit.specs.Calls.{checked, state_of}
use Rattle.edit.proofs.Stored.{take_within, state-stored, state-passes}
use Rattle.calls.specs.CallContracts.{Buffers}
use Rattle.session.proofs.Values.{Handed, lent_for}
use Rattle.session.proofs.Invariant.{Chain, Inv}

module _ (R : Repertoire) where
  -- a record whose numbers fit their bytes and whose texts are of the repertoire
  good-edit : (w : ℕ) (x : Edit) → numbers_fit w (edit x) ≡ true → is_text R (old x) ≡ true → is_text R (new x) ≡ true → Good R w (edit x)
  good-edit w (insert p s) h o n = let b = and_both (ltb p (top w)) (ltb (length s) (top w)) h in ((ltb-true _ _ b.0, ltb-true _ _ b.1), n)
  good-edit w (delete p s) h o n = let b = and_both (ltb p (top w)) (ltb (length s) (top w)) h in ((ltb-true _ _ b.0, ltb-true _ _ b.1), o)
  good-edit w (replace p s t) h o n =
      let b = and_both (ltb p (top w)) (ltb (length s) (top w) && ltb (length t) (top w)) h in
      let d = and_both (ltb (length s) (top w)) (ltb (length t) (top w)) b.1 in
      ((ltb-true _ _ b.0, ltb-true _ _ d.0, ltb-true _ _ d.1), rw (o, n))

  -- a list that leads from text to text
  good_chain : (w : ℕ) (Q : List ℕ → Type 0) (e : List ℕ) (u : List Change) (t : List ℕ) → Chain R Q e u t → all_numbers_fit w u ≡ true → AllGood R w u
  unfolding all_numbers_fit
  good_chain w Q e [] t c h = tt
  good_chain w Q e (begin ∷ u) t c h = ((tt, refl), good_chain w Q e u t c h)
  good_chain w Q e (end ∷ u) t c h = ((tt, refl), good_chain w Q e u t c h)
  good_chain w Q e (edit x ∷ u) t c h =
      let b = and_both (numbers_fit w (edit x)) (all_numbers_fit w u) h in
      (good-edit w x b.0 c.1.old-text c.1.new-text, good_chain w Q e u c.0 c.2 b.1)

  -- turned round it is as good
  good_turn : (w : ℕ) (c : Change) → Good R w c → Good R w (turn c)
  good_turn w begin g = g
  good_turn w end g = g
  good_turn w (edit (insert p s)) g = g
  good_turn w (edit (delete p s)) g = g
  good_turn w (edit (replace p o n)) g =
      let b = and_both (is_text R o) (is_text R n) g.1 in
      ((g.0.0, g.0.2, g.0.1), rw (b.0, b.1))

  good_turned : (w : ℕ) (u : List Change) → AllGood R w u → AllGood R w (map turn u)
  good_turned w [] g = tt
  good_turned w (c ∷ u) g = (good_turn w c g.0, good_turned w u g.1)

  module _ (F : Format) (Q : List ℕ → Type 0) (t₀ : List ℕ) (before : Buffers) (s : State) (g : List ℕ) (v : Inv R F Q t₀ s g) (b : Buffers) (h : Handed F before s b) where
    undo-good : AllGood R F.width s.log.undo
    undo-good = good_chain F.width Q t₀ s.log.undo s.text v.here.chain v.undo-numbers

    redo-good : AllGood R F.width (map turn s.log.redo)
    redo-good = good_turned F.width s.log.redo (good_chain F.width Q v.goal s.log.redo s.text v.forth v.redo-numbers)

    -- the state is found
    pub read-back : state_of R F (lent_for F s b) ≡ s
    read-back = state-stored R F s b.text b.records b.texts h.stored undo-good redo-good

    -- the checks pass it
    pub passes : s.log.level ≤ 255 → checked R F (lent_for F s b) (own_tests false false false) ≡ 0
    passes l =
        state-passes R F s b.text b.records b.texts h.stored undo-good redo-good h.sized.text h.sized.records h.sized.texts l v.here.text v.cursor

    -- there are no more records than a repeat count can name
    pub few : F.records ≤ records_max → length s.log.undo ≤ records_max
    few m =
        let u = s.log.undo in
        let r = map turn s.log.redo in
        omega (
          arith,
          length-reverse u,
          length-append (reverse u) r,
          records_many F (reverse u ++ r),
          take_within
              (length (encode_records F (reverse u ++ r))) b.records (ap length h.stored.log.records),
          h.sized.records,
        )
