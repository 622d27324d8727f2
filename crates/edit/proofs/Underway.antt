-- A plan carried out change by change: what is left of it, and that it comes to the whole. Assumes nothing.
use Prim.Native.Nat.{ℕ, ◌≤◌, ◌<◌}
use native.Mathlib.Omega.{arith}
use mathlib.Core.Path.{◌≡◌, refl, sym, ap, ap₂, subst, ◌∙◌}
use mathlib.Core.Bool.{true, false}
use mathlib.Core.List.{List, [], ◌∷◌}
use lib.Dec.{leb, ltb}
use lib.ListN.{length, take}
use borrow.Author.Tests.{leb-true}
use Rattle.lists.proofs.Bools.{and_both, or_none}
use Rattle.utf8.specs.Chars.{In}
use Rattle.repertoire.specs.Repertoire.{Repertoire, catalogue}
use Rattle.checks.specs.Outcome.{Outcome, answered}
use Rattle.log_model.specs.Change.{Change}
use Rattle.numbers.specs.Numbers.{top}
use Rattle.formats.specs.declared.Format.{Format}
use Rattle.log_model.specs.Layout.{AllGood}
use Rattle.log_model.specs.UndoBytes.{undo_records, undo_texts, all_numbers_fit, Sizes, fits}
use Rattle.log_state.specs.declared.Log.{Log}
use Rattle.log_state.proofs.Recorded.{good}
use Rattle.edit.specs.declared.EditAnswer.{EditAnswer}
use Rattle.edit.specs.Plan.{PlannedChange, made, recorded, Plan, once, text_after, list_after, redo_after, AllSuit, Suits, too_long, State}
use Rattle.edit.specs.Plan.{edited}
use Rattle.edit.specs.Calls.{Lent, lent, log_lent, text_of, sizes_of, state_of, Edited, Ready}
use Rattle.edit.proofs.Answers.{log-kept, length-kept, state-kept}
use Rattle.edit.proofs.PlannedChanges.{start_of, made-text, start_in}
use Rattle.edit.proofs.Steps.{good_step, room-first}
use Rattle.edit.proofs.Stored.{state-stored, state-ready}

-- the plan p with the changes xs
abbrev pub rest : Plan → List PlannedChange → Plan
rest p xs = record { changes = xs; cursor = p.cursor; number = p.number; from = p.from; to = p.to }

-- after some changes of the plan p, which a call that was lent l₀ has begun, the changes xs are left, and what is lent is l
pub record Underway (F : Format) (l₀ : Lent) (p : Plan) (xs : List PlannedChange) (l : Lent) : Type 0 where
  pub ready : Ready F l
  pub text : length l.text ≡ length l₀.text
  pub records : length l.records ≡ length l₀.records
  pub texts : length l.texts ≡ length l₀.texts
  pub suit : AllSuit catalogue xs (text_of l)
  pub short : too_long (length l₀.text) xs (text_of l) ≡ false
  pub room : fits F (sizes_of l₀) (list_after catalogue xs (text_of l) (state_of catalogue F l).log.undo) ≡ true
  pub same : edited catalogue F (sizes_of l₀) (length l₀.text) p (state_of catalogue F l₀) ≡ edited catalogue F (sizes_of l₀) (length l₀.text)
      (rest p xs) (state_of catalogue F l)

-- ---- one change of a plan
no_redo : (xs : List PlannedChange) → redo_after xs [] ≡ []
no_redo [] = refl
no_redo (x ∷ xs) = refl

module _ (R : Repertoire) (F : Format) (z : Sizes) (C : ℕ) (x : PlannedChange) (s : State) (c : ℕ) (short : ltb C (length (made x s.text)) ≡ false) where
  -- the state after it
  abbrev pub stepped : State
  stepped = record { text = made x s.text; cursor = c; log = record { undo = recorded R x s.text s.log.undo; redo = []; level = s.log.level } }

  pub step_taken : fits F z (recorded R x s.text s.log.undo) ≡ true → edited R F z C (once x c) s ≡ answered 0 0 0 stepped
  unfolding edited text_after list_after too_long
  step_taken room = rw (short, room)

  -- the rest of the plan from there
  pub step_same : (p : Plan) (xs : List PlannedChange) → edited R F z C (rest p (x ∷ xs)) s ≡ edited R F z C (rest p xs) stepped
  unfolding edited text_after list_after too_long
  step_same p xs = rw (short, no_redo xs)

-- no change is left
none_left : (R : Repertoire) (F : Format) (z : Sizes) (C : ℕ) (p : Plan) (s : State) → fits F z (list_after R [] s.text s.log.undo) ≡ true
    → edited R F z C (rest p []) s ≡ answered p.number p.from p.to (record { text = s.text; cursor = p.cursor; log = s.log })
unfolding edited text_after list_after too_long
none_left R F z C p s room = rw room

after_first : (R : Repertoire) (F : Format) (z : Sizes) (x : PlannedChange) (xs : List PlannedChange) (t : List ℕ) (u : List Change)
    → fits F z (list_after R (x ∷ xs) t u) ≡ true → fits F z (list_after R xs (made x t) (recorded R x t u)) ≡ true
unfolding list_after
after_first R F z x xs t u e = e

module _ (F : Format) where
  -- at first all is left
  pub begins : (l : Lent) (p : Plan) → Ready F l → AllSuit catalogue p.changes (text_of l) → too_long (length l.text) p.changes (text_of l) ≡ false
      → fits F (sizes_of l) (list_after catalogue p.changes (text_of l) (state_of catalogue F l).log.undo) ≡ true → Underway F l p p.changes l
  begins l p h a b c = record { ready = h; text = refl; records = refl; texts = refl; suit = a; short = b; room = c; same = refl }

  -- the next change suits the text
  pub next_suits : (l₀ : Lent) (p : Plan) (x : PlannedChange) (xs : List PlannedChange) (l : Lent) → Underway F l₀ p (x ∷ xs) l → Suits catalogue x (text_of l)
  unfolding AllSuit
  next_suits l₀ p x xs l k = k.suit.0

  -- a change is made
  module _ (l₀ : Lent) (p : Plan) (x : PlannedChange) (xs : List PlannedChange) (l : Lent) (k : Underway F l₀ p (x ∷ xs) l) (r : EditAnswer) (t rb tb : List ℕ)
      (q : Edited F l (edited catalogue F (sizes_of l) (length l.text) (once x (start_of x)) (state_of catalogue F l)) r t rb tb)
      (lt : length t ≡ length l.text) (lr : length rb ≡ length l.records) (ls : length tb ≡ length l.texts) where
    abbrev s : State
    s = state_of catalogue F l

    abbrev C : ℕ
    C = length l₀.text

    abbrev next : State
    next = record { text = made x s.text; cursor = start_of x; log = record { undo = recorded catalogue x s.text s.log.undo; redo = []; level = s.log.level } }

    suits : Suits catalogue x (text_of l) × AllSuit catalogue xs (made x (text_of l))
    unfolding AllSuit
    suits = k.suit

    shorts : (ltb C (length (made x (text_of l))) ≡ false) × (too_long C xs (made x (text_of l)) ≡ false)
    unfolding too_long
    shorts = or_none (ltb C (length (made x (text_of l)))) (too_long C xs (made x (text_of l))) k.short

    within : length (text_of l) ≤ C
    within = omega (arith, length-kept F l k.ready, k.ready.used, k.text)

    below_top : C < top F.width
    below_top = omega (arith, k.text, k.ready.limit, k.ready.log.fit.places, k.ready.log.fit.lengths)

    room : fits F (sizes_of l₀) (recorded catalogue x (text_of l) s.log.undo) ≡ true
    room = room-first catalogue F C below_top (sizes_of l₀) (omega (arith, k.texts, k.ready.log.texts, k.ready.log.fit.lengths)) x xs (text_of l)
        s.log.undo suits.0 k.ready.text within (good F (log_lent l) k.ready.log) k.room

    goods : AllGood catalogue F.width (recorded catalogue x (text_of l) s.log.undo)
    unfolding fits
    goods =
        let y = recorded catalogue x (text_of l) s.log.undo in
        let e = (and_both (leb (length (undo_records F y)) (length l₀.records)) (leb (length (undo_texts y)) (length l₀.texts))
        (and_both (all_numbers_fit F.width y) _ room).1).1 in
        let n = leb-true (length (undo_texts y)) (length l₀.texts) e in
        good_step catalogue F C below_top x (text_of l) s.log.undo suits.0 k.ready.text within (good F (log_lent l) k.ready.log)
        (omega (arith, k.texts, k.ready.log.texts, k.ready.log.fit.lengths))

    sizes : sizes_of l ≡ sizes_of l₀
    sizes = ap₂ (λ (a b : ℕ). record { records = a; texts = b }) k.records k.texts

    taken : Edited F l (answered 0 0 0 next) r t rb tb
    taken =
        subst (λ (o : Outcome State). Edited F l o r t rb tb)
        (ap₂ (λ (z : Sizes) (c : ℕ). edited catalogue F z c (once x (start_of x)) s) sizes k.text ∙ step_taken catalogue F (sizes_of l₀) C x s (start_of x) shorts.0 room) q

    start : In (made x (text_of l)) (start_of x) (start_of x)
    start = start_in catalogue x (text_of l) suits.0

    -- the text afterwards
    pub text_now : take r.line.len t ≡ made x (text_of l)
    text_now = ap (λ (a : EditAnswer). take a.line.len t) taken.answer ∙ taken.bytes.text

    pub goes-on : Underway F l₀ p xs (lent t rb tb r.line r.log)
    goes-on =
        let g = state-stored catalogue F next t rb tb taken.bytes goods tt in
        let e = state-ready F next t rb tb taken.bytes goods tt (omega (arith, k.ready.limit)) (omega (arith, k.ready.log.records))
        (omega (arith, k.ready.log.texts)) k.ready.log.fit k.ready.log.level
        (made-text catalogue x (text_of l) suits.0 k.ready.text) start in
        subst (λ (a : EditAnswer). Underway F l₀ p xs (lent t rb tb a.line a.log)) (sym taken.answer)
        (record {
          ready = e;
          text = lt ∙ k.text;
          records = lr ∙ k.records;
          texts = ls ∙ k.texts;
          suit = subst (AllSuit catalogue xs) (sym taken.bytes.text) suits.1;
          short = ap (too_long C xs) taken.bytes.text ∙ shorts.1;
          room = ap (λ (y : State). fits F (sizes_of l₀) (list_after catalogue xs y.text y.log.undo)) g ∙ later;
          same = k.same ∙ step_same catalogue F (sizes_of l₀) C x s (start_of x) shorts.0 p xs ∙ ap (edited catalogue F (sizes_of l₀) C (rest p xs)) (sym g);
        })
      where
        later : fits F (sizes_of l₀) (list_after catalogue xs (made x (text_of l)) (recorded catalogue x (text_of l) s.log.undo)) ≡ true
        later = after_first catalogue F (sizes_of l₀) x xs (text_of l) s.log.undo k.room

  -- all are made
  pub ends : (l₀ : Lent) (p : Plan) (l : Lent) → Underway F l₀ p [] l
      → Edited F l₀ (edited catalogue F (sizes_of l₀) (length l₀.text) p (state_of catalogue F l₀))
      (record { number = p.number; from = p.from; to = p.to; line = record { len = l.line.len; cursor = p.cursor }; log = l.log }) l.text l.records l.texts
  ends l₀ p l k =
      subst (λ (o : Outcome State). Edited F l₀ o (record {
        number = p.number;
        from = p.from;
        to = p.to;
        line = record
            { len = l.line.len; cursor = p.cursor };
        log = l.log;
      }) l.text l.records l.texts) (sym (k.same ∙ all_made))
      (record {
        answer = ap₂ (λ (n : ℕ) (g : Log). record {
          number = p.number;
          from = p.from;
          to = p.to;
          line = record { len = n; cursor = p.cursor };
          log = g;
        }) (sym (length-kept F l k.ready)) (log-kept F l k.ready);
        bytes = state-kept F l k.ready p.cursor;
      })
    where
      all_made : edited catalogue F (sizes_of l₀) (length l₀.text) (rest p []) (state_of catalogue F l) ≡ answered p.number p.from p.to
          (record { text = text_of l; cursor = p.cursor; log = (state_of catalogue F l).log })
      all_made = none_left catalogue F (sizes_of l₀) (length l₀.text) p (state_of catalogue F l) k.room
