-- The number that a key is refused by: that of the checks of all that is lent, together with what its call on the line tests of its own; and where they
-- pass, the key is done. Assumes nothing.
use Prim.Native.Nat.{ℕ, zero, suc, ◌≤◌}
use native.Mathlib.Omega.{arith}
use mathlib.Core.Path.{◌≡◌, refl, sym, ap, ◌∙◌}
use mathlib.Core.Bool.{Bool, true, false, cond, not, true≢false}
use mathlib.Core.Logic.{◌⊎◌, inl, inr, ⊎_elim}
use mathlib.Core.List.{List}
use lib.Dec.{eqb, leb, ltb}
use lib.ListN.{length}
use borrow.Author.Tests.{eq-eqb, ne_eqb}
use Rattle.std.specs.Prelude.{Option, None, Some}
use Rattle.lists.specs.Lists.{part}
use Rattle.repertoire.specs.Repertoire.{Repertoire}
use Rattle.keymap.specs.Codes.{word_list, at_list, movements}
use Rattle.keymap.specs.declared.Word.TheVariants as word
use Rattle.keymap.specs.declared.At.TheVariants as stop
use Rattle.formats.specs.declared.Format.{Format}
use Rattle.motion.specs.Steps.{next_pos, prev_pos}
use Rattle.checks.specs.Checks.{Tests, no_tests, lower, both, refusal, line_tests, own_tests}
use Rattle.checks.specs.Outcome.{Outcome, refused, answered, called, number_in}
use Rattle.checks.specs.Answers.{moved_to}
use Rattle.checks.proofs.Lowest.{refusal-both}
use Rattle.checks.proofs.LowerNumbers.{lower_none, lower-first, lower-same, lower_swap, lower-three, lower_again, lower-nothing}
use Rattle.motion_words.specs.Words.{prev_word_pos, next_word_pos}
use Rattle.motion_lines.specs.Lines.{start_of_line, end_of_line}
use Rattle.checks.specs.declared.Line.{Line}
use Rattle.motion_calls.specs.Moves.{move_call, elsewhere}
use Rattle.log_state.specs.Logs.{log_tests}
use Rattle.edit.specs.Plan.{State, edited}
use Rattle.edit.specs.Calls.{Lent, format_of, text_of, sizes_of, state_of, checked}
use Rattle.edit_insert.specs.Inserts.{insert_plan}
use Rattle.edit_case.specs.EditWord.{action_list}
use Rattle.edit_kill.specs.Kills.{kill_range}
use Rattle.undo.specs.Undo.{undo_out}
use Rattle.kill_ring.specs.declared.Mode.{Mode}
use Rattle.kill_ring.specs.declared.Action.{Action}
use Rattle.kill_ring.specs.declared.Action.TheVariants as action
use Rattle.kill_ring.specs.Ring.{KillRing, is_empty, with_action, reset_out, kill_index, kill_text, stored, kill_out, yank_out}
use Rattle.kill_ring.specs.Ring.{previous_index, yanked, pop_out, yank_pop_out}
use Rattle.kill_ring.specs.Calls as rings
use Rattle.key_press.specs.declared.Press.{Press}
use Rattle.key_press.specs.declared.Press.TheVariants as p
use Rattle.key_press.specs.declared.MoveKey.{MoveKey}
use Rattle.key_press.specs.declared.MoveKey.TheVariants as mk
use Rattle.key_press.specs.declared.EditKey.{EditKey}
use Rattle.key_press.specs.declared.EditKey.TheVariants as ek
use Rattle.key_press.specs.declared.KillKey.{KillKey}
use Rattle.key_press.specs.declared.KillKey.TheVariants as kk
use Rattle.key_press.specs.Keys.{press_of, foreign_key}
use Rattle.key_press.proofs.Table.{is_unbound}
use Rattle.calls.specs.Calls.{Asked, edit, move, undo, edit_outcome, move_outcome, moved_by, outcome_of}
use Rattle.key_model.specs.Stands.{KeyCalls, move_for, edit_for, kill_for, movement_for, mode_for, kill_by, stands_for}
use Rattle.key_model.specs.Keyed.{KeyState, together, lowest, ring_now, reset_after, killed_to, yanked_by, done, key_checked, key_call}
use Rattle.key_model.specs.Own.{fit_key, fit_press, tests_given, yank_tests, pop_tests, key_own}
use Rattle.key_model.proofs.Numbers.{refusal_in, together_refuses}
use Rattle.motion_lines.specs.declared.Span.{Span}

-- ---- a number that refuses already
lowest-is : (c : ℕ) (o : Outcome KeyState) → (c ≡ 0 → ⊥) → lowest c o ≡ refused (lower c (refusal_in o))
lowest-is zero o h = absurd (h refl)
lowest-is (suc c) (refused k) h = refl
lowest-is (suc c) (answered k a b s) h = refl

called_is : {S : Type 0} (c : ℕ) (o : Outcome S) → (c ≡ 0 → ⊥) → called c o ≡ refused c
called_is zero o h = absurd (h refl)
called_is (suc c) o h = refl

-- the numbers of the checks end with 8
cond-most : (b : Bool) (k n : ℕ) → k ≤ 8 → n ≤ 8 → cond b k n ≤ 8
cond-most true k n h i = h
cond-most false k n h i = i

most : (t : Tests) → t.later ≡ 0 → refusal t ≤ 8
unfolding refusal
most t e =
    rw e
    (cond-most t.sizes 2 _ (omega arith) (cond-most t.code 3 _ (omega arith) (cond-most t.foreign 4 _ (omega arith)
    (cond-most t.place 5 _ (omega arith) (cond-most t.split 6 _ (omega arith) (cond-most t.prompt 7 _ (omega arith)
    (cond-most t.damaged 8 0 (omega arith) (omega arith))))))))

below : (c k : ℕ) → (c ≡ 0 → ⊥) → c ≤ suc k → lower c (suc k) ≡ c
below zero k h i = absurd (h refl)
below (suc c) k h i = lower-first c k (omega arith)

-- an outcome that is no refusal
abbrev Answered : {S : Type 0} → Outcome S → Type 0
Answered (refused k) = ⊥
Answered (answered k a b s) = Unit {0}

either_answered : {S : Type 0} (b : Bool) (k i j : ℕ) (s : S) (k' i' j' : ℕ) (s' : S) → Answered (cond b (answered k i j s) (answered k' i' j' s'))
either_answered true k i j s k' i' j' s' = tt
either_answered false k i j s k' i' j' s' = tt

yank-answered : (r : KillRing) → Answered (yank_out r)
unfolding yank_out
yank-answered r = either_answered (is_empty r.slots) 1 0 0 r 0 r.index 0 (yanked r.index r)

pop_answered : (r : KillRing) → Answered (yank_pop_out r)
unfolding yank_pop_out
pop_answered r = go r.action
  where
    go : (a : Action) → Answered (pop_out a r)
    go action.Kill = tt
    go (action.Yank n) = either_answered (is_empty r.slots) 1 0 0 r 0 (previous_index r) n (yanked (previous_index r) r)
    go action.Other = tt

-- ---- a key, or none
bound_or_not : (q : Press) → (q ≡ p.Unbound) ⊎ (q ≡ p.Unbound → ⊥)
bound_or_not p.Unbound = inl refl
bound_or_not (p.Move k) = inr (λ e. true≢false (sym (ap is_unbound e)))
bound_or_not (p.Edit k) = inr (λ e. true≢false (sym (ap is_unbound e)))
bound_or_not (p.Undo n) = inr (λ e. true≢false (sym (ap is_unbound e)))
bound_or_not (p.Kill k) = inr (λ e. true≢false (sym (ap is_unbound e)))
bound_or_not (p.Yank n) = inr (λ e. true≢false (sym (ap is_unbound e)))
bound_or_not p.YankPop = inr (λ e. true≢false (sym (ap is_unbound e)))

-- ---- in the format that the text's buffer brings
module _ (R : Repertoire) (l : Lent) (g : rings.Lent) where
  abbrev F : Format
  F = format_of l

  -- the checks of the text, and of the log
  abbrev text : ℕ
  text = refusal (line_tests R F l.text l.line)

  abbrev log : ℕ
  log = refusal (log_tests R F l.log l.records l.texts)

  -- of both, without tests of a call's own
  abbrev bare : ℕ
  bare = checked R F l no_tests

  by_parts : (t : Tests) → checked R F l t ≡ lower text (lower log (refusal t))
  by_parts t = refusal-both (line_tests R F l.text l.line) _ ∙ ap (lower text) (refusal-both (log_tests R F l.log l.records l.texts) t)

  -- with them: the lower
  by_own : (t : Tests) → checked R F l t ≡ lower bare (refusal t)
  unfolding refusal
  by_own t =
      by_parts t ∙ sym (lower-three text log (refusal t)) ∙ ap (λ (k : ℕ). lower k (refusal t)) (sym (by_parts no_tests ∙ ap (lower text) (lower_none log)))

  bare_most : bare ≤ 8
  bare_most = most (both (line_tests R F l.text l.line) (both (log_tests R F l.log l.records l.texts) no_tests)) refl

  ring_alone : rings.checked R g false false ≡ refusal (rings.ring_tests R g)
  unfolding refusal
  ring_alone = refusal-both (rings.ring_tests R g) (own_tests false false false) ∙ lower_none _

  module _ (s : List ℕ) where
    abbrev foreign : Tests
    foreign = own_tests false (foreign_key R s) false

    abbrev x : KeyCalls
    x = stands_for (press_of R s)

    key_parts : key_checked R F l g s ≡ lower bare (lower (rings.checked R g false false) (refusal foreign))
    key_parts =
        by_own (both (rings.ring_tests R g) foreign)
        ∙ ap (lower bare) (refusal-both (rings.ring_tests R g) foreign ∙ ap (λ (k : ℕ). lower k (refusal foreign)) (sym ring_alone))

    -- the ring's checks refuse: a key has no other tests then
    pub ring_refuses : (c k : ℕ) → c ≡ checked R F l foreign → k ≡ rings.checked R g false false → (k ≡ 0 → ⊥) → key_call R F l g s ≡ refused (lower c k)
    unfolding key_call
    ring_refuses c k e f h =
        rw (ne_eqb (rings.checked R g false false) 0 (λ z. h (f ∙ z)))
        (ap refused
        (key_parts ∙ ap (lower bare) (lower_swap (rings.checked R g false false) (refusal foreign))
        ∙ sym (lower-three bare (refusal foreign) (rings.checked R g false false))
        ∙ ap (λ (i : ℕ). lower i (rings.checked R g false false)) (sym (by_own foreign)) ∙ ap (λ (i : ℕ). lower i (rings.checked R g false false)) (sym e)
        ∙ ap (lower c) (sym f)))

    module _ (sound : rings.checked R g false false ≡ 0) where
      key_sound : key_call R F l g s ≡ lowest (lower bare (refusal foreign)) (done R F l g x)
      unfolding key_call
      key_sound =
          rw (eq-eqb (rings.checked R g false false) 0 sound)
          (ap (λ (k : ℕ). lowest k (done R F l g x)) (key_parts ∙ ap (λ (k : ℕ). lower bare (lower k (refusal foreign))) sound))

      -- a key that 4 passes
      pub bound_key : foreign_key R s ≡ false → key_call R F l g s ≡ lowest bare (done R F l g x)
      unfolding refusal
      bound_key e =
          key_sound
          ∙ ap (λ (k : ℕ). lowest k (done R F l g x)) (ap (λ (i : Bool). lower bare (refusal (own_tests false i false))) e ∙ lower_none bare)

      both_parts : checked R F l (both foreign (key_own R F l g x)) ≡ lower (lower bare (refusal foreign)) (refusal (key_own R F l g x))
      both_parts =
          by_own (both foreign (key_own R F l g x)) ∙ ap (lower bare) (refusal-both foreign (key_own R F l g x))
          ∙ sym (lower-three bare (refusal foreign) (refusal (key_own R F l g x)))

      -- all checks pass: the key is done
      pub passes : checked R F l (both foreign (key_own R F l g x)) ≡ 0
          → (key_call R F l g s ≡ done R F l g x) × (checked R F l (key_own R F l g x) ≡ 0)
      passes e =
          let a = lower-nothing (lower bare (refusal foreign)) (refusal (key_own R F l g x)) (sym both_parts ∙ e) in
          let b = lower-nothing bare (refusal foreign) a.0 in (
            key_sound ∙ ap (λ (k : ℕ). lowest k (done R F l g x)) a.0,
            by_own (key_own R F l g x) ∙ ap (λ (k : ℕ). lower k (refusal (key_own R F l g x))) b.0 ∙ a.1,
          )

  -- ---- a call on the line whose checks are those of text and log
  edit-called : (k : EditKey) → fit_key R k ≡ true → (e : Outcome State) × (edit_outcome R F l (edit_for k) ≡ called bare e)
  unfolding action_list
  edit-called (ek.Typed c n) h =
      let e : Outcome State = edited R F (sizes_of l) (length l.text) (insert_plan l.line.cursor c n) (state_of R F l) in
      (e, ap (λ (b : Bool). called (checked R F l (own_tests false (not b) false)) e) h)
  edit-called (ek.Delete n) h = (_, refl)
  edit-called ek.TransposeChars h = (_, refl)
  edit-called (ek.TransposeWords n) h = (_, refl)
  edit-called ek.Capitalize h = (_, refl)
  edit-called ek.Lowercase h = (_, refl)
  edit-called ek.Uppercase h = (_, refl)

  kill-called : (k : KillKey) → (e : Outcome State) × (edit_outcome R F l (kill_for k) ≡ called bare e)
  unfolding word_list at_list movements
  kill-called kk.Line = (_, refl)
  kill-called kk.Discard = (_, refl)
  kill-called (kk.PrevWord n) = (_, refl)
  kill-called (kk.Word n) = (_, refl)

  -- a movement is tried by those of the text alone
  move-called : (k : MoveKey) → (f : Option ℕ)
      × (move_outcome R l.text l.line (move_for k) ≡ called (refusal (both (line_tests R F l.text l.line) no_tests)) (moved_to l.line f))
  unfolding move_call word_list at_list
  move-called mk.Home = (elsewhere l.line (start_of_line (text_of l) l.line.cursor), refl)
  move-called mk.End = (elsewhere l.line (end_of_line (text_of l) l.line.cursor), refl)
  move-called (mk.Backward n) = (prev_pos R (text_of l) l.line.cursor n, refl)
  move-called (mk.Forward n) = (next_pos R (text_of l) l.line.cursor n, refl)
  move-called (mk.PrevWord n) = (prev_word_pos R (text_of l) l.line.cursor word.Emacs n, refl)
  move-called (mk.NextWord n) = (next_word_pos R (text_of l) l.line.cursor stop.AfterEnd word.Emacs n, refl)

  -- ---- what a key is refused by where the checks of text and log refuse
  module _ (h : bare ≡ 0 → ⊥) where
    edit-refused : (k : EditKey) → fit_key R k ≡ true → refusal_in (edit_outcome R F l (edit_for k)) ≡ bare
    edit-refused k e = let q = edit-called k e in ap refusal_in (q.1 ∙ called_is bare q.0 h)

    reset_answers : (o : Outcome State) → refusal_in (reset_after R F l g o) ≡ 0
    reset_answers o = go (leb (number_in o) 1)
      where
        go : (b : Bool) → refusal_in (cond b (reset_out (ring_now R F l g)) (answered 0 0 0 (ring_now R F l g))) ≡ 0
        go true = refl
        go false = refl

    -- with the ring's call beside it
    line-lowest : (o : Outcome State) → lower bare (refusal_in o) ≡ bare → lowest bare (together o (reset_after R F l g o)) ≡ refused bare
    line-lowest o e =
        lowest-is bare (together o (reset_after R F l g o)) h
        ∙ ap refused (ap (lower bare) (together_refuses o (reset_after R F l g o) ∙ ap (lower (refusal_in o)) (reset_answers o) ∙ lower_none (refusal_in o)) ∙ e)

    text_alone : refusal (both (line_tests R F l.text l.line) no_tests) ≡ text
    unfolding refusal
    text_alone = refusal-both (line_tests R F l.text l.line) no_tests ∙ lower_none text

    move-lowest : (k : MoveKey) → lower bare (refusal_in (moved_by R F l (move_outcome R l.text l.line (move_for k)))) ≡ bare
    move-lowest k =
        let q = move-called k in
        ap (λ (o : Outcome Line). lower bare (refusal_in (moved_by R F l o))) q.1 ∙ go (refusal (both (line_tests R F l.text l.line) no_tests)) text_alone q.0
      where
        moved_answers : (f : Option ℕ) → refusal_in (moved_by R F l (moved_to l.line f)) ≡ 0
        moved_answers (Some q) = refl
        moved_answers None = refl

        go : (c : ℕ) → c ≡ text → (f : Option ℕ) → lower bare (refusal_in (moved_by R F l (called c (moved_to l.line f)))) ≡ bare
        go zero e f = ap (lower bare) (moved_answers f) ∙ lower_none bare
        go (suc c) e f =
            ap (lower bare) e ∙ lower_swap bare text
            ∙ ap (lower text) (by_parts no_tests) ∙ lower_again text (lower log (refusal no_tests)) ∙ sym (by_parts no_tests)

    -- 11 is above the numbers of the checks
    full_or_not : (b c : Bool) (v w : KillRing) → lower bare (refusal_in (cond b (answered 0 0 0 v) (cond c (refused 11) (answered 0 0 0 w)))) ≡ bare
    full_or_not true c v w = lower_none bare
    full_or_not false true v w = below bare 10 h (omega (arith, bare_most))
    full_or_not false false v w = lower_none bare

    killed_lowest : (r : Option Span) (m : Mode) → lower bare (refusal_in (killed_to R F l g r m)) ≡ bare
    unfolding kill_out
    killed_lowest (Some x) m =
        let v = ring_now R F l g in
        let t = kill_text v.action m (part (text_of l) x.start x.end) v in
        full_or_not (eqb v.size 0) (ltb 4096 (length t)) (with_action v action.Kill) (stored (kill_index v.action v) t v)
    killed_lowest None m = lower_none bare

    kill-lowest : (k : KillKey) → lowest bare (done R F l g (kill_by k)) ≡ refused bare
    kill-lowest k =
        let q = kill-called k in
        let z = killed_to R F l g (kill_range R (text_of l) l.line.cursor (movement_for k)) (mode_for k) in
        let e : refusal_in (edit_outcome R F l (kill_for k)) ≡ bare = ap refusal_in (q.1 ∙ called_is bare q.0 h) in
        lowest-is bare (done R F l g (kill_by k)) h
        ∙ ap refused
        (ap (lower bare) (together_refuses (edit_outcome R F l (kill_for k)) z ∙ ap (λ (i : ℕ). lower i (refusal_in z)) e)
        ∙ lower_again bare (refusal_in z) ∙ killed_lowest (kill_range R (text_of l) l.line.cursor (movement_for k)) (mode_for k))

  -- ---- a yank: its own tests are tried with them
  yank-lowest : (o : Outcome KillRing) → Answered o → (f : ℕ → ℕ → KillRing → Asked) (t : ℕ → ℕ → KillRing → Tests)
      → ((slot size : ℕ) (r : KillRing) → (e : Outcome State) × (outcome_of R F l (f slot size r) ≡ called (checked R F l (t slot size r)) e))
      → (checked R F l (tests_given o t) ≡ 0 → ⊥) → lowest bare (yanked_by R F l g o f) ≡ refused (checked R F l (tests_given o t))
  yank-lowest (refused k) a f t q h = absurd a
  yank-lowest (answered (suc k) slot size r) a f t q h = lowest-is bare _ h ∙ ap refused (lower_none bare)
  yank-lowest (answered zero slot size r) a f t q h =
      let c = checked R F l (t slot size r) in
      let w = q slot size r in
      ap (λ (o : Outcome State). lowest bare (together o (answered zero slot size r))) (w.1 ∙ called_is c w.0 h)
      ∙ go bare refl c (by_own (t slot size r))
    where
      go : (b : ℕ) → b ≡ bare → (c : ℕ) → c ≡ lower bare (refusal (t slot size r)) → lowest b (refused c) ≡ refused c
      go zero e c d = refl
      go (suc b) e c d =
          ap refused (ap (λ (i : ℕ). lower i c) e ∙ ap (lower bare) d ∙ lower_again bare (refusal (t slot size r)) ∙ sym d)

  -- ---- the checks refuse: by that number
  module _ (s : List ℕ) (sound : rings.checked R g false false ≡ 0) where
    bound_refuses : (q : Press) → fit_press R q ≡ true → (q ≡ p.Unbound → ⊥) → (c : ℕ) → c ≡ checked R F l (key_own R F l g (stands_for q)) → (c ≡ 0 → ⊥)
        → lowest bare (done R F l g (stands_for q)) ≡ refused c
    bound_refuses p.Unbound f b c e h = absurd (b refl)
    bound_refuses (p.Move k) f b c e h = line-lowest (λ z. h (e ∙ z)) (outcome_of R F l (move (move_for k))) (move-lowest (λ z. h (e ∙ z)) k) ∙ ap refused (sym e)
    bound_refuses (p.Edit k) f b c e h =
        let i : bare ≡ 0 → ⊥ = λ z. h (e ∙ z) in
        line-lowest i (outcome_of R F l (edit (edit_for k))) (ap (lower bare) (edit-refused i k f) ∙ lower-same bare) ∙ ap refused (sym e)
    bound_refuses (p.Undo n) f b c e h =
        let i : bare ≡ 0 → ⊥ = λ z. h (e ∙ z) in
        line-lowest i (outcome_of R F l (undo n))
        (ap (λ (o : Outcome State). lower bare (refusal_in o)) (called_is bare (undo_out (length l.text) n (state_of R F l)) i) ∙ lower-same bare)
        ∙ ap refused (sym e)
    bound_refuses (p.Kill k) f b c e h = kill-lowest (λ z. h (e ∙ z)) k ∙ ap refused (sym e)
    bound_refuses (p.Yank n) f b c e h =
        yank-lowest (yank_out (ring_now R F l g)) (yank-answered (ring_now R F l g)) _ (yank_tests R F l g) (λ slot size r. (_, refl)) (λ z. h (e ∙ z)) ∙ ap refused (sym e)
    bound_refuses p.YankPop f b c e h =
        yank-lowest (yank_pop_out (ring_now R F l g)) (pop_answered (ring_now R F l g)) _ (pop_tests R F l g) (λ slot size r. (_, refl)) (λ z. h (e ∙ z)) ∙ ap refused (sym e)

    unbound_refuses : (c : ℕ) → c ≡ checked R F l (both (foreign s) no_tests) → (c ≡ 0 → ⊥) → lowest c (refused 13) ≡ refused c
    unbound_refuses c e h =
        let m = most (both (line_tests R F l.text l.line) (both (log_tests R F l.log l.records l.texts) (both (foreign s) no_tests))) refl in
        lowest-is c (refused 13) h ∙ ap refused (below c 12 h (omega (arith, e, m)))

    pub refuses : fit_press R (press_of R s) ≡ true → ((press_of R s ≡ p.Unbound → ⊥) → foreign_key R s ≡ false)
        → (c : ℕ) → checked R F l (both (foreign s) (key_own R F l g (x s))) ≡ c → (c ≡ 0 → ⊥) → key_call R F l g s ≡ refused c
    unfolding refusal
    refuses f b c e h = key_sound s sound ∙ ⊎_elim unbound bound (bound_or_not (press_of R s))
      where
        unbound : press_of R s ≡ p.Unbound → lowest (lower bare (refusal (foreign s))) (done R F l g (x s)) ≡ refused c
        unbound d =
            let n : checked R F l (both (foreign s) no_tests) ≡ c = ap (λ (q : Press). checked R F l (both (foreign s) (key_own R F l g (stands_for q)))) (sym d) ∙ e in
            let k : lower bare (refusal (foreign s)) ≡ c =
            sym (by_own (both (foreign s) no_tests) ∙ ap (lower bare) (refusal-both (foreign s) no_tests ∙ lower_none (refusal (foreign s)))) ∙ n in
            ap (λ (q : Press). lowest (lower bare (refusal (foreign s))) (done R F l g (stands_for q))) d
            ∙ ap (λ (i : ℕ). lowest i (refused 13)) k ∙ unbound_refuses c (sym n) h

        bound : (press_of R s ≡ p.Unbound → ⊥) → lowest (lower bare (refusal (foreign s))) (done R F l g (x s)) ≡ refused c
        bound d =
            let z : refusal (foreign s) ≡ 0 = ap (λ (i : Bool). refusal (own_tests false i false)) (b d) in
            let k : lower bare (refusal (foreign s)) ≡ bare = ap (lower bare) z ∙ lower_none bare in
            let n : c ≡ checked R F l (key_own R F l g (x s)) =
            sym e ∙ both_parts s sound ∙ ap (λ (i : ℕ). lower i (refusal (key_own R F l g (x s)))) k ∙ sym (by_own (key_own R F l g (x s))) in
            ap (λ (i : ℕ). lowest i (done R F l g (x s))) k ∙ bound_refuses (press_of R s) f d c n h
