-- delete: what kill of ForwardChar leaves, with the two places between which it cut. Assumes nothing.
use Prim.Native.Nat.{ℕ, ◌+◌, ◌-◌, ◌≤◌}
use native.Mathlib.Omega.{arith}
use mathlib.Core.Path.{◌≡◌, refl, sym, ap, ap₂, ◌∙◌}
use mathlib.Core.Bool.{Bool, true, false, cond}
use mathlib.Core.List.{List, [], ◌∷◌}
use lib.ListN.{length}
use lib.Dec.{eqb}
use lib.Seq.{length-take-le}
use Rattle.std.specs.Prelude.{Option, None, Some}
use Rattle.utf8.specs.Chars.{In}
use Rattle.repertoire.specs.Repertoire.{catalogue}
use Rattle.repertoire.proofs.Text.{text-valid}
use Rattle.keymap.specs.declared.Movement.TheVariants as m
use Rattle.motion.specs.Steps.{next_pos}
use Rattle.checks.specs.Outcome.{Outcome, refused, answered, number_in}
use Rattle.formats.specs.declared.Format.{Format}
use Rattle.motion_ranges.specs.Ranges.{up_to, copied}
use Rattle.log_model.specs.UndoBytes.{fits}
use Rattle.edit.specs.declared.EditAnswer.{EditAnswer}
use Rattle.edit.specs.Plan.{cutting, nothing, State, too_long, text_after, list_after, planned, edited}
use Rattle.edit.specs.Calls.{Lent, text_of, sizes_of, state_of, Edited, Ready}
use Rattle.edit.proofs.Answers.{cursor_in}
use Rattle.edit.proofs.Splice.{splice-length}
use Rattle.edit_kill.specs.Kills.{kill_range, cut_plan, places_plan}
use Rattle.edit_kill.proofs.Ranges.{kill_in}
use Rattle.motion_lines.specs.declared.Span.{Span}
use Rattle.motion_lines.specs.Lines.{places}
use Rattle.motion_lines.proofs.Places.{same-places}

-- from the cursor on
forward-start : (t : List ℕ) (pos n a b : ℕ) → kill_range catalogue t pos (m.ForwardChar n) ≡ places a b → a ≡ pos
unfolding copied
forward-start t pos n a b e = go (eqb (length t) 0) (next_pos catalogue t pos n) e
  where
    go : (z : Bool) (f : Option ℕ) → cond z None (up_to pos 0 f) ≡ places a b → a ≡ pos
    go true f q = let y : ◌≡◌ {A = ℕ} 0 1 = cc in absurd (omega arith)
    go false (Some p) q = sym (same-places pos (p + 0) a b q).0
    go false None q = let y : ◌≡◌ {A = ℕ} 0 1 = cc in absurd (omega arith)

module _ (F : Format) (l : Lent) (n : ℕ) where
  abbrev pos : ℕ
  pos = l.line.cursor

  -- what kill of ForwardChar cuts
  abbrev range : Option Span
  range = kill_range catalogue (text_of l) pos (m.ForwardChar n)

  abbrev state : State
  state = state_of catalogue F l

  abbrev cut : Option Span → Outcome State
  cut r = edited catalogue F (sizes_of l) (length l.text) (cut_plan pos r) state

  abbrev placed : Option Span → Outcome State
  placed r = edited catalogue F (sizes_of l) (length l.text) (places_plan pos r) state

  -- kill and delete do the same and do not answer 0, or delete answers the places of the cut
  data Way : Outcome State → Outcome State → Type 0 where
    alike : (o : Outcome State) → (number_in o ≡ 0 → ⊥) → Way o o
    between : (a b : ℕ) (s : State) → a ≡ pos → a ≤ b → b ≤ l.line.len → length s.text ≡ l.line.len - (b - a) → Way (answered 0 0 0 s) (answered 0 a b s)

  cut_ways : (a b : ℕ) → a ≡ pos → In (text_of l) a b → l.line.len ≤ length l.text → Way (cut (places a b)) (placed (places a b))
  unfolding edited text_after
  cut_ways a b e i h = go (too_long (length l.text) (cutting a b ∷ []) (text_of l)) (fits F (sizes_of l) (list_after catalogue (cutting a b ∷ []) (text_of l) state.log.undo))
    where
      long : length (text_of l) ≡ l.line.len
      long = length-take-le l.line.len l.text h

      go : (x y : Bool) → Way (cond x (refused 9) (cond y (answered 0 0 0 (planned catalogue (cut_plan pos (places a b)) state)) (refused 10)))
          (cond x (refused 9) (cond y (answered 0 a b (planned catalogue (places_plan pos (places a b)) state)) (refused 10)))
      go true y = alike (refused 9) (λ z. omega arith)
      go false true =
          between a b (planned catalogue (cut_plan pos (places a b)) state) e i.0 (let k = i.1 in omega (arith, long))
          (let k = i.1 in splice-length (text_of l) a b [] i.0 k ∙ omega (arith, long))
      go false false = alike (refused 10) (λ z. omega arith)

  none_ways : Way (cut None) (placed None)
  unfolding edited too_long list_after
  none_ways = go (fits F (sizes_of l) state.log.undo)
    where
      go : (y : Bool) → Way (cond y (answered 1 0 0 (planned catalogue (nothing pos) state)) (refused 10))
          (cond y (answered 1 0 0 (planned catalogue (nothing pos) state)) (refused 10))
      go true = alike (answered 1 0 0 (planned catalogue (nothing pos) state)) (λ z. omega arith)
      go false = alike (refused 10) (λ z. omega arith)

  module _ (h : Ready F l) where
    ways : Way (cut range) (placed range)
    ways = by_range range refl
      where
        by_range : (x : Option Span) → range ≡ x → Way (cut x) (placed x)
        by_range (Some x) e =
            let i = cursor_in F l h in
            cut_ways x.start x.end (forward-start (text_of l) pos n x.start x.end e)
            (kill_in catalogue (text_of l) (text-valid catalogue (text_of l) h.text) x.start x.end pos i.2 i.1 (m.ForwardChar n) e) h.used
        by_range None e = none_ways

    module _ {r : EditAnswer} {t rb tb : List ℕ} (q : Edited F l (cut range) r t rb tb) where
      number_is : (o : Outcome State) → Edited F l o r t rb tb → r.number ≡ number_in o
      number_is (refused k) e = ap (λ (x : EditAnswer). x.number) e.answer
      number_is (answered k a b s) e = ap (λ (x : EditAnswer). x.number) e.answer

      pub not-cut : (r.number ≡ 0 → ⊥) → Edited F l (placed range) r t rb tb
      not-cut k = go ways q
        where
          go : {o o' : Outcome State} → Way o o' → Edited F l o r t rb tb → Edited F l o' r t rb tb
          go (alike o k) e = e
          go (between a b s x y z w) e = absurd (k (number_is (answered 0 0 0 s) e))

      pub was_cut : r.number ≡ 0 → (r.line.len ≤ l.line.len) × (pos + (l.line.len - r.line.len) ≤ l.line.len)
          × Edited F l (placed range) (record { number = 0; from = pos; to = pos + (l.line.len - r.line.len); line = r.line; log = r.log }) t rb tb
      was_cut z = go ways q
        where
          go : {o o' : Outcome State} → Way o o' → Edited F l o r t rb tb → (r.line.len ≤ l.line.len)
              × (pos + (l.line.len - r.line.len) ≤ l.line.len) × Edited F l o'
              (record { number = 0; from = pos; to = pos + (l.line.len - r.line.len); line = r.line; log = r.log }) t rb tb
          go (alike o k) e = absurd (k (sym (number_is o e) ∙ z))
          go (between a b s x y z w) e =
              let g : r.line.len ≡ length s.text = ap (λ (i : EditAnswer). i.line.len) e.answer in
              let f : pos + (l.line.len - r.line.len) ≡ b = omega arith in (
                omega arith,
                omega arith,
                record {
                  answer = ap₂ (λ (i j : ℕ). record { number = 0; from = i; to = j; line = r.line; log = r.log }) (sym x) f
                      ∙ ap (λ (i : EditAnswer). record { number = 0; from = a; to = b; line = i.line; log = i.log }) e.answer;
                  bytes = e.bytes;
                },
              )
