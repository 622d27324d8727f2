-- A cut and then a text put in: 9 and 10 over both, and what is left after each. Assumes nothing.
use Prim.Native.Nat.{ℕ, ◌+◌, ◌-◌, ◌≤◌, ◌<◌}
use native.Mathlib.Omega.{arith}
use mathlib.Core.Path.{◌≡◌, sym, subst, ◌∙◌}
use mathlib.Core.Bool.{Bool, true, false, or-false}
use mathlib.Core.List.{List, [], ◌∷◌}
use lib.Dec.{ltb}
use lib.ListN.{length}
use borrow.Author.Tests.{lt-ltb, le-ltb}
use Rattle.std.specs.Prelude.{Result, Ok, is_ok, IfOk}
use Rattle.lists.specs.Lists.{part}
use Rattle.utf8.specs.Chars.{In}
use Rattle.repertoire.specs.Repertoire.{catalogue}
use Rattle.repertoire.specs.Text.{is_text}
use Rattle.cluster.specs.Clusters.{clusters_of}
use Rattle.log_model.specs.Change.{Change}
use Rattle.numbers.specs.Numbers.{top}
use Rattle.formats.specs.declared.Format.{Format}
use Rattle.formats.specs.Formats.{text_max}
use Rattle.log_model.specs.Recording.{is_single}
use Rattle.log_model.specs.UndoBytes.{fits}
use Rattle.log_recording.specs.Tails.{tail_of, InRange}
use Rattle.log_recording.specs.declared.Tail.{Tail}
use Rattle.edit.specs.declared.EditAnswer.{EditAnswer}
use Rattle.edit.specs.Plan.{PlannedChange, cutting, pasted, made, recorded, Plan, once, list_after, Suits, AllSuit, too_long, edited}
use Rattle.edit.specs.Calls.{Lent, lent, text_of, sizes_of, state_of, Edited, Ready}
use Rattle.edit.specs.Room.{room_cut, room_put}
use Rattle.edit.proofs.Answers.{length-kept}
use Rattle.edit.proofs.PlannedChanges.{made-text}
use Rattle.edit.proofs.Splice.{splice-length}
use Rattle.edit.proofs.Rooms.{Roomy, dry_now, dry_in_range, dry_cut, dry_put}
use Rattle.edit.proofs.Underway.{Underway, begins, goes-on, ends}

module _ (F : Format) (l : Lent) (h : Ready F l) (a b p : ℕ) (n : List ℕ) (s : AllSuit catalogue (cutting a b ∷ pasted p n ∷ []) (text_of l)) where
  abbrev t : List ℕ
  t = text_of l

  abbrev u : List Change
  u = (state_of catalogue F l).log.undo

  -- the text between the two
  abbrev mid : List ℕ
  mid = made (cutting a b) t

  abbrev both : List PlannedChange
  both = cutting a b ∷ pasted p n ∷ []

  pub cut_suits : In t a b
  unfolding AllSuit
  cut_suits = s.0

  pub put_suits : Suits catalogue (pasted p n) mid
  unfolding AllSuit
  put_suits = s.1.0

  mid_text : is_text catalogue mid ≡ true
  mid_text = made-text catalogue (cutting a b) t cut_suits h.text

  mid_length : length mid ≡ l.line.len - (b - a)
  mid_length =
      let e = length-kept F l h in
      splice-length t a b [] cut_suits.0 cut_suits.1 ∙ omega arith

  last_length : length (made (pasted p n) mid) ≡ l.line.len - (b - a) + length n
  last_length =
      splice-length mid p p n put_suits.0.0 put_suits.0.1 ∙ omega (arith, mid_length)

  mid_short : length mid ≤ length l.text
  mid_short = omega (arith, mid_length, h.used)

  -- 9 is decided by the last text
  long_is : (c : Bool) → ltb (length l.text) (length (made (pasted p n) mid)) ≡ c → too_long (length l.text) both t ≡ c
  unfolding too_long
  long_is c e = rw (le-ltb (length l.text) (length mid) mid_short, e) (or-false c)

  pub pair_long : length l.text - (l.line.len - (b - a)) < length n → too_long (length l.text) both t ≡ true
  pair_long k = long_is true (lt-ltb (length l.text) (length (made (pasted p n) mid)) (omega (arith, last_length, h.used)))

  pub pair_short : length n ≤ length l.text - (l.line.len - (b - a)) → too_long (length l.text) both t ≡ false
  pair_short k = long_is false (le-ltb (length l.text) (length (made (pasted p n) mid)) (omega (arith, last_length, h.used)))

  -- ---- 10 by the dry run
  module _ (w : top F.width ≤ 4294967296) (r₀ : Result Tail Tail) (e₀ : r₀ ≡ Ok (tail_of F u)) where
    now_roomy : Roomy catalogue F (sizes_of l) u r₀
    now_roomy = subst (Roomy catalogue F (sizes_of l) u) (sym e₀) (dry_now F l h)

    pub first_in_range : IfOk r₀ (λ t. InRange t (b - a) 0)
    first_in_range = dry_in_range F l h u r₀ now_roomy (b - a) 0 w (let e = length-kept F l h in let i = cut_suits.1 in omega
        (arith, h.used, h.limit, h.log.fit.text)) (omega arith)

    module _ (j : Bool) (ej : j ≡ is_single catalogue (clusters_of catalogue (part t a b))) (r₁ : Result Tail Tail) (e₁ : r₁ ≡ room_cut F (sizes_of l) j a b r₀) where
      mid_roomy : Roomy catalogue F (sizes_of l) (recorded catalogue (cutting a b) t u) r₁
      mid_roomy =
          subst (Roomy catalogue F (sizes_of l) (recorded catalogue (cutting a b) t u)) (sym e₁)
          (dry_cut F l h u r₀ now_roomy t h.text (omega (arith, length-kept F l h, h.used)) a b j cut_suits ej)

      pub second_in_range : length n ≤ text_max → IfOk r₁ (λ t. InRange t 0 (length n))
      second_in_range k = dry_in_range F l h (recorded catalogue (cutting a b) t u) r₁ mid_roomy 0 (length n) w (omega arith) k

      pub pair_room : (r₂ : Result Tail Tail) → r₂ ≡ room_put F (sizes_of l) p (length n) r₁ → is_ok r₂ ≡ fits F (sizes_of l) (list_after catalogue both t u)
      unfolding list_after
      pair_room r₂ e₂ =
          (subst (Roomy catalogue F (sizes_of l) (recorded catalogue (pasted p n) mid (recorded catalogue (cutting a b) t u))) (sym e₂)
          (dry_put F l h (recorded catalogue (cutting a b) t u) r₁ mid_roomy mid mid_text mid_short p n put_suits)).fit

  -- ---- the two changes made
  abbrev plan : ℕ → ℕ → Plan
  plan c k = record { changes = both; cursor = c; number = k; from = 0; to = 0 }

  module _ (c k : ℕ) (short : too_long (length l.text) both t ≡ false) (room : fits F (sizes_of l) (list_after catalogue both t u) ≡ true) where
    module _ (r₁ : EditAnswer) (t₁ rb₁ tb₁ : List ℕ) (q₁ : Edited F l
        (edited catalogue F (sizes_of l) (length l.text) (once (cutting a b) a) (state_of catalogue F l)) r₁ t₁ rb₁ tb₁)
        (et : length t₁ ≡ length l.text) (er : length rb₁ ≡ length l.records) (es : length tb₁ ≡ length l.texts) where
      abbrev l₁ : Lent
      l₁ = lent t₁ rb₁ tb₁ r₁.line r₁.log

      pub pair_mid : Underway F l (plan c k) (pasted p n ∷ []) l₁
      pair_mid = goes-on F l (plan c k) (cutting a b) (pasted p n ∷ []) l (begins F l (plan c k) h s short room) r₁ t₁ rb₁ tb₁ q₁ et er es

      pub pair_made : (r₂ : EditAnswer) (t₂ rb₂ tb₂ : List ℕ) → Edited F l₁
          (edited catalogue F (sizes_of l₁) (length t₁) (once (pasted p n) p) (state_of catalogue F l₁)) r₂ t₂ rb₂ tb₂
          → length t₂ ≡ length t₁ → length rb₂ ≡ length rb₁ → length tb₂ ≡ length tb₁
          → Edited F l (edited catalogue F (sizes_of l) (length l.text) (plan c k) (state_of catalogue F l))
          (record { number = k; from = 0; to = 0; line = record { len = r₂.line.len; cursor = c }; log = r₂.log }) t₂ rb₂ tb₂
      pair_made r₂ t₂ rb₂ tb₂ q₂ e f g = ends F l (plan c k) (lent t₂ rb₂ tb₂ r₂.line r₂.log) (goes-on F l (plan c k) (pasted p n) [] l₁ pair_mid r₂ t₂ rb₂ tb₂ q₂ e f g)
