-- One cut by itself: it is never too long, and the dry run of the log says whether there is room for it. Assumes nothing.
use Prim.Native.Nat.{ℕ, ◌-◌, ◌≤◌}
use native.Mathlib.Omega.{arith}
use mathlib.Core.Path.{◌≡◌, sym, subst}
use mathlib.Core.Bool.{Bool, true, false}
use mathlib.Core.List.{List, [], ◌∷◌}
use lib.ListN.{length}
use borrow.Author.Tests.{le-ltb}
use Rattle.std.specs.Prelude.{Result, Ok, is_ok, IfOk}
use Rattle.lists.specs.Lists.{part}
use Rattle.utf8.specs.Chars.{In}
use Rattle.repertoire.specs.Repertoire.{catalogue}
use Rattle.cluster.specs.Clusters.{clusters_of}
use Rattle.numbers.specs.Numbers.{top}
use Rattle.formats.specs.declared.Format.{Format}
use Rattle.log_model.specs.Change.{Change}
use Rattle.log_model.specs.Recording.{is_single}
use Rattle.log_model.specs.UndoBytes.{fits}
use Rattle.log_recording.specs.Tails.{tail_of, InRange}
use Rattle.log_recording.specs.declared.Tail.{Tail}
use Rattle.checks.specs.Outcome.{Outcome, refused, answered}
use Rattle.edit.specs.Plan.{State, cutting, made, once, planned, list_after, too_long, edited}
use Rattle.edit.specs.Calls.{Lent, text_of, sizes_of, state_of, Ready}
use Rattle.edit.specs.Room.{room_cut}
use Rattle.edit.proofs.Answers.{length-kept}
use Rattle.edit.proofs.Splice.{splice-length}
use Rattle.edit.proofs.Rooms.{Roomy, dry_now, dry_in_range, dry_cut}

module _ (F : Format) (l : Lent) (h : Ready F l) (a b : ℕ) (i : In (text_of l) a b) where
  abbrev t : List ℕ
  t = text_of l

  abbrev u : List Change
  u = (state_of catalogue F l).log.undo

  pub within : b ≤ l.line.len
  within = omega (arith, i.1, length-kept F l h)

  short : too_long (length l.text) (cutting a b ∷ []) t ≡ false
  unfolding too_long
  short =
      let e = splice-length t a b [] i.0 i.1 in
      let k : length (made (cutting a b) t) ≤ length l.text = omega (arith, e, length-kept F l h, h.used) in
      rw (le-ltb (length l.text) (length (made (cutting a b) t)) k)

  -- ---- 10 by the dry run
  module _ (w : top F.width ≤ 4294967296) (r₀ : Result Tail Tail) (e₀ : r₀ ≡ Ok (tail_of F u)) where
    now_roomy : Roomy catalogue F (sizes_of l) u r₀
    now_roomy = subst (Roomy catalogue F (sizes_of l) u) (sym e₀) (dry_now F l h)

    pub in_range : IfOk r₀ (λ x. InRange x (b - a) 0)
    in_range = dry_in_range F l h u r₀ now_roomy (b - a) 0 w (omega (arith, i.1, length-kept F l h, h.used, h.limit, h.log.fit.text)) (omega arith)

    pub room : (j : Bool) → j ≡ is_single catalogue (clusters_of catalogue (part t a b)) → (r₁ : Result Tail Tail) → r₁ ≡ room_cut F (sizes_of l) j a b r₀
        → is_ok r₁ ≡ fits F (sizes_of l) (list_after catalogue (cutting a b ∷ []) t u)
    unfolding list_after
    room j ej r₁ e₁ =
        subst (λ (r : Result Tail Tail). is_ok r ≡ fits F (sizes_of l) (list_after catalogue (cutting a b ∷ []) t u)) (sym e₁)
        (dry_cut F l h u r₀ now_roomy t h.text (omega (arith, length-kept F l h, h.used)) a b j i ej).fit

  -- ---- so the cut is refused by 10, or done
  abbrev outcome : Outcome State
  outcome = edited catalogue F (sizes_of l) (length l.text) (once (cutting a b) a) (state_of catalogue F l)

  pub no_room : fits F (sizes_of l) (list_after catalogue (cutting a b ∷ []) t u) ≡ false → outcome ≡ refused 10
  unfolding edited
  no_room e = rw (short, e)

  pub roomy : fits F (sizes_of l) (list_after catalogue (cutting a b ∷ []) t u) ≡ true
      → outcome ≡ answered 0 0 0 (planned catalogue (once (cutting a b) a) (state_of catalogue F l))
  unfolding edited
  roomy e = rw (short, e)
