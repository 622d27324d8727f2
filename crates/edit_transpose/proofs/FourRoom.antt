-- Two words put in for each other: the dry run of the four changes. Assumes nothing.
use Prim.Native.Nat.{ℕ, ◌-◌, ◌≤◌}
use native.Mathlib.Omega.{arith}
use mathlib.Core.Path.{◌≡◌, sym, ap, subst, ◌∙◌}
use mathlib.Core.Bool.{Bool, false}
use mathlib.Core.List.{List}
use lib.ListN.{length}
use Rattle.std.specs.Prelude.{Result, Ok, is_ok, IfOk}
use Rattle.lists.specs.Lists.{part}
use Rattle.lists.proofs.Bools.{by_less, never}
use Rattle.numbers.specs.Numbers.{top}
use Rattle.numbers.proofs.Read.{top_max}
use Rattle.repertoire.specs.Repertoire.{catalogue}
use Rattle.cluster.specs.Clusters.{clusters_of}
use Rattle.formats.specs.declared.Format.{Format}
use Rattle.formats.specs.Formats.{text_max}
use Rattle.log_model.specs.Change.{Change}
use Rattle.log_model.specs.Recording.{is_single}
use Rattle.log_model.specs.UndoBytes.{fits}
use Rattle.log_recording.specs.Tails.{tail_of, InRange}
use Rattle.log_recording.specs.declared.Tail.{Tail}
use Rattle.edit.specs.Plan.{cutting, pasted, recorded, list_after, too_long}
use Rattle.edit.specs.Calls.{Lent, text_of, sizes_of, state_of, Ready}
use Rattle.edit.specs.Room.{room_cut, room_put}
use Rattle.edit.proofs.Answers.{length-kept}
use Rattle.edit.proofs.Rooms.{Roomy, dry_now, dry_in_range, dry_cut, dry_put}
use Rattle.edit_transpose.specs.declared.Words.{Words}
use Rattle.edit_transpose.specs.WordPairs.{words_plan, Apart}
use Rattle.edit_transpose.proofs.Four.{m1, m2, m3, text1, text2, size1, size2, long1, long2, long3, in1, in2, in3, is1, is2, is3, part2}
use Rattle.edit_transpose.proofs.Four.{words_long}

module _ (F : Format) (l : Lent) (h : Ready F l) (w : Words) (p : Apart (text_of l) w) where
  abbrev t : List ℕ
  t = text_of l

  abbrev u : List Change
  u = (state_of catalogue F l).log.undo

  abbrev w1 : List ℕ
  w1 = part t w.beg1 w.end1

  abbrev w2 : List ℕ
  w2 = part t w.beg2 w.end2

  abbrev C : ℕ
  C = length l.text

  pub text-within : length t ≤ C
  text-within = omega (arith, length-kept F l h, h.used)

  -- a number of the log is a machine's
  top_in : top F.width ≤ 4294967296
  top_in = top_max F.width h.log.fit.width.most

  -- the two words are short
  pub small1 : w.end1 - w.beg1 ≤ text_max
  small1 = let k = p.first.1 in omega (arith, text-within, h.limit, h.log.fit.text)

  pub small2 : w.end2 - w.beg2 ≤ text_max
  small2 = let k = p.second.1 in omega (arith, text-within, h.limit, h.log.fit.text)

  module _ (short : too_long C (words_plan t w).changes t ≡ false) where
    within2 : length (m2 catalogue t h.text w p) ≤ C
    within2 =
        by_less (length (m2 catalogue t h.text w p) ≤ C) C (length (m2 catalogue t h.text w p))
        (λ k. never _ (too_long C (words_plan t w).changes t) (words_long catalogue t h.text w p C text-within (omega (arith, long2 catalogue t h.text w p))) short)
        (λ k. k)

    -- the lists after each change
    abbrev u1 : List Change
    u1 = recorded catalogue (cutting w.beg2 w.end2) t u

    abbrev u2 : List Change
    u2 = recorded catalogue (pasted w.beg2 w1) (m1 catalogue t h.text w p) u1

    abbrev u3 : List Change
    u3 = recorded catalogue (cutting w.beg1 w.end1) (m2 catalogue t h.text w p) u2

    module _ (r0 : Result Tail Tail) (e0 : r0 ≡ Ok (tail_of F u)) where
      roomy0 : Roomy catalogue F (sizes_of l) u r0
      roomy0 = subst (Roomy catalogue F (sizes_of l) u) (sym e0) (dry_now F l h)

      pub in_range0 : IfOk r0 (λ x. InRange x (w.end2 - w.beg2) 0)
      in_range0 = dry_in_range F l h u r0 roomy0 (w.end2 - w.beg2) 0 top_in small2 (omega arith)

      module _ (j2 : Bool) (ej2 : j2 ≡ is_single catalogue (clusters_of catalogue w2)) (r1 : Result Tail Tail) (e1 : r1 ≡ room_cut F (sizes_of l) j2 w.beg2 w.end2 r0) where
        roomy1 : Roomy catalogue F (sizes_of l) u1 r1
        roomy1 = subst (Roomy catalogue F (sizes_of l) u1) (sym e1) (dry_cut F l h u r0 roomy0 t h.text text-within w.beg2 w.end2 j2 p.second ej2)

        pub in_range1 : IfOk r1 (λ x. InRange x 0 (w.end1 - w.beg1))
        in_range1 = dry_in_range F l h u1 r1 roomy1 0 (w.end1 - w.beg1) top_in (omega arith) small1

        module _ (r2 : Result Tail Tail) (e2 : r2 ≡ room_put F (sizes_of l) w.beg2 (w.end1 - w.beg1) r1) where
          roomy2 : Roomy catalogue F (sizes_of l) u2 r2
          roomy2 =
              subst (Roomy catalogue F (sizes_of l) u2) (ap (λ (n : ℕ). room_put F (sizes_of l) w.beg2 n r1) (size1 catalogue t h.text w p) ∙ sym e2)
              (dry_put F l h u1 r1 roomy1 (m1 catalogue t h.text w p) (is1 catalogue t h.text w p)
              (omega (arith, long1 catalogue t h.text w p, text-within)) w.beg2 w1 (in1 catalogue t h.text w p, text1 catalogue t h.text w p))

          pub in_range2 : IfOk r2 (λ x. InRange x (w.end1 - w.beg1) 0)
          in_range2 = dry_in_range F l h u2 r2 roomy2 (w.end1 - w.beg1) 0 top_in small1 (omega arith)

          module _ (j1 : Bool) (ej1 : j1 ≡ is_single catalogue (clusters_of catalogue w1)) (r3 : Result Tail Tail) (e3 : r3 ≡ room_cut F (sizes_of l) j1 w.beg1 w.end1 r2) where
            roomy3 : Roomy catalogue F (sizes_of l) u3 r3
            roomy3 =
                subst (Roomy catalogue F (sizes_of l) u3) (sym e3)
                (dry_cut F l h u2 r2 roomy2 (m2 catalogue t h.text w p) (is2 catalogue t h.text w p) within2 w.beg1 w.end1 j1 (in2 catalogue t h.text w p)
                (ej1 ∙ ap (λ (s : List ℕ). is_single catalogue (clusters_of catalogue s)) (sym (part2 catalogue t h.text w p))))

            pub in_range3 : IfOk r3 (λ x. InRange x 0 (w.end2 - w.beg2))
            in_range3 = dry_in_range F l h u3 r3 roomy3 0 (w.end2 - w.beg2) top_in (omega arith) small2

            pub four-room : (r4 : Result Tail Tail) → r4 ≡ room_put F (sizes_of l) w.beg1 (w.end2 - w.beg2) r3
                → is_ok r4 ≡ fits F (sizes_of l) (list_after catalogue (words_plan t w).changes t u)
            unfolding list_after
            four-room r4 e4 =
                subst (λ (r : Result Tail Tail). is_ok r ≡ fits F (sizes_of l) (recorded catalogue (pasted w.beg1 w2) (m3 catalogue t h.text w p) u3))
                (ap (λ (n : ℕ). room_put F (sizes_of l) w.beg1 n r3) (size2 catalogue t h.text w p) ∙ sym e4)
                (dry_put F l h u3 r3 roomy3 (m3 catalogue t h.text w p) (is3 catalogue t h.text w p)
                (omega (arith, long3 catalogue t h.text w p, text-within)) w.beg1 w2 (in3 catalogue t h.text w p, text2 catalogue t h.text w p)).fit
