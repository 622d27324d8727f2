-- The lines dedented one after the other, each by a cut at its front. Assumes nothing.
use native.Mathlib.Omega.{arith}
use mathlib.Core.Path.{◌≡◌, refl, sym, ap, ap₂, ◌∙◌}
use mathlib.Core.Bool.{Bool, true, false}
use mathlib.Core.List.{List, [], ◌∷◌}
use Prim.Native.Nat.{ℕ, ◌+◌, ◌-◌, ◌≤◌}
use lib.ListN.{length, take, drop}
use lib.Seq.{take-take}
use Rattle.lists.specs.Lists.{part}
use Rattle.lists.proofs.Bools.{by_less}
use Rattle.utf8.specs.Chars.{In, valid}
use Rattle.utf8.proofs.Forms.{first-end}
use Rattle.repertoire.specs.Repertoire.{catalogue}
use Rattle.repertoire.proofs.Text.{text-valid}
use Rattle.repertoire.proofs.Catalogue.{catalogue_lawful}
use Rattle.cluster.specs.Clusters.{clusters_of}
use Rattle.cluster.proofs.Clusters.{clusters_none}
use Rattle.motion_lines.specs.Lines.{end_of_line}
use Rattle.log_model.specs.Recording.{is_single}
use Rattle.formats.specs.declared.Format.{Format}
use Rattle.formats.specs.Formats.{text_max}
use Rattle.edit.specs.declared.EditAnswer.{EditAnswer}
use Rattle.edit.specs.Plan.{cutting, once, Plan, edited}
use Rattle.edit.specs.Calls.{Lent, lent, text_of, sizes_of, state_of, Edited}
use Rattle.edit.proofs.Parts.{raw_part, part-text}
use Rattle.edit_indent_plans.specs.Touched.{split_lines, deleting}
use Rattle.edit_indent_plans.proofs.White.{deleting_in, deleting-white}
use Rattle.edit_indent_plans.specs.IndentPlans.{dedent_lines, dedented, dedent_cursor}
use Rattle.edit_indent_plans.proofs.Counted.{white-apart}
use Rattle.edit_indent_plans.proofs.Lines.{way, none, ahead, Lines, end_in, line_in, last_line, more_lines, first-line, line-width, suits}
use Rattle.edit_indent_plans.proofs.Lines.{turn}

-- the first of the lines from at up to end ends at e; d bytes are cut from it, and the cursor goes to c
module _ {F : Format} (m : ℕ) {l₀ l : Lent} {p : Plan} {cursor at end : ℕ} (k : Lines F l₀ p (way m true at) l cursor at end) {e : ℕ} (q : e ≡ end_of_line (take end l.text) at)
    {d : ℕ} (f : d ≡ deleting catalogue m (take (e - at) (drop at l.text))) where
  abbrev t : List ℕ
  t = text_of l

  size : deleting catalogue m (part t at e) ≡ d
  size = ap (deleting catalogue m) (raw_part l.text l.line.len at e (omega (arith, line_in k q, k.within))) ∙ sym f

  pub cut_in : (at + d ≤ e) × (e ≤ end) × (end ≤ text_max)
  cut_in = let z = line_in k q in (omega (arith, line-width k q, deleting_in catalogue m (part t at e), size), z.1, (end_in k).1)

  first-cut : {xs : List (List ℕ)} {c : ℕ} → split_lines (part t at end) ≡ part t at e ∷ xs → c ≡ dedented at d cursor
      → way m true at (split_lines (part t at end)) cursor ≡ ahead (cutting at (at + d)) (way m true (e - d + 1) xs c)
  unfolding dedent_lines dedent_cursor
  first-cut {xs} j h =
      let z : at + (length (part t at e) - deleting catalogue m (part t at e)) + 1 ≡ e - d + 1 = omega (arith, line_in k q, line-width k q, cut_in, size) in
      ap (λ (ys : List (List ℕ)). way m true at ys cursor) j ∙ ap₂ (λ (n i : ℕ). ahead (cutting at (at + n)) (way m true i xs (dedented at n cursor))) size z
      ∙ ap (λ (i : ℕ). ahead (cutting at (at + d)) (way m true (e - d + 1) xs i)) (sym h)

  pub cut_suits : In t at (at + d)
  cut_suits = suits k (first-cut (first-line k q).1 refl)

  abbrev single : List ℕ → Bool
  single s = is_single catalogue (clusters_of catalogue s)

  -- white space, which is never merged
  pub cut_apart : is_single catalogue (clusters_of catalogue (part t at (at + d))) ≡ false
  cut_apart =
      let x = part t at e in
      let n : at + d - at ≡ d = omega arith in
      let p : part t at (at + d) ≡ take d x = ap (λ (i : ℕ). take i (drop at t)) n ∙ sym (take-take d (e - at) (drop at t) (omega (arith, cut_in))) in
      let v = ap valid (sym p) ∙ text-valid catalogue (part t at (at + d)) (part-text catalogue t at (at + d) cut_suits k.left.ready.text) in
      by_less _ 0 d
      (λ h. ap single p ∙ white-apart catalogue catalogue_lawful.whites x d h (omega (arith, deleting-white catalogue m x, size))
      (omega (arith, deleting_in catalogue m x, size)) v)
      (λ h. let z : d ≡ 0 = omega arith in ap single (p ∙ ap (λ (i : ℕ). take i x) z) ∙ ap (is_single catalogue) (clusters_none catalogue [] (first-end [] 0 (omega arith))))

  module _ {r : EditAnswer} {tn rb tb : List ℕ} (o : Edited F l (edited catalogue F (sizes_of l) (length l.text) (once (cutting at (at + d)) at)
      (state_of catalogue F l)) r tn rb tb)
      (lt : length tn ≡ length l.text) (lr : length rb ≡ length l.records) (ls : length tb ≡ length l.texts) {c : ℕ} (h : c ≡ dedented at d cursor) where
    pub last_cut : e ≡ end → Lines F l₀ p none (lent tn rb tb r.line r.log) c (end - d) (end - d)
    unfolding dedent_lines dedent_cursor
    last_cut z = turn k none {n = end} (first-cut (last_line k q z) h) o lt lr ls (omega (arith, cut_in)) (omega (arith, cut_in)) (omega (arith, cut_in)) (omega (arith, cut_in))

    pub next-cut : (e ≡ end → ⊥) → Lines F l₀ p (way m true (e - d + 1)) (lent tn rb tb r.line r.log) c (e - d + 1) (end - d)
    next-cut z = turn k (way m true (e - d + 1)) (first-cut (more_lines k q z) h) o lt lr ls (omega (arith, cut_in)) (omega (arith, cut_in, z))
        (omega (arith, cut_in)) (omega (arith, cut_in))
