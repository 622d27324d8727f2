use native.Mathlib.Omega.{arith}
use mathlib.Core.Path.{◌≡◌, refl, sym, ap, ◌∙◌}
use mathlib.Core.Bool.{Bool, true}
use mathlib.Core.List.{List}
use Prim.Native.Nat.{ℕ, ◌≤◌}
use lib.ListN.{length, take}
use lib.Seq.{length-take-le}
use Rattle.lists.specs.Lists.{part}
use Rattle.repertoire.specs.Repertoire.{catalogue}
use Rattle.repertoire.specs.Text.{is_text}
use Rattle.cluster.specs.Clusters.{clusters_of}
use Rattle.log_model.specs.Change.{delete}
use Rattle.log_model.specs.Recording.{is_single}
use Rattle.edit.specs.Plan.{cutting, once, edited, change_out}
use Rattle.edit.specs.Calls.{lent, sizes_of, state_of}
use Rattle.edit.proofs.Parts.{part-text, raw_part}
use Rattle.edit.proofs.Made.{outcome_as}
use Rattle.edit.proofs.Once.{once-cut}
use Rattle.edit.proofs.cut_out.Goals as goal
use Rattle.edit.proofs.cut_out.Goals.{After-is_single-joins, Start}

-- the text, and what is cut from it
abbrev text : Start → List ℕ
text s = take s.args.checked.line.len s.args.text.now

abbrev cut : Start → List ℕ
cut s = part (text s) s.args.from s.args.to

within : (s : Start) → s.args.to ≤ s.args.checked.line.len
within s = omega (arith, s.requires.in_text.1, length-take-le s.args.checked.line.len s.args.text.now s.requires.ready.used)

cut-text : (s : Start) → is_text catalogue (part (text s) s.args.from s.args.to) ≡ true
cut-text s = part-text catalogue (text s) s.args.from s.args.to s.requires.in_text s.requires.ready.text

abbrev single : List ℕ → Bool
single s = is_single catalogue (clusters_of catalogue s)

joined : (c : After-is_single-joins) → c.is_single-joins.result ≡ single
    (part (take c.args.checked.line.len c.args.text.now) c.args.from c.args.to)
joined c = let a = c.args in
    c.is_single-joins.ensures ∙ ap single (sym (raw_part a.text.now a.checked.line.len a.from a.to
    (omega (arith, c.requires.in_text.1, length-take-le c.args.checked.line.len c.args.text.now c.requires.ready.used))))

pub slice_bounds-is_single-count : goal.slice_bounds-is_single-count
slice_bounds-is_single-count c = c.requires.in_text.0

pub slice_bounds-is_single-start : goal.slice_bounds-is_single-start
slice_bounds-is_single-start c = c.requires.in_text.0

pub slice_bounds-is_single-end : goal.slice_bounds-is_single-end
slice_bounds-is_single-end c = omega (arith, within (goal.at.slice_bounds-is_single-end c).Start, c.requires.ready.used)

pub is_single-joins-requires : goal.is_single-joins-requires
is_single-joins-requires c =
    let here = goal.at.is_single-joins-requires c in
    let a = c.args in
    ap (is_text catalogue) (sym (raw_part a.text.now a.checked.line.len a.from a.to (within here.Start))) ∙
    cut-text here.Start

pub change-requires : goal.change-requires
change-requires c =
    let here = goal.at.change-requires c in
    record {
      fit = c.requires.fit;
      ready = c.requires.ready;
      from_le_to = (c.requires.in_text.0, within here.Start);
      last_at = (λ e. c.requires.last_at (sym (joined here.After-is_single-joins) ∙ e));
      numbered = record { kind = refl; place = refl; old = refl; new = refl };
      ok = cut-text here.Start;
    }

pub returns : goal.returns
returns c =
    let here = goal.at.returns c in
    let a = c.args in
    let l = lent a.text.now a.records.now a.texts.now a.checked.line a.checked.log in
    let stateOf1 = state_of catalogue a.checked.format l in
    let sizesOf1 = sizes_of l in
    outcome_as a.checked.format l
    (change_out a.checked.format sizesOf1 (length a.text.now) c.is_single-joins.result (delete a.from (cut here.Start)) a.from stateOf1)
    (edited catalogue a.checked.format sizesOf1 (length a.text.now) (once (cutting a.from a.to) a.from) stateOf1) _ _ _ _
    (once-cut catalogue a.checked.format sizesOf1 (length a.text.now) a.from stateOf1 a.from a.to c.is_single-joins.result c.requires.in_text
    (joined here.After-is_single-joins)) c.change.ensures
