use native.Mathlib.Omega.{arith}
use Prim.Native.Nat.{ℕ, ◌-◌}
use mathlib.Core.Path.{◌≡◌, sym, ap, ◌∙◌}
use mathlib.Core.Bool.{Bool, true}
use mathlib.Core.List.{List}
use lib.ListN.{take, drop}
use Rattle.lists.specs.Lists.{part}
use Rattle.repertoire.specs.Repertoire.{catalogue}
use Rattle.repertoire.specs.Text.{is_text}
use Rattle.cluster.specs.Clusters.{clusters_of}
use Rattle.log_model.specs.Recording.{is_single}
use Rattle.numbers.proofs.Read.{top_max}
use Rattle.edit.specs.Calls.{Lent, lent, text_of}
use Rattle.edit.proofs.Parts.{part-text, raw_part}
use Rattle.key_kill.proofs.CutRoom.{within, in_range, room}
use Rattle.key_kill.proofs.cut_fits.Goals as goal
use Rattle.key_kill.proofs.cut_fits.Goals.{Start}

-- ---- at the start: what is lent, and what is cut
abbrev lending : Start → Lent
lending s = let a = s.args in lent a.text.now a.records.now a.texts.now a.checked.line a.checked.log

abbrev single : List ℕ → Bool
single s = is_single catalogue (clusters_of catalogue s)

same-part : (s : Start) → let a = s.args in part (text_of (lending s)) a.from a.to ≡ take (a.to - a.from) (drop a.from a.text.now)
same-part s = let a = s.args in raw_part a.text.now a.checked.line.len a.from a.to
    (within a.checked.format (lending s) s.requires.ready a.from a.to s.requires.in_text)

cut-text : (s : Start) → let a = s.args in is_text catalogue (take (a.to - a.from) (drop a.from a.text.now)) ≡ true
cut-text s = let a = s.args in
    ap (is_text catalogue) (sym (same-part s)) ∙ part-text catalogue (text_of
    (lending s)) a.from a.to s.requires.in_text s.requires.ready.text

pub slice_bounds-is_single-end : goal.slice_bounds-is_single-end
slice_bounds-is_single-end c =
    omega (
      arith,
      within c.args.checked.format (lending (goal.at.slice_bounds-is_single-end c).Start) c.requires.ready c.args.from c.args.to
          c.requires.in_text,
      c.requires.ready.used,
    )

pub is_single-joins-requires : goal.is_single-joins-requires
is_single-joins-requires c = cut-text (goal.at.is_single-joins-requires c).Start

pub room_cut-requires : goal.room_cut-requires
room_cut-requires c = record {
  fit = c.requires.ready.log.fit;
  from_le_to = c.requires.in_text.0;
  in_range = in_range c.args.checked.format (lending (goal.at.room_cut-requires c).Start) c.requires.ready c.args.from c.args.to c.requires.in_text
      (top_max c.args.checked.format.width c.requires.ready.log.fit.width.most) _ c.room_now-a.ensures;
}

pub returns : goal.returns
returns c =
    let here = goal.at.returns c in
    c.is_ok.ensures.value ∙ room c.args.checked.format (lending here.Start) c.requires.ready c.args.from c.args.to c.requires.in_text
    (top_max c.args.checked.format.width c.requires.ready.log.fit.width.most) _ c.room_now-a.ensures _
    (c.is_single-joins.ensures ∙ ap single (sym (same-part here.Start))) _ c.room_cut.ensures
