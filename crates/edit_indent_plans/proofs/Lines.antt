-- The lines of a part changed one after the other in the text as it changes, however a line is changed. Assumes nothing.
use native.Mathlib.Omega.{arith}
use mathlib.Core.Path.{◌≡◌, refl, sym, ap, ap₂, subst, ◌∙◌}
use mathlib.Core.Bool.{Bool, true, false}
use mathlib.Core.List.{List, [], ◌∷◌}
use Prim.Native.Nat.{ℕ, ◌+◌, ◌-◌, ◌≤◌}
use lib.ListN.{length, take, drop, length-drop}
use lib.Seq.{length-take-le, take-take}
use Rattle.lists.specs.Lists.{part}
use Rattle.lists.proofs.Bools.{by_less}
use Rattle.lists.proofs.Parts.{drop-take}
use Rattle.repertoire.specs.Repertoire.{catalogue}
use Rattle.motion_lines.specs.Lines.{end_of_line}
use Rattle.motion_lines.proofs.Lines.{end-le}
use Rattle.formats.specs.declared.Format.{Format}
use Rattle.formats.specs.Formats.{text_max}
use Rattle.log_model.specs.UndoBytes.{fits}
use Rattle.edit.specs.declared.EditAnswer.{EditAnswer}
use Rattle.edit.specs.Plan.{splice, PlannedChange, Suits, once, Plan, AllSuit, too_long, list_after, edited}
use Rattle.edit.specs.Calls.{Lent, lent, text_of, sizes_of, state_of, Edited, Ready}
use Rattle.edit.proofs.Parts.{raw_part}
use Rattle.edit.proofs.Answers.{length-kept}
use Rattle.edit.proofs.Made.{edited_as}
use Rattle.edit.proofs.Splice.{splice-length, drop-splice}
use Rattle.edit.proofs.PlannedChanges.{start_of, end_of, text_in, made-is, suits_in}
use Rattle.edit.proofs.Underway.{rest, Underway, begins, next_suits, goes-on, ends, text_now}
use Rattle.edit_indent_plans.specs.Touched.{split_lines}
use Rattle.edit_indent_plans.proofs.Newlines.{line_last, line_more}
use Rattle.edit_indent_plans.specs.IndentPlans.{indent_plan}

-- the plan of some lines, by the cursor
abbrev pub Way : Type 0
Way = List (List ℕ) → ℕ → Plan

-- those of a call, the first of them at a place
abbrev pub way : ℕ → Bool → ℕ → Way
way m dedent at xs pos = indent_plan catalogue m dedent pos at xs

abbrev pub lines_plan : Lent → ℕ → Bool → ℕ → ℕ → Plan
lines_plan l m dedent from to = way m dedent from (split_lines (part (text_of l) from to)) l.line.cursor

-- none is left
abbrev pub none : Way
none xs pos = record { changes = []; cursor = pos; number = 0; from = 0; to = 0 }

-- a piece before those of a plan
abbrev pub ahead : PlannedChange → Plan → Plan
ahead x q = rest q (x ∷ q.changes)

-- of the plan p the lines from b up to end are left, in the text as it is
pub record Lines (F : Format) (l₀ : Lent) (p : Plan) (w : Way) (l : Lent) (cursor b end : ℕ) : Type 0 where
  pub order : b ≤ end
  pub within : end ≤ l.line.len
  pub left : Underway F l₀ p (w (split_lines (part (text_of l) b end)) cursor).changes l
  pub moves : (w (split_lines (part (text_of l) b end)) cursor).cursor ≡ p.cursor

-- what a call tries before its first change: r says whether 10 passes
abbrev pub Begins : Format → Lent → ℕ → Bool → ℕ → ℕ → Bool → Type 0
Begins F l m dedent from to r =
    Ready F l × (((from ≤ to) × (to ≤ l.line.len)) × (AllSuit catalogue (lines_plan l m dedent from to).changes (text_of l)
    × ((too_long (length l.text) (lines_plan l m dedent from to).changes (text_of l) ≡ false)
    × (fits F (sizes_of l) (list_after catalogue (lines_plan l m dedent from to).changes (text_of l) (state_of catalogue F l).log.undo) ≡ r))))

-- at first all are left
pub lines_begin : {F : Format} (l : Lent) (m : ℕ) (dedent : Bool) (from to : ℕ) → Begins F l m dedent from to true
    → Lines F l (lines_plan l m dedent from to) (way m dedent from) l l.line.cursor from to
lines_begin {F} l m dedent from to h =
    record { order = h.1.0.0; within = h.1.0.1; left = begins F l (lines_plan l m dedent from to) h.0 h.1.1.0 h.1.1.1.0 h.1.1.1.1; moves = refl }

module _ {F : Format} {l₀ : Lent} {p : Plan} {w : Way} {l : Lent} {cursor b end : ℕ} (k : Lines F l₀ p w l cursor b end) where
  abbrev s : List ℕ
  s = l.text

  abbrev t : List ℕ
  t = text_of l

  abbrev plan : Plan
  plan = w (split_lines (part t b end)) cursor

  pub end_in : (end ≤ length s) × (end ≤ text_max) × (end ≤ length t)
  end_in = let z = k.within in (
    omega (arith, k.left.ready.used),
    omega
        (arith, k.left.ready.used, k.left.ready.limit, k.left.ready.log.fit.text),
    omega (arith, length-kept F l k.left.ready),
  )

  -- ---- the plan said in another way
  module _ {q : Plan} (z : plan ≡ q) where
    left_as : Underway F l₀ p q.changes l
    left_as = subst (λ (x : Plan). Underway F l₀ p x.changes l) z k.left

    moves_as : q.cursor ≡ p.cursor
    moves_as = sym (ap (λ (x : Plan). x.cursor) z) ∙ k.moves

  pub seen : (v : Way) {c a : ℕ} → a ≤ end → plan ≡ v (split_lines (part t a end)) c → Lines F l₀ p v l c a end
  seen v h z = record { order = h; within = k.within; left = left_as z; moves = moves_as z }

  -- ---- the first line ends at e
  module _ {e : ℕ} (q : e ≡ end_of_line (take end s) b) where
    size : length (take end s) ≡ end
    size = length-take-le end s end_in.0

    pub line_in : (b ≤ e) × (e ≤ end)
    line_in = let z = end-le (take end s) b (omega (arith, size, k.order)) in omega (arith, size)

    line : take (e - b) (drop b (take end s)) ≡ part t b e
    line =
        let z = line_in in
        ap (take (e - b)) (drop-take b end s) ∙ take-take (e - b) (end - b) (drop b s) (omega arith) ∙ sym (raw_part s l.line.len b e (omega (arith, k.within)))

    behind : (a : ℕ) → drop a (take end s) ≡ part t a end
    behind a = drop-take a end s ∙ sym (raw_part s l.line.len a end k.within)

    pub last_line : e ≡ end → split_lines (part t b end) ≡ part t b e ∷ []
    last_line z = ap split_lines (sym (behind b)) ∙ line_last (take end s) b e (omega (arith, size, k.order)) q (omega (arith, size)) ∙ ap (λ (x : List ℕ). x ∷ []) line

    pub more_lines : (e ≡ end → ⊥) → split_lines (part t b end) ≡ part t b e ∷ split_lines (part t (e + 1) end)
    more_lines z =
        ap split_lines (sym (behind b)) ∙ line_more (take end s) b e (omega (arith, size, k.order)) q (omega (arith, size, line_in, z))
        ∙ ap₂ (λ (x y : List ℕ). x ∷ split_lines y) line (behind (e + 1))

    pub first-line : (xs : List (List ℕ)) × (split_lines (part t b end) ≡ part t b e ∷ xs)
    first-line = by_less _ e end (λ h. (split_lines (part t (e + 1) end), more_lines (λ z. omega arith))) (λ h. ([], last_line (omega (arith, line_in))))

    pub line-width : length (part t b e) ≡ e - b
    line-width = let z = line_in in length-take-le (e - b) (drop b t) (omega (arith, length-drop b t, end_in))

  -- ---- the next piece
  pub suits : {x : PlannedChange} {q : Plan} → plan ≡ ahead x q → Suits catalogue x t
  suits {x} {q} z = next_suits F l₀ p x q.changes l (left_as z)

  -- it is made; the lines from n on are left, and end behind it as they did
  module _ (v : Way) {x : PlannedChange} {n c : ℕ} (z : plan ≡ ahead x (v (split_lines (part t n end)) c)) {r : EditAnswer} {tn rb tb : List ℕ}
      (o : Edited F l (edited catalogue F (sizes_of l) (length s) (once x (start_of x)) (state_of catalogue F l)) r tn rb tb)
      (lt : length tn ≡ length s) (lr : length rb ≡ length l.records) (ls : length tb ≡ length l.texts)
      {b' end' : ℕ} (f : end_of x ≤ n) (g : n ≤ end) (bq : b' ≡ start_of x + length (text_in x) + (n - end_of x)) (eq : end' ≡ start_of x + length (text_in x) + (end - end_of x)) where
    now_text : take r.line.len tn ≡ splice t (start_of x) (end_of x) (text_in x)
    now_text = text_now F l₀ p x _ l (left_as z) r tn rb tb o lt lr ls ∙ made-is x t

    now_part : part (take r.line.len tn) b' end' ≡ part t n end
    now_part =
        let i = suits_in catalogue x t (suits z) in
        let y : end' - b' ≡ end - n = omega arith in
        let d : end_of x + (n - end_of x) ≡ n = omega arith in
        ap₂ (λ (a : ℕ) (u : List ℕ). take a (drop b' u)) y now_text
        ∙ ap (take (end - n)) (ap (λ (a : ℕ). drop a (splice t (start_of x) (end_of x) (text_in x))) bq
        ∙ drop-splice t (start_of x) (end_of x) (text_in x) (n - end_of x) (omega (arith, i.0, i.1)) ∙ ap (λ (a : ℕ). drop a t) d)

    pub turn : Lines F l₀ p v (lent tn rb tb r.line r.log) c b' end'
    turn =
        let i = suits_in catalogue x t (suits z) in
        let y = goes-on F l₀ p x _ l (left_as z) r tn rb tb o lt lr ls in
        let h = sym (length-take-le r.line.len tn y.ready.used) ∙ ap length now_text ∙ splice-length t (start_of x) (end_of x) (text_in x) i.0 i.1 in
        record {
          order = omega arith;
          within = omega (arith, h, end_in, i.0, i.1);
          left = subst (λ (u : List ℕ). Underway F l₀ p (v (split_lines u) c).changes (lent tn rb tb r.line r.log)) (sym now_part) y;
          moves = ap (λ (u : List ℕ). (v (split_lines u) c).cursor) now_part ∙ moves_as z;
        }

-- ---- all are changed
pub lines_end : {F : Format} {l₀ : Lent} {p : Plan} {l : Lent} {cursor b end : ℕ} → Lines F l₀ p none l cursor b end → {a : EditAnswer}
    → a ≡ record { number = p.number; from = p.from; to = p.to; line = record { len = l.line.len; cursor = cursor }; log = l.log }
    → Edited F l₀ (edited catalogue F (sizes_of l₀) (length l₀.text) p (state_of catalogue F l₀)) a l.text l.records l.texts
lines_end {F} {l₀} {p} {l} k {a} e =
    edited_as F l₀ _ a _ l.text l.records l.texts
    (e ∙ ap (λ (i : ℕ). record { number = p.number; from = p.from; to = p.to; line = record { len = l.line.len; cursor = i }; log = l.log }) k.moves)
    (ends F l₀ p l k.left)
