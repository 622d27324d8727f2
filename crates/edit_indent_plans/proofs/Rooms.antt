-- Checks 9 and 10 of indenting and dedenting, by counts. Assumes nothing.
use mathlib.Core.Path.{◌≡◌, sym, ap, ap₂, subst, ◌∙◌}
use mathlib.Core.Bool.{Bool, true, false, ◌&&◌}
use mathlib.Core.List.{List}
use Prim.Native.Nat.{ℕ, ◌+◌, ◌-◌, ◌*◌, ◌/◌, ◌<◌, ◌≤◌}
use native.Mathlib.Nat.{mul-le-mul}
use native.Mathlib.Omega.{arith}
use lib.Dec.{leb, ltb}
use lib.ListN.{length, take, drop, length-append, length-drop, take-append-drop}
use borrow.Author.Tests.{le-leb, lt-leb, lt-ltb, le-ltb}
use Rattle.lists.specs.Lists.{part}
use Rattle.lists.proofs.Bools.{by_less}
use Rattle.utf8.specs.Chars.{valid, In}
use Rattle.repertoire.specs.Repertoire.{catalogue}
use Rattle.repertoire.proofs.Text.{text-valid}
use Rattle.repertoire.proofs.Catalogue.{catalogue_lawful}
use Rattle.formats.specs.declared.Format.{Format}
use Rattle.formats.specs.Formats.{text_max, Fit}
use Rattle.log_model.specs.Change.{Change}
use Rattle.log_model.specs.UndoBytes.{undo_records, undo_texts}
use Rattle.log_state.proofs.Recorded.{good, records-used, texts-used}
use Rattle.edit.specs.declared.EditAnswer.{EditAnswer}
use Rattle.edit.specs.Plan.{Plan, AllSuit, too_long, list_after, edited}
use Rattle.edit.specs.Calls.{Lent, log_lent, text_of, sizes_of, state_of, says, Edited, Ready}
use Rattle.edit.proofs.Answers.{length-kept, nine, ten}
use Rattle.edit.proofs.Parts.{raw_part}
use Rattle.edit.proofs.Steps.{room-is}
use Rattle.edit_indent_plans.specs.Touched.{split_lines, splits}
use Rattle.edit_indent_plans.specs.Counts.{cuts_in, bytes_in}
use Rattle.edit_indent_plans.proofs.Cuts.{cuts_le}
use Rattle.edit_indent_plans.specs.IndentPlans.{dedent_lines, change_size, changes_max}
use Rattle.edit_indent_plans.proofs.Joined.{few_lines}
use Rattle.edit_indent_plans.proofs.Suits.{front_length, by_lines, dedent_all, indent-all}
use Rattle.edit_indent_plans.proofs.Counted.{total, long_is, puts_records, lines_pasting, lines_total, lines_count, dedent_short}
use Rattle.edit_indent_plans.proofs.Counted.{dedent_records}
use Rattle.edit_indent_plans.proofs.Lines.{lines_plan, Begins}

-- ---- room behind a bytes
fits-behind : (a n z : ℕ) → a ≤ z → leb n (z - a) ≡ leb (a + n) z
fits-behind a n z h = by_less _ (z - a) n (λ l. lt-leb n (z - a) l ∙ sym (lt-leb (a + n) z (omega arith))) (λ l. le-leb n (z - a) l ∙ sym (le-leb (a + n) z (omega arith)))

pub both-fit : (a b n k : ℕ) (y z : ℕ) → a ≤ y → b ≤ z → (leb n (y - a) && leb k (z - b)) ≡ (leb (a + n) y && leb (b + k) z)
both-fit a b n k y z h i = ap₂ (λ (p q : Bool). p && q) (fits-behind a n y h) (fits-behind b k z i)

-- the bytes of n records are a number
pub size_fits : {F : Format} {n : ℕ} → Fit F → n ≤ changes_max → change_size F * n ≤ 9 * changes_max
size_fits {F} f h = let w : change_size F ≤ 9 = omega (arith, f.width) in mul-le-mul w h

-- ---- counts
part_short : (t : List ℕ) (a b : ℕ) → length (part t a b) ≤ length t
part_short t a b = omega (arith, length-append (part t a b) (drop (b - a) (drop a t)), ap length (take-append-drop (b - a) (drop a t)), length-drop a t)

-- ---- the lines of a call that the checks pass, and by how much they are indented or dedented
pub record Part : Type 0 where
  pub F : Format
  pub l : Lent
  pub ready : Ready F l
  pub m : ℕ
  pub from : ℕ
  pub to : ℕ
  pub inside : In (text_of l) from to

abbrev pub asks : {F : Format} (l : Lent) → Ready F l → (m from to : ℕ) → In (text_of l) from to → Part
asks {F} l h m from to i = record { F = F; l = l; ready = h; m = m; from = from; to = to; inside = i }

-- 9 passes, and r says whether 10 does
pub record RoomTested (x : Part) (dedent r : Bool) : Type 0 where
  pub begins : Begins x.F x.l x.m dedent x.from x.to r

module _ (x : Part) where
  abbrev F : Format
  F = x.F

  abbrev l : Lent
  l = x.l

  abbrev m : ℕ
  m = x.m

  abbrev t : List ℕ
  t = text_of l

  abbrev lines : List (List ℕ)
  lines = split_lines (part t x.from x.to)

  abbrev raw : List (List ℕ)
  raw = split_lines (take (x.to - x.from) (drop x.from l.text))

  abbrev u : List Change
  u = (state_of catalogue F l).log.undo

  -- is there room in the log for n records with b bytes?
  abbrev room_for : ℕ → ℕ → Bool
  room_for n b = leb (l.log.undo.records + change_size F * n) (length l.records) && leb (l.log.undo.texts + b) (length l.texts)

  abbrev plan : Bool → Plan
  plan dedent = lines_plan l m dedent x.from x.to

  v : valid t ≡ true
  v = text-valid catalogue t x.ready.text

  pub log-within : (l.log.undo.records ≤ length l.records) × (l.log.undo.texts ≤ length l.texts)
  log-within = let a = x.ready.log.hold.room in let b = x.ready.log.hold.space in omega arith

  pub to-within : (x.to ≤ l.line.len) × (x.to ≤ length l.text)
  to-within = let k = x.inside.1 in omega (arith, length-kept F l x.ready, x.ready.used)

  raw_lines : raw ≡ lines
  raw_lines = ap split_lines (sym (raw_part l.text l.line.len x.from x.to to-within.0))

  few : length lines ≤ text_max + 1
  few = omega (arith, few_lines (part t x.from x.to), part_short t x.from x.to, length-kept F l x.ready, x.ready.used, x.ready.limit, x.ready.log.fit.text)

  -- 10 by what is recorded
  tried_by : (dedent : Bool) (n b : ℕ) → AllSuit catalogue (plan dedent).changes t → too_long (length l.text) (plan dedent).changes t ≡ false
      → length (undo_records F (list_after catalogue (plan dedent).changes t u)) ≡ length (undo_records F u) + change_size F * n
      → length (undo_texts (list_after catalogue (plan dedent).changes t u)) ≡ length (undo_texts u) + b
      → {r : Bool} → r ≡ room_for n b → RoomTested x dedent r
  tried_by dedent n b s k e f q =
      let w =
      room-is catalogue F (length l.text) (omega (arith, x.ready.limit, x.ready.log.fit.places, x.ready.log.fit.lengths)) (sizes_of l)
      (omega (arith, x.ready.log.texts, x.ready.log.fit.lengths)) (plan dedent).changes t u s x.ready.text
      (omega (arith, length-kept F l x.ready, x.ready.used)) k (good F (log_lent l) x.ready.log)
      ∙ ap₂ (λ (y z : ℕ). leb y (length l.records) && leb z (length l.texts))
      (e ∙ ap (λ (y : ℕ). y + change_size F * n) (sym (records-used F (log_lent l) x.ready.log)))
      (f ∙ ap (λ (y : ℕ). y + b) (sym (texts-used F (log_lent l) x.ready.log))) ∙ sym q
      in
      record { begins = (x.ready, ((x.inside.0, to-within.0), (s, (k, w)))) }

  -- ---- dedenting: n cuts of b bytes
  pub cuts_few : {n : ℕ} → n ≡ cuts_in catalogue m raw → n ≤ changes_max
  cuts_few e = omega (arith, ap (cuts_in catalogue m) raw_lines, cuts_le catalogue m lines, few)

  pub dedent_tested : splits catalogue m lines ≡ false → {n b : ℕ} → n ≡ cuts_in catalogue m raw → b ≡ bytes_in catalogue m raw → {r : Bool} → r ≡ room_for n b → RoomTested x true r
  dedent_tested s {n} {b} e f =
      let c = by_lines t x.from x.to v x.inside
      (λ (ls : List (List ℕ)). splits catalogue m ls ≡ false → (length
      (undo_records F (list_after catalogue (dedent_lines catalogue m x.from ls) t u)) ≡ length (undo_records F u) + change_size F * cuts_in
      catalogue m ls) × (length (undo_texts (list_after catalogue (dedent_lines catalogue m x.from ls) t u)) ≡ length (undo_texts u) + bytes_in catalogue m ls))
      (λ y ys w ws g q. dedent_records F catalogue m catalogue_lawful.whites (drop x.to t) ys y (take x.from t) t x.from u x.inside.2
      w ws q g (front_length t x.from x.to v x.inside)) s in
      let n' = ap (cuts_in catalogue m) (sym raw_lines) ∙ sym e in
      let b' = ap (bytes_in catalogue m) (sym raw_lines) ∙ sym f in
      tried_by true n b (dedent_all t x.from x.to v x.inside catalogue m s)
      (dedent_short catalogue m (length l.text) lines x.from t (omega (arith, length-kept F l x.ready, x.ready.used)))
      (c.0 ∙ ap (λ (z : ℕ). length (undo_records F u) + change_size F * z) n') (c.1 ∙ ap (λ (z : ℕ). length (undo_texts u) + z) b')

  -- ---- indenting: k lines
  module _ (small : m ≤ 256) {k : ℕ} (e : k ≡ length raw) where
    e' : length lines ≡ k
    e' = ap length (sym raw_lines) ∙ sym e

    pub lines_few : (k ≤ text_max + 1) × (k * m ≤ (text_max + 1) * 256) × (k * ((m + 31) / 32) ≤ changes_max)
    lines_few =
        let a : k ≤ text_max + 1 = omega (arith, e', few) in
        let b : (m + 31) / 32 ≤ 8 = omega arith in
        (a, mul-le-mul a small, mul-le-mul a b)

    sum : total (plan false).changes ≡ k * m
    sum = lines_total m lines x.from ∙ ap (λ (y : ℕ). y * m) e'

    long_sum : too_long (length l.text) (plan false).changes t ≡ ltb (length l.text) (l.line.len + k * m)
    long_sum =
        long_is (length l.text) (plan false).changes t (lines_pasting m lines x.from) (omega (arith, length-kept F l x.ready, x.ready.used))
        ∙ ap₂ (λ (y z : ℕ). ltb (length l.text) (y + z)) (length-kept F l x.ready) sum

    pub indent_long : length l.text - l.line.len < k * m → {a : EditAnswer} → a ≡ says 9 l.line l.log
        → Edited F l (edited catalogue F (sizes_of l) (length l.text) (plan false) (state_of catalogue F l)) a l.text l.records l.texts
    indent_long c {a} q = nine F l (plan false) a (long_sum ∙ lt-ltb (length l.text) (l.line.len + k * m) (omega (arith, x.ready.used))) q

    pub indent_tested : k * m ≤ length l.text - l.line.len → {r : Bool} → r ≡ room_for (k * ((m + 31) / 32)) (k * m) → RoomTested x false r
    indent_tested c =
        let r = puts_records F catalogue (plan false).changes t u (lines_pasting m lines x.from) in
        tried_by false (k * ((m + 31) / 32)) (k * m) (indent-all t x.from x.to v x.inside catalogue m catalogue_lawful.space)
        (long_sum ∙ le-ltb (length l.text) (l.line.len + k * m) (omega (arith, x.ready.used)))
        (r.0 ∙ ap (λ (z : ℕ). length (undo_records F u) + change_size F * z) (lines_count m lines x.from ∙ ap (λ (y : ℕ). y * ((m + 31) / 32)) e'))
        (r.1 ∙ ap (λ (z : ℕ). length (undo_texts u) + z) sum)

  -- ---- 10 fails, or the changes begin
  module _ {dedent r : Bool} (k : RoomTested x dedent r) where
    pub full : r ≡ false → {a : EditAnswer} → a ≡ says 10 l.line l.log
        → Edited F l (edited catalogue F (sizes_of l) (length l.text) (plan dedent) (state_of catalogue F l)) a l.text l.records l.texts
    full e {a} q = let b = k.begins.1.1.1 in ten F l (plan dedent) a b.0 (b.1 ∙ e) q

    pub begin : r ≡ true → Begins F l m dedent x.from x.to true
    begin e = subst (Begins F l m dedent x.from x.to) e k.begins
