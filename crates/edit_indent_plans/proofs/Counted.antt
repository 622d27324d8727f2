-- How much the changes of indenting and dedenting put in, and what they record. Assumes nothing.
use mathlib.Core.Path.{◌≡◌, refl, sym, ap, ap₂, ◌∙◌}
use mathlib.Core.Bool.{Bool, true, false, cond, ◌||◌}
use mathlib.Core.List.{List, [], ◌∷◌, ◌++◌}
use Prim.Native.Nat.{ℕ, suc, ◌+◌, ◌-◌, ◌*◌, ◌/◌, ◌<◌, ◌≤◌}
use native.Mathlib.Omega.{arith}
use lib.Dec.{ltb}
use lib.ListN.{length, take, drop, length-append, length-drop, length-replicate, take-append-drop}
use lib.Seq.{length-take-le}
use borrow.Author.Tests.{lt-ltb, le-ltb, ltb-true, ltb-false}
use Rattle.lists.specs.Lists.{all, head_or, part}
use Rattle.lists.proofs.Bools.{by_test, by_less, never}
use Rattle.lists.proofs.Every.{Every, every_append}
use Rattle.utf8.specs.Utf8.{char, first}
use Rattle.utf8.specs.Chars.{chars, valid, boundary}
use Rattle.utf8.proofs.Chars.{valid-bad, chars_step}
use Rattle.utf8.proofs.Append.{by_first, first-append}
use Rattle.repertoire.specs.Repertoire.{Repertoire}
use Rattle.formats.specs.declared.Format.{Format}
use Rattle.numbers.specs.Numbers.{le}
use Rattle.numbers.proofs.Numbers.{length-le}
use Rattle.cluster.specs.Clusters.{clusters, clusters_of}
use Rattle.cluster.proofs.Clusters.{run_of, clusters_head}
use Rattle.log_model.specs.Change.{Edit, insert, delete, Change, edit}
use Rattle.log_model.specs.Recording.{is_single, note, record_insert_str, record_delete}
use Rattle.log_model.specs.UndoBytes.{undo_records, undo_texts}
use Rattle.log_model.proofs.UndoBytes.{records-size, texts-size}
use Rattle.log_model.proofs.Recording.{delete_none, delete_some, insert_some}
use Rattle.edit.specs.Plan.{PlannedChange, typed, pasted, cutting, swapping, splice, list_after, too_long}
use Rattle.edit.proofs.PlannedChanges.{text_in}
use Rattle.edit_indent_plans.specs.Touched.{leading, deleting, splits}
use Rattle.edit_indent_plans.specs.Counts.{cuts_in, bytes_in}
use Rattle.edit_indent_plans.specs.IndentPlans.{indent_line, indent_lines, dedent_lines, piece_of, change_size}
use Rattle.edit_indent_plans.proofs.White.{step_other, deleting_in, deleting-white}
use Rattle.edit_indent_plans.proofs.Joined.{behind, Valid, part-is}
use Rattle.edit_indent_plans.proofs.Suits.{piece_in, by_pieces, whole, dedent_next, dedent_place, dedent_before}

-- ---- texts put in, none of them empty
abbrev pub Pastes : PlannedChange → Type 0
Pastes (typed p c) = ⊥
Pastes (pasted p s) = 0 < length s
Pastes (cutting a b) = ⊥
Pastes (swapping a b s) = ⊥

abbrev pub Pasting : List PlannedChange → Type 0
Pasting xs = Every Pastes xs

abbrev pub total : List PlannedChange → ℕ
total [] = 0
total (x ∷ xs) = length (text_in x) + total xs

total_append : (xs ys : List PlannedChange) → total (xs ++ ys) ≡ total xs + total ys
total_append [] ys = omega arith
total_append (x ∷ xs) ys = let r = total_append xs ys in omega arith

put-length : (t s : List ℕ) (p : ℕ) → length (splice t p p s) ≡ length t + length s
unfolding splice
put-length t s p = omega (arith, length-append (take p t) (s ++ drop p t), length-append s (drop p t), length-append (take p t) (drop p t), ap length (take-append-drop p t))

or_ltb : (a b : Bool) (c : Bool) → (a ≡ true → c ≡ true) → (a ≡ false → b ≡ c) → a || b ≡ c
or_ltb true b c f g = sym (f refl)
or_ltb false b c f g = g refl

-- 9 by the sum of the lengths
pub long_is : (C : ℕ) (xs : List PlannedChange) (t : List ℕ) → Pasting xs → length t ≤ C → too_long C xs t ≡ ltb C (length t + total xs)
unfolding too_long
long_is C [] t h k = sym (le-ltb C (length t + 0) (omega arith))
long_is C (typed p c ∷ xs) t h k = absurd h.0
long_is C (pasted p s ∷ xs) t h k =
    let e = put-length t s p in
    or_ltb (ltb C (length (splice t p p s))) (too_long C xs (splice t p p s)) (ltb C (length t + (length s + total xs)))
    (λ z. let l = ltb-true C (length (splice t p p s)) z in lt-ltb C (length t + (length s + total xs)) (omega arith))
    (λ z.
    let l = ltb-false C (length (splice t p p s)) z in
    let q : length (splice t p p s) + total xs ≡ length t + (length s + total xs) = omega arith in
    long_is C xs (splice t p p s) h.1 l ∙ ap (ltb C) q)
long_is C (cutting a b ∷ xs) t h k = absurd h.0
long_is C (swapping a b s ∷ xs) t h k = absurd h.0

apart : (x : Edit) (u : List Change) → note false x u ≡ edit x ∷ u
unfolding note
apart x u = refl

-- the record of an insertion or a cut
change-size : (F : Format) (k p n : ℕ) → length (k ∷ (le F.width p ++ le F.width n)) ≡ change_size F
change-size F k p n = omega (arith, length-append (le F.width p) (le F.width n), length-le F.width p, length-le F.width n)

-- what they record: a record for each, and the texts
pub puts_records : (F : Format) (R : Repertoire) (xs : List PlannedChange) (t : List ℕ) (u : List Change) → Pasting xs
    → (length (undo_records F (list_after R xs t u)) ≡ length (undo_records F u) + change_size F * length xs)
    × (length (undo_texts (list_after R xs t u)) ≡ length (undo_texts u) + total xs)
unfolding list_after
puts_records F R [] t u h = (omega arith, omega arith)
puts_records F R (typed p c ∷ xs) t u h = absurd h.0
puts_records F R (pasted p s ∷ xs) t u h =
    let r = puts_records F R xs (splice t p p s) (record_insert_str p s u) h.1 in
    let e : record_insert_str p s u ≡ edit (insert p s) ∷ u = sym (insert_some p u s h.0) ∙ apart (insert p s) u in
    let a = ap (λ (v : List Change). length (undo_records F v)) e ∙ records-size F (edit (insert p s)) u
    ∙ ap (λ (n : ℕ). length (undo_records F u) + n) (change-size F (3 + F.offset) p (length s)) in
    let b = ap (λ (v : List Change). length (undo_texts v)) e ∙ texts-size (edit (insert p s)) u in
    (omega (arith, r.0), omega (arith, r.1))
puts_records F R (cutting a b ∷ xs) t u h = absurd h.0
puts_records F R (swapping a b s ∷ xs) t u h = absurd h.0

-- ---- indenting
line_pasting : (at m : ℕ) → Pasting (indent_line at m)
line_pasting at = by_pieces (λ (n : ℕ) (xs : List PlannedChange). Pasting xs) at tt (λ n xs h r. (omega (arith, (piece_in n h).0, length-replicate {A = ℕ} (piece_of n) 0x20), r))

line_total : (at m : ℕ) → total (indent_line at m) ≡ m
line_total at = by_pieces (λ (n : ℕ) (xs : List PlannedChange). total xs ≡ n) at refl (λ n xs h r. omega (arith, (piece_in n h).2, length-replicate {A = ℕ} (piece_of n) 0x20, r))

-- a piece for each 32 spaces, and one for what is left
line-count : (at m : ℕ) → length (indent_line at m) ≡ (m + 31) / 32
line-count at = by_pieces (λ (n : ℕ) (xs : List PlannedChange). length xs ≡ (n + 31) / 32) at refl (λ n xs h r. omega (arith, r, (piece_in n h).0, (piece_in n h).2))

one_more : (n k : ℕ) → k + n * k ≡ suc n * k
one_more n k = omega arith

module _ (m : ℕ) where
  pub lines_pasting : (xs : List (List ℕ)) (at : ℕ) → Pasting (indent_lines m at xs)
  unfolding indent_lines
  lines_pasting [] at = tt
  lines_pasting (x ∷ xs) at = every_append Pastes (indent_line at m) (indent_lines m (at + m + length x + 1) xs) (line_pasting at m) (lines_pasting xs (at + m + length x + 1))

  pub lines_total : (xs : List (List ℕ)) (at : ℕ) → total (indent_lines m at xs) ≡ length xs * m
  unfolding indent_lines
  lines_total [] at = omega arith
  lines_total (x ∷ xs) at =
      let r = lines_total xs (at + m + length x + 1) in
      total_append (indent_line at m) (indent_lines m (at + m + length x + 1) xs) ∙ ap₂ (λ (i j : ℕ). i + j) (line_total at m) r ∙ one_more (length xs) m

  pub lines_count : (xs : List (List ℕ)) (at : ℕ) → length (indent_lines m at xs) ≡ length xs * ((m + 31) / 32)
  unfolding indent_lines
  lines_count [] at = omega arith
  lines_count (x ∷ xs) at =
      let r = lines_count xs (at + m + length x + 1) in
      length-append (indent_line at m) (indent_lines m (at + m + length x + 1) xs) ∙ ap₂ (λ (i j : ℕ). i + j) (line-count at m) r ∙ one_more (length xs) ((m + 31) / 32)

-- ---- dedenting
-- a cut of white space is never merged
headed : (R : Repertoire) (c : ℕ) (cs : List ℕ) → R.alnum c ≡ false → (ks : List (List ℕ)) → head_or [] ks ≡ c ∷ cs → is_single R ks ≡ false
headed R c cs n [] e = refl
headed R c cs n (k ∷ []) e = ap (all R.alnum) e ∙ rw n
headed R c cs n (k ∷ (l ∷ ks)) e = refl

module _ (R : Repertoire) (other : (c : ℕ) → R.white c ≡ true → R.alnum c ≡ false) (x : List ℕ) (d : ℕ) (some : 0 < d)
    (h : d ≤ leading R (chars x)) (k : d ≤ length x) (v : boundary x d ≡ true) where
  pub white-apart : is_single R (clusters_of R (take d x)) ≡ false
  white-apart =
      by_first _ (take d x)
      (λ c n e.
      let f : first x ≡ char c n = ap first (sym (take-append-drop d x)) ∙ first-append (take d x) (drop d x) c n e in
      let w : R.white c ≡ true = by_test _ (R.white c) (λ z. z) (λ z. absurd (let y = step_other R x c n f z in omega arith)) in
      let cs = chars_step (take d x) c n e in
      ap (λ (l : List ℕ). is_single R (clusters R l)) cs
      ∙ headed R c (run_of R c (chars (drop n (take d x)))) (other c w) (clusters R (c ∷ chars (drop n (take d x)))) (clusters_head R c (chars (drop n (take d x)))))
      (λ e. never _ (valid (take d x)) v (valid-bad (take d x) e (omega (arith, length-take-le d x k))))

-- what a cut of d bytes records
module _ (F : Format) (R : Repertoire) (a d : ℕ) (s : List ℕ) (u : List Change) (n : length s ≡ d) (apart_if : 0 < d → is_single R (clusters_of R s) ≡ false) where
  cut-noted : 0 < d → record_delete R a s u ≡ edit (delete a s) ∷ u
  cut-noted h = sym (delete_some a u R s (omega arith)) ∙ ap (λ (j : Bool). note j (delete a s) u) (apart_if h) ∙ apart (delete a s) u

  pub cut-records : (length (undo_records F (record_delete R a s u)) ≡ length (undo_records F u) + change_size F * cond (ltb 0 d) 1 0)
      × (length (undo_texts (record_delete R a s u)) ≡ length (undo_texts u) + d)
  cut-records =
      by_less _ 0 d
      (λ h.
      let e = cut-noted h in
      let x = ap (λ (v : List Change). length (undo_records F v)) e ∙ records-size F (edit (delete a s)) u
      ∙ ap (λ (n : ℕ). length (undo_records F u) + n) (change-size F (4 + F.offset) a (length s)) in
      let y = ap (λ (v : List Change). length (undo_texts v)) e ∙ texts-size (edit (delete a s)) u in
      (rw (lt-ltb 0 d h) (omega (arith, x)), omega arith))
      (λ h.
      let e : record_delete R a s u ≡ u = sym (delete_none a u R s (omega arith)) in
      (rw (le-ltb 0 d h) (ap (λ (v : List Change). length (undo_records F v)) e ∙ omega arith), ap (λ (v : List Change). length (undo_texts v)) e ∙ omega arith))

module _ (R : Repertoire) (m : ℕ) where
  -- 9 never comes up: the text only gets shorter
  cut-length : (t : List ℕ) (a b : ℕ) → a ≤ b → length (splice t a b []) ≤ length t
  unfolding splice
  cut-length t a b h = omega (arith, length-append (take a t) (drop b t), length-append (take a t) (drop a t), ap length (take-append-drop a t), length-drop a t, length-drop b t)

  pub dedent_short : (C : ℕ) (xs : List (List ℕ)) (at : ℕ) (t : List ℕ) → length t ≤ C → too_long C (dedent_lines R m at xs) t ≡ false
  unfolding too_long dedent_lines
  dedent_short C [] at t h = refl
  dedent_short C (x ∷ xs) at t h =
      let l = cut-length t at (at + deleting R m x) (omega arith) in
      rw (le-ltb C (length (splice t at (at + deleting R m x) [])) (omega arith))
      (dedent_short C xs (at + (length x - deleting R m x) + 1) (splice t at (at + deleting R m x) []) (omega arith))

-- what they record
module _ (F : Format) (R : Repertoire) (m : ℕ) (other : (c : ℕ) → R.white c ≡ true → R.alnum c ≡ false) (b : List ℕ) where
  abbrev Recorded : List (List ℕ) → ℕ → List ℕ → List Change → Type 0
  Recorded xs at t u =
      (length (undo_records F (list_after R (dedent_lines R m at xs) t u)) ≡ length (undo_records F u) + change_size F * cuts_in R m xs)
      × (length (undo_texts (list_after R (dedent_lines R m at xs) t u)) ≡ length (undo_texts u) + bytes_in R m xs)

  first-cut : (c x a t : List ℕ) (at : ℕ) (u : List Change) → boundary x (deleting R m x) ≡ true → t ≡ a ++ (x ++ c) → at ≡ length a
      → (length (undo_records F (record_delete R at (part t at (at + deleting R m x)) u)) ≡ length (undo_records F u) + change_size F * cond
      (ltb 0 (deleting R m x)) 1 0) × (length (undo_texts (record_delete R at (part t at (at + deleting R m x)) u)) ≡ length (undo_texts u) + deleting R m x)
  first-cut c x a t at u v e f =
      let d = deleting R m x in
      let k = deleting_in R m x in
      let p = part-is a x c t e at f d k in
      cut-records F R at d (part t at (at + d)) u (ap length p ∙ length-take-le d x k)
      (λ h. ap (λ (s : List ℕ). is_single R (clusters_of R s)) p ∙ white-apart R other x d h (deleting-white R m x) k v)

  pub dedent_records : (xs : List (List ℕ)) (x a t : List ℕ) (at : ℕ) (u : List Change) → valid a ≡ true → valid x ≡ true → Every Valid xs
      → splits R m (x ∷ xs) ≡ false → t ≡ a ++ (x ++ (behind xs ++ b)) → at ≡ length a → Recorded (x ∷ xs) at t u
  unfolding list_after dedent_lines cuts_in bytes_in
  dedent_records [] x a t at u v w ws s e f =
      let g = first-cut (behind [] ++ b) x a t at u (whole R m b x [] s).0 e f in
      (omega (arith, g.0), omega (arith, g.1))
  dedent_records (y ∷ ys) x a t at u v w ws s e f =
      let k = whole R m b x (y ∷ ys) s in
      let g = first-cut (behind (y ∷ ys) ++ b) x a t at u k.0 e f in
      let r = dedent_records ys y (a ++ (drop (deleting R m x) x ++ (0x0A ∷ []))) (splice t at (at + deleting R m x) [])
      (at + (length x - deleting R m x) + 1) (record_delete R at (part t at (at + deleting R m x)) u) (dedent_before R m b x w k.0 a v) ws.0
      ws.1 k.1 (dedent_next R m b x y ys a t at e f) (dedent_place R m b x a at f) in
      (omega (arith, g.0, r.0), omega (arith, g.1, r.1))
