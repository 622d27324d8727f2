-- The plans of the calls suit the text that they are made in, and their cursors stand between its characters afterwards. Assumes nothing.
use Prim.Native.Nat.{ℕ, ◌-◌, ◌≤◌}
use native.Mathlib.Omega.{arith}
use mathlib.Core.Path.{◌≡◌, sym, ap, subst, ◌∙◌}
use mathlib.Core.Bool.{true}
use mathlib.Core.List.{List, [], ◌∷◌, ◌++◌, append-nil}
use lib.Dec.{eqb}
use lib.ListN.{length}
use lib.Seq.{drop-length}
use Rattle.lists.proofs.Bools.{by_test}
use Rattle.utf8.specs.Chars.{boundary, In}
use Rattle.utf8.specs.Encode.{encode}
use Rattle.utf8.proofs.Boundary.{boundary-zero, boundary_end}
use Rattle.repertoire.specs.Repertoire.{Repertoire}
use Rattle.repertoire.specs.Text.{is_text, is_char}
use Rattle.repertoire.proofs.Text.{text-valid}
use Rattle.repertoire.proofs.Typed.{char-text}
use Rattle.buffer.specs.Edit.{copies}
use Rattle.edit.specs.Plan.{splice, AllSuit, text_after}
use Rattle.edit.proofs.Splice.{splice-start, splice-end}
use Rattle.edit_insert.specs.Inserts.{insert_plan, yank_plan, yank_pop_plan, update_plan}
use Rattle.edit_insert.proofs.Copied.{copies-text}

module _ (R : Repertoire) (t : List ℕ) (pos : ℕ) (i : In t pos pos) where
  pub insert_suits : (c n : ℕ) → is_char R c ≡ true → AllSuit R (insert_plan pos c n).changes t
  unfolding AllSuit
  insert_suits c n e =
      by_test (AllSuit R (insert_plan pos c n).changes t) (eqb n 1) (λ f. rw f ((i, e), tt)) (λ f. rw f ((i, copies-text R n (encode c) (char-text R c e)), tt))

  pub insert-cursor : (c n : ℕ) → is_char R c ≡ true → In (text_after (insert_plan pos c n).changes t) (insert_plan pos c n).cursor (insert_plan pos c n).cursor
  unfolding text_after
  insert-cursor c n e =
      let v = char-text R c e in
      by_test (In (text_after (insert_plan pos c n).changes t) (insert_plan pos c n).cursor (insert_plan pos c n).cursor) (eqb n 1)
      (λ f. rw f (splice-end t pos pos (encode c) i (text-valid R (encode c) v)))
      (λ f. rw f (splice-end t pos pos (copies n (encode c)) i (text-valid R (copies n (encode c)) (copies-text R n (encode c) v))))

  pub yank_suits : (s : List ℕ) (n : ℕ) → is_text R s ≡ true → AllSuit R (yank_plan pos s n).changes t
  unfolding AllSuit
  yank_suits [] n e = tt
  yank_suits (b ∷ s) n e = ((i, copies-text R n (b ∷ s) e), tt)

  pub yank-cursor : (s : List ℕ) (n : ℕ) → is_text R s ≡ true → In (text_after (yank_plan pos s n).changes t) (yank_plan pos s n).cursor (yank_plan pos s n).cursor
  unfolding text_after
  yank-cursor [] n e = i
  yank-cursor (b ∷ s) n e = splice-end t pos pos (copies n (b ∷ s)) i (text-valid R (copies n (b ∷ s)) (copies-text R n (b ∷ s) e))

  module _ (size : ℕ) (s : List ℕ) (e : is_text R s ≡ true) (f : boundary t (pos - size) ≡ true) where
    cut_in : In t (pos - size) pos
    cut_in = (omega arith, i.1, f, i.3)

    pub yank_pop_suits : AllSuit R (yank_pop_plan pos size s).changes t
    unfolding AllSuit
    yank_pop_suits = (cut_in, ((splice-start t (pos - size) pos [] cut_in, e), tt))

    pub yank_pop_cursor : In (text_after (yank_pop_plan pos size s).changes t) (yank_pop_plan pos size s).cursor (yank_pop_plan pos size s).cursor
    unfolding text_after
    yank_pop_cursor = splice-end (splice t (pos - size) pos []) (pos - size) (pos - size) s (splice-start t (pos - size) pos [] cut_in) (text-valid R s e)

module _ (R : Repertoire) (t : List ℕ) (v : is_text R t ≡ true) (s : List ℕ) (pos : ℕ) (e : is_text R s ≡ true) where
  all_in : In t 0 (length t)
  all_in = (omega arith, omega arith, boundary-zero t, boundary_end t (text-valid R t v))

  pub update_suits : AllSuit R (update_plan t s pos).changes t
  unfolding AllSuit
  update_suits = (all_in, ((splice-start t 0 (length t) [] all_in, e), tt))

  -- the new text, and nothing of the old one
  pub update-text : text_after (update_plan t s pos).changes t ≡ s
  unfolding text_after splice
  update-text = ap (λ (x : List ℕ). s ++ x) (drop-length t) ∙ append-nil s

  pub update-cursor : pos ≤ length s → boundary s pos ≡ true → In (text_after (update_plan t s pos).changes t) (update_plan t s pos).cursor (update_plan t s pos).cursor
  update-cursor h b = subst (λ (x : List ℕ). In x pos pos) (sym update-text) (omega arith, h, b, b)
