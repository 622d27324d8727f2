-- The calls of LineBuffer that put a text in: line_buffer.rs, insert, yank, yank_pop and update.
use Rattle.std.specs.Prelude.{ℕ, ◌+◌, ◌-◌, Bool, false, cond, not, List, [], ◌∷◌, eqb, ltb, length}
use Rattle.utf8.specs.Chars.{boundary}
use Rattle.utf8.specs.Encode.{encode}
use Rattle.repertoire.specs.Repertoire.{Repertoire}
use Rattle.repertoire.specs.Text.{is_text, is_char}
use Rattle.buffer.specs.Edit.{copies}
use Rattle.checks.specs.Checks.{Tests, no_tests, with_sizes, with_foreign, with_place, with_split, own_tests}
use Rattle.checks.specs.Outcome.{Outcome}
use Rattle.formats.specs.declared.Format.{Format}
use Rattle.edit.specs.Plan.{State, typed, pasted, cutting, Plan, once, nothing}
use Rattle.edit.specs.Calls.{Lent, text_of, edit_call}

-- insert: one character is typed; more of them, or none, are put in as a text. The cursor goes behind them
abbrev pub insert_plan : ℕ → ℕ → ℕ → Plan
insert_plan pos c n = cond (eqb n 1) (once (typed pos c) (pos + length (encode c))) (once (pasted pos (copies n (encode c))) (pos + length (copies n (encode c))))

-- yank: nothing of an empty text, else n copies
abbrev pub yank_plan : ℕ → List ℕ → ℕ → Plan
yank_plan pos [] n = nothing pos
yank_plan pos (b ∷ s) n = once (pasted pos (copies n (b ∷ s))) (pos + length (copies n (b ∷ s)))

-- the number of a call whose text may be empty
abbrev pub empty_is : List ℕ → ℕ
empty_is [] = 1
empty_is (b ∷ s) = 0

-- yank_pop: the size bytes before the cursor are cut, and the text is put in where they stood; 1 where it is empty, and they are cut all the same
abbrev pub yank_pop_plan : ℕ → ℕ → List ℕ → Plan
yank_pop_plan pos size s =
    record { changes = cutting (pos - size) pos ∷ pasted (pos - size) s ∷ []; cursor = pos - size + length s; number = empty_is s; from = 0; to = 0 }

-- update: all of the text t is cut, and the new one put in
abbrev pub update_plan : List ℕ → List ℕ → ℕ → Plan
update_plan t s pos = record { changes = cutting 0 (length t) ∷ pasted 0 s ∷ []; cursor = pos; number = 0; from = 0; to = 0 }

module _ (R : Repertoire) (F : Format) (l : Lent) where
  -- 2 and 4 of a text to put in, and what 5 and 6 say of a place
  abbrev pub text_tests : List ℕ → Bool → Bool → Tests
  text_tests s place split =
      with_sizes (ltb (length l.text) (length s)) (with_foreign (not (is_text R s)) (with_place place (with_split split no_tests)))

  abbrev pub insert_call : ℕ → ℕ → Outcome State
  insert_call c n = edit_call R F l (own_tests false (not (is_char R c)) false) (insert_plan l.line.cursor c n)

  abbrev pub yank_call : List ℕ → ℕ → Outcome State
  yank_call s n = edit_call R F l (text_tests s false false) (yank_plan l.line.cursor s n)

  -- 5: a size over the cursor; 6: the place so many bytes before the cursor inside a character
  abbrev pub yank_pop_call : ℕ → List ℕ → Outcome State
  yank_pop_call size s =
      edit_call R F l (text_tests s (ltb l.line.cursor size) (not (boundary (text_of l) (l.line.cursor - size)))) (yank_pop_plan l.line.cursor size s)

  -- 5 and 6: the new cursor in the new text
  abbrev pub update_call : List ℕ → ℕ → Outcome State
  update_call s pos = edit_call R F l (text_tests s (ltb (length s) pos) (not (boundary s pos))) (update_plan (text_of l) s pos)
