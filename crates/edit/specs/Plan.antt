-- Plans: the primitive changes that an edit makes of a text, one after the other, and what they leave. line_buffer.rs with its listener, the log.
use Rattle.std.specs.Prelude.{ℕ, ◌+◌, ◌≡◌, Bool, true, false, cond, ◌||◌, List, [], ◌∷◌, ◌++◌, ltb, length, take, drop}
use Rattle.lists.specs.Lists.{part}
use Rattle.utf8.specs.Chars.{In}
use Rattle.utf8.specs.Encode.{encode}
use Rattle.repertoire.specs.Repertoire.{Repertoire}
use Rattle.repertoire.specs.Text.{is_text, is_char}
use Rattle.checks.specs.Outcome.{Outcome, refused, answered}
use Rattle.log_model.specs.Change.{Edit, insert, delete, replace, Change, place, old, new}
use Rattle.formats.specs.declared.Format.{Format}
use Rattle.log_model.specs.Recording.{note, record_insert, record_insert_str, record_delete, record_replace}
use Rattle.log_model.specs.Groups.{Log}
use Rattle.log_model.specs.UndoBytes.{Sizes, fits}

-- t with s in the place of its bytes from a up to b
unfoldable pub splice : List ℕ → ℕ → ℕ → List ℕ → List ℕ
splice t a b s = take a t ++ (s ++ drop b t)

-- a character typed at a place, a text put in there, the bytes from a up to b cut out, the same replaced by a text
pub data PlannedChange : Type 0 where
  typed : ℕ → ℕ → PlannedChange
  pasted : ℕ → List ℕ → PlannedChange
  cutting : ℕ → ℕ → PlannedChange
  swapping : ℕ → ℕ → List ℕ → PlannedChange

-- the text after it
abbrev pub made : PlannedChange → List ℕ → List ℕ
made (typed p c) t = splice t p p (encode c)
made (pasted p s) t = splice t p p s
made (cutting a b) t = splice t a b []
made (swapping a b s) t = splice t a b s

-- the undo list after it, from the text before it
abbrev pub recorded : Repertoire → PlannedChange → List ℕ → List Change → List Change
recorded R (typed p c) t u = record_insert R p c u
recorded R (pasted p s) t u = record_insert_str p s u
recorded R (cutting a b) t u = record_delete R a (part t a b) u
recorded R (swapping a b s) t u = record_replace a (part t a b) s u

-- it suits the text that it is made in: its places stand between characters, and what it puts in is of the repertoire
abbrev pub Suits : Repertoire → PlannedChange → List ℕ → Type 0
Suits R (typed p c) t = In t p p × (is_char R c ≡ true)
Suits R (pasted p s) t = In t p p × (is_text R s ≡ true)
Suits R (cutting a b) t = In t a b
Suits R (swapping a b s) t = In t a b × (is_text R s ≡ true)

-- what a call makes of a text and a cursor: its changes, the cursor afterwards, its number 0 or 1, and the places that it answers
pub record Plan : Type 0 where
  pub changes : List PlannedChange
  pub cursor : ℕ
  pub number : ℕ
  pub from : ℕ
  pub to : ℕ

-- one change, answered by 0
abbrev pub once : PlannedChange → ℕ → Plan
once x p = record { changes = x ∷ []; cursor = p; number = 0; from = 0; to = 0 }

-- nothing: answer 1, the cursor where it is
abbrev pub nothing : ℕ → Plan
nothing p = record { changes = []; cursor = p; number = 1; from = 0; to = 0 }

unfoldable pub text_after : List PlannedChange → List ℕ → List ℕ
text_after [] t = t
text_after (x ∷ xs) t = text_after xs (made x t)

unfoldable pub list_after : Repertoire → List PlannedChange → List ℕ → List Change → List Change
list_after R [] t u = u
list_after R (x ∷ xs) t u = list_after R xs (made x t) (recorded R x t u)

-- each suits the text that those before it leave
unfoldable pub AllSuit : Repertoire → List PlannedChange → List ℕ → Type 0
AllSuit R [] t = Unit {0}
AllSuit R (x ∷ xs) t = Suits R x t × AllSuit R xs (made x t)

-- each change drops the redo list
abbrev pub redo_after : List PlannedChange → List Change → List Change
redo_after [] r = r
redo_after (x ∷ xs) r = []

-- 9: a text in between is longer than C
unfoldable pub too_long : ℕ → List PlannedChange → List ℕ → Bool
too_long C [] t = false
too_long C (x ∷ xs) t = ltb C (length (made x t)) || too_long C xs (made x t)

-- a text, a cursor and a log
pub record State : Type 0 where
  pub text : List ℕ
  pub cursor : ℕ
  pub log : Log

abbrev pub planned : Repertoire → Plan → State → State
planned R p s =
    record {
      text = text_after p.changes s.text;
      cursor = p.cursor;
      log = record { undo = list_after R p.changes s.text s.log.undo; redo = redo_after p.changes s.log.redo; level = s.log.level };
    }

-- a plan carried out: 9 is tried over all its changes, then 10 at the end. Within a call the log only grows, so its end decides
unfoldable pub edited : Repertoire → Format → Sizes → ℕ → Plan → State → Outcome State
edited R F z C p s =
    cond (too_long C p.changes s.text) (refused 9)
    (cond (fits F z (list_after R p.changes s.text s.log.undo)) (answered p.number p.from p.to (planned R p s))
    (refused 10))

-- ---- one change by its edit x, where j says that it may be merged: what a plan of one change comes to
abbrev pub blank : Edit → Bool
blank (insert p []) = true
blank (insert p (b ∷ s)) = false
blank (delete p []) = true
blank (delete p (b ∷ s)) = false
blank (replace p o n) = false

abbrev pub noted_or : Bool → Edit → List Change → List Change
noted_or j x u = cond (blank x) u (note j x u)

abbrev pub changed : Edit → List ℕ → List ℕ
changed x t = splice t (place x) (place x + length (old x)) (new x)

unfoldable pub change_out : Format → Sizes → ℕ → Bool → Edit → ℕ → State → Outcome State
change_out F z C j x p s =
    cond (ltb C (length (changed x s.text))) (refused 9)
    (cond (fits F z (noted_or j x s.log.undo))
    (answered 0 0 0 (record { text = changed x s.text; cursor = p; log = record { undo = noted_or j x s.log.undo; redo = []; level = s.log.level } }))
    (refused 10))
