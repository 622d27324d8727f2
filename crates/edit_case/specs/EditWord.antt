-- The first word from the cursor on in another case: line_buffer.rs, edit_word.
use Rattle.std.specs.Prelude.{ℕ, ◌+◌, ◌≡◌, true, false, List, [], ◌∷◌, ◌++◌, length, take, drop, get_or, Option, None, Some}
use Rattle.std.proofs.lemmas.List.Edits.{sets}
use Rattle.lists.specs.Lists.{part}
use Rattle.repertoire.specs.Repertoire.{Repertoire}
use Rattle.repertoire.specs.Case.{cased}
use Rattle.repertoire.specs.declared.Case.TheVariants.{Upper, Lower}
use Rattle.cluster.specs.Clusters.{first_size}
use Rattle.motion.specs.Trim.{skip_whitespace}
use Rattle.motion_words.specs.Places.{words_on}
use Rattle.checks.specs.Checks.{own_tests}
use Rattle.checks.specs.Outcome.{Outcome}
use Rattle.formats.specs.declared.Format.{Format}
use Rattle.edit.specs.Plan.{State, pasted, cutting, Plan, nothing}
use Rattle.edit.specs.Calls.{Lent, text_of, edit_call}
use Rattle.edit_case.specs.declared.WordAction.{WordAction}
use Rattle.edit_case.specs.declared.WordAction.TheVariants.{Capitalize, Lowercase, Uppercase}

abbrev pub in_case : Repertoire → WordAction → List ℕ → List ℕ
in_case R Capitalize s = cased R Upper (take (first_size R s) s) ++ cased R Lower (drop (first_size R s) s)
in_case R Lowercase s = cased R Lower s
in_case R Uppercase s = cased R Upper s

-- a buffer with a text written into it at a place, and how many bytes that is
pub record WrittenAt (x before : List ℕ) (at : ℕ) (after : List ℕ) (count : ℕ) : Type 0 where
  pub bytes : after ≡ sets before at x
  pub counted : count ≡ length x

-- the same by its front alone
pub record Written (x after : List ℕ) (count : ℕ) : Type 0 where
  pub bytes : take count after ≡ x
  pub counted : count ≡ length x

abbrev pub case_plan : Repertoire → List ℕ → WordAction → ℕ → ℕ → Plan
case_plan R t w a b =
    record {
      changes = cutting a b ∷ pasted a (in_case R w (part t a b)) ∷ [];
      cursor = a + length (in_case R w (part t a b));
      number = 0;
      from = 0;
      to = 0;
    }

-- from an alphanumeric cluster to the end of its word
abbrev pub cased_from : Repertoire → List ℕ → WordAction → ℕ → Option ℕ → Plan
cased_from R t w pos (Some a) = case_plan R t w a (words_on R t 1 a)
cased_from R t w pos None = nothing pos

abbrev pub edit_word_plan : Repertoire → List ℕ → WordAction → ℕ → Plan
edit_word_plan R t w pos = cased_from R t w pos (skip_whitespace R t pos)

-- 0 Capitalize, 1 Lowercase, 2 Uppercase
unfoldable pub action_list : List (Option WordAction)
action_list = Some Capitalize ∷ Some Lowercase ∷ Some Uppercase ∷ []

abbrev pub action_of : ℕ → Option WordAction
action_of k = get_or action_list k None

module _ (R : Repertoire) (F : Format) (l : Lent) where
  abbrev pub edit_word_by : Option WordAction → Outcome State
  edit_word_by (Some w) = edit_call R F l (own_tests false false false) (edit_word_plan R (text_of l) w l.line.cursor)
  edit_word_by None = edit_call R F l (own_tests true false false) (nothing l.line.cursor)

  abbrev pub edit_word_call : ℕ → Outcome State
  edit_word_call action = edit_word_by (action_of action)
