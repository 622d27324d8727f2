use mathlib.Core.Path.{sym, ap, ◌∙◌}
use Rattle.repertoire.specs.Repertoire.{catalogue}
use Rattle.edit.specs.Calls.{Lent, lent}
use Rattle.key_press.specs.declared.EditKey.TheVariants as ek
use Rattle.key_model.specs.Own.{fit_key}
use Rattle.key_line.proofs.Edits.{key-made}
use Rattle.key_line.proofs.edited_by.Goals as goal
use Rattle.key_line.proofs.edited_by.Goals.{Start}

abbrev lending : Start → Lent
lending s = lent s.args.text.now s.args.records.now s.args.texts.now s.args.checked.line s.args.checked.log

pub insert_checked-requires : goal.insert_checked-requires
insert_checked-requires c = record {
  ready = c.requires.ready;
  last_at = c.requires.last_at;
  ch_value = ap (fit_key catalogue) (sym c.in-Typed.is) ∙ c.requires.k_value;
}

pub returns-in-Typed : goal.returns-in-Typed
returns-in-Typed c =
    key-made c.args.checked.format (lending (goal.at.returns-in-Typed c).Start) c.requires.no_tests_value (ek.Typed c.in-Typed.ch c.in-Typed.n)
    c.in-Typed.is c.requires.k_value c.insert_checked.ensures

pub returns-in-Delete : goal.returns-in-Delete
returns-in-Delete c =
    key-made c.args.checked.format (lending (goal.at.returns-in-Delete c).Start) c.requires.no_tests_value (ek.Delete c.in-Delete.n) c.in-Delete.is
    c.requires.k_value c.delete_checked.ensures

pub returns-in-TransposeChars : goal.returns-in-TransposeChars
returns-in-TransposeChars c =
    key-made c.args.checked.format (lending (goal.at.returns-in-TransposeChars c).Start) c.requires.no_tests_value ek.TransposeChars
    c.in-TransposeChars.is c.requires.k_value c.transpose_chars_checked.ensures

pub returns-in-TransposeWords : goal.returns-in-TransposeWords
returns-in-TransposeWords c =
    key-made c.args.checked.format (lending (goal.at.returns-in-TransposeWords c).Start) c.requires.no_tests_value
    (ek.TransposeWords c.in-TransposeWords.n) c.in-TransposeWords.is c.requires.k_value c.transpose_words_checked.ensures

pub returns-in-Capitalize : goal.returns-in-Capitalize
returns-in-Capitalize c =
    key-made c.args.checked.format (lending (goal.at.returns-in-Capitalize c).Start) c.requires.no_tests_value ek.Capitalize c.in-Capitalize.is
    c.requires.k_value c.edit_word_checked.ensures

pub returns-in-Lowercase : goal.returns-in-Lowercase
returns-in-Lowercase c =
    key-made c.args.checked.format (lending (goal.at.returns-in-Lowercase c).Start) c.requires.no_tests_value ek.Lowercase c.in-Lowercase.is
    c.requires.k_value c.edit_word_checked-in-Lowercase.ensures

pub returns-in-Uppercase : goal.returns-in-Uppercase
returns-in-Uppercase c =
    key-made c.args.checked.format (lending (goal.at.returns-in-Uppercase c).Start) c.requires.no_tests_value ek.Uppercase c.in-Uppercase.is
    c.requires.k_value c.edit_word_checked-in-Uppercase.ensures
