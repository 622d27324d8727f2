use native.Mathlib.Omega.{arith}
use mathlib.Core.Path.{refl, ap, ◌∙◌}
use lib.ListN.{length, take}
use Rattle.repertoire.specs.Repertoire.{catalogue}
use Rattle.repertoire.specs.Text.{is_text}
use Rattle.edit.specs.Calls.{lent}
use Rattle.utf8.proofs.Encode.{encode_max}
use Rattle.repertoire.proofs.Typed.{typed-text}
use Rattle.edit.proofs.Parts.{an_insert}
use Rattle.edit_insert.proofs.Puts.{char-put}
use Rattle.edit_insert.proofs.type_char.Goals as goal

pub overflow_add-pos : goal.overflow_add-pos
overflow_add-pos c = omega (arith, ap length c.requires.s_value, encode_max c.args.ch)

pub change-requires : goal.change-requires
change-requires c =
    let a = c.args in
    record {
      fit = c.requires.ready.log.fit;
      ready = c.requires.ready;
      from_le_to = (omega arith, c.requires.ready.within);
      last_at = (λ e. c.requires.last_at);
      numbered = an_insert (take a.checked.line.len a.text.now) a.checked.line.cursor a.s.now;
      ok = ap (is_text catalogue) c.requires.s_value ∙ typed-text a.ch c.requires.ch_value;
    }

pub returns : goal.returns
returns c =
    let a = c.args in
    char-put a.checked.format (lent a.text.now a.records.now a.texts.now a.checked.line a.checked.log) a.s.now (length a.s.now) _ _ _ _ a.ch
    c.is_alnum.result c.is_alnum.ensures c.requires.s_value refl c.change.ensures
