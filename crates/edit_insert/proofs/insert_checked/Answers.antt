use native.Mathlib.Omega.{arith}
use mathlib.Core.Path.{◌≡◌, sym, ap, ◌∙◌}
use Prim.Native.Nat.{◌≤◌}
use lib.ListN.{length, take}
use lib.Seq.{length-take-le}
use Rattle.utf8.specs.Encode.{encode}
use Rattle.utf8.proofs.Encode.{encode_max}
use Rattle.repertoire.specs.Repertoire.{catalogue}
use Rattle.repertoire.specs.Text.{is_text}
use Rattle.repertoire.proofs.Typed.{typed-text, typed-some, typed-within, typed-bytes}
use Rattle.edit.specs.Calls.{Lent, lent}
use Rattle.edit_insert.proofs.Calls.{plan_one, plan_many}
use Rattle.edit.proofs.Made.{plan_made}
use Rattle.edit_insert.proofs.insert_checked.Goals as goal
use Rattle.edit_insert.proofs.insert_checked.Goals.{After-unwrap-size, Start}

-- ---- at the start: what is lent
abbrev lending : Start → Lent
lending s = let a = s.args in lent a.text.now a.records.now a.texts.now a.checked.line a.checked.log

pub unwrap-size-requires : goal.unwrap-size-requires
unwrap-size-requires c =
    typed-some c.args.ch c.requires.ch_value _ c.encode_at.new.out c.encode_at.result (omega arith) c.encode_at.ensures

-- ---- where the character is encoded
within : (c : After-unwrap-size) → c.unwrap-size.result ≤ length c.encode_at.new.out
within c = typed-within c.args.ch c.requires.ch_value _ c.encode_at.new.out c.encode_at.result (omega arith) c.encode_at.ensures
    c.unwrap-size.result c.unwrap-size.ensures

bytes : (c : After-unwrap-size) → take c.unwrap-size.result c.encode_at.new.out ≡ encode c.args.ch
bytes c = typed-bytes c.args.ch c.requires.ch_value _ c.encode_at.new.out c.encode_at.result (omega arith) c.encode_at.ensures
    c.unwrap-size.result c.unwrap-size.ensures

pub slice_bounds-buf-end : goal.slice_bounds-buf-end
slice_bounds-buf-end c = within (goal.at.slice_bounds-buf-end c).After-unwrap-size

pub slice_bounds-s-end : goal.slice_bounds-s-end
slice_bounds-s-end c = sym (length-take-le _ _ (within (goal.at.slice_bounds-s-end c).After-unwrap-size))

pub type_char-requires : goal.type_char-requires
type_char-requires c = record {
  ready = c.requires.ready;
  last_at = c.requires.last_at;
  ch_value = c.requires.ch_value;
  s_value = bytes (goal.at.type_char-requires c).After-unwrap-size;
}

pub returns-then-n-eq1 : goal.returns-then-n-eq1
returns-then-n-eq1 c =
    let a = c.args in
    plan_made a.checked.format (lending (goal.at.returns-then-n-eq1 c).Start) (plan_one a.checked.line.cursor a.ch a.n c.if-n-eq1.true) c.type_char.ensures

pub put_copies-requires : goal.put_copies-requires
put_copies-requires c =
    let here = goal.at.put_copies-requires c in
    record {
      ready = c.requires.ready;
      last_at = c.requires.last_at;
      s_value = ap (is_text catalogue) (bytes here.After-unwrap-size) ∙ typed-text c.args.ch c.requires.ch_value;
      s_len_bound = (omega (arith, ap length (bytes here.After-unwrap-size), encode_max c.args.ch), omega arith);
    }

pub returns : goal.returns
returns c =
    let here = goal.at.returns c in
    let a = c.args in
    plan_made a.checked.format (lending here.Start) (plan_many a.checked.line.cursor a.ch a.n c.if-n-eq1.false
    (bytes here.After-unwrap-size)) (rw c.from.ensures at c.put_copies.ensures)
