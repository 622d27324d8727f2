use native.Mathlib.Omega.{arith}
use mathlib.Core.Path.{◌≡◌, sym, ap, ◌∙◌}
use Prim.Native.Nat.{ℕ, ◌-◌, ◌≤◌}
use mathlib.Core.List.{List}
use lib.ListN.{length, take, drop}
use lib.Seq.{length-take-le}
use Rattle.utf8.specs.Chars.{In}
use Rattle.repertoire.specs.Repertoire.{catalogue}
use Rattle.repertoire.proofs.Text.{text-valid}
use Rattle.formats.specs.Formats.{text_max}
use Rattle.buffer.proofs.Inserted.{copied}
use Rattle.edit.specs.Calls.{Lent, lent, text_of}
use Rattle.edit.proofs.Answers.{length-kept}
use Rattle.edit.proofs.Formats.{text-most}
use Rattle.edit.proofs.Parts.{part_length, raw_part}
use Rattle.edit_transpose.proofs.Exchange.{Clusters, reaches, goes_back, pair_suits, used-is, not_exchanged, exchanged}
use Rattle.edit_transpose.proofs.exchange_at.Goals as goal
use Rattle.edit_transpose.proofs.exchange_at.Goals.{After-insert_bytes, After-on_from-q, Start}

abbrev lending : Start → Lent
lending entry = let a = entry.args in lent a.text.now a.records.now a.texts.now a.checked.line a.checked.log

-- ---- the end of the cluster at p is found
abbrev taken : After-on_from-q → List ℕ
taken c = let a = c.args in take (c.on_from-q.result - a.p) (drop a.p a.text.now)

behind : (c : After-on_from-q) →
    let a = c.args in
    In (text_of (lent a.text.now a.records.now a.texts.now a.checked.line a.checked.log)) a.p c.on_from-q.result
behind c =
    let a = c.args in
    reaches a.checked.format (lent a.text.now a.records.now a.texts.now a.checked.line a.checked.log) c.requires.ready a.p c.requires.in_text c.on_from-q.result
    c.on_from-q.ensures

within : (c : After-on_from-q) → c.on_from-q.result ≤ c.args.checked.line.len
within c =
    let a = c.args in
    omega (arith, (behind c).1, length-kept a.checked.format (lent a.text.now a.records.now a.texts.now a.checked.line a.checked.log) c.requires.ready)

most : (c : After-on_from-q) → c.on_from-q.result ≤ text_max
most c = omega (arith, within c, c.requires.ready.used, text-most _ _ c.requires.ready)

cut-length : (c : After-on_from-q) → length (taken c) ≡ c.on_from-q.result - c.args.p
cut-length c =
    let a = c.args in
    ap length (sym (raw_part a.text.now a.checked.line.len a.p c.on_from-q.result (within c)))
    ∙ part_length catalogue (text_of (lent a.text.now a.records.now a.texts.now a.checked.line a.checked.log)) a.p c.on_from-q.result (behind c)

-- ---- its bytes are cut, as long as they were found to be
abbrev clusters : (c : After-insert_bytes) →
    let a = c.args in
    let q = c.on_from-q.result in
    q ≤ a.checked.line.len → length (take (q - a.p) (drop a.p a.text.now)) ≡ q - a.p →
    Clusters a.checked.format (lent a.text.now a.records.now a.texts.now a.checked.line a.checked.log) a.p
clusters c inside long =
    let a = c.args in
    record {
      ready = c.requires.ready;
      inside = c.requires.in_text;
      end = c.on_from-q.result;
      end_is = c.on_from-q.ensures;
      start = c.back_from-o.result;
      start_is = c.back_from-o.ensures;
      cut = _;
      cut-is = copied _ _ _ (sym long) c.insert_bytes.ensures
          ∙ sym (raw_part a.text.now a.checked.line.len a.p c.on_from-q.result inside);
    }

pub slice_bounds-on_from-end-2 : goal.slice_bounds-on_from-end-2
slice_bounds-on_from-end-2 c = sym (length-take-le _ _ c.requires.ready.used)

pub slice_bounds-back_from-end-2 : goal.slice_bounds-back_from-end-2
slice_bounds-back_from-end-2 c = sym (length-take-le _ _ c.requires.ready.used)

pub back_from-o-requires : goal.back_from-o-requires
back_from-o-requires c = (
  text-valid catalogue (text_of (lending (goal.at.back_from-o-requires c).Start)) c.requires.ready.text,
  c.requires.in_text.2,
  c.requires.in_text.1,
)

pub overflow_sub-n : goal.overflow_sub-n
overflow_sub-n c = (behind (goal.at.overflow_sub-n c).After-on_from-q).0

pub overflow_add-behind : goal.overflow_add-behind
overflow_add-behind c =
    let here = goal.at.overflow_add-behind c in
    omega (
      arith,
      most here.After-on_from-q,
      goes_back c.args.checked.format (lending here.Start)
          c.requires.ready c.args.p c.requires.in_text c.back_from-o.result c.back_from-o.ensures,
    )

pub slice_bounds-insert_bytes-count : goal.slice_bounds-insert_bytes-count
slice_bounds-insert_bytes-count c = (behind (goal.at.slice_bounds-insert_bytes-count c).After-on_from-q).0

pub slice_bounds-insert_bytes-start : goal.slice_bounds-insert_bytes-start
slice_bounds-insert_bytes-start c = (behind (goal.at.slice_bounds-insert_bytes-start c).After-on_from-q).0

pub slice_bounds-insert_bytes-end-2 : goal.slice_bounds-insert_bytes-end-2
slice_bounds-insert_bytes-end-2 c =
    omega (arith, within (goal.at.slice_bounds-insert_bytes-end-2 c).After-on_from-q, c.requires.ready.used)

pub insert_bytes-requires : goal.insert_bytes-requires
insert_bytes-requires c =
    let here = goal.at.insert_bytes-requires c in (
      omega arith,
      omega (
        arith,
        cut-length here.After-on_from-q,
        most
            here.After-on_from-q,
      ),
    )

pub slice_bounds-cut-end : goal.slice_bounds-cut-end
slice_bounds-cut-end c = omega (arith, c.insert_bytes.auto.s, most (goal.at.slice_bounds-cut-end c).After-on_from-q)

pub slice_bounds-cut_and_put-end : goal.slice_bounds-cut_and_put-end
slice_bounds-cut_and_put-end c =
    sym (length-take-le _ _ (omega (arith, c.insert_bytes.auto.s, most (goal.at.slice_bounds-cut_and_put-end c).After-on_from-q)))

pub cut_and_put-a-requires : goal.cut_and_put-a-requires
cut_and_put-a-requires c =
    let here = goal.at.cut_and_put-a-requires c in
    record {
      fit = c.requires.ready.log.fit;
      ready = c.requires.ready;
      last_at = c.requires.last_at;
      all_suit = pair_suits (clusters here.After-insert_bytes (within here.After-on_from-q) (cut-length here.After-on_from-q));
    }

pub returns-then-a-ne0 : goal.returns-then-a-ne0
returns-then-a-ne0 c =
    let here = goal.at.returns-then-a-ne0 c in
    let x = clusters here.After-insert_bytes (within here.After-on_from-q) (cut-length here.After-on_from-q) in
    not_exchanged x _ _ _ _ c.cut_and_put-a.ensures c.if-a-ne0.true

pub slice_bounds-on_from-end-3 : goal.slice_bounds-on_from-end-3
slice_bounds-on_from-end-3 c =
    let here = goal.at.slice_bounds-on_from-end-3 c in
    let x = clusters here.After-insert_bytes (within here.After-on_from-q) (cut-length here.After-on_from-q) in
    used-is x _ _ _ _ c.cut_and_put-a.ensures c.if-a-ne0.false

pub slice_bounds-on_from-end-4 : goal.slice_bounds-on_from-end-4
slice_bounds-on_from-end-4 c =
    let here = goal.at.slice_bounds-on_from-end-4 c in
    let x = clusters here.After-insert_bytes (within here.After-on_from-q) (cut-length here.After-on_from-q) in
    sym (length-take-le _ _ (used-is x _ _ _ _ c.cut_and_put-a.ensures c.if-a-ne0.false))

pub returns : goal.returns
returns c =
    let here = goal.at.returns c in
    let x = clusters here.After-insert_bytes (within here.After-on_from-q) (cut-length here.After-on_from-q) in
    exchanged x _ _ _ _ c.cut_and_put-a.ensures c.if-a-ne0.false _ _ c.on_from.ensures c.says.ensures
