use native.Mathlib.Omega.{arith}
use Rattle.log_records.proofs.Records.{no_byte, no_kind_at, no_room, Stands, stands-at, bare_read, insert-read, delete-read, replace-read}
use Rattle.log_records.proofs.read_record.Goals as goal
use Rattle.log_records.proofs.read_record.Goals.{Else-records-at-2}

-- a whole record stands there
stands : (c : Else-records-at-2) → Stands c.args.f c.args.records.now c.args.at c.in_ok-kind.kind
stands c = stands-at _ _ _ _ _ c.in_ok-kind.ensures c.size-size.ensures.0 c.if-records-at-2.false

pub returns-then-records-at : goal.returns-then-records-at
returns-then-records-at c = record { same = no_byte c.args.f c.args.records.now c.args.at c.if-records-at.true; bounds = tt }

pub returns-in_err-kind : goal.returns-in_err-kind
returns-in_err-kind c =
    let a = c.args in
    rw c.from_residual.ensures (record { same = no_kind_at a.f a.records.now a.at c.in_err-kind.ensures; bounds = tt })

pub returns-then-records-at-2 : goal.returns-then-records-at-2
returns-then-records-at-2 c =
    let a = c.args in
    record {
      same = no_room a.f a.records.now a.at c.in_ok-kind.kind c.in_ok-kind.ensures
          (omega (arith, c.size-size.ensures.0, c.if-records-at.false, c.if-records-at-2.true));
      bounds = tt;
    }

pub returns-in_default : goal.returns-in_default
returns-in_default c =
    let a = c.args in
    record {
      same = bare_read a.f a.records.now a.at _ (stands (goal.at.returns-in_default c).Else-records-at-2) _ c.size-size.ensures.0
          c.in_default.not-Edit;
      bounds = record { size = c.size-size.ensures.1; place = omega arith; old = omega arith; new = omega arith };
    }

pub returns-in-Insert : goal.returns-in-Insert
returns-in-Insert c =
    let a = c.args in
    record {
      same = insert-read a.f a.records.now a.at _ (stands (goal.at.returns-in-Insert c).Else-records-at-2) _ c.in-Edit.is _ _ _
          c.read_num-place.ensures.0 c.read_num-first.ensures.0 c.size-size.ensures.0 c.in-Insert.is;
      bounds = record {
        size = c.size-size.ensures.1;
        place = c.read_num-place.ensures.1;
        old = omega arith;
        new =
            c.read_num-first.ensures.1;
      };
    }

pub returns-in-Delete : goal.returns-in-Delete
returns-in-Delete c =
    let a = c.args in
    record {
      same = delete-read a.f a.records.now a.at _ (stands (goal.at.returns-in-Delete c).Else-records-at-2) _ c.in-Edit.is _ _ _
          c.read_num-place.ensures.0 c.read_num-first.ensures.0 c.size-size.ensures.0 c.in-Delete.is;
      bounds = record {
        size = c.size-size.ensures.1;
        place = c.read_num-place.ensures.1;
        old = c.read_num-first.ensures.1;
        new =
            omega arith;
      };
    }

pub returns-in-Replace : goal.returns-in-Replace
returns-in-Replace c =
    let a = c.args in
    record {
      same = replace-read a.f a.records.now a.at _ (stands (goal.at.returns-in-Replace c).Else-records-at-2) _ c.in-Edit.is _ _ _
          c.read_num-place.ensures.0 c.read_num-first.ensures.0 c.size-size.ensures.0 _ c.read_num.ensures.0 c.in-Replace.is;
      bounds = record {
        size = c.size-size.ensures.1;
        place = c.read_num-place.ensures.1;
        old = c.read_num-first.ensures.1;
        new =
            c.read_num.ensures.1;
      };
    }
