-- A record by its numbers, with the kind that its number names: what it carries. Assumes nothing.
use Prim.Native.Nat.{ℕ}
use mathlib.Core.Path.{ap}
use mathlib.Core.Bool.{cond}
use mathlib.Core.List.{List}
use lib.Dec.{eqb}
use Rattle.formats.specs.declared.Format.{Format}
use Rattle.log_model.specs.Change.{Change, begin, end, edit, insert, delete, replace}
use Rattle.log_records.specs.declared.EditKind.TheVariants.{Insert, Delete, Replace}
use Rattle.log_records.specs.declared.Kind.{Kind}
use Rattle.log_records.specs.declared.Kind.TheVariants.{Begin, End, Edit}
use Rattle.log_records.specs.declared.Record.{Record}
use Rattle.log_records.specs.Records.{Carries}
use Rattle.undo_step.specs.declared.RecordByNumber.{RecordByNumber}
use Rattle.undo_step.specs.ByNumber.{Carries as ByNumber·Carries}

-- the kind that a number from 1 to 5 names
abbrev pub kind_named : ℕ → Kind
kind_named k = cond (eqb k 1) Begin (cond (eqb k 2) End (cond (eqb k 3) (Edit Insert) (cond (eqb k 4) (Edit Delete) (Edit Replace))))

abbrev pub named : RecordByNumber → Record
named r = record { kind = kind_named r.kind; place = r.place; old = r.old; new = r.new; size = r.size }

-- a change that it carries by numbers is the one that it carries
pub carried : (F : Format) (c : Change) (r : RecordByNumber) (ts : List ℕ) (t : ℕ)
    → ByNumber·Carries F c r ts t → Carries F c (named r) ts t
carried F begin r ts t h = record { numbers = ap named h.numbers; texts = h.texts }
carried F end r ts t h = record { numbers = ap named h.numbers; texts = h.texts }
carried F (edit (insert p s)) r ts t h = record { numbers = ap named h.numbers; texts = h.texts }
carried F (edit (delete p s)) r ts t h = record { numbers = ap named h.numbers; texts = h.texts }
carried F (edit (replace p o n)) r ts t h = record { numbers = ap named h.numbers; texts = h.texts }
