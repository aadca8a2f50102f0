-- What was read is lent as far as it counts: n entries, where n is that number. Assumes nothing.
use Rattle.std.specs.Prelude.{◌≡◌}
use Rattle.laws.proofs.Prelude.{subst, List, ℕ, min, Float}
use Rattle.queue_records.specs.declared.Columns as read
use Rattle.row_statements.specs.Lent.{Columns}
use Rattle.row_statements.specs.TileWork.{WorkCall, WorkLent, work_of, GivesWork}
use Rattle.row_statements.specs.Painting.{PaintCall, paint_of, PaintsLayer}
use Rattle.row_statements.specs.declared.Painted.{Painted}
use Rattle.row_statements.specs.declared.TileWorked.{TileWorked}
use Rattle.tile_row_columns.specs.Lent.{entries_lent, lent_columns}

-- a call with another queue
abbrev pub work_from : WorkCall → Columns → WorkCall
work_from a k =
    record { state = a.state; tile = a.tile; row = a.row; table = a.table; kept = a.kept; clear = a.clear; previous = a.previous; queue = k }

abbrev pub paint_from : PaintCall → Columns → PaintCall
paint_from a k = record { state = a.state; tile = a.tile; layer = a.layer; row = a.row; table = a.table; queue = k }

pub worked_lent : (a : WorkCall) (lent : WorkLent) (c : read.Columns) {r : TileWorked} {back : WorkLent} (n : ℕ) → n ≡ min c.entries 256
    → GivesWork (work_of (work_from a (entries_lent n c)) lent) r back → GivesWork (work_of (work_from a (lent_columns c)) lent) r back
worked_lent a lent c {r} {back} n e p = subst (λ (m : ℕ). GivesWork (work_of (work_from a (entries_lent m c)) lent) r back) e p

pub painted_lent : (a : PaintCall) (plane : List Float) (c : read.Columns) {r : Painted} {back : List Float} (n : ℕ) → n ≡ min c.entries 256
    → PaintsLayer (paint_of (paint_from a (entries_lent n c)) plane) r back → PaintsLayer (paint_of (paint_from a (lent_columns c)) plane) r back
painted_lent a plane c {r} {back} n e p = subst (λ (m : ℕ). PaintsLayer (paint_of (paint_from a (entries_lent m c)) plane) r back) e p
