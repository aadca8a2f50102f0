use Rattle.std.specs.Prelude.{◌≡◌}
use Rattle.laws.proofs.Prelude.{None, pos, length}
use Rattle.segment_rows.specs.Search.{left_part}
use Rattle.row_statements.specs.InnerHolding.{Holds}
use Rattle.row_driver.specs.InnerSteps.{held_by, row_by}
use Rattle.row_driver.proofs.Driving.{Driving}
use Rattle.row_driver.proofs.drive_tiles.Given as goal

abbrev pub invariant-loop-i : goal.invariant-loop-i
invariant-loop-i l =
    Driving (row_by l.initial.at l.row l.layers l.colors l.count) l.n l.initial.lines l.i l.lines
    × Holds (row_by l.initial.at l.row l.layers l.colors l.count) (record { tiles = l.i; clip = None }) (held_by l.in_a l.at (record { ids = l.a_ids; covers = l.a_covers }) (record { ids = l.b_ids; covers = l.b_covers }))
    × (l.start ≡ length (left_part (pos l.at.next) l.row))
