-- `drive_row` meets its contract: the opening and what it leaves are laws of `Opening`. Assumes nothing.
use Rattle.std.specs.Prelude.{◌≡◌}
use Rattle.laws.proofs.Prelude.{rules, to_z-of_z}
use Rattle.row_statements.specs.Lent.{lent_table}
use Rattle.row_statements.specs.Opening.{OpenCall, open_call}
use Rattle.row_lines.specs.Driven.{due_tiles}
use Rattle.row_driver.proofs.Opening.{not_opened, opens, driven}
use Rattle.row_driver.proofs.drive_row.Goals as goal
use Rattle.row_driver.proofs.drive_row.Goals.{After-due_tiles-n, Start}

-- what the opening is called with
called : Start → OpenCall
called s = let a = s.args in open_call a.tile_y a.from a.to a.row.now (lent_table a.layers.now a.colors.now a.count)

-- how many tiles are due
due-is : (c : After-due_tiles-n) → c.due_tiles-n.result ≡ due_tiles c.args.from c.args.to c.args.tiles
due-is c = rw (to_z-of_z c.ranges.from, to_z-of_z c.ranges.to, to_z-of_z c.ranges.tiles) at c.due_tiles-n.ensures

pub drive_open-requires : goal.drive_open-requires
unfolding called
drive_open-requires c =
    let g = rw (to_z-of_z c.ranges.tile_y, to_z-of_z c.ranges.from, to_z-of_z c.ranges.to, c.in-Ok.is) at c.open_tile_row.ensures in
    rw (due-is (goal.at.drive_open-requires c).After-due_tiles-n) (opens (called (goal.at.drive_open-requires c).Start) c.args.tiles c.args.lines.now (record { small = λ i. (c.type_inv.row i).fits }) g (search rules))

pub returns-in-Err : goal.returns-in-Err
unfolding called
returns-in-Err c =
    let g = rw (to_z-of_z c.ranges.tile_y, to_z-of_z c.ranges.from, to_z-of_z c.ranges.to, c.in-Err.is) at c.open_tile_row.ensures in
    not_opened (called (goal.at.returns-in-Err c).Start) c.args.tiles c.args.lines.now g

pub returns-in-Ok : goal.returns-in-Ok
unfolding called
returns-in-Ok c =
    let g = rw (to_z-of_z c.ranges.tile_y, to_z-of_z c.ranges.from, to_z-of_z c.ranges.to, c.in-Ok.is) at c.open_tile_row.ensures in
    driven (called (goal.at.returns-in-Ok c).Start) c.args.tiles c.args.lines.now (record { small = λ i. (c.type_inv.row i).fits }) g (rw (due-is (goal.at.returns-in-Ok c).After-due_tiles-n) at c.drive_open.ensures)
