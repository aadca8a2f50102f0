-- `search::above_tile` meets its contract. Assumes nothing.
use Rattle.std.specs.Prelude.{◌+ℤ◌}
use Rattle.laws.proofs.Prelude.{arith, pos, w16, w32, to_z-of_z, SFits, added, within, sfits}
use Rattle.segment_rows.proofs.Above.{wider}
use Rattle.segment_rows.proofs.search.above_tile.Goals as goal
use Rattle.segment_rows.proofs.search.above_tile.Goals.{Start}

next : (c : Start) → SFits w32 (c.args.tile +ℤ pos 1)
next c =
    let h = within w16 c.args.tile c.ranges.tile in
    let z = added c.args.tile (pos 1) in
    sfits w32 (c.args.tile +ℤ pos 1) (record { above = omega arith; below = omega arith })

pub overflow_cast-tile : goal.overflow_cast-tile
overflow_cast-tile c = rw (to_z-of_z c.ranges.tile) (wider _ c.ranges.tile)

pub overflow_add-tile : goal.overflow_add-tile
overflow_add-tile c = rw (to_z-of_z c.ranges.tile, to_z-of_z (wider _ c.ranges.tile)) (next c)

pub returns : goal.returns
returns c = rw (c.stored.ensures, to_z-of_z c.ranges.tile, to_z-of_z (wider _ c.ranges.tile), to_z-of_z (next (goal.at.returns c).Start))
