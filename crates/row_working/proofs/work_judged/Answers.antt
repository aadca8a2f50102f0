-- `work_judged` meets its contract. Assumes nothing.
use Rattle.std.specs.Prelude.{◌≡◌}
use Rattle.laws.proofs.Prelude.{arith, w16, SFits, to_z-of_z, sfits, whole}
use Rattle.segment_rows.specs.Search.{tile_part}
use Rattle.row_working.proofs.PartLaws.{part_judged}
use Rattle.row_working.proofs.work_judged.Goals as goal
use Rattle.row_working.proofs.work_judged.Goals.{After-in_tile-part, Start}

-- the tile is a number of 16 signed bits
tile_fits : (s : Start) → SFits w16 s.args.tile
tile_fits s = let z = s.args.tile in sfits w16 z (omega (arith, s.requires.tile_natural, s.requires.tile_low, whole z))

-- the part that the search finds
part_is : (c : After-in_tile-part) → c.in_tile-part.result.now ≡ tile_part c.args.tile c.args.row.now
part_is c = rw (to_z-of_z c.ranges.tile, to_z-of_z (tile_fits c.before.before.before.before.before.before.before.before.before.before)) at c.in_tile-part.ensures

pub overflow_cast-tile : goal.overflow_cast-tile
overflow_cast-tile c = rw (to_z-of_z c.ranges.tile) (tile_fits (goal.at.overflow_cast-tile c).Start)

pub work_part-requires : goal.work_part-requires
work_part-requires c =
    part_judged c.args.state c.args.tile c.args.row.now _ c.args.kept c.args.clear c.args.previous _ _ (part_is (goal.at.work_part-requires c).After-in_tile-part) c.requires

pub returns : goal.returns
returns c =
    c.work_part.ensures.gives c.args.tile c.args.row.now (part_is (goal.at.returns c).After-in_tile-part)
