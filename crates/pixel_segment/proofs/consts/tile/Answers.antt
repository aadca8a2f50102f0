-- `consts::tile` meets its contract. Assumes nothing.
use Rattle.std.specs.Prelude.{◌^◌, ◌<◌}
use Rattle.laws.proofs.Prelude.{◌∙◌, arith, w16, to_z_pos, to_z-of_z}
use Rattle.pixel_segment.specs.Field.{widths_of, index_of, tile_of}
use Rattle.pixel_segment.proofs.Widths.{tile_fits, field_lt}
use Rattle.pixel_segment.proofs.consts.tile.Goals as goal
use Rattle.pixel_segment.proofs.consts.tile.Goals.{After-extract}

small : (c : After-extract) → c.extract.result < 2 ^ 14
small c =
    rw c.extract.ensures (field_lt (widths_of c.args.layout) (index_of c.args.field) c.args.word c.requires)

pub overflow_cast-result : goal.overflow_cast-result
overflow_cast-result c = omega (arith, small c)

pub overflow_sub-result : goal.overflow_sub-result
unfolding tile_of
overflow_sub-result c = rw (to_z_pos w16 {n = c.extract.result} (omega (arith, small c))) (tile_fits c.extract.result (small c))

pub returns : goal.returns
unfolding tile_of
returns c = to_z-of_z (overflow_sub-result c) ∙ rw (to_z_pos w16 {n = c.extract.result} (omega (arith, small c)), c.extract.ensures)
