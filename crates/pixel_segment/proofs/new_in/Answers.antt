-- `new_in` meets its contract: its arguments, widened, are those of `pack_in`. Assumes nothing.
use Rattle.laws.proofs.Prelude.{arith, w64, SFits, to_z-of_z, to_z_pos, sfits_widen}
use Rattle.pixel_segment.proofs.new_in.Goals as goal

pub overflow_cast-tile_x : goal.overflow_cast-tile_x
overflow_cast-tile_x c = rw (to_z-of_z c.ranges.tile_x) (sfits_widen tt c.ranges.tile_x)

pub overflow_cast-tile_y : goal.overflow_cast-tile_y
overflow_cast-tile_y c = rw (to_z-of_z c.ranges.tile_y) (sfits_widen tt c.ranges.tile_y)

pub overflow_cast-cover : goal.overflow_cast-cover
overflow_cast-cover c = rw (to_z-of_z c.ranges.cover) (sfits_widen tt c.ranges.cover)

pub returns : goal.returns
returns c =
    let a = c.args in
    let f = c.ranges in
    let x : SFits w64 a.tile_x = sfits_widen tt f.tile_x in
    let y : SFits w64 a.tile_y = sfits_widen tt f.tile_y in
    let cover : SFits w64 a.cover = sfits_widen tt f.cover in
    rw (
      to_z_pos w64 {n = a.layer_id} (omega arith),
      to_z_pos w64 {n = a.local_x} (omega arith),
      to_z_pos w64 {n = a.local_y} (omega arith),
      to_z_pos w64 {n = a.double_area_multiplier} (omega arith),
      to_z-of_z f.tile_x,
      to_z-of_z f.tile_y,
      to_z-of_z f.cover,
      to_z-of_z x,
      to_z-of_z y,
      to_z-of_z cover,
    ) at c.pack_in.ensures
