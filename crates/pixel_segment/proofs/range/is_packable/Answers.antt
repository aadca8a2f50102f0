-- `range::is_packable` meets its contract. Assumes nothing.
use Rattle.laws.proofs.Prelude.{w64, to_z-of_z, kept}
use Rattle.pixel_segment.specs.Pack.{is_packable}
use Rattle.pixel_segment.proofs.Widths.{cover_width}
use Rattle.pixel_segment.proofs.range.is_packable.Goals as goal

pub is_held-requires-7 : goal.is_held-requires-7
is_held-requires-7 c = rw (kept w64 c.lowest_cover.result c.lowest_cover.type_inv, c.lowest_cover.ensures)

pub returns : goal.returns
unfolding is_packable
returns c =
    rw (
      c.is_held.ensures,
      c.is_held-2.ensures,
      c.is_held-3.ensures,
      c.is_held-4.ensures,
      c.is_held-5.ensures,
      c.is_held-6.ensures,
      c.is_held-7.ensures,
      kept w64 c.lowest_cover.result c.lowest_cover.type_inv,
      c.lowest_cover.ensures,
      to_z-of_z c.ranges.layer_id,
      to_z-of_z c.ranges.tile_x,
      to_z-of_z c.ranges.tile_y,
      to_z-of_z c.ranges.local_x,
      to_z-of_z c.ranges.local_y,
      to_z-of_z c.ranges.double_area_multiplier,
      to_z-of_z c.ranges.cover,
      cover_width c.args.layout,
    )
