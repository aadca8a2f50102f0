-- `search::search_last_by_tile_x_in` meets its contract. Assumes nothing.
use Rattle.laws.proofs.Prelude.{ap, fun_ext, ℕ, to_z-of_z}
use Rattle.pixel_segment.specs.Field.{widths_of, tile_x_of}
use Rattle.segment_rows.specs.Search.{search_of}
use Rattle.segment_rows.proofs.Above.{tile_rank}
use Rattle.pixel_segment.proofs.Widths.{readable}
use Rattle.segment_rows.proofs.search.search_last_by_tile_x_in.Goals as goal

pub search_number-requires : goal.search_number-requires
search_number-requires c = readable c.args.layout 1 c.shift-offset.ensures c.size.ensures

pub returns : goal.returns
returns c =
    rw (
      c.search_number.ensures,
      c.above_tile.ensures,
      c.size.ensures,
      c.shift-offset.ensures,
      to_z-of_z c.ranges.tile_x,
    )
    (ap (λ (at : ℕ → ℕ). search_of at c.args.segments.now) (fun_ext (λ w. tile_rank c.args.tile_x (tile_x_of (widths_of c.args.layout) w))))
