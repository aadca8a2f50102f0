-- `search::search_last_by_tile_y_not_negative_in` meets its contract. Assumes nothing.
use Rattle.laws.proofs.Prelude.{ap, fun_ext, Bool, ℕ, arith, pos}
use Rattle.pixel_segment.specs.Field.{widths_of, tile_y_of}
use Rattle.pixel_segment.specs.Order.{compare_bool}
use Rattle.segment_rows.specs.Search.{search_of}
use Rattle.segment_rows.proofs.Above.{at_least_tile}
use Rattle.pixel_segment.proofs.Widths.{readable}
use Rattle.segment_rows.proofs.search.search_last_by_tile_y_not_negative_in.Goals as goal

pub search_at_least-requires : goal.search_at_least-requires
search_at_least-requires c =
    let h = readable c.args.layout 0 c.shift-offset.ensures c.size.ensures in
    (h.0, h.1, omega (arith, h.2))

pub returns : goal.returns
returns c =
    rw (c.search_at_least.ensures, c.stored.ensures, c.size.ensures, c.shift-offset.ensures)
    (ap (λ (at : ℕ → ℕ). search_of at c.args.segments.now)
    (fun_ext (λ w. ap (λ (b : Bool). compare_bool b c.args.wanted) (at_least_tile (pos 0) (tile_y_of (widths_of c.args.layout) w)))))
