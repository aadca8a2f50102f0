-- `search::search_last_by_layer_id_in` meets its contract. Assumes nothing.
use Rattle.laws.proofs.Prelude.{ap, fun_ext, ℕ, arith}
use Rattle.pixel_segment.specs.Field.{widths_of, layer_id_of}
use Rattle.segment_rows.specs.Search.{search_of}
use Rattle.segment_rows.proofs.Above.{number_rank}
use Rattle.pixel_segment.proofs.Widths.{readable, layer_lt}
use Rattle.segment_rows.proofs.search.search_last_by_layer_id_in.Goals as goal

pub search_number-requires : goal.search_number-requires
search_number-requires c = readable c.args.layout 2 c.shift-offset.ensures c.size.ensures

pub returns : goal.returns
returns c =
    rw (c.search_number.ensures, c.above_layer_id.ensures, c.size.ensures, c.shift-offset.ensures)
    (ap (λ (at : ℕ → ℕ). search_of at c.args.segments.now)
    (fun_ext (λ w. number_rank (layer_id_of (widths_of c.args.layout) w) c.args.layer_id _ (omega (arith, layer_lt c.args.layout w)))))
