-- `search::search_last_by_layer_id_at_least_in` meets its contract. Assumes nothing.
use Rattle.laws.proofs.Prelude.{arith}
use Rattle.pixel_segment.proofs.Widths.{readable}
use Rattle.segment_rows.proofs.search.search_last_by_layer_id_at_least_in.Goals as goal

pub search_at_least-requires : goal.search_at_least-requires
search_at_least-requires c =
    let h = readable c.args.layout 2 c.shift-offset.ensures c.size.ensures in
    (h.0, h.1, omega (arith, h.2))

pub returns : goal.returns
returns c = rw (c.search_at_least.ensures, c.size.ensures, c.shift-offset.ensures)
