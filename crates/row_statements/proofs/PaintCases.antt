-- The cases of specs/PaintEdges, computed. Assumes nothing.
use Rattle.laws.proofs.Prelude.{refl}
use Rattle.pixel_segment.specs.Field.{cover_of, tile_of}
use Rattle.segment_rows.specs.Rows.{ascends_from}
use Rattle.segment_rows.specs.Search.{halved, search_of, tile_part, layer_part}
use Rattle.styling.specs.Ascending.{strictly_ascends_from}
use Rattle.layer_table.specs.Lookup.{lookup}
use Rattle.layer_table.specs.Table.{is_table_short, is_valid, is_table, layer_at, table_of}
use Rattle.cover_statements.specs.Carry.{is_light}
use Rattle.cover_statements.specs.Entry.{cover_entry}
use Rattle.queue_statements.specs.Queue.{is_queue, queue_of, held_in}
use Rattle.row_statements.specs.Painting.{call_verdict}
use Rattle.row_statements.specs.PaintEdges.{PaintEdges}

pub paint_edges : PaintEdges
unfolding ascends_from call_verdict cover_entry cover_of halved held_in is_light is_queue is_table is_table_short is_valid layer_at layer_part lookup queue_of search_of strictly_ascends_from table_of tile_of tile_part
paint_edges =
    record {
      room_passes = refl;
      room_lacks = refl;
      before_work = refl;
      next_tile = refl;
      equal_ids = refl;
      not_in_table = refl;
      too_large = refl;
      large = refl;
    }
