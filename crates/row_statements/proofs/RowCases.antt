-- The cases of specs/Edges, computed. Assumes nothing.
use Rattle.laws.proofs.Prelude.{refl}
use Rattle.pixel_segment.specs.Field.{cover_of}
use Rattle.segment_rows.specs.Rows.{ascends_from}
use Rattle.styling.specs.Ascending.{strictly_ascends_from}
use Rattle.layer_table.specs.Lookup.{lookup}
use Rattle.layer_table.specs.Table.{is_table_short, is_valid, is_table, layer_at, table_of}
use Rattle.cover_statements.specs.Carry.{is_light}
use Rattle.queue_statements.specs.Queue.{is_queue}
use Rattle.row_statements.specs.Opening.{open_verdict}
use Rattle.row_statements.specs.TileWork.{args_verdict, list_verdict}
use Rattle.row_statements.specs.Edges.{RowEdges}

pub row_edges : RowEdges
unfolding args_verdict ascends_from cover_of is_light is_queue is_table is_table_short is_valid layer_at list_verdict lookup open_verdict strictly_ascends_from table_of
row_edges =
    record {
      queue_passes = refl;
      queue_lacks = refl;
      words_lack = refl;
      numbers_lack = refl;
      ends_pass = refl;
      row_past = refl;
      from_below = refl;
      to_past = refl;
      from_past = refl;
      ascending = refl;
      descending = refl;
      other_row = refl;
      mode_passes = refl;
      mode_past = refl;
      ids_pass = refl;
      ids_equal = refl;
      row_first = refl;
      next_passes = refl;
      skips_one = refl;
      last_passes = refl;
      none_follows = refl;
      list_passes = refl;
      list_lacks = refl;
      covers_lack = refl;
      flags_lack = refl;
      queue_full = refl;
      queue_past = refl;
      equal_ids = refl;
      tag_past = refl;
      whole_row = refl;
      layers_past = refl;
      layers_pass = refl;
      missing = refl;
      too_large = refl;
      large = refl;
    }
