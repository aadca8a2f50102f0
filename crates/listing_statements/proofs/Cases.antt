-- The cases of specs/Edges, computed. Assumes nothing.
use Rattle.laws.proofs.Prelude.{refl}
use Rattle.styling.specs.Ascending.{strictly_ascends_from}
use Rattle.layer_table.specs.Lookup.{lookup}
use Rattle.layer_table.specs.Table.{is_table_short, is_valid, is_table, layer_at, table_of}
use Rattle.listing_statements.specs.Deciding.{lines_for}
use Rattle.listing_statements.specs.Edges.{DecidingEdges}

pub deciding_edges : DecidingEdges
unfolding is_table is_table_short is_valid layer_at lines_for lookup strictly_ascends_from table_of
deciding_edges =
    record {
      passes = refl;
      short_ids = refl;
      short_masks = refl;
      five_before_eight = refl;
      five_before_seven = refl;
      six_before_seven = refl;
      seven_past = refl;
      seven_beyond = refl;
      seven_passes = refl;
      eight = refl;
    }
