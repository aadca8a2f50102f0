-- The cases of specs/Edges, computed. Assumes nothing.
use Rattle.laws.proofs.Prelude.{refl, eq, of_bits}
use Rattle.styling.specs.Ascending.{strictly_ascends_from}
use Rattle.layer_table.specs.Table.{is_table_short, is_valid, is_table, layer_at}
use Rattle.layer_table.specs.Edges.{TableEdges}

pub table_edges : TableEdges
unfolding eq is_table is_table_short is_valid layer_at of_bits strictly_ascends_from
table_edges =
    record {
      equal_ids = refl;
      ascending_ids = refl;
      mode_15 = refl;
      mode_16 = refl;
      id_at_the_limit = refl;
      id_past_the_limit = refl;
      short = refl;
      short_of_floats = refl;
      opaque_draw = refl;
      multiplied_draw = refl;
    }
