-- The claims of specs/Rows, cited. Assumes nothing.
use Rattle.segment_rows.proofs.Sorted as sorted
use Rattle.segment_rows.proofs.TileParts as tileParts
use Rattle.segment_rows.proofs.TileLayers as tileLayers
use Rattle.plate.proofs.Together as together
use Rattle.plate.proofs.Sorted as plateSorted
use Rattle.claims.specs.Rows.{RowsCut}

pub rows_cut : RowsCut
rows_cut =
    record {
      absent_only = sorted.absent_only;
      sorted_search = sorted.sorted_search;
      tile_part_in_lem = tileParts.tile_part_in_lem;
      left_part_in_lem = tileParts.left_part_in_lem;
      layer_part_in_lem = tileParts.layer_part_in_lem;
      layers_ordered_in = tileLayers.layers_ordered_in;
      rows_in_order = together.rows_in_order;
      sorted_rows = together.sorted_rows;
      row_part_lem = plateSorted.row_part_lem;
    }
