-- The claims of specs/Layers, cited. Assumes nothing.
use Rattle.styling.proofs.Cases as cases
use Rattle.layer_table.proofs.Ranges as ranges
use Rattle.layer_table.proofs.Looking as looking
use Rattle.claims.specs.Layers.{LayerRecords}

pub layer_records : LayerRecords
layer_records =
    record {
      nan_red = cases.nan_red;
      nan_green = cases.nan_green;
      nan_blue = cases.nan_blue;
      nan_alpha = cases.nan_alpha;
      zeros_agree = cases.zeros_agree;
      one_is = cases.one_is;
      opaque_words = ranges.opaque_words;
      at_place = looking.at_place;
      at_none = looking.at_none;
    }
