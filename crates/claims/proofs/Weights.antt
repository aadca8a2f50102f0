-- The claims of specs/Weights, cited. Assumes nothing.
use Rattle.cover_statements.proofs.Areas as areas
use Rattle.cover_statements.proofs.Weights as weights
use Rattle.cover_statements.proofs.Coverages as coverages
use Rattle.curve_text.proofs.Weights as curveWeights
use Rattle.claims.specs.Weights.{Weights}

pub weights_hold : Weights
weights_hold =
    record {
      area_bound = areas.area_bound;
      even_odd_shift = weights.even_odd_shift;
      weight_agree = weights.weight_agree;
      winding_weight = weights.winding_weight;
      winding_full = weights.winding_full;
      full_weight = weights.full_weight;
      weight_full = weights.weight_full;
      coverage_value = coverages.coverage_value;
      coverage_fits = coverages.coverage_fits;
      coverage_product = coverages.coverage_product;
      coverage_above = coverages.coverage_above;
      curve_of_d = curveWeights.curve_of_d;
      at_512 = curveWeights.at_512;
      greatest = curveWeights.greatest;
    }
