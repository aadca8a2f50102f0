-- The claims of specs/Bounds, cited. Assumes nothing.
use Rattle.laws.proofs.Prelude.{ℕ, ℤ}
use Rattle.cover_bounds_statements.proofs.Bounds as bounds
use Rattle.cover_bounds_statements.proofs.Cases as cases
use Rattle.cover_bounds_statements.proofs.Intervals as intervals
use Rattle.claims.specs.Bounds.{IntervalWeights, Intervals, CoverBounds}

weights : {a b : ℤ} {n n' e e' : ℕ} → cases.Weights a b n n' e e' → IntervalWeights a b n n' e e'
weights w =
    record {
      least_non_zero = w.least_non_zero;
      greatest_non_zero = w.greatest_non_zero;
      least_even_odd = w.least_even_odd;
      greatest_even_odd = w.greatest_even_odd;
    }

worked : Intervals
worked =
    record {
      around_512 = weights cases.around_512;
      around_minus_512 = weights cases.around_minus_512;
      around_1536 = weights cases.around_1536;
      around_0 = weights cases.around_0;
      around_1024 = weights cases.around_1024;
      short_of_both = weights cases.short_of_both;
      short_of_512 = weights cases.short_of_512;
      downward = weights cases.downward;
      one_number = weights cases.one_number;
    }

pub cover_bounds : CoverBounds
cover_bounds =
    record {
      intervals = worked;
      within = λ ws layout n part lows highs low high hl hh.
          record {
            lower = λ cover carry b k c y l. bounds.lower ws layout n part lows highs low high hl hh cover carry b k c y l;
            higher = λ cover carry b k c y l. bounds.higher ws layout n part lows highs low high hl hh cover carry b k c y l;
            sound = λ cover carry b k c y l. bounds.sound ws layout n part lows highs low high hl hh cover carry b k c y l;
            exact_area = λ e f c y l. bounds.exact_area ws layout n part lows highs low high hl hh e f c y l;
            reached_lowest = λ o k c y. bounds.reached_lowest ws layout n part lows highs low high hl hh o k c y;
            reached_highest = λ o k c y. bounds.reached_highest ws layout n part lows highs low high hl hh o k c y;
            narrower = λ l' h' cl' ch' bl bh o kl kh ko c y l. bounds.narrower ws layout n part lows highs low high hl hh l' h' cl' ch' bl bh o kl kh ko c y l;
          };
      light_within = λ ws layout n part lows highs low high hl hh e.
          record {
            light = bounds.light_within ws layout n part lows highs low high hl hh e;
            small = bounds.small_within ws layout n part lows highs low high hl hh e;
          };
      least_is = intervals.least_is;
      greatest_is = intervals.greatest_is;
    }
