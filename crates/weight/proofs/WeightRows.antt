-- A row of weights that stand by columns of a tile n high: its numbers, that they are weights, and its coverages. Assumes nothing.
use Rattle.std.specs.Prelude.{◌≡◌, ◌+◌, ◌*◌, ◌≤◌, ◌<◌}
use Rattle.laws.proofs.Prelude.{sym, ap, ◌∙◌, List, ℕ, arith, digits_lt, nan, ℤ, pos, length, get_or, length-map}
use Rattle.laws.proofs.Prelude.{length_tabulate, get_d_tabulate, is_tabulate, tabulate}
use Rattle.cover_statements.specs.Cover.{cover_at}
use Rattle.cover_statements.specs.InnerWeighed.{Weighed, coverage_in, coverages_in, weights_row}
use Rattle.cover_statements.proofs.Weighings.{map_lt}

module _ {weights row : List ℤ} {n y : ℕ} (c : Weighed weights) (room : 16 * n ≤ length weights) (low : y < n) (e : row ≡ tabulate 16 (λ x. cover_at weights (x * n + y))) where
  pub long : length row ≡ 16
  long = ap length e ∙ length_tabulate 16 (λ x. cover_at weights (x * n + y))

  at : (x : ℕ) → x < 16 → cover_at row x ≡ cover_at weights (x * n + y)
  at x p = ap (λ (l : List ℤ). cover_at l x) e ∙ get_d_tabulate 16 (λ i. cover_at weights (i * n + y)) (pos 0) x p

  inside : (x : ℕ) → x < 16 → x * n + y < length weights
  inside x p = omega (arith, digits_lt p low, room)

  pub row_weighed : Weighed row
  row_weighed =
      record {
        low = λ x h. let p : x < 16 = omega (arith, long) in rw (at x p) (c.low (x * n + y) (inside x p));
        high = λ x h. let p : x < 16 = omega (arith, long) in rw (at x p) (c.high (x * n + y) (inside x p));
      }

  pub row_coverages : coverages_in row ≡ weights_row n weights y
  row_coverages =
      is_tabulate 16 (λ x. get_or (coverages_in weights) (x * n + y) nan) nan (coverages_in row) (length-map row coverage_in ∙ long)
      (λ x p.
      map_lt coverage_in row x nan (pos 0) (omega (arith, long))
      ∙ ap coverage_in (at x p)
      ∙ sym (map_lt coverage_in weights (x * n + y) nan (pos 0) (inside x p)))
