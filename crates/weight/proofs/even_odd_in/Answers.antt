-- `weight::even_odd_in` meets its contract. Assumes nothing.
use Rattle.std.specs.Prelude.{◌≡◌, ◌<◌}
use Rattle.laws.proofs.Prelude.{ap, ◌∙◌, List, ℕ, arith, lit<, get_or, to_z-of_z, remainder, modℤ}
use Rattle.weight_table.proofs.Table.{curve_at}
use Rattle.weight_table.specs.Rest.{rest_weight}
use Rattle.weight.proofs.even_odd_in.Goals as goal
use Rattle.weight.proofs.even_odd_in.Goals.{After-rest_of_area}

rest_is : (c : After-rest_of_area) → c.rest_of_area.result ≡ modℤ 1024 c.args.d
rest_is c = rw (to_z-of_z c.ranges.d) at c.rest_of_area.ensures

low : (c : After-rest_of_area) → c.rest_of_area.result < 1024
low c = omega (arith, rest_is c, (remainder 1024 c.args.d (lit< tt)).low)

pub offset_bounds-weights-rest_of_area : goal.offset_bounds-weights-rest_of_area
offset_bounds-weights-rest_of_area c = omega (arith, low c)

pub bounds-weights-rest_of_area : goal.bounds-weights-rest_of_area
bounds-weights-rest_of_area c = low (goal.at.bounds-weights-rest_of_area c).After-rest_of_area

pub returns : goal.returns
returns c =
    ap (λ (l : List ℕ). get_or l c.rest_of_area.result 0) c.requires
    ∙ curve_at c.rest_of_area.result (low (goal.at.returns c).After-rest_of_area)
    ∙ ap rest_weight (rest_is (goal.at.returns c).After-rest_of_area)
