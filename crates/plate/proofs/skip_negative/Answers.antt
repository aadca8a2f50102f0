-- `skip_negative` meets its contract. Assumes nothing.
use Rattle.std.specs.Prelude.{◌-◌, ◌≤◌}
use Rattle.laws.proofs.Prelude.{ap, ◌∙◌, ℕ, arith, length, drop, length-drop, take_all}
use Rattle.plate.specs.Rows.{not_negative}
use Rattle.plate.proofs.Finding.{start_le}
use Rattle.plate.proofs.skip_negative.Goals as goal
use Rattle.plate.proofs.skip_negative.Goals.{After-find_not_negative-start}

-- the first segment that is kept stands inside
inside : (c : After-find_not_negative-start) → c.find_not_negative-start.result ≤ length c.args.segments.now
inside c = rw c.find_not_negative-start.ensures (start_le c.args.segments.now)

pub offset_bounds-segments-start : goal.offset_bounds-segments-start
offset_bounds-segments-start c = omega (arith, inside c)

pub slice_bounds-result-count : goal.slice_bounds-result-count
slice_bounds-result-count c = omega (arith, inside c)

pub slice_bounds-result-start : goal.slice_bounds-result-start
slice_bounds-result-start c = omega (arith, inside c)

pub returns : goal.returns
unfolding not_negative
returns c =
    let l = c.args.segments.now in
    let start = c.find_not_negative-start.result in
    take_all (length l - start) (drop start l) (omega (arith, length-drop start l)) ∙ ap (λ (n : ℕ). drop n l) c.find_not_negative-start.ensures
