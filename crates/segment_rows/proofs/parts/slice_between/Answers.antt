-- `parts::slice_between` meets its contract. Assumes nothing.
use Rattle.std.specs.Prelude.{◌≡◌, ◌-◌}
use Rattle.laws.proofs.Prelude.{ap, ℕ, arith, take, drop}
use Rattle.segment_rows.proofs.parts.slice_between.Goals as goal

pub returns-else-start-end : goal.returns-else-start-end
returns-else-start-end c =
    let s = c.args in
    let e : 0 ≡ s.end - s.start = omega arith in
    ap (λ (n : ℕ). take n (drop s.start s.segments.now)) e
