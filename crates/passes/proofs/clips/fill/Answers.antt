-- `passes::clips::fill` meets its contract. Assumes nothing.
use Rattle.std.specs.Prelude.{◌≡◌}
use Rattle.laws.proofs.Prelude.{length, take, length-take-le, length-replicate}
use Rattle.laws.specs.Lists.{over}
use Rattle.passes.proofs.clips.fill.Goals as goal

pub returns : goal.returns
unfolding over
returns c =
    let long : length (take c.args.n c.args.column.now) ≡ c.args.n = length-take-le c.args.n c.args.column.now c.requires in
    let filled = rw long at (c.fill.ensures.after (λ y e. e)) in
    rw (filled, length-replicate)
