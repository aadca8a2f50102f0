-- `carry::carry` meets its contract. Assumes nothing.
use Rattle.laws.proofs.Prelude.{sym, ◌∙◌}
use Rattle.cover_gpu.proofs.carry.carry.Goals as goal

pub add_segments-sum-requires : goal.add_segments-sum-requires
add_segments-sum-requires c = sym c.is_light.ensures ∙ c.if-is_light.true

pub returns-then-is_light : goal.returns-then-is_light
returns-then-is_light c =
    let e = sym c.is_light.ensures ∙ c.if-is_light.true in
    record { answer = rw (e, c.add_segments-sum.ensures); covers_are = rw (e, c.add_segments-sum.ensures) }

pub returns-else-is_light : goal.returns-else-is_light
returns-else-is_light c =
    let e = sym c.is_light.ensures ∙ c.if-is_light.false in
    record { answer = rw e; covers_are = rw e }
