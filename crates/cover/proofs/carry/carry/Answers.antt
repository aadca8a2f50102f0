-- `cover::carry::carry` meets its contract. Assumes nothing.
use Rattle.std.specs.Prelude.{◌≡◌}
use Rattle.laws.proofs.Prelude.{sym, ap, ◌∙◌, rules, length}
use Rattle.pixel_segment.specs.Field.{cpu}
use Rattle.cover_statements.specs.InnerLoad.{all_light}
use Rattle.cover_statements.proofs.Loads.{incoming_heavy}
use Rattle.cover.proofs.carry.carry.Goals as goal

pub returns-then-not-are_light : goal.returns-then-not-are_light
returns-then-not-are_light c =
    let long : length c.args.cover.covers ≡ 16 = search rules in
    let e =
    incoming_heavy cpu 16 c.args.cover.covers c.args.part.now long
    (ap all_light (sym c.magnitudes-loads.ensures.same) ∙ sym c.are_light.ensures ∙ c.if-not-are_light.true) in
    record { answer = rw e; covers_are = rw e }

pub sum_judged-requires : goal.sum_judged-requires
sum_judged-requires c = (c.magnitudes-loads.ensures, sym c.are_light.ensures ∙ c.if-not-are_light.false)

pub returns : goal.returns
returns c = c.sum_judged.ensures
