-- `judge_layer` meets its contract. Assumes nothing.
use Rattle.layer_table.proofs.Looking.{at_place, at_none}
use Rattle.row_painting.proofs.judge_layer.Goals as goal

pub returns-in-None : goal.returns-in-None
returns-in-None c =
    rw (at_none {floats = c.args.colors.now} c.in-None.is c.find.ensures).looked

pub returns-then-is_light : goal.returns-then-is_light
returns-then-is_light c =
    let found = at_place {floats = c.args.colors.now} c.in-Some.is c.find.ensures c.requires.0.ascending in
    let light = rw (c.incoming.ensures, c.of_layer-own.ensures) at c.is_light.ensures in
    rw (found.looked, ← light, c.if-is_light.true)

pub returns-else-is_light : goal.returns-else-is_light
returns-else-is_light c =
    let found = at_place {floats = c.args.colors.now} c.in-Some.is c.find.ensures c.requires.0.ascending in
    let light = rw (c.incoming.ensures, c.of_layer-own.ensures) at c.is_light.ensures in
    rw (found.looked, ← light, c.if-is_light.false)
