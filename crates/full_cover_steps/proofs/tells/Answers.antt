-- `full_cover_steps::tells` meets its contract. Assumes nothing.
use Rattle.pass_statements.proofs.Looks.{tells_partial, tells_opaque, tells_nothing}
use Rattle.full_cover_steps.proofs.tells.Goals as goal

pub returns-then-is_partial : goal.returns-then-is_partial
returns-then-is_partial c = let a = c.args in tells_partial a.x a.unclipped c.is_partial.ensures c.if-is_partial.true

pub returns-then-is_opaque : goal.returns-then-is_opaque
returns-then-is_opaque c =
    let a = c.args in
    tells_opaque a.x a.unclipped c.solid_color.result c.is_partial.ensures c.if-is_partial.false c.is_opaque.ensures c.if-is_opaque.true
    c.solid_color.ensures
    c.to_opaque.ensures

pub returns-else-is_opaque : goal.returns-else-is_opaque
returns-else-is_opaque c =
    let a = c.args in
    tells_nothing a.x a.unclipped c.is_partial.ensures c.if-is_partial.false c.is_opaque.ensures c.if-is_opaque.false
