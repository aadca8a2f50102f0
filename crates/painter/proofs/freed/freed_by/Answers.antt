-- `freed::freed_by` meets its contract. Assumes nothing.
use Rattle.laws.proofs.Prelude.{arith}
use Rattle.layer_table.proofs.Looking.{at_place, at_none}
use Rattle.painter.proofs.freed.freed_by.Goals as goal

pub layer_at-layer-requires : goal.layer_at-layer-requires
layer_at-layer-requires c =
    let found = at_place {floats = c.args.colors.now} c.in-Some.is c.find.ensures c.requires.ascending in
    omega (arith, found.within, c.requires.words_long, c.requires.floats_long)

pub returns-in-Some : goal.returns-in-Some
returns-in-Some c =
    let found = at_place {floats = c.args.colors.now} c.in-Some.is c.find.ensures c.requires.ascending in
    rw (found.looked, c.freed_after.ensures, c.layer_at-layer.ensures)

pub returns-in-None : goal.returns-in-None
returns-in-None c =
    rw (at_none {floats = c.args.colors.now} c.in-None.is c.find.ensures).looked
