-- `painting::paint` meets its contract. Assumes nothing.
use Rattle.painter.proofs.Lasting.{last_small}
use Rattle.painter.proofs.painting.paint.Goals as goal

pub paint_own-requires : goal.paint_own-requires
paint_own-requires c =
    (rw (c.incoming-cover.ensures, c.of_layer-own.ensures) c.requires.2, c.requires.0.room, last_small c.requires.0.table c.args.id c.args.layer c.requires.1)
