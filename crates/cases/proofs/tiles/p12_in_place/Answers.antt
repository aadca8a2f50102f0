-- P12's bytes by the update of a tile that is lent, from the contracts. Assumes nothing.
use Rattle.laws.proofs.Prelude.{rules}
use Rattle.cases.proofs.tiles.p12_in_place.Goals as goal

pub returns : goal.returns
returns c =
    rw (
      c.color_in_place-second.ensures.previous,
      c.color_in_place-first.ensures.previous,
      c.color_in_place-first.ensures.tile,
      c.nothing_kept-tile.ensures,
    )
