-- `kept_in_a_row` meets its contract: the theorems, cited. Assumes nothing.
use Rattle.kept_tiles.proofs.Tiles.{tiles_ruled, rule_stays, kept_opened}
use Rattle.claims.proofs.kept_in_a_row.Goals as goal

pub returns : goal.returns
returns c = (tiles_ruled, rule_stays, kept_opened)
