-- `room_in` meets its contract. Assumes nothing.
use Rattle.laws.proofs.Prelude.{rules}
use Rattle.batch_steps.proofs.room_in.Goals as goal

pub tiles_in-requires : goal.tiles_in-requires
tiles_in-requires c = search rules

pub least-requires : goal.least-requires
least-requires c = search rules

pub least-requires-2 : goal.least-requires-2
least-requires-2 c = search rules

pub returns : goal.returns
returns c = rw (c.tiles_in.ensures, c.least.ensures, c.least-2.ensures)
