-- `is_in_crop` meets its contract. Assumes nothing.
use Rattle.plate.proofs.is_in_crop.Goals as goal

pub returns-in-Some : goal.returns-in-Some
returns-in-Some c = rw c.in-Some.is
