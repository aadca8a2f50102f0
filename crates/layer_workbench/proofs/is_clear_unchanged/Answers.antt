-- `is_clear_unchanged` meets its contract. Assumes nothing.
use Rattle.layer_workbench.proofs.is_clear_unchanged.Goals as goal

pub returns-in-Some : goal.returns-in-Some
returns-in-Some c = rw c.in-Some.is c.eq.ensures
