-- `kept_by` meets its contract. Assumes nothing.
use Rattle.layer_workbench.proofs.kept_by.Goals as goal

pub returns-in-Paint : goal.returns-in-Paint
returns-in-Paint c = rw c.in-Paint.is c.clear_solid_color.ensures
