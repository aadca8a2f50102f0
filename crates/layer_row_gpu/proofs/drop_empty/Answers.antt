-- `drop_empty` meets its contract. Assumes nothing.
use Rattle.laws.proofs.Prelude.{sym, ◌∙◌}
use Rattle.layer_row_gpu.proofs.drop_empty.Goals as goal

pub returns-then-is_empty : goal.returns-then-is_empty
returns-then-is_empty c = rw (sym c.is_empty.ensures ∙ c.if-is_empty.true) c.default.ensures

pub returns-else-is_empty : goal.returns-else-is_empty
returns-else-is_empty c = rw (sym c.is_empty.ensures ∙ c.if-is_empty.false)
