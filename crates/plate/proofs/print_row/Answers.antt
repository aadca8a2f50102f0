-- `print_row` meets its contract: a case for each answer of the crop. Assumes nothing.
use Rattle.laws.proofs.Prelude.{ap, sym, ◌∙◌}
use Rattle.plate.specs.declared.Part.{Part}
use Rattle.plate.specs.Print.{row}
use Rattle.plate.proofs.print_row.Goals as goal

pub returns-then-is_in_crop : goal.returns-then-is_in_crop
returns-then-is_in_crop c = rw (sym c.is_in_crop.ensures ∙ c.if-is_in_crop.true) (ap (λ (p : Part). row p.start p.end) c.find_row.ensures)

pub returns-else-is_in_crop : goal.returns-else-is_in_crop
returns-else-is_in_crop c = rw (sym c.is_in_crop.ensures ∙ c.if-is_in_crop.false)
