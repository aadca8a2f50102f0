-- `draw` meets its contract. Assumes nothing.
use Rattle.laws.proofs.Prelude.{rules}
use Rattle.load_statements.specs.Draw.{next}
use Rattle.load_numbers.proofs.draw.Generator.draw.Goals as goal

pub returns : goal.returns
unfolding next
returns c = search rules
