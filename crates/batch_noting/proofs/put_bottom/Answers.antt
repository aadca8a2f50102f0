-- `put_bottom` meets its contract. Assumes nothing.
use Rattle.laws.proofs.Prelude.{rules}
use Rattle.batch_noting.proofs.put_bottom.Goals as goal

pub enum_known-decision : goal.enum_known-decision
enum_known-decision c = search rules

pub overflow_mul-i : goal.overflow_mul-i
overflow_mul-i c = search rules

pub put_four-requires : goal.put_four-requires
put_four-requires c = search rules

pub returns-in-None : goal.returns-in-None
returns-in-None c = search rules

pub shape_of-bottoms : goal.shape_of-bottoms
shape_of-bottoms c = search rules

pub returns-in-Solid : goal.returns-in-Solid
returns-in-Solid c = rw c.in-Solid.is c.put_four.ensures

pub returns-in-Paint : goal.returns-in-Paint
returns-in-Paint c = search rules
