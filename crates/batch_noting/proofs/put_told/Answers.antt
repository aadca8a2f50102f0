-- `put_told` meets its contract. Assumes nothing.
use Rattle.laws.proofs.Prelude.{rules}
use Rattle.batch_noting.proofs.put_told.Goals as goal

pub overflow_mul-i : goal.overflow_mul-i
overflow_mul-i c = search rules

pub code_of-requires : goal.code_of-requires
code_of-requires c = search rules

pub before_of-requires : goal.before_of-requires
before_of-requires c = search rules

pub put_six-requires : goal.put_six-requires
put_six-requires c = search rules

pub shape_of-told : goal.shape_of-told
shape_of-told c = search rules

pub returns : goal.returns
returns c = rw (c.before_of.ensures, c.code_of.ensures) at c.put_six.ensures
