-- `put_kept` meets its contract. Assumes nothing.
use Rattle.laws.proofs.Prelude.{arith, rules}
use Rattle.batch_noting.proofs.put_kept.Goals as goal

pub overflow_mul-i : goal.overflow_mul-i
overflow_mul-i c = let h = c.requires c.if-keeps.true in omega (arith, h)

pub to_bytes-requires : goal.to_bytes-requires
to_bytes-requires c = search rules

pub put_bytes-requires : goal.put_bytes-requires
put_bytes-requires c = let h = c.requires c.if-keeps.true in omega (arith, h)

pub shape_of-kept : goal.shape_of-kept
shape_of-kept c = search rules

pub returns-then-keeps : goal.returns-then-keeps
returns-then-keeps c = rw c.if-keeps.true (rw c.to_bytes.ensures at c.put_bytes.ensures)

pub returns-else-keeps : goal.returns-else-keeps
returns-else-keeps c = rw c.if-keeps.false
