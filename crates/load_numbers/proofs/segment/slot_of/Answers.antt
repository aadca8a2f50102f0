-- `slot_of` meets its contract: the product fits its width. Assumes nothing.
use Rattle.std.specs.Prelude.{◌*◌}
use Rattle.laws.proofs.Prelude.{mul-le-mul, arith, rules}
use Rattle.load_statements.specs.Load.{slot_of}
use Rattle.load_numbers.proofs.segment.slot_of.Goals as goal

pub overflow_mul-result-2 : goal.overflow_mul-result-2
overflow_mul-result-2 c = let p = mul-le-mul {n₁ = c.args.k * 8} {m₁ = c.args.tiles} {n₂ = 4088} {m₂ = 4095} (omega arith) (omega arith) in omega arith

pub returns : goal.returns
unfolding slot_of
returns c = search rules
