-- `read_prefix` meets its contract: the two answers are laws of `PrefixReading`.
-- Assumes nothing.
use Rattle.std.proofs.lemmas.List.{take_rest}
use Rattle.laws.proofs.Prelude.{◌≤◌, length, drop, arith, length-drop}
use Rattle.lines.proofs.PrefixReading.{passed, other}
use Rattle.lines.proofs.read_prefix.Goals as goal

pub returns-then-starts_with : goal.returns-then-starts_with
returns-then-starts_with c =
    let fits : length c.args.prefix.now ≤ length (drop c.args.at c.args.s.now) = rw take_rest at (c.starts_with.ensures.bound c.if-starts_with.true) in
    passed (rw take_rest at c.starts_with.ensures.value) c.if-starts_with.true (omega (arith, length-drop c.args.at c.args.s.now))

pub returns-else-starts_with : goal.returns-else-starts_with
returns-else-starts_with c = other (rw take_rest at c.starts_with.ensures.value) c.if-starts_with.false
