-- `cached::count_if` meets its contract. Assumes nothing.
use Rattle.ffi.proofs.cached.count_if.Goals as goal

pub returns-then-given : goal.returns-then-given
returns-then-given c = rw c.if-given.true
