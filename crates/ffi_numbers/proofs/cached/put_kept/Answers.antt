-- `cached::put_kept` meets its contract. Assumes nothing.
use Rattle.ffi_numbers.proofs.cached.put_kept.Goals as goal

pub returns-then-kept : goal.returns-then-kept
returns-then-kept c = rw c.if-kept.true c.to_bytes.ensures
