-- `put_mixed` meets its contract. Assumes nothing.
use Rattle.batch_statements.specs.BatchLent.{words_at}
use Rattle.batch_mixing.proofs.Mixed.{none_mixed}
use Rattle.batch_mixing.proofs.put_mixed.Goals as goal

pub returns-in-None : goal.returns-in-None
returns-in-None c = let a = c.args in rw c.in-None.is (none_mixed (words_at a.used a.painted.now))

pub returns-in-Paint : goal.returns-in-Paint
returns-in-Paint c = let a = c.args in rw c.in-Paint.is (none_mixed (words_at a.used a.painted.now))
