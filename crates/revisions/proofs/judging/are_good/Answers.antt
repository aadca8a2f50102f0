-- `are_good` meets its contract: `Passing` holds while the records are passed. Assumes nothing.
use Rattle.revision_statements.proofs.Judging.{pass_next, pass_last}
use Rattle.revisions.proofs.judging.are_good.Goals as goal

pub loop-i-preserved : goal.loop-i-preserved
loop-i-preserved c = λ floats. pass_next _ floats _ (c.loop-i.invariant floats) c.loop-i-test.true (c.is_good-ok.ensures floats)

pub returns : goal.returns
returns c = λ floats. pass_last _ floats _ (c.loop-i.invariant floats) c.loop-i-test.false
