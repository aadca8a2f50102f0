-- `walking::meet` meets its contract. Assumes nothing.
use Rattle.laws.proofs.Prelude.{true, false}
use Rattle.kept_count.proofs.Members.{meets, meets_none}
use Rattle.kept_count.proofs.walking.meet.Goals as goal

pub returns-then-ids-met : goal.returns-then-ids-met
returns-then-ids-met c = meets _ _ _ _ _ c.if-met-n.true true c.if-ids-met.true

pub returns-else-ids-met : goal.returns-else-ids-met
returns-else-ids-met c = meets _ _ _ _ _ c.if-met-n.true false c.if-ids-met.false

pub returns-else-met-n : goal.returns-else-met-n
returns-else-met-n c = meets_none _ _ _ _ _ c.if-met-n.false
