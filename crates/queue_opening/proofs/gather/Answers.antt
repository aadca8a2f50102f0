-- `queue_opening::gather` meets its contract. Assumes nothing.
use Rattle.laws.proofs.Prelude.{◌∙◌}
use Rattle.queue_statements.proofs.Gathering.{many, summing, light, heavy}
use Rattle.queue_opening.proofs.gather.Goals as goal

pub returns-then-count-gt256 : goal.returns-then-count-gt256
returns-then-count-gt256 c = many c.collect_ids-count.ensures _ c.if-count-gt256.true

pub add_segments-requires : goal.add_segments-requires
add_segments-requires c = summing c.collect_ids-count.ensures c.if-count-gt256.false (c.collect_ids-count.auto.ids ∙ c.requires.0) c.requires.1 c.requires.2

pub returns-then-add_segments : goal.returns-then-add_segments
returns-then-add_segments c = light c.collect_ids-count.ensures c.if-count-gt256.false c.add_segments.ensures c.if-add_segments.true

pub returns-else-add_segments : goal.returns-else-add_segments
returns-else-add_segments c = heavy c.collect_ids-count.ensures c.if-count-gt256.false c.add_segments.ensures c.if-add_segments.false
