-- `drop_count` meets its contract. Assumes nothing.
use Rattle.laws.proofs.Prelude.{refl}
use Rattle.kept_count.proofs.drop_count.Goals as goal

pub returns-then-kept : goal.returns-then-kept
returns-then-kept c = rw (c.if-kept.true, c.update_layer_count-updated.ensures.tile) refl
