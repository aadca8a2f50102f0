-- `editing::add` meets its contract. Assumes nothing.
use Rattle.laws.proofs.Prelude.{ap₂, List, ℤ, set}
use Rattle.segment_set_statements.specs.Set.{state}
use Rattle.segment_set_statements.specs.declared.SegmentSet.{SegmentSet}
use Rattle.segment_set.proofs.editing.add.Goals as goal

pub returns : goal.returns
returns c =
    ap₂ (λ (r : SegmentSet) (areas : List ℤ). state r (set c.args.slots.now c.args.set.count c.args.word) areas)
    c.added.ensures c.add_areas.ensures
