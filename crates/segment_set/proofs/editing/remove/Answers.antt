-- `editing::remove` meets its contract. Assumes nothing.
use Rattle.std.specs.Prelude.{◌-◌}
use Rattle.laws.proofs.Prelude.{ap₂, List, ℤ, get_or, set}
use Rattle.segment_set_statements.specs.Set.{state}
use Rattle.segment_set_statements.specs.declared.SegmentSet.{SegmentSet}
use Rattle.segment_set.proofs.editing.remove.Goals as goal

pub returns : goal.returns
returns c =
    let slots = c.args.slots.now in
    rw (← c.requires.held_is, ← c.requires.place_is)
    (ap₂ (λ (r : SegmentSet) (areas : List ℤ). state r (set slots c.args.place (get_or slots (c.args.held - 1) 0)) areas)
    c.removed.ensures c.remove_areas.ensures)
