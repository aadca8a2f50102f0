use Rattle.segment_set_statements.specs.Set.{state, beginning}
use Rattle.segment_set_statements.proofs.Begins.{Adding}
use Rattle.segment_set.proofs.editing.begin_with.Given as goal

abbrev pub invariant-loop-word : goal.invariant-loop-word
invariant-loop-word l =
    Adding (beginning l.layer_id l.tile_x l.tile_y l.initial.set.carry.covers l.part) l.initial.slots l.initial.areas l.word-index (state l.set l.slots l.areas)
