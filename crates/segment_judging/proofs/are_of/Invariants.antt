use Rattle.laws.proofs.Prelude.{length}
use Rattle.cover_statements.proofs.Testing.{Testing}
use Rattle.segment_set_statements.specs.Set.{is_of}
use Rattle.segment_judging.proofs.are_of.Given as goal

abbrev pub invariant-loop-word : goal.invariant-loop-word
invariant-loop-word l = Testing (is_of l.layer_id l.tile_x l.tile_y) l.part (length l.part) l.ok l.word-index
