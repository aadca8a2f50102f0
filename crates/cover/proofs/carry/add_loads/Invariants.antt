use Rattle.pixel_segment.specs.Field.{cpu}
use Rattle.cover_statements.proofs.Loads.{Loading}
use Rattle.cover.proofs.carry.add_loads.Given as goal

abbrev pub invariant-loop-word : goal.invariant-loop-word
invariant-loop-word l = Loading cpu 16 l.part l.initial.loads l.word-index l.loads
