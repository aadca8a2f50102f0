use Rattle.pixel_segment.specs.Field.{gpu, local_y_of, cover_of}
use Rattle.cover_statements.proofs.Tables.{Filling}
use Rattle.cover_gpu.proofs.carry.add_segments.Given as goal

abbrev pub invariant-loop-word : goal.invariant-loop-word
invariant-loop-word l = Filling (local_y_of gpu) (cover_of gpu) 4 127 l.part l.initial.covers l.word-index l.covers
