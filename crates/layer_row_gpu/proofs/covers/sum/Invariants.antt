use Rattle.laws.proofs.Prelude.{pos, replicate}
use Rattle.pixel_segment.specs.Field.{gpu, local_y_of}
use Rattle.cover_statements.proofs.Tables.{Filling}
use Rattle.layer_row_gpu.specs.InnerCovers.{cover_within}
use Rattle.layer_row_gpu.proofs.covers.sum.Given as goal

abbrev pub invariant-loop-word : goal.invariant-loop-word
invariant-loop-word l = Filling (local_y_of gpu) (cover_within l.layer_id) 4 127 l.part (replicate 4 (pos 0)) l.word-index l.covers
