use Rattle.laws.proofs.Prelude.{nat_abs, replicate}
use Rattle.pixel_segment.specs.Field.{gpu, local_y_of}
use Rattle.cover_statements.proofs.Loads.{LoadingBy}
use Rattle.layer_row_gpu.specs.InnerCovers.{cover_within}
use Rattle.layer_row_gpu.proofs.covers.loads.Given as goal

abbrev pub invariant-loop-word : goal.invariant-loop-word
invariant-loop-word l = LoadingBy (local_y_of gpu) (λ w. nat_abs (cover_within l.layer_id w)) 4 l.part (replicate 4 0) l.word-index l.loads
