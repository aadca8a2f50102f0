use Rattle.pixel_segment.specs.Field.{gpu, cover_of, double_area_of}
use Rattle.cover_statements.proofs.Judging.{Loaded, Summed}
use Rattle.cover_gpu.proofs.area.acc_segments.Given as goal

abbrev pub invariant-loop-word : goal.invariant-loop-word
invariant-loop-word l =
    Loaded gpu 4 l.part l.initial.loads l.word-index l.loads
    × Summed gpu 4 63 (double_area_of gpu) l.part l.word-index l.loads l.areas
    × Summed gpu 4 1 (cover_of gpu) l.part l.word-index l.loads l.covers
