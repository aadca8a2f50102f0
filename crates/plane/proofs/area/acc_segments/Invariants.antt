use Rattle.pixel_segment.specs.Field.{cpu, cover_of, double_area_of}
use Rattle.cover_statements.proofs.Judging.{Loaded, Summed}
use Rattle.plane.proofs.area.acc_segments.Given as goal

abbrev pub invariant-loop-word : goal.invariant-loop-word
invariant-loop-word l =
    Loaded cpu 16 l.part l.initial.loads l.word-index l.loads
    × Summed cpu 16 63 (double_area_of cpu) l.part l.word-index l.loads l.areas
    × Summed cpu 16 1 (cover_of cpu) l.part l.word-index l.loads l.covers
