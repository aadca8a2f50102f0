use Rattle.plane.proofs.LightCells.{LightCells}
use Rattle.plane.proofs.light.add_segments.Given as goal

abbrev pub invariant-loop-word : goal.invariant-loop-word
invariant-loop-word l = LightCells l.part l.word-index l.areas l.covers
