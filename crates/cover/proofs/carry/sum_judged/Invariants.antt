use Rattle.pixel_segment.specs.Field.{cpu}
use Rattle.cover_statements.proofs.Judging.{Loaded}
use Rattle.cover.proofs.RowSums.{RowSums}
use Rattle.cover.proofs.carry.sum_judged.Given as goal

abbrev pub invariant-loop-word : goal.invariant-loop-word
invariant-loop-word l = Loaded cpu 16 l.part l.initial.loads l.word-index l.loads × RowSums cpu 16 l.part l.initial.covers l.word-index l.loads l.covers
