use Rattle.std.specs.Prelude.{◌/◌, ◌%◌, ◌^◌}
use Rattle.laws.proofs.Prelude.{leb}
use Rattle.segment_rows.proofs.Halving.{Left}
use Rattle.segment_rows.proofs.search.halve.Given as goal

abbrev pub invariant-loop-len : goal.invariant-loop-len
invariant-loop-len l = Left (λ w. leb l.above (w / 2 ^ l.offset % l.size)) l.segments l.start l.len

abbrev pub decreases-loop-len : goal.decreases-loop-len
decreases-loop-len l = l.len
