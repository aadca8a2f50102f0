use Rattle.std.specs.Prelude.{◌≡◌, ◌+◌, ◌≤◌}
use Rattle.laws.proofs.Prelude.{drop}
use Rattle.pixel_segment.specs.Field.{sum, widths_of}
use Rattle.pixel_segment.proofs.consts.shift.Given as goal

abbrev pub invariant-loop-i : goal.invariant-loop-i
invariant-loop-i l = (l.i ≤ 7) × (l.amount + sum (drop l.i (widths_of l.layout)) ≡ sum (drop l.initial.i (widths_of l.layout)))
