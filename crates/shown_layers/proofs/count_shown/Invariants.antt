use Rattle.shown_layers.proofs.Tallying.{Counting}
use Rattle.shown_layers.proofs.count_shown.Given as goal

abbrev pub invariant-loop-i : goal.invariant-loop-i
invariant-loop-i l = Counting l.list_unmasked l.skipped l.listed l.shown l.i
