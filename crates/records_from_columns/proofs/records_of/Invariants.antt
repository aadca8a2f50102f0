use Rattle.records_from_columns.proofs.Making.{Making}
use Rattle.records_from_columns.proofs.records_of.Given as goal

abbrev pub invariant-loop-i : goal.invariant-loop-i
invariant-loop-i l = Making l.ids l.covers l.i l.carry-items
