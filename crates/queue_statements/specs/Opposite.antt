-- A carry run the other way: its cover negated. Stands for W-210's 'each carry negated'.
use Rattle.cover_statements.specs.Opposite.{negated}
use Rattle.queue_statements.specs.Queue.{Carry}

abbrev pub opposite_carry : Carry → Carry
opposite_carry c = record { id = c.id; cover = negated c.cover }
