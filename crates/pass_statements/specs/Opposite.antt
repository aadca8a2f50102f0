-- An entry of a list, run the other way: its incoming cover negated, all else kept. Stands for W-210's 'the same listed layers'.
use Rattle.cover_statements.specs.Opposite.{negated}
use Rattle.pass_statements.specs.Entry.{Entry}

abbrev pub opposite_entry : Entry → Entry
opposite_entry e = record { id = e.id; cover = negated e.cover; segments = e.segments; changed = e.changed }
