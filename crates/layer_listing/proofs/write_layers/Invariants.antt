use Rattle.std.specs.Prelude.{◌+◌, ◌-◌}
use Rattle.laws.proofs.Prelude.{length}
use Rattle.layer_listing.proofs.Writing.{Writing}
use Rattle.layer_listing.proofs.write_layers.Given as goal

-- `listing::write_layers` meets its contract. Assumes nothing.
abbrev pub invariant-loop-i : goal.invariant-loop-i
invariant-loop-i l = Writing l.n l.ids l.covers l.part l.initial.list_ids l.initial.list_covers l.initial.list_flags l.list_ids l.list_covers l.list_flags l.k l.i l.j

abbrev pub decreases-loop-i : goal.decreases-loop-i
decreases-loop-i l = l.n + length l.part - (l.i + l.j)
