use Rattle.std.specs.Prelude.{◌≡◌}
use Rattle.laws.proofs.Prelude.{None}
use Rattle.layer_table.specs.Table.{table_of}
use Rattle.listed_painting.specs.InnerWalk.{WalkHolds}
use Rattle.listed_painting.proofs.start_past.Given as goal

abbrev pub invariant-loop : goal.invariant-loop
invariant-loop l =
    WalkHolds (table_of l.layers l.colors l.count) l.n l.ids l.covers l.part l.at × (l.at.passed ≡ l.counter) × (l.at.clip ≡ None)
