use Rattle.std.specs.Prelude.{◌≡◌}
use Rattle.laws.proofs.Prelude.{cond, eqb}
use Rattle.segment_set_statements.proofs.Spreading.{Spreading}
use Rattle.segment_effect.proofs.spread.Given as goal

abbrev pub invariant-loop-column : goal.invariant-loop-column
invariant-loop-column l =
    Spreading l.x l.y l.own l.past l.initial.areas l.column l.areas × (l.amount ≡ cond (eqb l.x l.column) l.own l.past)
