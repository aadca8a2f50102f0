use Rattle.std.specs.Prelude.{◌-◌, ◌/◌, ◌^◌}
use Rattle.laws.proofs.Prelude.{ℕ}
use Rattle.segment_rows.proofs.Ascending.{Counted}
use Rattle.segment_rows.proofs.order.does_ascend_above.Given as goal

-- the bound of the keys
abbrev pub bound : ℕ → ℕ
bound offset = 2 ^ (64 - offset)

abbrev pub invariant-loop-word : goal.invariant-loop-word
invariant-loop-word l = Counted (λ w. w / 2 ^ l.offset) (bound l.offset) l.row l.descents l.previous l.word-index
