-- Where the code of a batch stands between two tiles, whether it works another, and why it ends.
use Rattle.std.specs.Prelude.{◌≡◌, ◌&&◌, Ok}
use Rattle.laws.specs.Prelude.{Bool, true, false, cond, ℕ, ltb, leb}
use Rattle.refusals.specs.Refusal.{Judgement, pass, refuse, judgement_in}
use Rattle.row_statements.specs.State.{State, state_in}
use Rattle.row_statements.specs.declared.RowState.{RowState}
use Rattle.batch_statements.specs.BatchLent.{has_room}
use Rattle.batch_statements.specs.Batch.{BatchEnd, asked, row_end, no_room, next_refused, answer_in, answer_of}
use Rattle.batch_statements.specs.declared.Batch.{Batch}
use Rattle.batch_statements.specs.declared.Room.{Room}
use Rattle.batch_steps.specs.declared.Standing.{Standing}

-- before the first tile
abbrev pub starting : RowState → Standing
starting s = record { state = s; worked = 0; used = 0; first = true; verdict = (Ok tt) }

-- ---- whether another tile is worked

abbrev pub is_pass : Judgement → Bool
is_pass pass = true
is_pass (refuse number) = false

abbrev pub goes_on : Standing → ℕ → Room → Bool
goes_on b tiles r = is_pass (judgement_in b.verdict) && ltb b.worked tiles && ltb b.state.next b.state.to && has_room r b.worked b.used

-- ---- why none is

abbrev pub end_at : State → ℕ → ℕ → BatchEnd
end_at s worked tiles = cond (leb tiles worked) asked (cond (leb s.to s.next) row_end no_room)

abbrev pub end_by : Judgement → State → ℕ → ℕ → BatchEnd
end_by (refuse number) s worked tiles = next_refused number
end_by pass s worked tiles = end_at s worked tiles

pub record Ends (b : Standing) (tiles : ℕ) (r : Batch) : Type 0 where
  pub state : r.state ≡ b.state
  pub worked : r.worked ≡ b.worked
  pub used : r.used ≡ b.used
  pub first : r.first ≡ b.first
  pub answer : answer_in r.answer ≡ answer_of b.worked (end_by (judgement_in b.verdict) (state_in b.state) b.worked tiles)
