-- The job reader accepts every load.
-- Assumes nothing.
use Rattle.std.specs.Prelude.{◌≡◌, ◌/◌, ◌≤◌}
use Rattle.laws.proofs.Prelude.{true, List, ℕ, arith, le-leb, Float, length}
use Rattle.job_text_statements.specs.Job.{render}
use Rattle.job_lines.specs.Rules.{segment_count}
use Rattle.job_statements.specs.Read as reading
use Rattle.job_statements.specs.Read.{has_room, job_outcome}
use Rattle.load_statements.specs.declared.Asked.{Asked}
use Rattle.load_statements.specs.Load.{load_of}
use Rattle.load_statements.specs.Input.{AskedInRange}
use Rattle.load_statements.proofs.Forming.{one_row_each, read_back}

module _ (a : Asked) (h : AskedInRange a) (layers : List ℕ) (colors : List Float) (row : List ℕ) (l : 64 ≤ length layers) (c : 32 ≤ length colors) (r : a.count ≤ length row) where
  room : has_room layers colors row (load_of a) ≡ true
  unfolding has_room load_of
  room =
      rw (le-leb 8 (length layers / 8) (omega arith), le-leb 8 (length colors / 4) (omega arith))
      (le-leb (segment_count (load_of a).segments) (length row) (omega (arith, one_row_each a h)))

  pub accepted : job_outcome (render (load_of a)) layers colors row ≡ reading.accepted (load_of a)
  unfolding job_outcome
  accepted = rw (read_back a h, room)
