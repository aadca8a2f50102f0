-- `same_runs` meets its contract: the theorems, cited. Assumes nothing.
use Rattle.listing_statements.proofs.Succession.{succession}
use Rattle.row_lines.proofs.Existing.{tell_lines}
use Rattle.tile_row_records.proofs.Steps.{work_step, paint_step}
use Rattle.claims.proofs.Runs.{runs_alike}
use Rattle.claims.proofs.same_runs.Goals as goal

pub returns : goal.returns
returns c = (runs_alike, succession, tell_lines, work_step, paint_step)
