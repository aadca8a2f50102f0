-- The claims of specs/Runs, cited. Assumes nothing.
use Rattle.row_statements.proofs.Run.{accepted, is_open, held_first_lem}
use Rattle.row_statements.proofs.Runs as rows
use Rattle.row_lines.proofs.Existing as lines
use Rattle.listing_runs.proofs.Run as listing
use Rattle.listing_runs.proofs.Runs as calls
use Rattle.ffi_calls.proofs.Numbers as numbers
use Rattle.ffi_calls.proofs.Calls as told
use Rattle.claims.specs.Runs.{RunsExist, RunsAlike}

pub runs_exist : RunsExist
runs_exist =
    record {
      runs = λ c lent back s w o cs.
          let a = accepted c lent back s o in
          let r = rows.exists (is_open c lent back s w a) (held_first_lem c lent back s w a) cs in
          record { events = r.events; after = r.after; runs = r.runs; dues = r.dues };
      calls = λ c lent back s w o cs.
          let a = accepted c lent back s o in
          let r = calls.exists (is_open c lent back s w a) (record { row = held_first_lem c lent back s w a; lists = tt }) cs in
          record { events = r.events; after = r.after; runs = r.runs; dues = r.dues };
      lines = lines.lines_told;
    }

pub runs_alike : RunsAlike
runs_alike = record { as_calls = listing.as_calls; as_listing_calls = told.as_listing_calls; state_again = numbers.state_again }
