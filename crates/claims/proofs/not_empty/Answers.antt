-- `not_empty` meets its contract: the theorems, cited. Assumes nothing.
use Rattle.row_statements.proofs.Example as row
use Rattle.listing_runs.proofs.Example as listing
use Rattle.ffi_calls.proofs.Existing.{calls_exist}
use Rattle.ffi_calls.proofs.Batches.{exist}
use Rattle.claims.proofs.Runs.{runs_exist}
use Rattle.claims.proofs.not_empty.Goals as goal

pub returns : goal.returns
returns c = (row.ran, listing.ran, calls_exist, exist, runs_exist)
