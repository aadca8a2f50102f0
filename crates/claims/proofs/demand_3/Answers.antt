-- `demand_3` meets its contract: the theorems, cited. Assumes nothing.
use Rattle.row_statements.proofs.Run as row
use Rattle.listing_runs.proofs.Run as listing
use Rattle.ffi_calls.proofs.Calls.{calls}
use Rattle.ffi_calls.proofs.ListingCalls.{listing_calls}
use Rattle.batch_runs.proofs.BatchRun.{batch_run}
use Rattle.ffi_calls.proofs.Batches.{batches}
use Rattle.claims.proofs.demand_3.Goals as goal

pub returns : goal.returns
returns c = (row.run, listing.run, calls, listing_calls, batch_run, batches)
