-- `sets_bounds_records` meets its contract: the theorems, cited. Assumes nothing.
use Rattle.ffi_sets.proofs.Calls.{set_calls}
use Rattle.claims.proofs.Sets.{segment_sets, set_calls_exist}
use Rattle.claims.proofs.Bounds.{cover_bounds}
use Rattle.claims.proofs.Revisions.{revisions}
use Rattle.claims.proofs.sets_bounds_records.Goals as goal

pub returns : goal.returns
returns c = (segment_sets, set_calls, set_calls_exist, cover_bounds, revisions)
