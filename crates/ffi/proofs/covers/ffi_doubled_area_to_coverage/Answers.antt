-- `covers::ffi_doubled_area_to_coverage` meets its contract. Assumes nothing.
use Rattle.laws.proofs.Prelude.{to_z-of_z}
use Rattle.ffi.proofs.covers.ffi_doubled_area_to_coverage.Goals as goal

pub returns : goal.returns
returns c = rw (c.doubled_area_to_coverage.ensures, c.fill_rule.ensures, to_z-of_z c.ranges.d)
