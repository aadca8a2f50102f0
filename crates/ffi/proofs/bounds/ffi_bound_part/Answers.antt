-- `bounds::ffi_bound_part` meets its contract. It tells what `bound_part` answers. Assumes nothing.
use Rattle.laws.proofs.Prelude.{ap, ◌∙◌, to_z-of_z}
use Rattle.ffi.specs.Bounds.{bounds_number}
use Rattle.ffi.proofs.bounds.ffi_bound_part.Goals as goal

pub returns : goal.returns
returns c =
    let part = rw (to_z-of_z c.ranges.tile_x, to_z-of_z c.ranges.tile_y) at c.bound_part-verdict.ensures in
    record { number = c.tell_verdict.ensures ∙ ap bounds_number part.answer; verdict = c.bound_part-verdict.result; planes = part }
