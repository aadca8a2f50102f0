-- `sets::ffi_begin_set` meets its contract: it tells what beginning answers, and what it leaves. Assumes nothing.
use Rattle.laws.proofs.Prelude.{to_z-of_z}
use Rattle.ffi_sets.proofs.Told.{begun}
use Rattle.ffi.proofs.sets.ffi_begin_set.Goals as goal

pub returns : goal.returns
returns c =
    begun (rw (to_z-of_z c.ranges.tile_x, to_z-of_z c.ranges.tile_y) at c.begin-edited.ensures) c.put_place.ensures (c.put_edited.ensures.value, c.put_edited.ensures.count_after)
