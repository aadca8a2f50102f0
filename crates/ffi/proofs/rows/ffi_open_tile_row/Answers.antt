-- `rows::ffi_open_tile_row` meets its contract. It tells what opening answers. Assumes nothing.
use Rattle.laws.proofs.Prelude.{to_z-of_z}
use Rattle.ffi.proofs.Told.{opened}
use Rattle.ffi.proofs.rows.ffi_open_tile_row.Goals as goal

pub returns : goal.returns
returns c =
    let opens = rw (to_z-of_z c.ranges.tile_y, to_z-of_z c.ranges.from, to_z-of_z c.ranges.to) at c.open_tile_row-opened.ensures in
    opened opens.answer opens.lent_is (c.put_opened.ensures.value, c.put_opened.ensures.counts_after)
