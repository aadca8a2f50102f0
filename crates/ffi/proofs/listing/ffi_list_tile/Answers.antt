-- `listing::ffi_list_tile` meets its contract. It tells what the listing answers. Assumes nothing.
use Rattle.laws.proofs.Prelude.{to_z-of_z}
use Rattle.row_statements.specs.Lent.{columns, lent_table}
use Rattle.row_statements.specs.State.{State}
use Rattle.listing_statements.specs.Listing.{tile_list, list_call, list_lent}
use Rattle.ffi.proofs.Told.{listed}
use Rattle.ffi.proofs.listing.ffi_list_tile.Goals as goal

pub returns : goal.returns
returns c =
    let a = c.args in
    listed
    (λ (x : State). list_call x a.tile a.row.now (lent_table a.layers.now a.colors.now a.count) (columns a.ids.now a.covers.now))
    (list_lent (columns a.next_ids.now a.next_covers.now) (tile_list a.list_ids.now a.list_covers.now a.list_flags.now))
    c.to_state.ensures (rw (to_z-of_z c.ranges.tile) at c.list_tile-done.ensures) (c.put_listed.ensures.value, c.put_listed.ensures.listed_after)
