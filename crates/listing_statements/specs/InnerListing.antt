-- What the functions below listing ask and give.
use Rattle.std.specs.Prelude.{◌≡◌, ◌*◌, ◌≤◌, ◌+◌, None, Ok, Err}
use Rattle.laws.specs.Prelude.{List, Bool, ℕ, ℤ, length, plus, minus}
use Rattle.refusals.specs.declared.Refusal.{Refusal}
use Rattle.segment_rows.specs.Search.{tile_part}
use Rattle.layer_table.specs.Table.{Table}
use Rattle.tile_layers.specs.InnerWalk.{Walks}
use Rattle.layer_carrying.specs.Carrying.{handed_on}
use Rattle.row_statements.specs.Lent.{layers_of}
use Rattle.row_statements.specs.declared.RowState.{RowState}
use Rattle.listing_statements.specs.Listing.{ListCall, ListLent, ListGiven, listed_by, listed_verdict, listing_out}
use Rattle.listing_statements.specs.declared.TileListed.{TileListed}

-- what is left of a listing once 1 to 5 pass: judged by 7 to 9, and then done
abbrev pub listed_with : ListCall → ListLent → ListGiven
listed_with c lent = listing_out (listed_verdict c) (layers_of c.table) (listed_by c) (handed_on (layers_of c.table) (listed_by c)) c.state lent

abbrev pub refused_listing : RowState → Refusal → TileListed
refused_listing s r = record { state = s; answer = Err r }

abbrev pub done_listing : RowState → ℕ → ℕ → TileListed
done_listing s n left =
    record {
      state = record { tile_y = s.tile_y; from = s.from; to = s.to; next = s.next + 1; left = left; taken = s.left; clip = None };
      answer = Ok n;
    }

-- room for 256 entries in a list, with two flags each, and in a queue
pub record ListingRooms (listIds : List ℕ) (listCovers : List ℤ) (flags : List Bool) (queueIds : List ℕ) (queueCovers : List ℤ) : Type 0 where
  pub list_ids : 256 ≤ length listIds
  pub list_covers : 4096 ≤ length listCovers
  pub list_flags : 512 ≤ length flags
  pub queue_ids : 256 ≤ length queueIds
  pub queue_covers : 4096 ≤ length queueCovers

-- what 1 to 5 leave: the tile is one of a row's, the queue and the tile's part ascend, the table is in order, and there is room
pub record ListingJudged (c : ListCall) (lent : ListLent) : Type 0 where
  pub tile_natural : minus c.tile ≡ 0
  pub tile_low : plus c.tile ≤ 4094
  pub next_low : c.state.next ≤ 4094
  pub walks : Walks c.state.left c.queue.ids (tile_part c.tile c.row)
  pub covers_long : 16 * c.state.left ≤ length c.queue.covers
  pub in_table : Table c.table.words c.table.floats c.table.count
  pub rooms : ListingRooms lent.list.ids lent.list.covers lent.list.flags lent.queue.ids lent.queue.covers
