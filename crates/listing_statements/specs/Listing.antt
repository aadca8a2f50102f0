-- Listing the next tile of a row as a public operation: judged by 1 to 5 and then by 7 to 9, the lowest that applies; a refusal says its number and
-- leaves the state and every lent list as they were. Else the tile's layers stand in the three columns of the list, the carries past the tile in the
-- queue handed on, and the state is the next one. No cached tile is touched, nothing is decided, and no mask column is lent. Stands for W-206's
-- listing call.
use Rattle.refusals.specs.declared.Refusal.{Refusal}
use Rattle.std.specs.Prelude.{◌≡◌, ◌||◌, Result, Ok, Err}
use Rattle.laws.specs.Prelude.{Bool, List, ℕ, ℤ, length, Answer, refused, given, over}
use Rattle.refusals.specs.Refusal.{Judgement, pass, refuse, and_then, number_of, given_or_refused}
use Rattle.segment_rows.specs.Search.{tile_part}
use Rattle.queue_statements.specs.Queue.{Carry, ids_in, covers_in}
use Rattle.styling.specs.declared.Layer.{Layer}
use Rattle.tile_layers.specs.Listing.{Listed, layers_in, incoming_of, flags_over}
use Rattle.layer_carrying.specs.Carrying.{handed_on}
use Rattle.pass_statements.specs.Entry.{Entry, entries_of}
use Rattle.row_statements.specs.Lent.{Columns, LentTable, carries_in, is_queue_short, queue_over, are_entries_short, layers_of, is_lent_short}
use Rattle.row_statements.specs.State.{State, state_in, next_state, is_wrong_next}
use Rattle.row_statements.specs.Conditions.{first_five}
use Rattle.row_statements.specs.TileWork.{list_verdict}
use Rattle.listing_statements.specs.declared.TileListed.{TileListed}

-- ---- a tile's list as it is lent: layer ids, 16 incoming covers for each, and whether the layer has segments in the tile. The second flag of each
-- entry, whether its layer is changed, stands 256 places behind the first in the same column, so that it adds no column

pub record TileList : Type 0 where
  pub ids : List ℕ
  pub covers : List ℤ
  pub flags : List Bool

abbrev pub tile_list : List ℕ → List ℤ → List Bool → TileList
tile_list ids covers flags = record { ids = ids; covers = covers; flags = flags }

-- its first n entries
abbrev pub entries_from : ℕ → TileList → List Entry
entries_from n l = entries_of n l.ids l.covers l.flags

-- 1: fewer than 256 entries, of two flags each
abbrev pub is_tile_list_short : TileList → Bool
is_tile_list_short l = are_entries_short l.ids l.covers l.flags

-- layers, with their marks by the table, written over what the columns held
abbrev pub listed_over : List Layer → List Listed → TileList → TileList
listed_over table ls l =
    record {
      ids = over (ids_in (incoming_of ls)) l.ids;
      covers = over (covers_in (incoming_of ls)) l.covers;
      flags = flags_over table ls l.flags;
    }

-- ---- the call

-- what a listing is called with: `queue` is the one that comes in
pub record ListCall : Type 0 where
  pub state : State
  pub tile : ℤ
  pub row : List ℕ
  pub table : LentTable
  pub queue : Columns

abbrev pub list_call : State → ℤ → List ℕ → LentTable → Columns → ListCall
list_call state tile row table queue = record { state = state; tile = tile; row = row; table = table; queue = queue }

-- what it may write: the queue handed on, and the tile's list
pub record ListLent : Type 0 where
  pub queue : Columns
  pub list : TileList

abbrev pub list_lent : Columns → TileList → ListLent
list_lent queue list = record { queue = queue; list = list }

-- ---- the verdict

-- 1: a lent queue or list below 256 entries, or a table shorter than its count
abbrev pub is_listing_short : ListCall → ListLent → Bool
is_listing_short c lent = is_queue_short c.queue || is_queue_short lent.queue || is_lent_short c.table || is_tile_list_short lent.list

-- the lowest of 1 to 5 that applies
unfoldable pub list_call_verdict : ListCall → ListLent → Judgement
list_call_verdict c lent =
    first_five (is_listing_short c lent) (is_wrong_next c.state c.tile) c.state.tile_y c.row c.table c.state.left c.queue.ids pass

-- the layers of the tile
abbrev pub listed_by : ListCall → List Listed
listed_by c = layers_in (carries_in c.state.left c.queue) (tile_part c.tile c.row)

-- 7 to 9, judged of these
abbrev pub listed_verdict : ListCall → Judgement
listed_verdict c = list_verdict (layers_of c.table) (listed_by c)

abbrev pub listing_verdict : ListCall → ListLent → Judgement
listing_verdict c lent = and_then (list_call_verdict c lent) (listed_verdict c)

-- ---- what a listing gives: how many layers it listed, the state, and the lent lists at exit

pub record ListGiven : Type 0 where
  pub answer : Answer ℕ
  pub state : State
  pub lent : ListLent

-- by the verdict, the table, the tile's layers and the carries past it
unfoldable pub listing_out : Judgement → List Layer → List Listed → List Carry → State → ListLent → ListGiven
listing_out (refuse number) table ls handed s lent = record { answer = refused number; state = s; lent = lent }
listing_out pass table ls handed s lent =
    record {
      answer = given (length ls);
      state = next_state s (length handed);
      lent = record { queue = queue_over handed lent.queue; list = listed_over table ls lent.list };
    }

abbrev pub listing_of : ListCall → ListLent → ListGiven
listing_of c lent = listing_out (listing_verdict c lent) (layers_of c.table) (listed_by c) (handed_on (layers_of c.table) (listed_by c)) c.state lent

-- ---- the promise

pub record ListsTile (g : ListGiven) (r : TileListed) (back : ListLent) : Type 0 where
  pub answer : given_or_refused r.answer ≡ g.answer
  pub state : state_in r.state ≡ g.state
  pub lent_is : back ≡ g.lent
