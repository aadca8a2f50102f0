-- What a caller holds between the calls of a run: the carries of the row, in lists that no refusal turns down. The inner functions of a driver ask
-- this where the public operations judge.
use Rattle.std.specs.Prelude.{◌≡◌, ◌+◌, ◌≤◌}
use Rattle.laws.specs.Prelude.{true, false, List, ℕ, zero, suc, length}
use Rattle.queue_statements.specs.Queue.{Carry, is_queue}
use Rattle.tile_layers.specs.Listing.{are_known}
use Rattle.row_carries.specs.Carries.{InOrder}
use Rattle.row_statements.specs.Lent.{Columns, carries_in, is_queue_short, is_lent_short, is_lent_table}
use Rattle.row_statements.specs.Due.{OpenRow, Past, table_on, queue_on, layers_on, state_on}
use Rattle.row_statements.specs.Run.{Held}

-- two lists hold the carries q
pub record HoldsQueue (q : List Carry) (k : Columns) : Type 0 where
  pub reads : carries_in (length q) k ≡ q
  pub long : is_queue_short k ≡ false
  pub ordered : is_queue (length q) k.ids ≡ true

-- what an accepted opening leaves of a row
pub record IsOpen (o : OpenRow) : Type 0 where
  pub tile_y : o.tile_y ≤ 2046
  pub last : o.to ≤ 4095
  pub in_order : InOrder (suc o.tile_y) o.row
  pub in_table : is_lent_table o.table ≡ true
  pub table_long : is_lent_short o.table ≡ false

-- the queue that the last of n tiles took in, whose layers the table has
abbrev pub Took : OpenRow → ℕ → Columns → Type 0
Took o zero k = Unit {0}
Took o (suc n) k = HoldsQueue (queue_on o n) k × (are_known (table_on o) (layers_on o n) ≡ true)

-- what the caller holds after the calls p
pub record Holds (o : OpenRow) (p : Past) (h : Held) : Type 0 where
  pub state : h.state ≡ state_on o p
  pub inside : o.from + p.tiles ≤ o.to
  pub queue : HoldsQueue (queue_on o p.tiles) h.queue
  pub taken_long : is_queue_short h.taken ≡ false
  pub took : Took o p.tiles h.taken
