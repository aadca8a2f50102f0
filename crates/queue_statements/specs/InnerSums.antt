-- How the code adds the covers of an opening, once its layers are known: a column of sums and one of loads (absolute covers), 16 numbers a
-- layer. Each word goes to one place of both.
use Rattle.std.specs.Prelude.{◌≡◌, ◌+◌, ◌*◌, ◌≤◌, ◌<◌, ◌+ℤ◌}
use Rattle.laws.specs.Prelude.{Bool, true, cond, List, ℕ, leb, ℤ, nat_abs, length, get_or, set, take}
use Rattle.pixel_segment.specs.Field.{cpu, layer_id_of, local_y_of, cover_of}
use Rattle.cover_statements.specs.Carry.{abs_cover}
use Rattle.cover_statements.specs.Cover.{cover_at}
use Rattle.queue_statements.specs.Queue.{ids_in, covers_in}
use Rattle.queue_statements.specs.Opening.{open_queue, is_light_opening}
use Rattle.queue_statements.specs.InnerGather.{Clear}
use Rattle.queue_statements.specs.Rank.{rank_of}

-- the place of a word's sum: its layer's entry, its pixel row
unfoldable pub key_in : List ℕ → ℕ → ℕ
key_in ids w = rank_of (layer_id_of cpu w) ids * 16 + local_y_of cpu w

-- ---- a word added at a place, where its load stays within 127

-- the load with the word's
abbrev pub load_with : List ℕ → ℕ → ℕ → ℕ
load_with loads place w = get_or loads place 0 + abs_cover cpu w

-- what it asks: the place is there, and the sum there is no larger than the load
pub record Placing (place : ℕ) (sums : List ℤ) (loads : List ℕ) : Type 0 where
  pub in_sums : place < length sums
  pub in_loads : place < length loads
  pub within : nat_abs (cover_at sums place) ≤ get_or loads place 0

pub record Placed (place w : ℕ) (oldSums : List ℤ) (oldLoads : List ℕ) (r : Bool) (sums : List ℤ) (loads : List ℕ) : Type 0 where
  pub light : r ≡ leb (load_with oldLoads place w) 127
  pub sums_are : sums ≡ cond r (set oldSums place (cover_at oldSums place +ℤ cover_of cpu w)) oldSums
  pub loads_are : loads ≡ cond r (set oldLoads place (load_with oldLoads place w)) oldLoads

-- ---- all words

-- what it asks: the opening's layers, and 4,096 sums of 0
pub record Summing (left : List ℕ) (n : ℕ) (ids : List ℕ) (sums : List ℤ) : Type 0 where
  pub few : n ≤ 256
  pub long : n ≤ length ids
  pub listed : take n ids ≡ ids_in (open_queue left)
  pub room : length sums ≡ 4096
  pub clear : Clear sums

-- what it gives: whether number 9 does not apply, and then the covers
pub record OpeningSummed (left : List ℕ) (n : ℕ) (r : Bool) (sums : List ℤ) : Type 0 where
  pub light : r ≡ is_light_opening left
  pub listed : r ≡ true → take (n * 16) sums ≡ covers_in (open_queue left)
