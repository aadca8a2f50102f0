-- A cached tile and the Rust's methods on it. Stands for 'a cached tile is a tag byte (1 solid kept, 2 count kept), three count bytes
-- lowest first, four colour bytes' and for 'update_layer_count stores the low 24 bits; a cleared tag leaves its bytes' (P8). Every tag
-- byte has its answer, as in the Rust: above 3 nothing is kept, setting a bit leaves the others, and dropping one leaves only the other.
use Rattle.std.specs.Prelude.{◌≡◌, ◌||◌, ◌∷◌, ◌+◌, ◌*◌, ◌/◌, ◌%◌}
use Rattle.laws.specs.Prelude.{Bool, cond, List, [], Option, Some, None, ℕ, bit_and, eqb, get_or}
use Rattle.std.specs.Int.Bits.{bit_or}
use Rattle.cached_tile.specs.declared.CachedTile.{CachedTile}
use Rattle.cached_tile.specs.declared.SolidColor.{SolidColor}
use Rattle.cached_tile.specs.declared.UpdatedLayerCount.{UpdatedLayerCount}
use Rattle.cached_tile.specs.declared.UpdatedSolidColor.{UpdatedSolidColor}

-- the Rust's default: nothing is kept
abbrev pub empty_tile : CachedTile
empty_tile = record { tags = 0; layer_count = 0 ∷ 0 ∷ 0 ∷ []; solid_color = 0 ∷ 0 ∷ 0 ∷ 0 ∷ [] }

-- ---- what is kept

abbrev pub keeps_color : ℕ → Bool
keeps_color tags = eqb tags 1 || eqb tags 3

abbrev pub keeps_count : ℕ → Bool
keeps_count tags = eqb tags 2 || eqb tags 3

-- the number of three bytes, the lowest first
abbrev pub count_number : List ℕ → ℕ
count_number bytes = get_or bytes 0 0 + 256 * get_or bytes 1 0 + 65536 * get_or bytes 2 0

abbrev pub layer_count_of : CachedTile → Option ℕ
layer_count_of t = cond (keeps_count t.tags) (Some (count_number t.layer_count)) None

-- where no colour is kept, the bytes are the tile's all the same
abbrev pub solid_color_of : CachedTile → SolidColor
solid_color_of t = record { given = keeps_color t.tags; bytes = t.solid_color }

-- ---- what an update leaves

-- the low 24 bits of a number
abbrev pub count_bytes : ℕ → List ℕ
count_bytes n = n % 256 ∷ n / 256 % 256 ∷ n / 65536 % 256 ∷ []

abbrev pub keep_count : CachedTile → ℕ → CachedTile
keep_count t n = record { tags = bit_or t.tags 2; layer_count = count_bytes n; solid_color = t.solid_color }

abbrev pub drop_count : CachedTile → CachedTile
drop_count t = record { tags = bit_and t.tags 1; layer_count = t.layer_count; solid_color = t.solid_color }

abbrev pub keep_color : CachedTile → List ℕ → CachedTile
keep_color t bytes = record { tags = bit_or t.tags 1; layer_count = t.layer_count; solid_color = bytes }

abbrev pub drop_color : CachedTile → CachedTile
drop_color t = record { tags = bit_and t.tags 2; layer_count = t.layer_count; solid_color = t.solid_color }

abbrev pub update_count : CachedTile → Option ℕ → CachedTile
update_count t (Some n) = keep_count t n
update_count t None = drop_count t

abbrev pub update_color : CachedTile → SolidColor → CachedTile
update_color t c = cond c.given (keep_color t c.bytes) (drop_color t)

-- ---- what the two updates promise: what was kept before, and the tile after

pub record CountUpdated (t : CachedTile) (n : Option ℕ) (r : UpdatedLayerCount) : Type 0 where
  pub previous : r.previous ≡ layer_count_of t
  pub tile : r.tile ≡ update_count t n

pub record ColorUpdated (t : CachedTile) (c : SolidColor) (r : UpdatedSolidColor) : Type 0 where
  pub previous : r.previous ≡ solid_color_of t
  pub tile : r.tile ≡ update_color t c
