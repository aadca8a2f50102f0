-- A cached tile through the work of a tile, and settling. Stands for 'any tile work updates the count where a cached tile is given; paint
-- clears tag 1; solid is settled by a second call with the four display bytes, which says write or keep. .. Without a cached tile settling
-- says write', and for refusal 6, 'cached tag above 3', which asks that a tile is given.
use Rattle.std.specs.Prelude.{◌≡◌, ◌&&◌}
use Rattle.laws.specs.Prelude.{Bool, true, false, cond, List, Option, None, ℕ, ltb, eqb, get_or, Answer, refused, given}
use Rattle.cached_tile.specs.declared.CachedTile.{CachedTile}
use Rattle.cached_tile.specs.declared.kept.Kept.{Kept}
use Rattle.cached_tile.specs.declared.kept.Counted.{Counted}
use Rattle.cached_tile.specs.declared.kept.Settlement.{Settlement}
use Rattle.cached_tile.specs.declared.kept.Settlement.TheVariants.{Write, Keep, TagOutOfRange}
use Rattle.cached_tile.specs.declared.kept.Settled.{Settled}
use Rattle.cached_tile.specs.Tile.{empty_tile, layer_count_of, keeps_color, keep_count, keep_color, drop_color}

abbrev pub no_tile : Kept
no_tile = record { given = false; tile = empty_tile }

-- refusal 6
abbrev pub tag_out_of_range : Kept → Bool
tag_out_of_range k = k.given && ltb 3 k.tile.tags

-- t in the place of the tile, where one is given
abbrev pub changed : Kept → CachedTile → Kept
changed k t = cond k.given (record { given = true; tile = t }) k

-- ---- tile work

abbrev pub previous_count : Kept → Option ℕ
previous_count k = cond k.given (layer_count_of k.tile) None

abbrev pub counted : Kept → ℕ → Kept
counted k n = changed k (keep_count k.tile n)

abbrev pub cleared : Kept → Kept
cleared k = changed k (drop_color k.tile)

pub record KeptCounted (k : Kept) (n : ℕ) (r : Counted) : Type 0 where
  pub previous : r.previous ≡ previous_count k
  pub kept : r.kept ≡ counted k n

-- ---- settling

pub data Writing : Type 0 where
  write keep : Writing

-- the cases of the answer `Settlement`
abbrev pub settlement_of : Settlement → Answer Writing
settlement_of Write = given write
settlement_of Keep = given keep
settlement_of TagOutOfRange = refused 6

abbrev pub same_bytes : List ℕ → List ℕ → Bool
same_bytes a b = eqb (get_or a 0 0) (get_or b 0 0) && eqb (get_or a 1 0) (get_or b 1 0) && eqb (get_or a 2 0) (get_or b 2 0) && eqb (get_or a 3 0) (get_or b 3 0)

abbrev pub keep_or_write : Bool → Writing
keep_or_write same = cond same keep write

-- the tile keeps a colour, and it is these bytes
abbrev pub keeps_same : CachedTile → List ℕ → Bool
keeps_same t color = keeps_color t.tags && same_bytes t.solid_color color

-- a tile that is given keeps the bytes, and what was kept before says whether they are to be written
pub record TileSettled (t : CachedTile) (color : List ℕ) (r : Settled) : Type 0 where
  pub settlement : settlement_of r.settlement ≡ given (keep_or_write (keeps_same t color))
  pub kept : r.kept ≡ record { given = true; tile = keep_color t color }

abbrev pub settle_of : Kept → List ℕ → Answer Writing
settle_of k color = cond (tag_out_of_range k) (refused 6) (given (cond k.given (keep_or_write (keeps_same k.tile color)) write))

abbrev pub settled_kept : Kept → List ℕ → Kept
settled_kept k color = cond (tag_out_of_range k) k (changed k (keep_color k.tile color))

pub record KeptSettled (k : Kept) (color : List ℕ) (r : Settled) : Type 0 where
  pub settlement : settlement_of r.settlement ≡ settle_of k color
  pub kept : r.kept ≡ settled_kept k color
