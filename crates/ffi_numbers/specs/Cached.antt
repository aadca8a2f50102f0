-- A cached tile as its eight bytes: the tag, the count's three, lowest first, and the colour's four.
use Rattle.std.specs.Prelude.{◌∷◌}
use Rattle.laws.specs.Prelude.{Bool, true, false, cond, List, [], Option, Some, None, ℕ, get_or, Answer, refused, given}
use Rattle.cached_tile.specs.declared.CachedTile.{CachedTile}
use Rattle.cached_tile.specs.declared.SolidColor.{SolidColor}
use Rattle.cached_tile.specs.declared.kept.Kept.{Kept}
use Rattle.cached_tile.specs.Kept.{Writing, write, keep}

abbrev pub tile_from : List ℕ → CachedTile
tile_from b =
    record {
      tags = get_or b 0 0;
      layer_count = get_or b 1 0 ∷ get_or b 2 0 ∷ get_or b 3 0 ∷ [];
      solid_color = get_or b 4 0 ∷ get_or b 5 0 ∷ get_or b 6 0 ∷ get_or b 7 0 ∷ [];
    }

abbrev pub tile_bytes : CachedTile → List ℕ
tile_bytes t =
    let count = t.layer_count in
    let color = t.solid_color in
    t.tags ∷ get_or count 0 0 ∷ get_or count 1 0 ∷ get_or count 2 0 ∷ get_or color 0 0 ∷ get_or color 1 0 ∷ get_or color 2 0 ∷ get_or color 3 0 ∷ []

-- a tile that may be given
abbrev pub kept_of : Bool → List ℕ → Kept
kept_of is b = record { given = is; tile = tile_from b }

-- the bytes of a tile that is given; where none is, the lent ones stay as they were
abbrev pub bytes_by : Kept → List ℕ → List ℕ
bytes_by k old = cond k.given (tile_bytes k.tile) old

-- whether there is a value, and the value that a lent one then is
abbrev pub is_some : {A : Type 0} → Option A → Bool
is_some (Some v) = true
is_some None = false

abbrev pub given_or : {A : Type 0} → Option A → A → A
given_or (Some v) old = v
given_or None old = old

-- a count or a colour that may be given
abbrev pub count_if : Bool → ℕ → Option ℕ
count_if is n = cond is (Some n) None

abbrev pub color_if : Bool → List ℕ → SolidColor
color_if is bytes = record { given = is; bytes = bytes }

abbrev pub color_or : SolidColor → List ℕ → List ℕ
color_or c old = cond c.given c.bytes old

-- whether settling says write; after a refusal what was there
abbrev pub written_or : Answer Writing → Bool → Bool
written_or (refused n) old = old
written_or (given write) old = true
written_or (given keep) old = false

-- the tile's bytes after settling; a refusal leaves every one as it was
abbrev pub settled_bytes : Answer Writing → Kept → List ℕ → List ℕ
settled_bytes (refused n) k old = old
settled_bytes (given w) k old = bytes_by k old
