-- The first pass (`tile_unchanged_pass`): a tile is kept where the clear colour is unchanged, a count was kept and equals the number of listed
-- layers, and every listed layer is unchanged. It also says whether layers were removed, for the third pass.
use Rattle.std.specs.Prelude.{◌&&◌, Option, Some, None}
use Rattle.laws.specs.Prelude.{Bool, true, false, List, ℕ, ltb, eqb, length, all}
use Rattle.pass_statements.specs.declared.item.Item.{Item}

-- every layer is unchanged: the one place that says what the first pass takes for unchanged
abbrev pub all_unchanged : List Item → Bool
all_unchanged items = all (λ x. x.unchanged) items

-- the tile is kept as it is
abbrev pub is_kept : Bool → Option ℕ → List Item → Bool
is_kept clear_unchanged None items = false
is_kept clear_unchanged (Some n) items = clear_unchanged && (eqb n (length items) && all_unchanged items)

-- a visible layer may have been removed since the last accepted work on the tile: the list is shorter, or nothing is known
abbrev pub were_removed : Option ℕ → ℕ → Bool
were_removed None layers = true
were_removed (Some n) layers = ltb layers n
