-- An entry of a tile's list: a layer id, the cover that comes in from the left (zeros where none does), whether the layer has segments in the
-- tile, and whether it is changed, as the table said at listing (W-208); and a list as it lies in three lent columns.
use Rattle.std.specs.Prelude.{◌+◌, ◌*◌}
use Rattle.laws.specs.Prelude.{Bool, false, List, ℕ, ℤ, pos, get_or, tabulate}

pub record Entry : Type 0 where
  pub id : ℕ
  pub cover : List ℤ
  pub segments : Bool
  pub changed : Bool

-- the sixteen covers of entry i
unfoldable pub cover_from : List ℤ → ℕ → List ℤ
cover_from covers i = tabulate 16 (λ y. get_or covers (16 * i + y) (pos 0))

-- entry i: the flag at place i says whether it has segments, the flag at place 256 + i whether it is changed
abbrev pub entry_at : List ℕ → List ℤ → List Bool → ℕ → Entry
entry_at ids covers flags i =
    record { id = get_or ids i 0; cover = cover_from covers i; segments = get_or flags i false; changed = get_or flags (256 + i) false }

-- the first n entries
unfoldable pub entries_of : ℕ → List ℕ → List ℤ → List Bool → List Entry
entries_of n ids covers flags = tabulate n (entry_at ids covers flags)
