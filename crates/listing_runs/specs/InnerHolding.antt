-- The lists that a caller holds between the calls of a run: one for each tile that is past, the last one first, each saying its tile's layers.
use Rattle.std.specs.Prelude.{◌≡◌, ◌∷◌, ◌+◌}
use Rattle.laws.specs.Prelude.{List, [], ℕ, zero, suc, pos}
use Rattle.row_statements.specs.Due.{OpenRow, Past, table_on, layers_on}
use Rattle.row_statements.specs.InnerHolding.{Holds}
use Rattle.listing_statements.specs.InnerLists.{Decidable, ListSays}
use Rattle.listing_runs.specs.Run.{HeldList, HeldAll}

-- the list of the tile from + n
pub record HoldsList (o : OpenRow) (n : ℕ) (l : HeldList) : Type 0 where
  pub tile : l.tile ≡ pos (o.from + n)
  pub decidable : Decidable (table_on o) (layers_on o n)
  pub says : ListSays (table_on o) (layers_on o n) l.count l.list

abbrev pub HoldsLists : OpenRow → ℕ → List HeldList → Type 0
HoldsLists o zero [] = Unit {0}
HoldsLists o zero (l ∷ ls) = ⊥
HoldsLists o (suc n) [] = ⊥
HoldsLists o (suc n) (l ∷ ls) = HoldsList o n l × HoldsLists o n ls

pub record HoldsAll (o : OpenRow) (p : Past) (h : HeldAll) : Type 0 where
  pub row : Holds o p h.row
  pub lists : HoldsLists o p.tiles h.lists
