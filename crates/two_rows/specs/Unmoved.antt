-- W-214, for the reviewer who approves a layer: where only another layer's segments change, every plane of the approved layer stays, in every tile of
-- the row. It needs no run: the whole row says it.
use Rattle.std.specs.Prelude.{◌≡◌}
use Rattle.laws.specs.Prelude.{not, List, ℕ, eqb, filter}
use Rattle.pixel_segment.specs.Field.{cpu, layer_id_of}
use Rattle.row_statements.specs.Due.{OpenRow, plane_on}
use Rattle.two_rows.specs.Apart.{AgreeOn}

-- a row without the segments of one layer
abbrev pub without_layer : ℕ → List ℕ → List ℕ
without_layer id row = filter (λ w. not (eqb (layer_id_of cpu w) id)) row

-- two rows that begin at one tile, have the same table, and differ in the segments of one layer alone
pub record DifferOnlyIn (other : ℕ) (o o' : OpenRow) : Type 0 where
  pub first : o.from ≡ o'.from
  pub table : o.table ≡ o'.table
  pub rest : without_layer other o.row ≡ without_layer other o'.row

-- they agree on every other layer, so that `LayersApart` holds of it along any two runs; and its coverages are the same everywhere
pub record Unmoved (id : ℕ) (o o' : OpenRow) : Type 0 where
  pub agree : AgreeOn id o o'
  pub planes : (n : ℕ) → plane_on o n id ≡ plane_on o' n id

abbrev pub OthersUnmoved : Type 0
OthersUnmoved = (other : ℕ) (o o' : OpenRow) → DifferOnlyIn other o o' → (id : ℕ) → (id ≡ other → ⊥) → Unmoved id o o'
