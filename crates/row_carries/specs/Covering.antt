-- What lies over a layer that is passed over as covered, by the whole row. Stands for 'a skipped one, masked off or not, is passed over as
-- covered' of demand 3: such a layer can't be seen.
use Rattle.std.specs.Prelude.{◌≡◌, ◌+◌, ◌≤◌, ◌<◌}
use Rattle.laws.specs.Prelude.{true, false, List, map, ℕ, suc, length, get_or, replicate}
use Rattle.pixel_segment.specs.Field.{cpu}
use Rattle.styling.specs.Style.{is_opaque}
use Rattle.styling.specs.declared.Layer.{Layer}
use Rattle.cover_statements.specs.Coverage.{coverage_of}
use Rattle.cover_statements.specs.WholeRow.{row_plane}
use Rattle.tile_layers.specs.Listing.{no_listed}
use Rattle.layer_carrying.specs.Carrying.{rule_in}
use Rattle.pass_statements.specs.Clips.{is_clip}
use Rattle.pass_statements.specs.Covered.{item_at}
use Rattle.pass_statements.specs.Decide.{Outcome}
use Rattle.pass_statements.specs.Item.{items_of}
use Rattle.pass_statements.specs.Rules.{needs_clip}
use Rattle.pass_statements.specs.declared.item.Item.{Item}
use Rattle.layer_workbench.specs.Work.{entry_of}
use Rattle.row_carries.specs.Carries.{layers_at}

-- what the passes read of the layers of tile from + n
abbrev pub items_at : List Layer → List ℕ → ℕ → ℕ → List Item
items_at table row from n = items_of table (map (entry_of table) (layers_at table row from n))

-- the id of the layer that is listed in a place
abbrev pub listed_id_at : List Layer → List ℕ → ℕ → ℕ → ℕ → ℕ
listed_id_at table row from n i = (get_or (layers_at table row from n) i no_listed).id

-- the layer in place i lies under a shown one with a higher id: a draw that is opaque, needs no clip, and has coverage 1 in all 256 pixels
pub record CoveredUnder (table : List Layer) (row : List ℕ) (from n : ℕ) (o : Outcome) (i : ℕ) : Type 0 where
  pub place : ℕ
  pub listed : place < length (layers_at table row from n)
  pub not_skipped : o.skipped ≤ place
  pub is_unmasked : get_or o.unmasked place false ≡ true
  pub above : listed_id_at table row from n i < listed_id_at table row from n place
  pub draws : is_clip (item_at (items_at table row from n) place).func ≡ false
  pub opaque : is_opaque (item_at (items_at table row from n) place).func ≡ true
  pub unclipped : needs_clip (items_at table row from n) (item_at (items_at table row from n) place).func (listed_id_at table row from n place) ≡ false
  pub ones : row_plane cpu 16 (rule_in table (listed_id_at table row from n place)) (suc (from + n)) (listed_id_at table row from n place) row ≡ replicate 256 (coverage_of 512)
