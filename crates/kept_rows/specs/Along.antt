-- Flags that are truthful along rows: a layer that today's table calls unchanged has the same record and the same words as in the row of the tile's
-- last accepted work, and both rows begin at one tile (W-214's agreement). Then it is truthfully unchanged in every tile, and its coverages are the
-- same. What a gradient or a texture holds no record has: a caller numbers it, and a new number is a new content.
use Rattle.std.specs.Prelude.{◌≡◌, ◌+◌, Ok}
use Rattle.laws.specs.Prelude.{false, List, ℕ, get_or, Answer, refused, given}
use Rattle.segment_rows.specs.Rows.{Words}
use Rattle.layer_table.specs.Lookup.{lookup, record_place}
use Rattle.layer_table.specs.Table.{table_ids}
use Rattle.styling.specs.declared.Layer.{Layer}
use Rattle.styling.specs.declared.Props.{Props}
use Rattle.tile_layers.specs.Listing.{is_changed}
use Rattle.pass_statements.specs.declared.item.Item.{Item}
use Rattle.row_carries.specs.Covering.{items_at}
use Rattle.row_statements.specs.Lent.{Columns}
use Rattle.row_statements.specs.Opening.{OpenCall, open_of, OpensRow}
use Rattle.row_statements.specs.Due.{OpenRow, table_on, plane_on}
use Rattle.row_statements.specs.Run.{open_row}
use Rattle.row_statements.specs.declared.RowState.{RowState}
use Rattle.two_rows.specs.Apart.{AgreeOn}
use Rattle.kept_frames.specs.Right.{Frames}

-- what a table says of a layer, but for its flag
abbrev pub props_by : Answer Layer → Answer Props
props_by (refused n) = refused n
props_by (given l) = given l.props

pub record SameIn (id : ℕ) (o o' : OpenRow) : Type 0 where
  pub agree : AgreeOn id o o'
  pub props : props_by (lookup (table_on o) id) ≡ props_by (lookup (table_on o') id)

-- the flags of o' are truthful since o
abbrev pub RowTold : OpenRow → OpenRow → Type 0
RowTold o o' = (id : ℕ) → is_changed (table_on o') id ≡ false → SameIn id o o'

-- the number of what a layer holds, from a column beside the table with one for each record; of a solid fill and a clip it may be 0
abbrev pub revision_at : List ℕ → Answer ℕ → ℕ
revision_at revisions (refused n) = 0
revision_at revisions (given i) = get_or revisions i 0

abbrev pub revision_on : OpenRow → List ℕ → ℕ → ℕ
revision_on o revisions id = revision_at revisions (record_place (table_ids o.table.words o.table.count) id)

-- whom o' calls unchanged holds what it held in o
abbrev pub ContentsTold : OpenRow → List ℕ → OpenRow → List ℕ → Type 0
ContentsTold o revisions o' revisions' = (id : ℕ) → is_changed (table_on o') id ≡ false → revision_on o revisions id ≡ revision_on o' revisions' id

-- what the passes read of tile from + n
abbrev pub items_on : OpenRow → ℕ → List Item
items_on o n = items_at (table_on o) o.row o.from n

-- of one tile in two rows: its lists are in order and today's flags are truthful, and an unchanged layer has the coverages of then
pub record ToldAlong (o o' : OpenRow) (n n' : ℕ) : Type 0 where
  pub frames : Frames (items_on o n) (items_on o' n')
  pub planes : (id : ℕ) → is_changed (table_on o') id ≡ false → plane_on o n id ≡ plane_on o' n' id

-- the claim, for any two rows that were opened
abbrev pub RowsTold : Type 0
RowsTold =
    (c c' : OpenCall) (lent lent' back back' : Columns) (s s' : RowState) →
    Words c.row →
    Words c'.row →
    OpensRow (open_of c lent) (Ok s) back →
    OpensRow (open_of c' lent') (Ok s') back' →
    RowTold (open_row c) (open_row c') →
    (n n' : ℕ) → (open_row c).from + n ≡ (open_row c').from + n' →
    ToldAlong (open_row c) (open_row c') n n'
