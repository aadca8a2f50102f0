-- One layer painted in one tile: its 256 coverages from the queue that the tile took in and the tile's part of the row, its mark, and the clip
-- after it. Stands for 'each writes its 256 coverages into a lent plane and gives its mark', for 'bit 2 × column + h of a mark is set when a draw
-- uses the octet: some coverage is above 0 and no needed clip is lacking', and for 'a clip layer's mark is 0; it writes its whole plane'.
use Rattle.std.specs.Prelude.{◌≡◌}
use Rattle.laws.specs.Prelude.{Bool, cond, List, map, Option, ℕ, Float, is_given, over, filter}
use Rattle.pixel_segment.specs.Field.{cpu}
use Rattle.segment_rows.specs.Search.{layer_part}
use Rattle.layer_table.specs.Lookup.{lookup}
use Rattle.styling.specs.declared.Func.{Func}
use Rattle.styling.specs.declared.Func.TheVariants.{Draw, Clip}
use Rattle.styling.specs.declared.Layer.{Layer}
use Rattle.cover_statements.specs.Carry.{is_light}
use Rattle.cover_statements.specs.Cover.{cover_at}
use Rattle.cover_statements.specs.Mark.{mark_of}
use Rattle.cover_statements.specs.Paint.{part_plane}
use Rattle.cover_statements.specs.Plane.{pixel_of, by_columns}
use Rattle.queue_statements.specs.Queue.{Carry, held_in}
use Rattle.tile_layers.specs.Listing.{Listed, layers_in}
use Rattle.pass_statements.specs.Item.{items_of}
use Rattle.pass_statements.specs.Rules.{needs_clip}
use Rattle.pass_statements.specs.declared.item.Item.{Item}
use Rattle.layer_workbench.specs.Work.{entry_of}
use Rattle.painter.specs.Clip.{alive_at, clip_after, lacks_clip}
use Rattle.painter.specs.declared.painting.Painting as painting

-- the listed layers that the table has: a layer that it lacks is no clip. After an accepted tile work it has them all
abbrev pub items_in : List Layer → List Listed → List Item
items_in table ls = items_of table (map (entry_of table) (filter (λ l. is_given (lookup table l.id)) ls))

-- a draw of the layer id needs a clip in the tile
abbrev pub needs_in : List Layer → List Carry → List ℕ → Func → ℕ → Bool
needs_in table queue part func id = needs_clip (items_in table (layers_in queue part)) func id

-- a clip layer uses no octet, nor does a draw that lacks its clip
abbrev pub mark_for : Func → Bool → Option ℕ → List Float → ℕ
mark_for (Clip span) needs alive plane = 0
mark_for (Draw style) needs alive plane = cond (lacks_clip needs alive) 0 (mark_of plane)

-- the mark by that of the coverages, in whatever plane they are
pub record MarkGiven (func : Func) (needs : Bool) (alive : Option ℕ) (used r : ℕ) : Type 0 where
  pub same : (plane : List Float) → used ≡ mark_of plane → r ≡ mark_for func needs alive plane

-- the coverages of the layer in the tile
abbrev pub plane_in : List Carry → List ℕ → ℕ → Layer → List Float
plane_in queue part id layer = part_plane cpu layer.props.fill_rule (held_in queue id) (layer_part id part)

-- its mark
abbrev pub mark_in : List Layer → List Carry → List ℕ → ℕ → Layer → Option ℕ → ℕ
mark_in table queue part id layer clip =
    mark_for layer.props.func (needs_in table queue part layer.props.func id) (alive_at clip id) (plane_in queue part id layer)

-- number 9 does not apply to the layer in the tile
abbrev pub is_light_in : List Carry → List ℕ → ℕ → Bool
is_light_in queue part id = is_light cpu 16 (held_in queue id) (layer_part id part)

-- the clip after it, the mark, and the plane: the coverages over what it held
pub record Paints (table : List Layer) (queue : List Carry) (part : List ℕ) (id : ℕ) (layer : Layer) (clip : Option ℕ) (old : List Float) (r : painting.Painting) (plane : List Float) : Type 0 where
  pub clip_is : r.clip ≡ clip_after layer.props.func id clip
  pub mark_is : r.mark ≡ mark_in table queue part id layer clip
  pub plane_is : plane ≡ over (plane_in queue part id layer) old

-- the coverages of the layer in the tile, at column × 16 + row
abbrev pub plane_by_columns : List Carry → List ℕ → ℕ → Layer → List Float
plane_by_columns queue part id layer = by_columns 16 (pixel_of cpu layer.props.fill_rule (cover_at (held_in queue id)) (layer_part id part))
