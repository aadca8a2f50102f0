-- What the walk over a tile's shown layers asks and gives.
use Rattle.std.specs.Prelude.{◌∷◌, ◌+◌}
use Rattle.laws.specs.Prelude.{Bool, true, false, List, [], Option, None, ℕ, ones}
use Rattle.styling.specs.declared.Layer.{Layer}
use Rattle.queue_statements.specs.Queue.{Carry, ids_in}
use Rattle.tile_layers.specs.Listing.{layers_in, incoming_of}
use Rattle.painter.specs.Clip.{clip_after}
use Rattle.painter.specs.Painting.{mark_in}
use Rattle.row_statements.specs.Painting.{layer_in}
use Rattle.shown_layers.specs.declared.Tally.{Tally}

-- ---- the shown layers of a tile, one after the other

-- the painter's clip, how many layers were shown so far, and how many octets they used
pub record Sum : Type 0 where
  pub clip : Option ℕ
  pub shown : ℕ
  pub octets : ℕ

abbrev pub sum_in : Tally → Sum
sum_in t = record { clip = t.walk.clip; shown = t.shown; octets = t.octets }

abbrev pub at_start : Sum
at_start = record { clip = None; shown = 0; octets = 0 }

-- once a shown layer is met: it counts, and where the tile is painted its mark and the clip after it count too
abbrev pub tally_by : Bool → ℕ → Option ℕ → Sum → Sum
tally_by true mark clip t = record { clip = clip; shown = t.shown + 1; octets = t.octets + ones mark }
tally_by false mark clip t = record { clip = t.clip; shown = t.shown + 1; octets = t.octets }

-- the ids of the tile's layers
abbrev pub ids_of : List Carry → List ℕ → List ℕ
ids_of queue part = ids_in (incoming_of (layers_in queue part))

module _ (paints : Bool) (table : List Layer) (queue : List Carry) (part : List ℕ) where
  unfoldable pub tally_next : Sum → ℕ → Sum
  tally_next t id = tally_by paints (mark_in table queue part id (layer_in table id) t.clip) (clip_after (layer_in table id).props.func id t.clip) t

  unfoldable pub tallied : Sum → List ℕ → Sum
  tallied t [] = t
  tallied t (id ∷ ids) = tallied (tally_next t id) ids
