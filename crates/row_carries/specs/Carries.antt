-- The carries of a row that is worked from its opening on: the queue before each tile, and the layers of each tile, by the row, the table and
-- the first tile alone. Stands for 'worked by this document from the opening on, never from a returned queue or state'; proofs/Carried has that
-- the carries are what the whole row says.
use Rattle.std.specs.Prelude.{◌≡◌, ◌+◌}
use Rattle.laws.specs.Prelude.{Bool, true, not, List, ℕ, zero, suc, eqb, pos, all}
use Rattle.pixel_segment.specs.Field.{cpu}
use Rattle.segment_rows.specs.Rows.{is_row, Words}
use Rattle.segment_rows.specs.Search.{left_part, tile_part}
use Rattle.styling.specs.declared.Layer.{Layer}
use Rattle.queue_statements.specs.Queue.{Carry}
use Rattle.queue_statements.specs.Opening.{open_queue}
use Rattle.tile_layers.specs.Listing.{Listed, layers_in}
use Rattle.layer_carrying.specs.Carrying.{handed_on}

-- a row that refusal 3 does not apply to: words of 64 bits, in order, all of one tile y (as it is stored)
pub record InOrder (ty : ℕ) (row : List ℕ) : Type 0 where
  pub words : Words row
  pub is_row_lem : is_row cpu ty row ≡ true

-- the queue after n tiles of a row whose first tile is `from`: the opening's, then what each tile hands on
unfoldable pub queue_after : List Layer → List ℕ → ℕ → ℕ → List Carry
queue_after table row from zero = open_queue (left_part (pos from) row)
queue_after table row from (suc n) = handed_on table (layers_in (queue_after table row from n) (tile_part (pos (from + n)) row))

-- the layers of tile from + n
abbrev pub layers_at : List Layer → List ℕ → ℕ → ℕ → List Listed
layers_at table row from n = layers_in (queue_after table row from n) (tile_part (pos (from + n)) row)

-- no listed layer has the id
abbrev pub is_unlisted : List Listed → ℕ → Bool
is_unlisted ls id = all (λ l. not (eqb l.id id)) ls
