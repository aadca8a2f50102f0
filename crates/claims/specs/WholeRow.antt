-- What a row says of its tiles, worked from the whole row: openings, carries, lists, planes. Stands for document 01, 'Working from the whole row'.
use Rattle.std.specs.Prelude.{◌≡◌, ◌+◌, ◌<◌, ◌+ℤ◌, Option}
use Rattle.laws.specs.Prelude.{List, map, true, ℕ, suc, ℤ, pos, length, get_or, replicate, tabulate, modℤ, refused}
use Rattle.cover_statements.specs.WholeRow.{left_cover, part_of, FromRow, row_plane}
use Rattle.cover_statements.specs.Carry.{cover_in, carry_of}
use Rattle.styling.specs.declared.FillRule.{FillRule}
use Rattle.cover_statements.specs.Plane.{plane_of}
use Rattle.cover_statements.specs.Cover.{cover_at, is_empty}
use Rattle.queue_statements.specs.Queue.{held_in, ids_in, has_id, Carry, no_carry}
use Rattle.queue_statements.specs.Opening.{open_queue, of_layer}
use Rattle.pixel_segment.specs.Field.{cpu, layer_id_of}
use Rattle.styling.specs.Ascending.{strictly_ascends}
use Rattle.segment_rows.specs.Rows.{Ordered}
use Rattle.tile_layers.specs.Listing.{layers_in}
use Rattle.styling.specs.declared.Layer.{Layer}
use Rattle.row_carries.specs.Carries.{queue_after, InOrder, is_unlisted, layers_at}
use Rattle.segment_rows.specs.Search.{left_part, layer_part, tile_part}
use Rattle.layer_carrying.specs.Carrying.{rule_in}
use Rattle.styling.specs.declared.FillRule.TheVariants.{NonZero, EvenOdd}
use Rattle.cover_statements.specs.Coverage.{coverage_of}
use Rattle.layer_table.specs.Lookup.{lookup}
use Rattle.pass_statements.specs.Covered.{item_at}
use Rattle.row_carries.specs.Covering.{items_at, listed_id_at, CoveredUnder}
use Rattle.styling.specs.declared.Color.{Color}
use Rattle.layer_workbench.specs.Work.{outcome_in}
use Rattle.cached_tile.specs.declared.kept.Kept as kept

pub record FromWholeRow : Type 0 where
  -- what lies left of the next tile lies left of this one or in it
  pub left_next : (ws : List ℕ) (tile layer : ℕ) (row : List ℕ) (y : ℕ) →
      left_cover ws (tile + 1) layer row y ≡ left_cover ws tile layer row y +ℤ cover_in ws y (part_of ws tile layer row)
  -- the plane from the tile's part and such a carry is the plane from the whole row
  pub plane_from_row : {ws : List ℕ} {n : ℕ} {rule : FillRule} {tile layer : ℕ} {row : List ℕ} → {covers : List ℤ} → 0 < n →
      FromRow ws n rule tile layer row covers → plane_of ws n rule (cover_at covers) (part_of ws tile layer row) ≡ row_plane ws n rule tile layer row
  -- the carry past the tile does so at the next
  pub carry_from_row : {ws : List ℕ} {n : ℕ} {rule : FillRule} {tile layer : ℕ} {row : List ℕ} → {covers : List ℤ} →
      FromRow ws n rule tile layer row covers → FromRow ws n rule (tile + 1) layer row (carry_of ws n covers (part_of ws tile layer row))
  -- and a dropped one, which counts as zeros, where it was empty
  pub dropped_from_row : {ws : List ℕ} {n : ℕ} {rule : FillRule} {tile layer : ℕ} {row : List ℕ} → {covers zeros : List ℤ} → length covers ≡ n →
      is_empty rule covers ≡ true → ((y : ℕ) → cover_at zeros y ≡ pos 0) → FromRow ws n rule tile layer row covers →
      FromRow ws n rule tile layer row zeros
  pub opening_held : (left : List ℕ) (id : ℕ) → held_in (open_queue left) id ≡ tabulate 16 (λ y. cover_in cpu y (of_layer id left))
  -- the ids of an opening ascend
  pub opening_ascends : (left : List ℕ) → strictly_ascends (ids_in (open_queue left)) ≡ true
  -- a layer has a carry exactly where a word has its id
  pub opening_has : (left : List ℕ) (id : ℕ) → has_id id (ids_in (open_queue left)) ≡ has_id id (map (layer_id_of cpu) left)
  -- the layers of a tile strictly ascend: each is listed once
  pub list_ascends : (q : List Carry) (part : List ℕ) → strictly_ascends (ids_in q) ≡ true → Ordered (layer_id_of cpu) part →
      strictly_ascends (map (λ l. l.id) (layers_in q part)) ≡ true
  -- the first tile's queue is the opening's
  pub queue_first : (table : List Layer) (row : List ℕ) (from : ℕ) → queue_after table row from 0 ≡ open_queue (left_part (pos from) row)
  -- the plane that a tile's part and carry give is the whole row's
  pub plane_is : {ty : ℕ} {row : List ℕ} (r : InOrder ty row) (table : List Layer) (from : ℕ) → (n id : ℕ) →
      plane_of cpu 16 (rule_in table id) (cover_at (held_in (queue_after table row from n) id))
      (layer_part id (tile_part (pos (from + n)) row)) ≡ row_plane cpu 16 (rule_in table id) (suc (from + n)) id row
  pub held_from_row : {ty : ℕ} {row : List ℕ} (r : InOrder ty row) (table : List Layer) (from : ℕ) → (n id : ℕ) →
      FromRow cpu 16 (rule_in table id) (suc (from + n)) id row (held_in (queue_after table row from n) id)
  -- the two rules in plain words: a NonZero carry is the exact sum, an EvenOdd one agrees with it modulo 32
  pub held_exact : {ty : ℕ} {row : List ℕ} (r : InOrder ty row) (table : List Layer) (from : ℕ) → (n id : ℕ) → rule_in table id ≡ NonZero → (y : ℕ) →
      y < 16 → cover_at (held_in (queue_after table row from n) id) y ≡ left_cover cpu (suc (from + n)) id row y
  pub held_modulo : {ty : ℕ} {row : List ℕ} (r : InOrder ty row) (table : List Layer) (from : ℕ) → (n id : ℕ) → rule_in table id ≡ EvenOdd → (y : ℕ) →
      y < 16 → modℤ 32 (cover_at (held_in (queue_after table row from n) id) y) ≡ modℤ 32 (left_cover cpu (suc (from + n)) id row y)
  pub carry_from_row_at : {ty : ℕ} {row : List ℕ} (r : InOrder ty row) (table : List Layer) (from : ℕ) → (n i : ℕ) →
      i < length (queue_after table row from n) →
      FromRow cpu 16 (rule_in table (get_or (queue_after table row from n) i no_carry).id) (suc (from + n))
      (get_or (queue_after table row from n) i no_carry).id row (get_or (queue_after table row from n) i no_carry).cover
  -- a layer that is not listed has coverage 0 everywhere
  pub unlisted_zeros : {ty : ℕ} {row : List ℕ} (r : InOrder ty row) (table : List Layer) (from : ℕ) → (n id : ℕ) →
      is_unlisted (layers_at table row from n) id ≡ true → row_plane cpu 16 (rule_in table id) (suc (from + n)) id row ≡ replicate 256 (coverage_of 0)
  -- by either rule, where the table lacks the layer: its carry is exact
  pub unknown_zeros : {ty : ℕ} {row : List ℕ} (r : InOrder ty row) (table : List Layer) (from : ℕ) → (n id : ℕ) →
      is_unlisted (layers_at table row from n) id ≡ true → lookup table id ≡ refused 8 → (rule : FillRule) →
      row_plane cpu 16 rule (suc (from + n)) id row ≡ replicate 256 (coverage_of 0)
  -- a layer that the passes take for full has coverage 1 everywhere
  pub full_ones : {ty : ℕ} {row : List ℕ} (r : InOrder ty row) (table : List Layer) (from : ℕ) → (n p : ℕ) → p < length (layers_at table row from n) →
      (item_at (items_at table row from n) p).full ≡ true →
      row_plane cpu 16 (rule_in table (listed_id_at table row from n p)) (suc (from + n))
      (listed_id_at table row from n p) row ≡ replicate 256 (coverage_of 512)
  pub covered_under : {ty : ℕ} {row : List ℕ} (r : InOrder ty row) (table : List Layer) (from : ℕ) →
      (n : ℕ) (k : kept.Kept) (clear : Color) (previous : Option Color) (i : ℕ) →
      i < (outcome_in table k clear previous (layers_at table row from n)).skipped →
      CoveredUnder table row from n (outcome_in table k clear previous (layers_at table row from n)) i
