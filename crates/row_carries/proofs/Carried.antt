-- The carries of a row that is worked from its opening on are what the whole row says: 'after each tile a layer's NonZero carry is the exact sum
-- of its covers so far in each row; an EvenOdd one agrees with that sum modulo 32; a dropped carry counts as zeros'. Assumes nothing.
use Rattle.std.specs.Prelude.{◌≡◌, ◌+◌, ◌<◌}
use Rattle.laws.proofs.Prelude.{refl, sym, ap, ap₂, ◌∙◌, Bool, true, false, cond, List, ℕ, zero, suc, add-zero, arith, ℤ, pos, length}
use Rattle.laws.proofs.Prelude.{get_or, modℤ}
use Rattle.pixel_segment.specs.Field.{cpu}
use Rattle.segment_rows.specs.Search.{left_part, tile_part, layer_part}
use Rattle.styling.specs.Ascending.{strictly_ascends}
use Rattle.styling.specs.declared.FillRule.TheVariants.{NonZero, EvenOdd}
use Rattle.styling.specs.declared.Layer.{Layer}
use Rattle.cover_statements.specs.Carry.{carry_of}
use Rattle.cover_statements.specs.Cover.{cover_at, is_empty}
use Rattle.cover_statements.specs.Plane.{plane_of}
use Rattle.cover_statements.specs.WholeRow.{part_of, left_cover, row_plane, FromRow}
use Rattle.cover_statements.proofs.Agreement.{agrees_refl}
use Rattle.cover_statements.proofs.Carries.{carry_length}
use Rattle.cover_statements.proofs.Filled.{get_d_default}
use Rattle.cover_statements.proofs.FromRow.{carry_from_row, dropped_from_row, plane_from_row}
use Rattle.queue_statements.specs.Queue.{Carry, ids_in, zeros, held_in, no_carry}
use Rattle.queue_statements.specs.Opening.{open_queue}
use Rattle.queue_statements.proofs.Columns.{are_wide}
use Rattle.queue_statements.proofs.Openings.{opening_ascends, opening_wide, opening_at}
use Rattle.queue_statements.proofs.Queues.{held_at}
use Rattle.tile_layers.specs.Listing.{no_listed}
use Rattle.layer_carrying.specs.Carrying.{rule_in, handed_on}
use Rattle.layer_carrying.proofs.Handing.{handed_wide}
use Rattle.tile_layers.proofs.Ordering.{listed_ids, list_ascends}
use Rattle.row_carries.specs.Carries.{InOrder, queue_after, layers_at, is_unlisted}
use Rattle.row_carries.specs.Listed.{ListedIs, UnlistedIs}
use Rattle.row_carries.proofs.Handed.{or_dropped, handed_ascends, handed_held}
use Rattle.row_carries.proofs.Merged.{list_held, list_own, listed_cover, listed_own, unlisted_cover, unlisted_none}
use Rattle.row_carries.proofs.Parts.{tile_ordered, tile_layer, layer_part_is, left_layer}

-- the first tile's queue is the opening's
pub queue_first : (table : List Layer) (row : List ℕ) (from : ℕ) → queue_after table row from 0 ≡ open_queue (left_part (pos from) row)
unfolding queue_after
queue_first table row from = refl

-- and each tile hands on the next one's
pub queue_next : (table : List Layer) (row : List ℕ) (from n : ℕ) → queue_after table row from (suc n) ≡ handed_on table (layers_at table row from n)
unfolding queue_after
queue_next table row from n = refl

module _ {ty : ℕ} {row : List ℕ} (r : InOrder ty row) (table : List Layer) (from : ℕ) where
  -- ---- a queue in order

  pub queue_ascends : (n : ℕ) → strictly_ascends (ids_in (queue_after table row from n)) ≡ true
  unfolding queue_after
  queue_ascends zero = opening_ascends _
  queue_ascends (suc n) = handed_ascends table 0 _ (list_ascends _ _ (queue_ascends n) (tile_ordered r _))

  -- each layer of a tile is listed once, ascending
  pub layers_ascend : (n : ℕ) → strictly_ascends (listed_ids (layers_at table row from n)) ≡ true
  layers_ascend n = list_ascends _ _ (queue_ascends n) (tile_ordered r _)

  -- every cover has a number for each of 16 pixel rows
  pub queue_wide : (n : ℕ) → are_wide (queue_after table row from n) ≡ true
  unfolding queue_after
  queue_wide zero = opening_wide _
  queue_wide (suc n) = handed_wide table _

  -- ---- the layers of a tile

  pub listed_is : (n i : ℕ) → i < length (layers_at table row from n) → ListedIs table row from n (get_or (layers_at table row from n) i no_listed)
  listed_is n i h =
      record {
        cover_is = listed_cover _ _ (queue_ascends n) (tile_ordered r _) i h;
        own_is = listed_own _ _ (queue_ascends n) (tile_ordered r _) i h ∙ tile_layer r (from + n) (get_or (layers_at table row from n) i no_listed).id;
      }

  pub unlisted_is : (n id : ℕ) → is_unlisted (layers_at table row from n) id ≡ true → UnlistedIs table row from n id
  unlisted_is n id h =
      record {
        cover_is = unlisted_cover _ _ (queue_ascends n) (tile_ordered r _) id h;
        own_is = sym (tile_layer r (from + n) id) ∙ unlisted_none _ _ (queue_ascends n) (tile_ordered r _) id h;
      }

  -- ---- what the queue holds of a layer

  -- the layer's carry past tile from + n, or zeros where it is dropped
  pub held_next : (n id : ℕ) → held_in (queue_after table row from (suc n)) id ≡ or_dropped (rule_in table id) (carry_of cpu 16 (held_in (queue_after table row from n) id) (part_of cpu (suc (from + n)) id row))
  held_next n id =
      ap (λ (c : List Carry). held_in c id) (queue_next table row from n)
      ∙ handed_held table 0 (layers_at table row from n) id (layers_ascend n)
      ∙ ap₂ (λ (c : List ℤ) (o : List ℕ). or_dropped (rule_in table id) (carry_of cpu 16 c o))
      (list_held _ _ id (queue_ascends n))
      (list_own (queue_after table row from n) _ id ∙ tile_layer r (from + n) id)

  first_from_row : (id : ℕ) → FromRow cpu 16 (rule_in table id) (suc from) id row (held_in (queue_after table row from 0) id)
  unfolding queue_after left_cover
  first_from_row id =
      record {
        at =
            λ y h.
            rw (opening_at (left_part (pos from) row) id y, left_layer r from id)
            (agrees_refl (rule_in table id) (left_cover cpu (suc from) id row y));
      }

  next_from_row : (n id : ℕ) → FromRow cpu 16 (rule_in table id) (suc (from + n)) id row (held_in (queue_after table row from n) id) → FromRow cpu 16 (rule_in table id) (suc (from + suc n)) id row (held_in (queue_after table row from (suc n)) id)
  next_from_row n id c = rw (held_next n id) (or_dropped_lem (is_empty (rule_in table id) carry) refl)
    where
      carry : List ℤ
      carry = carry_of cpu 16 (held_in (queue_after table row from n) id) (part_of cpu (suc (from + n)) id row)

      past : FromRow cpu 16 (rule_in table id) (suc (from + suc n)) id row carry
      past = let e : suc (from + suc n) ≡ suc (from + n) + 1 = omega arith in rw e (carry_from_row c)

      or_dropped_lem : (t : Bool) → is_empty (rule_in table id) carry ≡ t → FromRow cpu 16 (rule_in table id) (suc (from + suc n)) id row (cond t zeros carry)
      or_dropped_lem true e = dropped_from_row (carry_length cpu 16 _ _) e (λ y. get_d_default 16 y) past
      or_dropped_lem false e = past

  pub held_from_row : (n id : ℕ) → FromRow cpu 16 (rule_in table id) (suc (from + n)) id row (held_in (queue_after table row from n) id)
  held_from_row zero id = rw (add-zero from) (first_from_row id)
  held_from_row (suc n) id = next_from_row n id (held_from_row n id)

  pub carry_from_row_at : (n i : ℕ) → i < length (queue_after table row from n) → FromRow cpu 16 (rule_in table (get_or (queue_after table row from n) i no_carry).id) (suc (from + n)) (get_or (queue_after table row from n) i no_carry).id row (get_or (queue_after table row from n) i no_carry).cover
  carry_from_row_at n i h =
      let q = queue_after table row from n in
      let id = (get_or q i no_carry).id in
      rw (← held_at 0 q i id (queue_ascends n) h refl) (held_from_row n id)

  -- the two rules in plain words: a NonZero carry is the exact sum, an EvenOdd one agrees with it modulo 32
  pub held_exact : (n id : ℕ) → rule_in table id ≡ NonZero → (y : ℕ) → y < 16 → cover_at (held_in (queue_after table row from n) id) y ≡ left_cover cpu (suc (from + n)) id row y
  held_exact n id e y h =
      let c : FromRow cpu 16 NonZero (suc (from + n)) id row (held_in (queue_after table row from n) id) = rw e at (held_from_row n id) in c.at y h

  pub held_modulo : (n id : ℕ) → rule_in table id ≡ EvenOdd → (y : ℕ) → y < 16 → modℤ 32 (cover_at (held_in (queue_after table row from n) id) y) ≡ modℤ 32 (left_cover cpu (suc (from + n)) id row y)
  held_modulo n id e y h =
      let c : FromRow cpu 16 EvenOdd (suc (from + n)) id row (held_in (queue_after table row from n) id) = rw e at (held_from_row n id) in c.at y h

  -- the plane that a tile's part and carry give is the whole row's
  pub plane_is : (n id : ℕ) → plane_of cpu 16 (rule_in table id) (cover_at (held_in (queue_after table row from n) id)) (layer_part id (tile_part (pos (from + n)) row)) ≡ row_plane cpu 16 (rule_in table id) (suc (from + n)) id row
  plane_is n id = rw (layer_part_is r (from + n) id) (plane_from_row (omega arith) (held_from_row n id))
