-- Two rows that agree on a layer: its sums, its carries, its entries and its coverages are the same in each tile. Assumes nothing.
use Rattle.std.specs.Prelude.{◌≡◌, ◌&&◌, ◌||◌, ◌∷◌, ◌+◌, ◌+ℤ◌, ◌*ℤ◌}
use Rattle.laws.proofs.Prelude.{refl, ap, ap₂, sym, ◌∙◌, Bool, true, cond, not, List, [], map, Some, None, ℕ, zero, suc}
use Rattle.laws.proofs.Prelude.{arith, eqb, ltb, ℤ, pos, +ℤ_idl, tabulate, filter, sumℤ, count_by, sumℤ_same, sumℕ_same}
use Rattle.pixel_segment.specs.Field.{cpu, tile_x_of, layer_id_of, cover_of, double_area_of}
use Rattle.segment_rows.specs.Search as search
use Rattle.segment_rows.specs.Search.{tile_part}
use Rattle.styling.specs.declared.FillRule.{FillRule}
use Rattle.cover_statements.specs.Area.{is_before, is_own, doubled_area}
use Rattle.cover_statements.specs.Carry.{in_row, cover_in, carry_of}
use Rattle.cover_statements.specs.Cover.{cover_at, is_empty}
use Rattle.cover_statements.specs.Coverage.{area_coverage}
use Rattle.cover_statements.specs.Plane.{in_places}
use Rattle.cover_statements.specs.WholeRow as whole
use Rattle.cover_statements.specs.WholeRow.{part_of, left_cover, row_plane}
use Rattle.queue_statements.specs.Queue.{Carry, held_in, ids_in, has_id}
use Rattle.queue_statements.specs.Opening.{open_queue}
use Rattle.queue_statements.proofs.Openings.{opening_has, opening_held}
use Rattle.tile_layers.specs.Listing.{is_listed, has_carry, has_segment, has_any, incoming_of}
use Rattle.tile_layers.proofs.Members.{listed_exactly}
use Rattle.layer_carrying.specs.Carrying.{rule_in}
use Rattle.layer_workbench.specs.Work.{entry_of}
use Rattle.row_carries.proofs.Carried.{queue_first, queue_next, queue_ascends, layers_ascend, held_next}
use Rattle.row_carries.proofs.Handed.{or_dropped}
use Rattle.row_carries.proofs.Merged.{own_in, list_held, list_own}
use Rattle.row_carries.proofs.Parts.{tile_layer, left_layer}
use Rattle.row_statements.specs.Due.{OpenRow, table_on, queue_on, layers_on}
use Rattle.row_statements.specs.InnerHolding.{IsOpen}
use Rattle.two_rows.specs.Apart.{below_tile_y, layer_segments, AgreeOn, entry_in, SameLayer}
use Rattle.two_rows.proofs.Words.{tile_x_below, local_x_below, local_y_below, cover_below, area_below, layer_sum}
use Rattle.two_rows.proofs.Layers.{long_same, any_filter, carry_in_lem, entry_in_lem, handed_has}

-- ---- two rows with the same segments of a layer

add_idl : (n : ℕ) → 0 + n ≡ n
add_idl n = omega arith

module _ (id : ℕ) (row row' : List ℕ) (segments : (v : ℕ) → count_by (eqb v) (layer_segments id row) ≡ count_by (eqb v) (layer_segments id row')) where
  -- sums over the layer's segments in a place that no tile y plays a part in
  part_ℤ : (on p : ℕ → Bool) (f : ℕ → ℤ) → ((w : ℕ) → on (below_tile_y w) ≡ on w) → ((w : ℕ) → p (below_tile_y w) ≡ p w) → ((w : ℕ) → f (below_tile_y w) ≡ f w)
      → sumℤ p f (filter (λ w. on w && eqb (layer_id_of cpu w) id) row) ≡ sumℤ p f (filter (λ w. on w && eqb (layer_id_of cpu w) id) row')
  part_ℤ on p f ho hp hf =
      layer_sum ◌+ℤ◌ (pos 0) +ℤ_idl on p f id row ho hp hf
      ∙ sumℤ_same (λ w. on w && p w) f (layer_segments id row) (layer_segments id row') segments
      ∙ sym (layer_sum ◌+ℤ◌ (pos 0) +ℤ_idl on p f id row' ho hp hf)

  part_any : (on : ℕ → Bool) → ((w : ℕ) → on (below_tile_y w) ≡ on w)
      → has_any (filter (λ w. on w && eqb (layer_id_of cpu w) id) row) ≡ has_any (filter (λ w. on w && eqb (layer_id_of cpu w) id) row')
  part_any on ho =
      long_same (filter (λ w. on w && eqb (layer_id_of cpu w) id) row) (filter (λ w. on w && eqb (layer_id_of cpu w) id) row')
      (layer_sum ◌+◌ 0 add_idl on (λ w. true) (λ w. 1) id row ho (λ w. refl) (λ w. refl)
      ∙ sumℕ_same (λ w. on w && true) (λ w. 1) (layer_segments id row) (layer_segments id row') segments
      ∙ sym (layer_sum ◌+◌ 0 add_idl on (λ w. true) (λ w. 1) id row' ho (λ w. refl) (λ w. refl)))

  tile_on : (t w : ℕ) → eqb (tile_x_of cpu (below_tile_y w)) t ≡ eqb (tile_x_of cpu w) t
  tile_on t w = ap (λ (x : ℕ). eqb x t) (tile_x_below w)

  left_on : (t w : ℕ) → ltb (tile_x_of cpu (below_tile_y w)) t ≡ ltb (tile_x_of cpu w) t
  left_on t w = ap (λ (x : ℕ). ltb x t) (tile_x_below w)

  row_on : (y w : ℕ) → in_row cpu y (below_tile_y w) ≡ in_row cpu y w
  row_on y w = ap (λ (x : ℕ). eqb x y) (local_y_below w)

  -- the cover of a pixel row, left of a tile and in it
  left_same : (t y : ℕ) → left_cover cpu t id row y ≡ left_cover cpu t id row' y
  unfolding left_cover
  left_same t y = part_ℤ (λ w. ltb (tile_x_of cpu w) t) (in_row cpu y) (cover_of cpu) (left_on t) (row_on y) cover_below

  cover_same : (t y : ℕ) → cover_in cpu y (part_of cpu t id row) ≡ cover_in cpu y (part_of cpu t id row')
  cover_same t y = part_ℤ (λ w. eqb (tile_x_of cpu w) t) (in_row cpu y) (cover_of cpu) (tile_on t) (row_on y) cover_below

  -- d of each pixel
  area_same : (t c y : ℕ) → doubled_area cpu (left_cover cpu t id row) (part_of cpu t id row) c y ≡ doubled_area cpu (left_cover cpu t id row') (part_of cpu t id row') c y
  unfolding doubled_area
  area_same t c y =
      let before = part_ℤ (λ w. eqb (tile_x_of cpu w) t) (is_before cpu c y) (cover_of cpu) (tile_on t) (λ w. ap₂ ◌&&◌ (row_on y w) (ap (λ (x : ℕ). ltb x c) (local_x_below w))) cover_below in
      let own = part_ℤ (λ w. eqb (tile_x_of cpu w) t) (is_own cpu c y) (double_area_of cpu) (tile_on t) (λ w. ap₂ ◌&&◌ (row_on y w) (ap (λ (x : ℕ). eqb x c) (local_x_below w))) area_below in
      ap₂ ◌+ℤ◌ (ap₂ (λ (a b : ℤ). pos 32 *ℤ (a +ℤ b)) (left_same t y) before) own

  pub plane_same : (rule : FillRule) (t : ℕ) → row_plane cpu 16 rule t id row ≡ row_plane cpu 16 rule t id row'
  plane_same rule t = λ i. in_places 16 (λ c y. area_coverage rule (area_same t c y i))

  -- a carry past a tile
  carry_same : (cover : List ℤ) (t : ℕ) → carry_of cpu 16 cover (part_of cpu t id row) ≡ carry_of cpu 16 cover (part_of cpu t id row')
  unfolding carry_of
  carry_same cover t = λ i. tabulate 16 (λ y. cover_at cover y +ℤ cover_same t y i)

  -- whether there are segments
  any_same : (t : ℕ) → has_any (part_of cpu t id row) ≡ has_any (part_of cpu t id row')
  any_same t = part_any (λ w. eqb (tile_x_of cpu w) t) (tile_on t)

  left_any_same : (t : ℕ) → has_any (whole.segments_left cpu t id row) ≡ has_any (whole.segments_left cpu t id row')
  left_any_same t = part_any (λ w. ltb (tile_x_of cpu w) t) (left_on t)

-- ---- one row: what its queue and its lists say of a layer, by the whole row

has_ids : (q : List Carry) (id : ℕ) → has_carry q id ≡ has_id id (ids_in q)
has_ids [] id = refl
has_ids (c ∷ q) id = ap (λ (t : Bool). eqb c.id id || t) (has_ids q id)

has_words : (l : List ℕ) (id : ℕ) → has_id id (map (layer_id_of cpu) l) ≡ has_segment l id
has_words [] id = refl
has_words (w ∷ ws) id = ap (λ (t : Bool). eqb (layer_id_of cpu w) id || t) (has_words ws id)

module _ {o : OpenRow} (is_open : IsOpen o) (id : ℕ) where
  part : ℕ → List ℕ
  part n = part_of cpu (suc (o.from + n)) id o.row

  segment_is : (n : ℕ) → has_segment (tile_part (pos (o.from + n)) o.row) id ≡ has_any (part n)
  unfolding part
  segment_is n =
      any_filter (λ w. eqb (layer_id_of cpu w) id) (tile_part (pos (o.from + n)) o.row)
      ∙ ap has_any (tile_layer is_open.in_order (o.from + n) id)

  held_first_lem : held_in (queue_on o 0) id ≡ tabulate 16 (left_cover cpu (suc o.from) id o.row)
  unfolding left_cover
  held_first_lem =
      ap (λ (q : List Carry). held_in q id) (queue_first (table_on o) o.row o.from)
      ∙ opening_held (search.left_part (pos o.from) o.row) id
      ∙ ap (λ (l : List ℕ). tabulate 16 (λ y. cover_in cpu y l)) (left_layer is_open.in_order o.from id)

  has_first : has_carry (queue_on o 0) id ≡ has_any (whole.segments_left cpu (suc o.from) id o.row)
  has_first =
      let left = search.left_part (pos o.from) o.row in
      ap (λ (q : List Carry). has_carry q id) (queue_first (table_on o) o.row o.from)
      ∙ has_ids (open_queue left) id ∙ opening_has left id ∙ has_words left id
      ∙ any_filter (λ w. eqb (layer_id_of cpu w) id) left
      ∙ ap has_any (left_layer is_open.in_order o.from id)

  listed_is : (n : ℕ) → is_listed (layers_on o n) id ≡ (has_carry (queue_on o n) id || has_any (part n))
  unfolding part
  listed_is n =
      listed_exactly (queue_on o n) (tile_part (pos (o.from + n)) o.row) id
      ∙ ap (λ (t : Bool). has_carry (queue_on o n) id || t) (segment_is n)

  cover_is : (n : ℕ) → held_in (incoming_of (layers_on o n)) id ≡ held_in (queue_on o n) id
  cover_is n = list_held (queue_on o n) (tile_part (pos (o.from + n)) o.row) id (queue_ascends is_open.in_order (table_on o) o.from n)

  own_is : (n : ℕ) → own_in (layers_on o n) id ≡ part n
  unfolding part
  own_is n = list_own (queue_on o n) (tile_part (pos (o.from + n)) o.row) id ∙ tile_layer is_open.in_order (o.from + n) id

  has_next : (n : ℕ) → has_carry (queue_on o (suc n)) id ≡ ((has_carry (queue_on o n) id || has_any (part n)) && not (is_empty (rule_in (table_on o) id) (carry_of cpu 16 (held_in (queue_on o n) id) (part n))))
  has_next n =
      ap (λ (q : List Carry). has_carry q id) (queue_next (table_on o) o.row o.from n)
      ∙ handed_has (table_on o) 0 (layers_on o n) id (layers_ascend is_open.in_order (table_on o) o.from n)
      ∙ rw (listed_is n, cover_is n, own_is n)

  entry_is : (n : ℕ) → entry_in (map (entry_of (table_on o)) (layers_on o n)) id ≡ cond (has_carry (queue_on o n) id || has_any (part n)) (Some (record { id = id; cover = held_in (queue_on o n) id; segments = has_any (part n) })) None
  entry_is n =
      entry_in_lem (table_on o) 0 (layers_on o n) id (layers_ascend is_open.in_order (table_on o) o.from n)
      ∙ rw (listed_is n, cover_is n, own_is n)

-- ---- both

module _ {o o' : OpenRow} (is_open : IsOpen o) (is-open' : IsOpen o') {id : ℕ} (agree : AgreeOn id o o') where
  tile_is : (n : ℕ) → suc (o.from + n) ≡ suc (o'.from + n)
  tile_is n = ap (λ (f : ℕ). suc (f + n)) agree.first

  parts_carry : (cover : List ℤ) (n : ℕ) → carry_of cpu 16 cover (part is_open id n) ≡ carry_of cpu 16 cover (part is-open' id n)
  unfolding part
  parts_carry cover n = carry_same id o.row o'.row agree.segments cover (suc (o.from + n)) ∙ ap (λ (t : ℕ). carry_of cpu 16 cover (part_of cpu t id o'.row)) (tile_is n)

  parts_any : (n : ℕ) → has_any (part is_open id n) ≡ has_any (part is-open' id n)
  unfolding part
  parts_any n = any_same id o.row o'.row agree.segments (suc (o.from + n)) ∙ ap (λ (t : ℕ). has_any (part_of cpu t id o'.row)) (tile_is n)

  pub held_same : (n : ℕ) → held_in (queue_on o n) id ≡ held_in (queue_on o' n) id
  unfolding part
  held_same zero =
      held_first_lem is_open id
      ∙ (λ i. tabulate 16 (λ y. left_same id o.row o'.row agree.segments (suc o.from) y i))
      ∙ ap (λ (f : ℕ). tabulate 16 (left_cover cpu (suc f) id o'.row)) agree.first
      ∙ sym (held_first_lem is-open' id)
  held_same (suc n) =
      held_next is_open.in_order (table_on o) o.from n id
      ∙ ap₂ (λ (rule : FillRule) (c : List ℤ). or_dropped rule c) agree.rule (ap (λ (c : List ℤ). carry_of cpu 16 c (part is_open id n)) (held_same n) ∙ parts_carry (held_in (queue_on o' n) id) n)
      ∙ sym (held_next is-open'.in_order (table_on o') o'.from n id)

  pub has_same : (n : ℕ) → has_carry (queue_on o n) id ≡ has_carry (queue_on o' n) id
  has_same zero =
      has_first is_open id
      ∙ left_any_same id o.row o'.row agree.segments (suc o.from)
      ∙ ap (λ (f : ℕ). has_any (whole.segments_left cpu (suc f) id o'.row)) agree.first
      ∙ sym (has_first is-open' id)
  has_same (suc n) =
      let carries = ap (λ (c : List ℤ). carry_of cpu 16 c (part is_open id n)) (held_same n) ∙ parts_carry (held_in (queue_on o' n) id) n in
      has_next is_open id n
      ∙ ap₂ (λ (a b : Bool). a && not b) (ap₂ ◌||◌ (has_same n) (parts_any n)) (ap₂ is_empty agree.rule carries)
      ∙ sym (has_next is-open' id n)

  pub same_layer : (n : ℕ) → SameLayer id o o' n
  same_layer n =
      record {
        carry = carry_in_lem (queue_on o n) id ∙ ap₂ (λ (t : Bool) (c : List ℤ). cond t (Some (record { id = id; cover = c })) None) (has_same n) (held_same n) ∙ sym (carry_in_lem (queue_on o' n) id);
        entry =
            entry_is is_open id n
            ∙ (λ i. cond (has_same n i || parts_any n i) (Some (record { id = id; cover = held_same n i; segments = parts_any n i })) None)
            ∙ sym (entry_is is-open' id n);
        plane = plane_same id o.row o'.row agree.segments (rule_in (table_on o) id) (suc (o.from + n)) ∙ ap₂ (λ (rule : FillRule) (t : ℕ). row_plane cpu 16 rule t id o'.row) agree.rule (tile_is n);
      }
