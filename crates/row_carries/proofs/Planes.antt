-- Planes that the whole row gives in a tile: coverage 0 of a layer that is not listed there, coverage 1 of one that is full there. Assumes
-- nothing.
use Rattle.std.specs.Prelude.{◌≡◌, ◌∷◌, ◌+◌, ◌<◌}
use Rattle.laws.proofs.Prelude.{refl, sym, ap, ap₂, ◌∙◌, true, false, not, false≢true, List, [], map, ℕ, suc, arith, not-true}
use Rattle.laws.proofs.Prelude.{Float, binary32, of_bits, ℤ, pos, length, get_or, replicate, length-replicate, get_or-replicate, length-map, drop-cons}
use Rattle.laws.proofs.Prelude.{every, Answer, refused, given, map_at, every_at, is_tabulate}
use Rattle.laws.proofs.Bools as Bools
use Rattle.pixel_segment.specs.Field.{cpu}
use Rattle.layer_table.specs.Lookup.{lookup}
use Rattle.styling.specs.declared.FillRule.{FillRule}
use Rattle.styling.specs.declared.FillRule.TheVariants.{NonZero, EvenOdd}
use Rattle.styling.specs.declared.Layer.{Layer}
use Rattle.cover_statements.specs.Coverage.{coverage_of}
use Rattle.cover_statements.specs.Cover.{cover_at, empty_at, full_at, is_full}
use Rattle.cover_statements.specs.Plane.{in_places, plane_of}
use Rattle.cover_statements.specs.WholeRow.{left_cover, row_plane, FromRow}
use Rattle.cover_statements.proofs.Coverages.{coverage_zero, coverage_one}
use Rattle.cover_statements.proofs.Filled.{get_d_default}
use Rattle.cover_statements.proofs.FromRow.{plane_from_row, full_from_row, empty_plane, full_plane}
use Rattle.queue_statements.specs.Queue.{zeros}
use Rattle.queue_statements.proofs.Openings.{held_wide}
use Rattle.tile_layers.specs.Listing.{no_listed, Listed, has_any}
use Rattle.layer_carrying.specs.Carrying.{rule_from, rule_in}
use Rattle.pass_statements.specs.Covered.{item_at}
use Rattle.pass_statements.specs.Entry.{Entry}
use Rattle.pass_statements.specs.Item.{item_from, item_of, items_of}
use Rattle.layer_workbench.specs.Work.{entry_of}
use Rattle.row_carries.specs.Carries.{InOrder, queue_after, layers_at, is_unlisted}
use Rattle.row_carries.specs.Covering.{items_at, listed_id_at}
use Rattle.row_carries.specs.Listed.{ListedIs, UnlistedIs}
use Rattle.row_carries.proofs.Carried.{queue_wide, listed_is, unlisted_is, held_from_row}

-- ---- planes of one coverage

same_everywhere : (x : Float) → in_places 16 (λ column row. x) ≡ replicate 256 x
unfolding in_places
same_everywhere x = sym (is_tabulate 256 (λ place. x) x (replicate 256 x) (length-replicate 256 x) (λ i h. get_or-replicate 256 i x x h))

-- coverage 0 and coverage 1 as binary32 numbers
pub zeros_are : replicate 256 (coverage_of 0) ≡ replicate 256 (of_bits binary32 0)
zeros_are = ap (replicate 256) coverage_zero

pub ones_are : replicate 256 (coverage_of 512) ≡ replicate 256 (of_bits binary32 0x3F800000)
ones_are = ap (replicate 256) coverage_one

zero_empty : (rule : FillRule) → empty_at rule (pos 0) ≡ true
zero_empty NonZero = refl
zero_empty EvenOdd = refl

-- ---- the item of a listed layer

pub item_listed : (table : List Layer) (ls : List Listed) (p : ℕ) → p < length ls → item_at (items_of table (map (entry_of table) ls)) p ≡ item_of table (entry_of table (get_or ls p no_listed))
item_listed table ls p h =
    map_at (item_of table) (map (entry_of table) ls) p (drop-cons (map (entry_of table) ls) p (entry_of table no_listed) (rw (length-map ls (entry_of table)) h)) _
    ∙ ap (item_of table) (map_at (entry_of table) ls p (drop-cons ls p no_listed h) (entry_of table no_listed))

-- an item that is full has no segments, and a cover that is full by the layer's rule
record Full (rule : FillRule) (e : Entry) : Type 0 where
  alone : e.segments ≡ false
  full : is_full rule e.cover ≡ true

is_full_lem : (a : Answer Layer) (e : Entry) → (item_from a e).full ≡ true → Full (rule_from a) e
is_full_lem (refused n) e h = absurd (false≢true h)
is_full_lem (given l) e h =
    record {
      alone = not-true e.segments (Bools.left (not e.segments) (is_full l.props.fill_rule e.cover) h);
      full = Bools.right (not e.segments) (is_full l.props.fill_rule e.cover) h;
    }

no_segments : (own : List ℕ) → has_any own ≡ false → own ≡ []
no_segments [] h = refl
no_segments (w ∷ ws) h = absurd (false≢true (sym h))

-- ---- in tile from + n

module _ {ty : ℕ} {row : List ℕ} (r : InOrder ty row) (table : List Layer) (from : ℕ) where
  -- a layer that is not listed has coverage 0 everywhere
  pub unlisted_zeros : (n id : ℕ) → is_unlisted (layers_at table row from n) id ≡ true → row_plane cpu 16 (rule_in table id) (suc (from + n)) id row ≡ replicate 256 (coverage_of 0)
  unlisted_zeros n id h =
      let u : UnlistedIs table row from n id = unlisted_is r table from n id h in
      let rule = rule_in table id in
      sym (plane_from_row (omega arith) (held_from_row r table from n id))
      ∙ ap₂ (λ (c : List ℤ) (part : List ℕ). plane_of cpu 16 rule (cover_at c) part) u.cover_is u.own_is
      ∙ empty_plane cpu 16 rule (cover_at zeros) (omega arith) (λ y l. rw (get_d_default 16 y) (zero_empty rule))
      ∙ same_everywhere (coverage_of 0)

  -- by either rule, where the table lacks the layer: its carry is exact
  pub unknown_zeros : (n id : ℕ) → is_unlisted (layers_at table row from n) id ≡ true → lookup table id ≡ refused 8 → (rule : FillRule) → row_plane cpu 16 rule (suc (from + n)) id row ≡ replicate 256 (coverage_of 0)
  unknown_zeros n id h e rule =
      let u : UnlistedIs table row from n id = unlisted_is r table from n id h in
      let exact : FromRow cpu 16 NonZero (suc (from + n)) id row zeros = rw (e, u.cover_is) at (held_from_row r table from n id) in
      ap (plane_of cpu 16 rule (left_cover cpu (suc (from + n)) id row)) u.own_is
      ∙ empty_plane cpu 16 rule (left_cover cpu (suc (from + n)) id row) (omega arith)
      (λ y l. ap (empty_at rule) (sym (exact.at y l) ∙ get_d_default 16 y) ∙ zero_empty rule)
      ∙ same_everywhere (coverage_of 0)

  -- a layer that the passes take for full has coverage 1 everywhere
  pub full_ones : (n p : ℕ) → p < length (layers_at table row from n) → (item_at (items_at table row from n) p).full ≡ true → row_plane cpu 16 (rule_in table (listed_id_at table row from n p)) (suc (from + n)) (listed_id_at table row from n p) row ≡ replicate 256 (coverage_of 512)
  full_ones n p h f =
      let l = get_or (layers_at table row from n) p no_listed in
      let rule = rule_in table l.id in
      let left = left_cover cpu (suc (from + n)) l.id row in
      let is : ListedIs table row from n l = listed_is r table from n p h in
      let told : Full rule (entry_of table l) = is_full_lem (lookup table l.id) (entry_of table l) (rw (item_listed table (layers_at table row from n) p h) at f) in
      let by_row : every 16 (λ y. full_at rule (left y)) ≡ true =
      sym (full_from_row (held_wide (queue_after table row from n) l.id (queue_wide r table from n)) (held_from_row r table from n l.id))
      ∙ ap (is_full rule) (sym is.cover_is)
      ∙ told.full in
      ap (plane_of cpu 16 rule left) (sym is.own_is ∙ no_segments l.own told.alone)
      ∙ full_plane cpu 16 rule left (omega arith) (every_at 16 (λ y. full_at rule (left y)) by_row)
      ∙ same_everywhere (coverage_of 512)
