-- Laws that join a tile's part and a carry with the whole row, over any widths and any height. Assumes nothing.
use Rattle.std.specs.Prelude.{◌≡◌, ◌&&◌, ◌+◌, ◌<◌, ◌+ℤ◌, ◌*ℤ◌}
use Rattle.laws.proofs.Prelude.{sym, ap, ◌∙◌, Bool, true, false, cond, not, List, [], ℕ, arith, le-ltb, eqb, ltb, Float, ℤ, pos}
use Rattle.laws.proofs.Prelude.{+ℤ_idl, +ℤ_idr, length, get_or, all_at, all_intro, filter_none, sum_filter, every}
use Rattle.laws.proofs.Sums.{sumℤ_split}
use Rattle.pixel_segment.specs.Field.{tile_x_of, layer_id_of, cover_of}
use Rattle.styling.specs.declared.FillRule.{FillRule}
use Rattle.cover_statements.specs.Area.{doubled_area, cover_before, own_area}
use Rattle.cover_statements.specs.Carry.{in_row, cover_in, carry_of}
use Rattle.cover_statements.specs.Coverage.{coverage_of}
use Rattle.cover_statements.specs.Cover.{cover_at, no_cover, empty_at, full_at, is_empty, is_full}
use Rattle.cover_statements.specs.Plane.{in_places, pixel_of, plane_of, by_columns, exchange, exchange_back}
use Rattle.cover_statements.specs.Weight.{weight_of, is_inside}
use Rattle.cover_statements.specs.WholeRow.{in_tile, left_of_tile, part_of, segments_left, left_cover, row_plane, FromRow}
use Rattle.cover_statements.proofs.Agreement.{agrees_refl, agrees_add, agrees_trans, agrees_empty, agrees_full, empty_agrees}
use Rattle.cover_statements.proofs.Areas.{and-false, split}
use Rattle.cover_statements.proofs.Testing.{and-true, all_every}
use Rattle.cover_statements.proofs.Carries.{carry_at_lem, no_cover_at}
use Rattle.cover_statements.proofs.Planes.{places_ext, exchanged, exchanged_back}
use Rattle.cover_statements.proofs.Weights.{weight_agree, empty_weight, full_weight, winding_weight}

-- ---- the incoming cover from the whole row

-- nothing lies left of tile -1
pub left_none : (ws : List ℕ) (layer : ℕ) (row : List ℕ) (y : ℕ) → left_cover ws 0 layer row y ≡ pos 0
unfolding left_cover
left_none ws layer row y =
    ap (cover_in ws y)
    (filter_none (left_of_tile ws 0 layer) row
    (all_intro (λ w. not (left_of_tile ws 0 layer w)) row 0 (λ i h. rw (le-ltb (tile_x_of ws (get_or row i 0)) 0 (omega arith)))))

turned : (t b r : Bool) → ((t && b) && r) ≡ ((b && r) && t)
turned true b r = sym (and-true (b && r))
turned false b r = sym (and-false (b && r))

-- what lies left of the next tile lies left of this one or in it
pub left_next : (ws : List ℕ) (tile layer : ℕ) (row : List ℕ) (y : ℕ) → left_cover ws (tile + 1) layer row y ≡ left_cover ws tile layer row y +ℤ cover_in ws y (part_of ws tile layer row)
unfolding left_cover
left_next ws tile layer row y =
    rw (
      ← sum_filter ◌+ℤ◌ (pos 0) +ℤ_idl (left_of_tile ws (tile + 1) layer) (in_row ws y) (cover_of ws) row,
      ← sum_filter ◌+ℤ◌ (pos 0) +ℤ_idl (left_of_tile ws tile layer) (in_row ws y) (cover_of ws) row,
      ← sum_filter ◌+ℤ◌ (pos 0) +ℤ_idl (in_tile ws tile layer) (in_row ws y) (cover_of ws) row,
    )
    (sumℤ_split (λ w. left_of_tile ws (tile + 1) layer w && in_row ws y w) (λ w. left_of_tile ws tile layer w && in_row ws y w) (λ w. in_tile ws tile layer w && in_row ws y w) (cover_of ws) row
    (λ w.
    let x = tile_x_of ws w in
    let b = eqb (layer_id_of ws w) layer in
    let r = in_row ws y w in
    rw (turned (ltb x (tile + 1)) b r, turned (ltb x tile) b r, turned (eqb x tile) b r) (split (b && r) x tile (cover_of ws w))))

-- ---- covers that are what the rule sees of the whole row

module _ {ws : List ℕ} {n : ℕ} {rule : FillRule} {tile layer : ℕ} {row : List ℕ} where
  -- a row is opened with the covers of what lies left of the first tile
  pub opening_from_row : FromRow ws n rule tile layer row (carry_of ws n (no_cover n) (segments_left ws tile layer row))
  unfolding left_cover
  opening_from_row =
      record {
        at =
            λ y h.
            let left = cover_in ws y (segments_left ws tile layer row) in
            rw (carry_at_lem ws n (no_cover n) (segments_left ws tile layer row) y h, no_cover_at n y, +ℤ_idl left) (agrees_refl rule left);
      }

  -- a layer without segments there has no cover
  pub none_from_row : segments_left ws tile layer row ≡ [] → FromRow ws n rule tile layer row (no_cover n)
  unfolding left_cover
  none_from_row e =
      record { at = λ y h. rw (no_cover_at n y, e) (agrees_refl rule (pos 0)) }

  -- the carry past the tile does so at the next
  pub carry_from_row : {covers : List ℤ} → FromRow ws n rule tile layer row covers → FromRow ws n rule (tile + 1) layer row (carry_of ws n covers (part_of ws tile layer row))
  carry_from_row {covers} c =
      record {
        at =
            λ y h.
            rw (carry_at_lem ws n covers (part_of ws tile layer row) y h, left_next ws tile layer row y)
            (agrees_add rule (cover_at covers y) (left_cover ws tile layer row y) (cover_in ws y (part_of ws tile layer row)) (c.at y h));
      }

  -- and a dropped one, which counts as zeros, where it was empty
  pub dropped_from_row : {covers zeros : List ℤ} → length covers ≡ n → is_empty rule covers ≡ true → ((y : ℕ) → cover_at zeros y ≡ pos 0) → FromRow ws n rule tile layer row covers → FromRow ws n rule tile layer row zeros
  unfolding is_empty
  dropped_from_row {covers} {zeros} l e z c =
      record {
        at =
            λ y h.
            rw (z y)
            (agrees_trans rule (pos 0) (cover_at covers y) (left_cover ws tile layer row y)
            (empty_agrees rule (cover_at covers y) (all_at (empty_at rule) covers e y (pos 0) (omega arith)))
            (c.at y h));
      }

  -- the plane from the tile's part and such a carry is the plane from the whole row
  pub plane_from_row : {covers : List ℤ} → 0 < n → FromRow ws n rule tile layer row covers → plane_of ws n rule (cover_at covers) (part_of ws tile layer row) ≡ row_plane ws n rule tile layer row
  unfolding doubled_area
  plane_from_row {covers} p c =
      let part = part_of ws tile layer row in
      places_ext n (pixel_of ws rule (cover_at covers) part) (pixel_of ws rule (left_cover ws tile layer row) part)
      (λ column y _ h. ap coverage_of (weight_agree rule (cover_at covers y) (left_cover ws tile layer row y) (cover_before ws column y part) (own_area ws column y part) (c.at y h)))

  -- it is empty, and full, as the whole row says
  pub empty_from_row : {covers : List ℤ} → length covers ≡ n → FromRow ws n rule tile layer row covers → is_empty rule covers ≡ every n (λ y. empty_at rule (left_cover ws tile layer row y))
  unfolding is_empty
  empty_from_row {covers} l c =
      all_every (empty_at rule) covers (pos 0) n l (λ y. empty_at rule (left_cover ws tile layer row y))
      (λ y h. agrees_empty rule (cover_at covers y) (left_cover ws tile layer row y) (c.at y h))

  pub full_from_row : {covers : List ℤ} → length covers ≡ n → FromRow ws n rule tile layer row covers → is_full rule covers ≡ every n (λ y. full_at rule (left_cover ws tile layer row y))
  unfolding is_full
  full_from_row {covers} l c =
      all_every (full_at rule) covers (pos 0) n l (λ y. full_at rule (left_cover ws tile layer row y))
      (λ y h. agrees_full rule (cover_at covers y) (left_cover ws tile layer row y) (c.at y h))

-- ---- the plane from the whole row is the one by columns, the order before W-209, with the two places exchanged, and back

module _ (ws : List ℕ) (n : ℕ) (rule : FillRule) (tile layer : ℕ) (row : List ℕ) (d : Float) where
  abbrev pixels : ℕ → ℕ → Float
  pixels = pixel_of ws rule (left_cover ws tile layer row) (part_of ws tile layer row)

  pub row_exchanged : row_plane ws n rule tile layer row ≡ exchange d n (by_columns n (pixel_of ws rule (left_cover ws tile layer row) (part_of ws tile layer row)))
  row_exchanged = exchanged n pixels d

  pub row_exchanged_back : by_columns n (pixel_of ws rule (left_cover ws tile layer row) (part_of ws tile layer row)) ≡ exchange_back d n (row_plane ws n rule tile layer row)
  row_exchanged_back = exchanged_back n pixels d

-- ---- tiles without segments of the layer

-- with no segments, d is 32 times the incoming cover
pub area_alone : (ws : List ℕ) (incoming : ℕ → ℤ) (c y : ℕ) → doubled_area ws incoming [] c y ≡ pos 32 *ℤ incoming y
unfolding doubled_area
area_alone ws incoming c y = +ℤ_idr (pos 32 *ℤ (incoming y +ℤ pos 0)) ∙ ap (λ (z : ℤ). pos 32 *ℤ z) (+ℤ_idr (incoming y))

alone : (ws : List ℕ) (n : ℕ) (rule : FillRule) (incoming : ℕ → ℤ) (weight : ℕ) → 0 < n → ((y : ℕ) → y < n → weight_of rule (pos 32 *ℤ incoming y) ≡ weight) → plane_of ws n rule incoming [] ≡ in_places n (λ column y. coverage_of weight)
alone ws n rule incoming weight p h =
    places_ext n (pixel_of ws rule incoming []) (λ column y. coverage_of weight)
    (λ column y _ l. ap coverage_of (ap (weight_of rule) (area_alone ws incoming column y) ∙ h y l))

-- an empty cover leaves coverage 0 everywhere, and a full one coverage 1
pub empty_plane : (ws : List ℕ) (n : ℕ) (rule : FillRule) (incoming : ℕ → ℤ) → 0 < n → ((y : ℕ) → y < n → empty_at rule (incoming y) ≡ true) → plane_of ws n rule incoming [] ≡ in_places n (λ column y. coverage_of 0)
empty_plane ws n rule incoming p h = alone ws n rule incoming 0 p (λ y l. empty_weight rule (incoming y) (h y l))

pub full_plane : (ws : List ℕ) (n : ℕ) (rule : FillRule) (incoming : ℕ → ℤ) → 0 < n → ((y : ℕ) → y < n → full_at rule (incoming y) ≡ true) → plane_of ws n rule incoming [] ≡ in_places n (λ column y. coverage_of 512)
full_plane ws n rule incoming p h = alone ws n rule incoming 512 p (λ y l. full_weight rule (incoming y) (h y l))

-- SVG 2: where the incoming cover is 16 × the winding, coverage is 1 or 0 as a point of that winding is inside or outside
pub winding_plane : (ws : List ℕ) (n : ℕ) (rule : FillRule) (winding : ℤ) → 0 < n → plane_of ws n rule (λ y. pos 16 *ℤ winding) [] ≡ in_places n (λ column y. coverage_of (cond (is_inside rule winding) 512 0))
winding_plane ws n rule winding p = alone ws n rule (λ y. pos 16 *ℤ winding) (cond (is_inside rule winding) 512 0) p (λ y l. winding_weight rule winding)
