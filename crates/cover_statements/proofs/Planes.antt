-- Laws of planes: the place of a pixel, the exchange of its two places, and the doubled areas that become a plane, over any widths and any height.
-- Assumes nothing.
use Rattle.std.specs.Prelude.{◌≡◌, ◌+◌, ◌*◌, ◌/◌, ◌%◌, ◌<◌}
use Rattle.laws.proofs.Prelude.{sym, ap, ap₂, ◌∙◌, true, List, ℕ, mod-lt, div-add-mod', div-lt_iff_lt-mul, arith}
use Rattle.laws.proofs.Prelude.{digits_lt, digits_div, digits_mod, lit<, Float, ℤ, pos, length, get_or, length-map, List·getD-map, ext_get_or}
use Rattle.laws.proofs.Prelude.{length_tabulate, get_d_tabulate, is_tabulate}
use Rattle.pixel_segment.specs.Field.{width_of}
use Rattle.styling.specs.declared.FillRule.{FillRule}
use Rattle.cover_statements.specs.Area.{doubled_area, areas_of}
use Rattle.cover_statements.specs.Carry.{is_light}
use Rattle.cover_statements.specs.Coverage.{area_coverage}
use Rattle.cover_statements.specs.Cover.{cover_at}
use Rattle.cover_statements.specs.Plane.{place_of, column_of, row_of, size_of, in_places, pixel_of, plane_of, coverages_of, by_columns, exchange, exchange_back}
use Rattle.cover_statements.specs.InnerWeighed.{InRange}
use Rattle.cover_statements.proofs.Areas.{area_bound}
use Rattle.cover_statements.proofs.Carries.{light}

-- ---- places: a pixel and its place tell each other, for any height

pub place_lt : (n column row : ℕ) → column < 16 → row < n → place_of column row < size_of n
place_lt n column row h k = omega arith

pub place_column : (column row : ℕ) → column < 16 → column_of (place_of column row) ≡ column
place_column column row h = omega arith

pub place_row : (column row : ℕ) → column < 16 → row_of (place_of column row) ≡ row
place_row column row h = omega arith

pub place_back : (place : ℕ) → place_of (column_of place) (row_of place) ≡ place
place_back place = div-add-mod' place 16

-- a place of a plane is a pixel of the tile
pub column_lt : (place : ℕ) → column_of place < 16
column_lt place = mod-lt place (lit< tt)

pub row_lt : (n place : ℕ) → place < size_of n → row_of place < n
row_lt n place h = omega arith

module _ {A : Type 0} (n : ℕ) (f : ℕ → ℕ → A) where
  pub places_length : length (in_places n f) ≡ size_of n
  unfolding in_places
  places_length = length_tabulate (size_of n) _

  pub places_at : (d : A) (place : ℕ) → place < size_of n → get_or (in_places n f) place d ≡ f (column_of place) (row_of place)
  unfolding in_places
  places_at d place h = get_d_tabulate (size_of n) (λ p. f (column_of p) (row_of p)) d place h

  -- what a plane holds of a pixel
  pub pixel_at : (d : A) (column row : ℕ) → column < 16 → row < n → get_or (in_places n f) (place_of column row) d ≡ f column row
  pixel_at d column row h k =
      places_at d (place_of column row) (place_lt n column row h k)
      ∙ ap₂ f (place_column column row h) (place_row column row h)

-- planes of pixels that agree are equal
pub places_ext : {A : Type 0} (n : ℕ) (f g : ℕ → ℕ → A) → ((column row : ℕ) → column < 16 → row < n → f column row ≡ g column row) → in_places n f ≡ in_places n g
places_ext n f g e =
    ext_get_or (f 0 0) (in_places n f) (in_places n g) (places_length n f ∙ sym (places_length n g))
    (λ k l.
    let p : k < size_of n = rw (places_length n f) at l in
    places_at n f (f 0 0) k p ∙ e (column_of k) (row_of k) (column_lt k) (row_lt n k p) ∙ sym (places_at n g (f 0 0) k p))

-- ---- the order by columns, and the exchange

-- the row and the column at column × n + row
pub row_below : (n k : ℕ) → k < 16 * n → k % n < n
row_below n k h = mod-lt k (omega arith)

pub column_below : (n k : ℕ) → k < 16 * n → k / n < 16
column_below n k h = let p : 0 < n = omega arith in (div-lt_iff_lt-mul p).1 h

module _ (n : ℕ) (column row : ℕ) (h : column < 16) (k : row < n) where
  pub by_columns_lt : column * n + row < 16 * n
  by_columns_lt = digits_lt h k

  pub by_columns_at : {A : Type 0} (f : ℕ → ℕ → A) (d : A) → get_or (by_columns n f) (column * n + row) d ≡ f column row
  by_columns_at f d =
      get_d_tabulate (16 * n) (λ j. f (j / n) (j % n)) d (column * n + row) by_columns_lt
      ∙ ap₂ f (digits_div column k) (digits_mod column k)

-- a plane is the plane by columns with its two places exchanged, and back
pub exchanged : {A : Type 0} (n : ℕ) (f : ℕ → ℕ → A) (d : A) → in_places n f ≡ exchange d n (by_columns n f)
exchanged n f d = places_ext n f (λ column row. get_or (by_columns n f) (column * n + row) d) (λ column row h k. sym (by_columns_at n column row h k f d))

pub exchanged_back : {A : Type 0} (n : ℕ) (f : ℕ → ℕ → A) (d : A) → by_columns n f ≡ exchange_back d n (in_places n f)
exchanged_back n f d =
    is_tabulate (16 * n) (λ k. get_or (in_places n f) (place_of (k / n) (k % n)) d) d (by_columns n f) (length_tabulate (16 * n) _)
    (λ k l.
    get_d_tabulate (16 * n) (λ j. f (j / n) (j % n)) d k l
    ∙ sym (pixel_at n f d (k / n) (k % n) (column_below n k l) (row_below n k l)))

-- ---- the doubled areas in their places become the plane

pub areas_length : (ws : List ℕ) (n : ℕ) (incoming : ℕ → ℤ) (part : List ℕ) → length (areas_of ws n incoming part) ≡ size_of n
unfolding areas_of
areas_length ws n incoming part = length_tabulate (size_of n) _

pub areas_at : (ws : List ℕ) (n : ℕ) (incoming : ℕ → ℤ) (part : List ℕ) (k : ℕ) → k < size_of n → cover_at (areas_of ws n incoming part) k ≡ doubled_area ws incoming part (k / n) (k % n)
unfolding areas_of
areas_at ws n incoming part k h = get_d_tabulate (size_of n) (λ j. doubled_area ws incoming part (j / n) (j % n)) (pos 0) k h

-- their coverages are the plane by columns, and exchanged the plane
pub coverages_of_areas : (ws : List ℕ) (n : ℕ) (rule : FillRule) (incoming : ℕ → ℤ) (part : List ℕ) → coverages_of rule (areas_of ws n incoming part) ≡ by_columns n (pixel_of ws rule incoming part)
coverages_of_areas ws n rule incoming part =
    let z = area_coverage rule (pos 0) in
    let areas = areas_of ws n incoming part in
    is_tabulate (16 * n) (λ k. pixel_of ws rule incoming part (k / n) (k % n)) z (coverages_of rule areas)
    (length-map areas (area_coverage rule) ∙ areas_length ws n incoming part)
    (λ k l. List·getD-map (area_coverage rule) areas k (pos 0) ∙ ap (area_coverage rule) (areas_at ws n incoming part k l))

pub plane_of_areas : (ws : List ℕ) (n : ℕ) (rule : FillRule) (incoming : ℕ → ℤ) (part : List ℕ) (d : Float) → exchange d n (coverages_of rule (areas_of ws n incoming part)) ≡ plane_of ws n rule incoming part
plane_of_areas ws n rule incoming part d = ap (exchange d n) (coverages_of_areas ws n rule incoming part) ∙ sym (exchanged n (pixel_of ws rule incoming part) d)

-- what number 9 leaves is in range
pub areas_in_range : (ws : List ℕ) (n : ℕ) (covers : List ℤ) (part : List ℕ) {areas : List ℤ} → width_of ws 5 ≡ 6 → is_light ws n covers part ≡ true → areas ≡ areas_of ws n (cover_at covers) part → InRange areas
areas_in_range ws n covers part {areas} six e q =
    record {
      small =
          λ k h.
          let l : k < size_of n = omega (arith, ap length q, areas_length ws n (cover_at covers) part) in
          rw (q, areas_at ws n (cover_at covers) part k l)
          (area_bound ws six (cover_at covers) part (k / n) (k % n) ((light e).at (k % n) (row_below n k l)));
    }
