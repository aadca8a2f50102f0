-- Planes and marks. Stands for W-209: planes row by row, which are the planes by columns with their two places exchanged, for draws and clips; octets and
-- marks go on meaning columns.
use Rattle.std.specs.Prelude.{◌≡◌, ◌<◌, ◌/◌, ◌^◌, ◌*◌, ◌+◌, ◌%◌, ◌*ℤ◌}
use Rattle.laws.specs.Prelude.{List, [], cond, true, Option, ℕ, get_or, Float, nan, ℤ, pos, ones, over}
use Rattle.cover_statements.specs.Plane.{place_of, size_of, column_of, row_of, in_places, exchange, by_columns, exchange_back, pixel_of, plane_of}
use Rattle.styling.specs.declared.FillRule.{FillRule}
use Rattle.cover_statements.specs.WholeRow.{row_plane, left_cover, part_of}
use Rattle.cover_statements.specs.Coverage.{coverage_of}
use Rattle.cover_statements.specs.Weight.{is_inside}
use Rattle.cover_statements.specs.Cover.{full_at}
use Rattle.cover_statements.specs.Mark.{mark_of, bit, is_octet_used, octets_of, mark_by_columns}
use Rattle.queue_statements.specs.Queue.{Carry}
use Rattle.styling.specs.declared.Layer.{Layer}
use Rattle.painter.specs.Painting.{plane_in, plane_by_columns, Paints, needs_in}
use Rattle.styling.specs.declared.Style.{Style}
use Rattle.styling.specs.declared.Func.TheVariants.{Draw, Clip}
use Rattle.painter.specs.Clip.{lacks_clip, alive_at}
use Rattle.painter.specs.declared.painting.Painting as painting

pub record Planes : Type 0 where
  pub place_lt : (n column row : ℕ) → column < 16 → row < n → place_of column row < size_of n
  pub place_column : (column row : ℕ) → column < 16 → column_of (place_of column row) ≡ column
  pub place_row : (column row : ℕ) → column < 16 → row_of (place_of column row) ≡ row
  pub place_back : (place : ℕ) → place_of (column_of place) (row_of place) ≡ place
  -- what a plane holds of a pixel
  pub pixel_at : (n : ℕ) (f : ℕ → ℕ → Float) (d : Float) (column row : ℕ) → column < 16 → row < n →
      get_or (in_places n f) (place_of column row) d ≡ f column row
  -- a plane is the plane by columns with its two places exchanged, and back
  pub exchanged : (n : ℕ) (f : ℕ → ℕ → Float) (d : Float) → in_places n f ≡ exchange d n (by_columns n f)
  pub exchanged_back : (n : ℕ) (f : ℕ → ℕ → Float) (d : Float) → by_columns n f ≡ exchange_back d n (in_places n f)
  pub row_exchanged : (ws : List ℕ) (n : ℕ) (rule : FillRule) (tile layer : ℕ) (row : List ℕ) (d : Float) →
      row_plane ws n rule tile layer row ≡ exchange d n (by_columns n (pixel_of ws rule (left_cover ws tile layer row) (part_of ws tile layer row)))
  pub row_exchanged_back : (ws : List ℕ) (n : ℕ) (rule : FillRule) (tile layer : ℕ) (row : List ℕ) (d : Float) →
      by_columns n (pixel_of ws rule (left_cover ws tile layer row) (part_of ws tile layer row)) ≡ exchange_back d n (row_plane ws n rule tile layer row)
  -- SVG 2: where the incoming cover is 16 × the winding, coverage is 1 or 0 as a point of that winding is inside or outside
  pub winding_plane : (ws : List ℕ) (n : ℕ) (rule : FillRule) (winding : ℤ) → 0 < n →
      plane_of ws n rule (λ y. pos 16 *ℤ winding) [] ≡ in_places n (λ column y. coverage_of (cond (is_inside rule winding) 512 0))
  pub full_plane : (ws : List ℕ) (n : ℕ) (rule : FillRule) (incoming : ℕ → ℤ) → 0 < n → ((y : ℕ) → y < n → full_at rule (incoming y) ≡ true) →
      plane_of ws n rule incoming [] ≡ in_places n (λ column y. coverage_of 512)
  -- bit 2 × column + h of a plane's mark is set exactly where octet h of the column is used
  pub mark_bit : (plane : List Float) (column h : ℕ) → column < 16 → h < 2 →
      mark_of plane / 2 ^ (2 * column + h) % 2 ≡ bit (is_octet_used plane column h)
  -- the ones of a plane's mark are its used octets
  pub ones_mark : (plane : List Float) → ones (mark_of plane) ≡ octets_of plane
  pub mark_exchanged : (old : List Float) → mark_of (exchange nan 16 old) ≡ mark_by_columns old
  pub layer_exchanged : (queue : List Carry) (part : List ℕ) (id : ℕ) (layer : Layer) →
      plane_in queue part id layer ≡ exchange nan 16 (plane_by_columns queue part id layer)
  pub draw_exchanged : (queue : List Carry) (part : List ℕ) (id : ℕ) (layer : Layer) (table : List Layer)
      (clip : Option ℕ) {old plane : List Float} {r : painting.Painting} (p : Paints table queue part id layer clip old r plane) →
      {style : Style} → layer.props.func ≡ Draw style →
      (plane ≡ over (exchange nan 16 (plane_by_columns queue part id layer)) old) × (r.mark
      ≡ cond (lacks_clip (needs_in table queue part layer.props.func id) (alive_at clip id)) 0 (mark_by_columns (plane_by_columns queue part id layer)))
  pub clip_exchanged : (queue : List Carry) (part : List ℕ) (id : ℕ) (layer : Layer) (table : List Layer)
      (clip : Option ℕ) {old plane : List Float} {r : painting.Painting} (p : Paints table queue part id layer clip old r plane) →
      {span : ℕ} → layer.props.func ≡ Clip span → (plane ≡ over (exchange nan 16 (plane_by_columns queue part id layer)) old) × (r.mark ≡ 0)
