-- A tile four pixels high is rows 0 to 3 of one 16 high with the same segments: the plane of a row of words packed at 4 is the first 64 places of
-- the plane of the same numbers packed at 16. It ties this profile to the Rust's painter, which has no such height. Assumes nothing.
use Rattle.std.specs.Prelude.{◌≡◌, ◌&&◌, ◌∷◌, ◌<◌, ◌+ℤ◌, ◌*ℤ◌}
use Rattle.laws.proofs.Prelude.{refl, sym, ap, ap₂, ◌∙◌, Bool, cond, List, [], ℕ, zero, suc, arith, Float, nan, ℤ, pos, negsuc}
use Rattle.laws.proofs.Prelude.{nat_abs, +ℤ_idl, take, length-take, ext_get_or, get_or-take, filter, sumℤ, sum_filter}
use Rattle.pixel_segment.specs.Field.{cpu, gpu, tile_of, tile_x_of, layer_id_of, local_x_of, local_y_of, cover_of, double_area_of}
use Rattle.pixel_segment.specs.Pack.{ReadsBack}
use Rattle.pixel_segment.proofs.Ranges.{cpu_layout, gpu_layout}
use Rattle.pixel_segment.proofs.ReadBack.{given_back}
use Rattle.segment_rows.proofs.Keys.{tile_suc, tile_zero}
use Rattle.styling.specs.declared.FillRule.{FillRule}
use Rattle.cover_statements.specs.Area.{is_before, is_own, cover_before, own_area, doubled_area}
use Rattle.cover_statements.specs.Carry.{in_row}
use Rattle.cover_statements.specs.Coverage.{area_coverage}
use Rattle.cover_statements.specs.Plane.{column_of, row_of, in_places, pixel_of}
use Rattle.cover_statements.specs.WholeRow.{in_tile, left_of_tile, part_of, left_cover, row_area, row_plane}
use Rattle.cover_statements.proofs.Planes.{places_length, places_at}
use Rattle.layer_row_gpu.specs.Apart.{SegmentNumbers, PackedRow}

-- ---- two words of the same numbers

pub record SameFields (w v : ℕ) : Type 0 where
  pub tile_x : tile_x_of gpu w ≡ tile_x_of cpu v
  pub layer_id : layer_id_of gpu w ≡ layer_id_of cpu v
  pub local_x : local_x_of gpu w ≡ local_x_of cpu v
  pub local_y : local_y_of gpu w ≡ local_y_of cpu v
  pub cover : cover_of gpu w ≡ cover_of cpu v
  pub double_area : double_area_of gpu w ≡ double_area_of cpu v

pos_same : (m n : ℕ) → pos m ≡ pos n → m ≡ n
pos_same m n e = ap nat_abs e

tile_same : (m n : ℕ) → tile_of m ≡ tile_of n → m ≡ n
tile_same zero zero e = refl
tile_same zero (suc n) e = absurd (never (sym tile_zero ∙ e ∙ tile_suc n))
  where
    never : negsuc 0 ≡ pos n → ⊥
    never p = let z : ◌≡◌ {A = ℕ} 0 1 = cc in omega arith
tile_same (suc m) zero e = absurd (never (sym (tile_suc m) ∙ e ∙ tile_zero))
  where
    never : pos m ≡ negsuc 0 → ⊥
    never p = let z : ◌≡◌ {A = ℕ} 0 1 = cc in omega arith
tile_same (suc m) (suc n) e = ap suc (pos_same m n (sym (tile_suc m) ∙ e ∙ tile_suc n))

same_fields : {layer tx ty x y m c : ℤ} {w v : ℕ} → ReadsBack gpu w layer tx ty x y m c → ReadsBack cpu v layer tx ty x y m c → SameFields w v
unfolding double_area_of
same_fields {w = w} {v = v} a b =
    record {
      tile_x = tile_same (tile_x_of gpu w) (tile_x_of cpu v) (a.tile_x ∙ sym b.tile_x);
      layer_id = pos_same (layer_id_of gpu w) (layer_id_of cpu v) (a.layer_id ∙ sym b.layer_id);
      local_x = pos_same (local_x_of gpu w) (local_x_of cpu v) (a.local_x ∙ sym b.local_x);
      local_y = pos_same (local_y_of gpu w) (local_y_of cpu v) (a.local_y ∙ sym b.local_y);
      cover = a.cover ∙ sym b.cover;
      double_area = ap₂ (λ (p q : ℤ). p *ℤ q) (a.multiplier ∙ sym b.multiplier) (a.cover ∙ sym b.cover);
    }

-- ---- rows of them

pub data Alike : List ℕ → List ℕ → Type 0 where
  none : Alike [] []
  next : {w v : ℕ} {ws vs : List ℕ} → SameFields w v → Alike ws vs → Alike (w ∷ ws) (v ∷ vs)

pub alike : {ns : List SegmentNumbers} {row row' : List ℕ} → PackedRow gpu ns row → PackedRow cpu ns row' → Alike row row'
alike PackedRow.none PackedRow.none = Alike.none
alike (PackedRow.next {n = n} e p) (PackedRow.next f q) =
    Alike.next
    (same_fields
    (given_back gpu gpu_layout n.layer n.tile_x n.tile_y n.x n.y n.multiplier n.cover e)
    (given_back cpu cpu_layout n.layer n.tile_x n.tile_y n.x n.y n.multiplier n.cover f))
    (alike p q)

-- sums over them agree where the words do
sums_alike : (p q : ℕ → Bool) (f g : ℕ → ℤ) {row row' : List ℕ} → Alike row row' → ((w v : ℕ) → SameFields w v → cond (p w) (f w) (pos 0) ≡ cond (q v) (g v) (pos 0)) → sumℤ p f row ≡ sumℤ q g row'
sums_alike p q f g Alike.none h = refl
sums_alike p q f g (Alike.next {w = w} {v = v} s rest) h = ap₂ ◌+ℤ◌ (h w v s) (sums_alike p q f g rest h)

-- of what is chosen of a row
chosen_alike : (p q : ℕ → Bool) (r t : ℕ → Bool) (f g : ℕ → ℤ) {row row' : List ℕ} → Alike row row' → ((w v : ℕ) → SameFields w v → (p w && r w) ≡ (q v && t v)) → ((w v : ℕ) → SameFields w v → f w ≡ g v)
    → sumℤ r f (filter p row) ≡ sumℤ t g (filter q row')
chosen_alike p q r t f g {row} {row'} a h k =
    sym (sum_filter ◌+ℤ◌ (pos 0) +ℤ_idl p r f row)
    ∙ sums_alike (λ w. p w && r w) (λ v. q v && t v) f g a (λ w v s. ap₂ (λ (b : Bool) (z : ℤ). cond b z (pos 0)) (h w v s) (k w v s))
    ∙ sum_filter ◌+ℤ◌ (pos 0) +ℤ_idl q t g row'

module _ {row row' : List ℕ} (a : Alike row row') (tile layer : ℕ) where
  left_alike : (y : ℕ) → left_cover gpu tile layer row y ≡ left_cover cpu tile layer row' y
  unfolding left_cover
  left_alike y =
      chosen_alike (left_of_tile gpu tile layer) (left_of_tile cpu tile layer) (in_row gpu y) (in_row cpu y) (cover_of gpu) (cover_of cpu) a
      (λ w v s. rw (s.tile_x, s.layer_id, s.local_y))
      (λ w v s. s.cover)

  before_alike : (c y : ℕ) → cover_before gpu c y (part_of gpu tile layer row) ≡ cover_before cpu c y (part_of cpu tile layer row')
  before_alike c y =
      chosen_alike (in_tile gpu tile layer) (in_tile cpu tile layer) (is_before gpu c y) (is_before cpu c y) (cover_of gpu) (cover_of cpu) a
      (λ w v s. rw (s.tile_x, s.layer_id, s.local_y, s.local_x))
      (λ w v s. s.cover)

  own_alike : (c y : ℕ) → own_area gpu c y (part_of gpu tile layer row) ≡ own_area cpu c y (part_of cpu tile layer row')
  own_alike c y =
      chosen_alike (in_tile gpu tile layer) (in_tile cpu tile layer) (is_own gpu c y) (is_own cpu c y) (double_area_of gpu) (double_area_of cpu) a
      (λ w v s. rw (s.tile_x, s.layer_id, s.local_y, s.local_x))
      (λ w v s. s.double_area)

  pub area_alike : (c y : ℕ) → row_area gpu tile layer row c y ≡ row_area cpu tile layer row' c y
  unfolding doubled_area
  area_alike c y =
      ap₂ (λ (p q : ℤ). pos 32 *ℤ p +ℤ q) (ap₂ ◌+ℤ◌ (left_alike y) (before_alike c y)) (own_alike c y)

  pub planes_alike : (rule : FillRule) → row_plane gpu 4 rule tile layer row ≡ take 64 (row_plane cpu 16 rule tile layer row')
  planes_alike rule =
      let f : ℕ → ℕ → Float = pixel_of gpu rule (left_cover gpu tile layer row) (part_of gpu tile layer row) in
      let g : ℕ → ℕ → Float = pixel_of cpu rule (left_cover cpu tile layer row') (part_of cpu tile layer row') in
      ext_get_or nan (in_places 4 f) (take 64 (in_places 16 g))
      (places_length 4 f ∙ sym (length-take 64 (in_places 16 g) ∙ rw (places_length 16 g)))
      (λ k l.
      let h : k < 64 = rw (places_length 4 f) at l in
      places_at 4 f nan k h
      ∙ ap (area_coverage rule) (area_alike (column_of k) (row_of k))
      ∙ sym (get_or-take 64 (in_places 16 g) k nan h ∙ places_at 16 g nan k (omega arith)))

pub rows_apart : (ns : List SegmentNumbers) (row row' : List ℕ) → PackedRow gpu ns row → PackedRow cpu ns row' → (rule : FillRule) (tile layer : ℕ) → row_plane gpu 4 rule tile layer row ≡ take 64 (row_plane cpu 16 rule tile layer row')
rows_apart ns row row' p q rule tile layer = planes_alike (alike p q) tile layer rule
