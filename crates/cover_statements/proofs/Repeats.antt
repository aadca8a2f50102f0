-- Laws of a part without segments: all columns of its plane are the same, so one column of weights gives the plane and the mark. Assumes nothing.
use Rattle.std.specs.Prelude.{◌≡◌, ◌+◌, ◌*◌, ◌/◌, ◌%◌, ◌<◌, ◌*ℤ◌}
use Rattle.laws.proofs.Prelude.{refl, sym, ap, ◌∙◌, Bool, true, false, cond, List, [], ⊎_elim, ℕ, arith, eqb, Float}
use Rattle.laws.proofs.Prelude.{nan, ℤ, pos, length, get_or, length-map, eq_or_ne, abs_times, is_tabulate, over, tabulate}
use Rattle.styling.specs.declared.FillRule.{FillRule}
use Rattle.cover_statements.specs.Carry.{is_light}
use Rattle.cover_statements.specs.Cover.{cover_at}
use Rattle.cover_statements.specs.Coverage.{area_coverage, is_above}
use Rattle.cover_statements.specs.Mark.{is_octet_used, above_at, used_octets, bit, binary_number, mark_of, some_above}
use Rattle.cover_statements.specs.Plane.{pixel_of, plane_of, coverages_of}
use Rattle.cover_statements.specs.InnerWeighed.{InRange, weight_in, weights_of, coverage_in, coverages_in, column_areas, repeated}
use Rattle.cover_statements.proofs.Carries.{light}
use Rattle.cover_statements.proofs.Filled.{over_whole}
use Rattle.cover_statements.proofs.FromRow.{area_alone}
use Rattle.cover_statements.proofs.Marks.{some_ext, used_length, used_at}
use Rattle.cover_statements.proofs.Planes.{pixel_at, places_ext}
use Rattle.cover_statements.proofs.Weighings.{map_lt, coverages_are}

-- ---- the plane

abbrev wide : ℤ → ℤ
wide cover = pos 32 *ℤ cover

pub plane_none : (ws : List ℕ) (n : ℕ) (rule : FillRule) (covers : List ℤ) → length covers ≡ n → plane_of ws n rule (cover_at covers) [] ≡ repeated n (coverages_of rule (column_areas covers))
plane_none ws n rule covers e =
    places_ext n (pixel_of ws rule (cover_at covers) []) (λ x y. get_or (coverages_of rule (column_areas covers)) y nan)
    (λ x y _ l.
    ap (area_coverage rule) (area_alone ws (cover_at covers) x y ∙ sym (map_lt wide covers y (pos 0) (pos 0) (omega arith)))
    ∙ sym (map_lt (area_coverage rule) (column_areas covers) y nan (pos 0) (omega (arith, length-map covers wide))))

pub column_in_range : (ws : List ℕ) (n : ℕ) (covers : List ℤ) {areas : List ℤ} → length covers ≡ n → is_light ws n covers [] ≡ true → areas ≡ column_areas covers → InRange areas
column_in_range ws n covers {areas} e t q =
    record {
      small =
          λ k h.
          let l : k < length covers = omega (arith, ap length q, length-map covers wide) in
          rw (q, map_lt wide covers k (pos 0) (pos 0) l, abs_times (pos 32) (cover_at covers k)) (omega (arith, (light t).at k (omega arith)));
    }

-- what a column's weights, their coverages and these in all columns make of a plane is the part's plane
module _ (ws : List ℕ) (n : ℕ) (rule : FillRule) (covers : List ℤ) {areas weights : List ℤ} (long : length covers ≡ n) (a : areas ≡ column_areas covers) (w : weights ≡ weights_of rule areas) where
  pub column_long : length weights ≡ n
  column_long = ap length w ∙ length-map areas (weight_in rule) ∙ ap length a ∙ length-map covers wide ∙ long

  pub column_plane : repeated n (coverages_in weights) ≡ plane_of ws n rule (cover_at covers) []
  column_plane =
      ap (repeated n) (ap coverages_in w ∙ coverages_are rule areas ∙ ap (coverages_of rule) a)
      ∙ sym (plane_none ws n rule covers long)

  pub column_painted : (blank old : List Float) {column new : List Float} → length blank ≡ n → column ≡ over (coverages_in weights) blank → new ≡ over (repeated n column) old
      → new ≡ over (plane_of ws n rule (cover_at covers) []) old
  column_painted blank old {column} {new} b q e =
      e
      ∙ ap (λ (l : List Float). over (repeated n l) old) (q ∙ over_whole (coverages_in weights) blank (b ∙ sym (length-map weights coverage_in ∙ column_long)))
      ∙ ap (λ (l : List Float). over l old) column_plane

-- ---- the mark

-- the number of 32 flags that alternate
alternating : (a b : Bool) → binary_number (tabulate 32 (λ o. cond (eqb (o % 2) 0) a b)) ≡ (bit a + 2 * bit b) * 1431655765
unfolding binary_number
alternating true true = refl
alternating true false = refl
alternating false true = refl
alternating false false = refl

-- the mark of a repeated column, from its two halves
pub mark_repeated : (column : List Float) → mark_of (repeated 16 column) ≡ (bit (some_above column 0) + 2 * bit (some_above column 1)) * 1431655765
unfolding mark_of some_above
mark_repeated column =
    ap binary_number
    (is_tabulate 32 (λ o. cond (eqb (o % 2) 0) (some_above column 0) (some_above column 1)) false (used_octets plane) (used_length plane)
    (λ o l.
    used_at plane o l
    ∙ ⊎_elim
    (λ (e : o % 2 ≡ 0). rw e (half (o / 2) 0 (omega arith) (omega arith)))
    (λ (d : o % 2 ≡ 0 → ⊥).
    let e : o % 2 ≡ 1 = omega arith in
    rw e (half (o / 2) 1 (omega arith) (omega arith)))
    (eq_or_ne (o % 2) 0)))
    ∙ alternating (some_above column 0) (some_above column 1)
  where
    plane : List Float
    plane = repeated 16 column

    half : (x h : ℕ) → x < 16 → h < 2 → is_octet_used (repeated 16 column) x h ≡ some_above column h
    half x h p q =
        some_ext 8 (above_at (repeated 16 column) x h) (λ i. is_above (get_or column (8 * h + i) nan))
        (λ i l. ap is_above (pixel_at 16 (λ x y. get_or column y nan) nan x (8 * h + i) p (omega arith)))
