-- What the fields of a word are at both heights, by the layout: a column, a pixel row, a cover and a double area. Assumes nothing.
use Rattle.std.specs.Prelude.{◌≡◌, ◌<◌}
use Rattle.laws.proofs.Prelude.{refl, ℕ, arith, w8, SFits}
use Rattle.pixel_segment.specs.Field.{cpu, widths_of, width_of, local_x_of, local_y_of, cover_of, double_area_of}
use Rattle.pixel_segment.specs.declared.consts.Layout.{Layout}
use Rattle.pixel_segment.specs.declared.consts.Layout.TheVariants.{Cpu, Gpu}
use Rattle.pixel_segment.proofs.Widths.{cover_fits}
use Rattle.cover_statements.specs.Height.{height_of}

pub row_low : (layout : Layout) (w : ℕ) → local_y_of (widths_of layout) w < height_of layout
row_low Cpu w = omega arith
row_low Gpu w = omega arith

pub column_low : (layout : Layout) (w : ℕ) → local_x_of (widths_of layout) w < 16
column_low Cpu w = omega arith
column_low Gpu w = omega arith

-- a double area multiplier has six bits
pub six : (layout : Layout) → width_of (widths_of layout) 5 ≡ 6
six Cpu = refl
six Gpu = refl

-- covers and double areas lie below what the heights tell apart
pub cover_same : (layout : Layout) (w : ℕ) → cover_of (widths_of layout) w ≡ cover_of cpu w
unfolding cover_of
cover_same Cpu w = refl
cover_same Gpu w = refl

pub area_same : (layout : Layout) (w : ℕ) → double_area_of (widths_of layout) w ≡ double_area_of cpu w
unfolding double_area_of cover_of
area_same Cpu w = refl
area_same Gpu w = refl

pub cover_narrow : (layout : Layout) (w : ℕ) → SFits w8 (cover_of (widths_of layout) w)
cover_narrow layout w = rw (cover_same layout w) (cover_fits w)
