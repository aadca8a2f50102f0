-- The two lowest fields are those of tiles 16 high. Assumes nothing.
use Rattle.std.specs.Prelude.{◌≡◌}
use Rattle.laws.proofs.Prelude.{refl, ℕ}
use Rattle.pixel_segment.specs.Field.{gpu, cpu, cover_of, double_area_of}

pub cover_same : (w : ℕ) → cover_of cpu w ≡ cover_of gpu w
unfolding cover_of
cover_same w = refl

pub double_area_same : (w : ℕ) → double_area_of cpu w ≡ double_area_of gpu w
unfolding cover_of double_area_of
double_area_same w = refl
