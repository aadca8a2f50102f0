-- Tables of widths over the tile height. What order compares is the same at every height: a key of tile y, tile x and layer id; only the bits
-- below the key, 16 + k in tiles 2^k high, differ. Laws of order take a table with such keys, and stand for tiles 16 and 4 high. Assumes nothing.
use Rattle.std.specs.Prelude.{◌≡◌, ◌+◌, ◌-◌, ◌/◌, ◌%◌, ◌^◌, ◌≤◌, ◌<◌}
use Rattle.laws.proofs.Prelude.{refl, sym, ap, ◌∙◌, ℕ, arith, lit≤}
use Rattle.std.proofs.Common.{shr-shr, shr_lt}
use lib.Pow.{shr_mod}
use Rattle.pixel_segment.specs.Field.{cpu, gpu, widths_at, widths_of, shift_of}
use Rattle.pixel_segment.specs.Order.{order_key}
use Rattle.pixel_segment.specs.Layout.{Keyed}
use Rattle.pixel_segment.specs.declared.consts.Layout.{Layout}
use Rattle.pixel_segment.specs.declared.consts.Layout.TheVariants.{Cpu, Gpu}

-- the bits below the key, in tiles 2^k high
pub below_key : (k : ℕ) → shift_of (widths_at k) 2 ≡ 16 + k
below_key k = omega arith

-- a key has the bits above them
pub key_lt : (k w : ℕ) → k ≤ 15 → w < 2 ^ 64 → order_key (widths_at k) w < 2 ^ (48 - k)
key_lt k w h l =
    let e : 48 - k + shift_of (widths_at k) 2 ≡ 64 = omega arith in
    shr_lt (48 - k) (shift_of (widths_at k) 2) (rw e l)

pub keyed_at : (k : ℕ) → k ≤ 15 → Keyed (widths_at k)
keyed_at k h =
    record {
      layer_id = λ w. refl;
      tile_x = λ w. ap (λ (n : ℕ). n % 2 ^ 12) (shifted w 21);
      tile_y =
          λ w l.
          let e : 15 - k + shift_of (widths_at k) 0 ≡ 64 = omega arith in
          shr_mod (15 - k) (shift_of (widths_at k) 0) (rw e l)
          ∙ ap (λ (n : ℕ). w / 2 ^ n) below ∙ shifted w 33;
      sixty_four = omega arith;
    }
  where
    shifted : (w j : ℕ) → w / 2 ^ (j + shift_of (widths_at k) 2) ≡ order_key (widths_at k) w / 2 ^ j
    shifted w j =
        let e : j + shift_of (widths_at k) 2 ≡ shift_of (widths_at k) 2 + j = omega arith in
        ap (λ (n : ℕ). w / 2 ^ n) e ∙ sym (shr-shr w (shift_of (widths_at k) 2) j)

    below : shift_of (widths_at k) 0 ≡ 33 + shift_of (widths_at k) 2
    below = omega arith

-- tiles 16 and 4 pixels high
pub cpu_keyed : Keyed cpu
cpu_keyed = keyed_at 4 (lit≤ tt)

pub gpu_keyed : Keyed gpu
gpu_keyed = keyed_at 2 (lit≤ tt)

pub keyed_of : (l : Layout) → Keyed (widths_of l)
keyed_of Cpu = cpu_keyed
keyed_of Gpu = gpu_keyed

-- 'order compares the upper 44 bits', and 46 of them in tiles 4 high
pub upper_44 : (w : ℕ) → order_key cpu w ≡ w / 2 ^ 20
upper_44 w = refl

pub upper_46 : (w : ℕ) → order_key gpu w ≡ w / 2 ^ 18
upper_46 w = refl
