-- A word's cover and load added at their place: what is stored fits, and nothing is stored past 127. Assumes nothing.
use Rattle.std.specs.Prelude.{◌≡◌, ◌≤◌, ◌<◌, ◌+ℤ◌}
use Rattle.laws.proofs.Prelude.{refl, sym, ap, true, false, List, ℕ, arith, le-leb, lt-leb, ℤ, nat_abs, set, abs_add}
use Rattle.pixel_segment.specs.Field.{cpu, cover_of}
use Rattle.cover_statements.specs.Cover.{cover_at}
use Rattle.queue_statements.specs.InnerSums.{load_with, Placing, Placed}

module _ {place w : ℕ} {sums : List ℤ} {loads : List ℕ} where
  pub placed_light : {load : ℕ} {sum : ℤ} → load ≡ load_with loads place w → load ≤ 127 → sum ≡ cover_at sums place +ℤ cover_of cpu w → Placed place w sums loads true (set sums place sum) (set loads place load)
  placed_light {load} {sum} e h s =
      record {
        light = sym (le-leb (load_with loads place w) 127 (omega arith));
        sums_are = ap (set sums place) s;
        loads_are = ap (set loads place) e;
      }

  pub placed_heavy : {load : ℕ} → load ≡ load_with loads place w → 127 < load → Placed place w sums loads false sums loads
  placed_heavy {load} e h =
      record { light = sym (lt-leb (load_with loads place w) 127 (omega arith)); sums_are = refl; loads_are = refl }

pub sum_fits : {place : ℕ} {sums : List ℤ} {loads : List ℕ} (w : ℕ) → Placing place sums loads → load_with loads place w ≤ 127 → nat_abs (cover_at sums place +ℤ cover_of cpu w) ≤ 127
sum_fits {place} {sums} w c h = omega (arith, abs_add (cover_at sums place) (cover_of cpu w), c.within)
