-- A word put together field by field, in either layout: the fields that it has leave room for the next, and seven steps are `word_of`. Assumes nothing.
use Rattle.std.specs.Prelude.{◌≡◌, ◌+◌, ◌-◌, ◌*◌, ◌%◌, ◌^◌, ◌<◌}
use Rattle.laws.proofs.Prelude.{refl, ℕ, lt_of_lt_of_le, mod-lt, arith, digits_lt, ℤ, drop, pow-add}
use Rattle.laws.proofs.Prelude.{pow_mono, pow_pos, modℤ}
use Rattle.pixel_segment.specs.Field.{sum, cpu, widths_of, width_of}
use Rattle.pixel_segment.specs.Pack.{stored_of, word_of}
use Rattle.pixel_segment.specs.declared.consts.Layout.{Layout}
use Rattle.pixel_segment.specs.declared.consts.Layout.TheVariants.{Cpu, Gpu}
use Rattle.pixel_segment.proofs.Widths.{sum_step, sum_le_of, length_of}

-- the word with a value in field i, below what it has
abbrev pub put : Layout → ℕ → ℕ → ℕ → ℕ
put l i w v = w * 2 ^ width_of (widths_of l) i + v % 2 ^ width_of (widths_of l) i

-- a word of the fields before i
abbrev pub Held : Layout → ℕ → ℕ → Type 0
Held l i w = w < 2 ^ (64 - sum (drop i (widths_of l)))

step : (l : Layout) (i : ℕ) → i < 7 → sum (drop i (widths_of l)) ≡ width_of (widths_of l) i + sum (drop (i + 1) (widths_of l))
step l i h = sum_step i (widths_of l) (omega (arith, length_of l))

pub room : (l : Layout) (i : ℕ) {w : ℕ} → i < 7 → Held l i w → w < 2 ^ (64 - width_of (widths_of l) i)
room l i h p = lt_of_lt_of_le p (pow_mono (omega (arith, step l i h)))

pub held_next : (l : Layout) (i v : ℕ) {w r : ℕ} → i < 7 → r ≡ put l i w v → Held l i w → Held l (i + 1) r
held_next l i v h e p =
    let k = width_of (widths_of l) i in
    let upper = 64 - sum (drop i (widths_of l)) in
    let n : upper + k ≡ 64 - sum (drop (i + 1) (widths_of l)) = omega (arith, step l i h, sum_le_of l i) in
    rw (e, ← n, pow-add 2 upper k) (digits_lt p (mod-lt v (pow_pos k)))

-- the word of seven numbers; the lowest field has 6 bits in both layouts
pub joined : (l : Layout) (layer : ℕ) (tx ty : ℤ) (x y m : ℕ) (c : ℤ)
    → put l 6 (put l 5 (put l 4 (put l 3 (put l 2 (put l 1 (put l 0 0 (stored_of ty)) (stored_of tx)) layer) x) y) m) (modℤ (2 ^ width_of cpu 6) c)
    ≡ word_of (widths_of l) layer tx ty x y m c
joined Cpu layer tx ty x y m c = refl
joined Gpu layer tx ty x y m c = refl
