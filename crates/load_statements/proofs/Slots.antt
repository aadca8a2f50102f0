-- The slots of a load: they lie within its tiles, and don't descend.
-- Assumes nothing.
use Rattle.std.specs.Prelude.{◌*◌, ◌/◌, ◌≤◌, ◌<◌}
use Rattle.laws.proofs.Prelude.{ℕ, mul-le-mul_left, div-lt_iff_lt-mul, arith}
use native.Mathlib.Nat.{mul-lt-mul_of_pos_left, le-div_iff_mul-le, div-mul-le_self}
use Rattle.load_statements.specs.Load.{slot_of}

pub slot_within : (tiles n k : ℕ) → 0 < tiles → k < n → slot_of tiles n k < 8 * tiles
unfolding slot_of
slot_within tiles n k h l =
    (div-lt_iff_lt-mul {k = n} {x = k * 8 * tiles} {y = 8 * tiles} (omega arith)).1
    (omega (arith, mul-lt-mul_of_pos_left {m = k} {n = n} {k = 8 * tiles} l (omega arith)))

pub slots_ascend : (tiles n j k : ℕ) → 0 < n → j ≤ k → slot_of tiles n j ≤ slot_of tiles n k
unfolding slot_of
slots_ascend tiles n j k h l =
    (le-div_iff_mul-le {k = n} {x = j * 8 * tiles / n} {y = k * 8 * tiles} h).1
    (omega (arith, div-mul-le_self (j * 8 * tiles) n, mul-le-mul_left {m = j} {n = k} (8 * tiles) l))
