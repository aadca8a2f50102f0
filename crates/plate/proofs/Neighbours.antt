-- Whole numbers compared with a number and with the one before it, and tile numbers as they are stored. Assumes nothing.
use Rattle.std.specs.Prelude.{◌≡◌, ◌+◌, ◌%◌, ◌≤◌, ◌<◌, ◌-ℤ◌}
use Rattle.laws.proofs.Prelude.{refl, ap, Bool, true, false, cond, not, false≢true, ℕ, arith, eq-eqb, eqb-true, eqb, ℤ, pos}
use Rattle.laws.proofs.Prelude.{sub_ℕ, lt_z, plus, minus, same, equal, difference, taken, lt_true, lt_false}
use Rattle.pixel_segment.specs.Field.{tile_of}
use Rattle.pixel_segment.specs.Order.{compareℤ, is_lt, is_eq, is_gt}
use Rattle.plate.specs.Rows.{cast_of}

-- numbers that compare equal are equal, and the other way
pub compared : (a b : ℤ) → is_eq (compareℤ a b) ≡ true → a ≡ b
compared a b e = by (lt_z a b) (lt_z b a) refl refl e
  where
    by : (s t : Bool) → lt_z a b ≡ s → lt_z b a ≡ t → is_eq (cond s 0 (cond t 2 1)) ≡ true → a ≡ b
    by true t p q r = absurd (false≢true r)
    by false true p q r = absurd (false≢true r)
    by false false p q r = equal a b (omega (arith, lt_false a b p, lt_false b a q))

pub compares : (a b : ℤ) → a ≡ b → is_eq (compareℤ a b) ≡ true
compares a b e = by (lt_z a b) (lt_z b a) refl refl
  where
    by : (s t : Bool) → lt_z a b ≡ s → lt_z b a ≡ t → is_eq (cond s 0 (cond t 2 1)) ≡ true
    by true t p q = absurd (omega (arith, lt_true a b p, ap plus e, ap minus e))
    by false true p q = absurd (omega (arith, lt_true b a q, ap plus e, ap minus e))
    by false false p q = refl

-- a number is below t exactly where it is not above t - 1
pub neighbours : (z t : ℤ) → is_lt (compareℤ z t) ≡ not (is_gt (compareℤ z (t -ℤ pos 1)))
neighbours z t = by (lt_z z t) (lt_z t z) (lt_z z (t -ℤ pos 1)) (lt_z (t -ℤ pos 1) z) refl refl refl
  where
    by : (a b c d : Bool) → lt_z z t ≡ a → lt_z z (t -ℤ pos 1) ≡ c → lt_z (t -ℤ pos 1) z ≡ d → is_lt (cond a 0 (cond b 2 1)) ≡ not (is_gt (cond c 0 (cond d 2 1)))
    by true b true d p q r = refl
    by true b false true p q r = absurd (omega (arith, lt_true z t p, lt_true (t -ℤ pos 1) z r, taken t (pos 1)))
    by true b false false p q r = refl
    by false b true d p q r = absurd (omega (arith, lt_false z t p, lt_true z (t -ℤ pos 1) q, taken t (pos 1)))
    by false true false true p q r = refl
    by false false false true p q r = refl
    by false b false false p q r = absurd (omega (arith, lt_false z t p, lt_false (t -ℤ pos 1) z r, taken t (pos 1)))

-- a greater number has no lower rank
pub rank_up : (t y z : ℤ) → plus y + minus z ≤ plus z + minus y → compareℤ y t ≤ compareℤ z t
rank_up t y z h = by (lt_z y t) (lt_z t y) (lt_z z t) (lt_z t z) refl refl refl refl
  where
    by : (a b c d : Bool) → lt_z y t ≡ a → lt_z t y ≡ b → lt_z z t ≡ c → lt_z t z ≡ d → cond a 0 (cond b 2 1) ≤ cond c 0 (cond d 2 1)
    by true b c d p q r s = omega arith
    by false b true d p q r s = absurd (omega (arith, lt_false y t p, lt_true z t r))
    by false true false true p q r s = omega arith
    by false true false false p q r s = absurd (omega (arith, lt_true t y q, lt_false t z s))
    by false false false true p q r s = omega arith
    by false false false false p q r s = omega arith

-- ---- tile numbers

pub tile_order : (m n : ℕ) → m ≤ n → plus (tile_of m) + minus (tile_of n) ≤ plus (tile_of n) + minus (tile_of m)
unfolding tile_of
tile_order m n h = omega (arith, difference m 1, difference n 1)

-- a stored tile number is that of row j exactly where it is j + 1, modulo 65,536
pub is_row_lem : (m j : ℕ) → m < 2048 → is_eq (compareℤ (tile_of m) (cast_of j)) ≡ eqb m ((j + 1) % 65536)
unfolding tile_of cast_of
is_row_lem m j h =
    same (is_eq (compareℤ (tile_of m) (cast_of j))) (eqb m ((j + 1) % 65536))
    (λ e.
    let z = compared (tile_of m) (cast_of j) e in
    eq-eqb m ((j + 1) % 65536) (omega (arith, difference m 1, difference ((j + 32768) % 65536) 32768, ap plus z, ap minus z)))
    (λ e.
    let r = eqb-true m ((j + 1) % 65536) e in
    compares (tile_of m) (cast_of j)
    (equal (tile_of m) (cast_of j) (omega (arith, r, difference m 1, difference ((j + 32768) % 65536) 32768))))

pub cast_again : (j : ℕ) → cast_of (j + 65536) ≡ cast_of j
unfolding cast_of
cast_again j =
    let e : (j + 65536 + 32768) % 65536 ≡ (j + 32768) % 65536 = omega arith in
    ap (λ (n : ℕ). sub_ℕ n 32768) e
