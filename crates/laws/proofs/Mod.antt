-- Remainders of whole numbers, and whole numbers that agree modulo m. Assumes nothing.
use mathlib.Core.Path.{◌≡◌, refl, sym, ap, ◌∙◌}
use mathlib.Core.Logic.{⊎_elim}
use Prim.Native.Nat.{ℕ, suc, ◌+◌, ◌*◌, ◌-◌, ◌≤◌, ◌<◌, ◌/◌, ◌%◌}
use native.Mathlib.Omega.{arith}
use native.Mathlib.Nat.{div-add-mod', mod-lt, mod_self, suc-mul, add-mul, mul-le-mul_right, add-mul-mod_self_right, mod-eq_of_lt, sub-add_cancel}
use lib.Dec.{lit<}
use lib.IntN.{ℤ, pos, negsuc, neg_ℤ, ◌+ℤ◌, ◌*ℤ◌}
use Rattle.laws.specs.Integer.{plus, minus, modℤ}
use Rattle.laws.proofs.Parts.{added, times, plus_neg, minus_neg}
use Rattle.laws.proofs.Orders.{le_or_lt}

-- the remainder, by the parts: z and the remainder differ by a multiple of m, `up` times m where z is negative and `down` times m else
pub record Remainder (m : ℕ) (z : ℤ) (r : ℕ) : Type 0 where
  pub up : ℕ
  pub down : ℕ
  pub eq : plus z + up * m ≡ minus z + down * m + r
  pub low : r < m

pub remainder : (m : ℕ) (z : ℤ) → 0 < m → Remainder m z (modℤ m z)
remainder m (pos n) h = record { up = 0; down = n / m; eq = omega (arith, div-add-mod' n m); low = mod-lt n h }
remainder m (negsuc n) h =
    record { up = suc (n / m); down = 0; eq = omega (arith, div-add-mod' n m, mod-lt n h, suc-mul (n / m) m); low = omega (arith, mod-lt n h) }

-- n is k times m, and r, below m
of_multiple : (m n k r : ℕ) → n ≡ r + k * m → r < m → n % m ≡ r
of_multiple m n k r e h = ap (λ (x : ℕ). x % m) e ∙ add-mul-mod_self_right r k m ∙ mod-eq_of_lt h

-- a multiple that is less than another, by how much
gap : (m a b : ℕ) → a ≤ b → b * m ≡ (b - a) * m + a * m
gap m a b h = ap (λ (x : ℕ). x * m) (sym (sub-add_cancel h)) ∙ add-mul (b - a) a m

at_least : (m a b : ℕ) → a < b → a * m + m ≤ b * m
at_least m a b h = rw suc-mul at (mul-le-mul_right m h)

-- what differs from z by a multiple of m and is below m is its remainder
pub unique : (m : ℕ) (z : ℤ) {r : ℕ} (up down : ℕ) → plus z + up * m ≡ minus z + down * m + r → r < m → modℤ m z ≡ r
unique m (pos n) {r} up down e h =
    ⊎_elim
    (λ (q : up ≤ down). of_multiple m n (down - up) r (omega (arith, gap m up down q)) h)
    (λ (q : down < up). absurd (omega (arith, at_least m down up q)))
    (le_or_lt up down)
unique m (negsuc n) {r} up down e h =
    ⊎_elim
    (λ (q : up ≤ down). absurd (omega (arith, gap m up down q)))
    (λ (q : down < up).
    let s : suc down ≤ up = q in
    let f = of_multiple m n (up - suc down) (m - suc r) (omega (arith, gap m (suc down) up s, suc-mul down m)) (omega arith) in
    omega (arith, f))
    (le_or_lt up down)

-- the remainder of the opposite
pub opposite : (m : ℕ) (z : ℤ) → 0 < m → modℤ m (neg_ℤ z) ≡ (m - modℤ m z) % m
opposite m z h =
    let r = remainder m z h in
    let e = r.eq in
    ⊎_elim
    (λ (q : modℤ m z ≤ 0).
    let none : m - modℤ m z ≡ m = omega arith in
    unique m (neg_ℤ z) r.down r.up (omega (arith, plus_neg z, minus_neg z)) h ∙ sym (ap (λ (x : ℕ). x % m) none ∙ mod_self m))
    (λ (q : 0 < modℤ m z).
    let low : m - modℤ m z < m = omega arith in
    unique m (neg_ℤ z) (suc r.down) r.up (omega (arith, plus_neg z, minus_neg z, r.low, suc-mul r.down m)) low ∙ sym (mod-eq_of_lt low))
    (le_or_lt (modℤ m z) 0)

-- ---- agreement modulo m

-- z and z + k * m have one remainder
pub shifted : (m : ℕ) (z : ℤ) (k : ℕ) → 0 < m → modℤ m (z +ℤ pos (k * m)) ≡ modℤ m z
shifted m z k h =
    let r = remainder m z h in
    unique m (z +ℤ pos (k * m)) r.up (r.down + k)
    (omega (arith, r.eq, added z (pos (k * m)), add-mul r.down k m))
    r.low

-- the remainder of a number that is i higher
pub moved : (m : ℕ) (z : ℤ) (i : ℕ) → 0 < m → modℤ m (z +ℤ pos i) ≡ (modℤ m z + i) % m
moved m z i h =
    let r = remainder m z h in
    let n = modℤ m z + i in
    unique m (z +ℤ pos i) r.up (r.down + n / m)
    (omega (arith, r.eq, added z (pos i), add-mul r.down (n / m) m, div-add-mod' n m))
    (mod-lt n h)

-- sums of numbers that agree agree
pub agree_add : (m : ℕ) (a b x y : ℤ) → 0 < m → modℤ m a ≡ modℤ m b → modℤ m x ≡ modℤ m y → modℤ m (a +ℤ x) ≡ modℤ m (b +ℤ y)
agree_add m a b x y h p q =
    let ra = remainder m a h in
    let rb = remainder m b h in
    let rx = remainder m x h in
    let ry = remainder m y h in
    let r = remainder m (b +ℤ y) h in
    unique m (a +ℤ x) (ra.up + rx.up + (rb.down + ry.down) + r.up) (ra.down + rx.down + (rb.up + ry.up) + r.down)
    (omega (
      arith,
      added a x,
      added b y,
      add-mul (ra.up + rx.up + (rb.down + ry.down)) r.up m,
      add-mul (ra.up + rx.up) (rb.down + ry.down) m,
      add-mul ra.up rx.up m,
      add-mul rb.down ry.down m,
      add-mul (ra.down + rx.down + (rb.up + ry.up)) r.down m,
      add-mul (ra.down + rx.down) (rb.up + ry.up) m,
      add-mul ra.down rx.down m,
      add-mul rb.up ry.up m,
    ))
    r.low

-- numbers that agree modulo 32 agree, 32 times each, modulo 1,024
pub agree_32 : (a b : ℤ) → modℤ 32 a ≡ modℤ 32 b → modℤ 1024 (pos 32 *ℤ a) ≡ modℤ 1024 (pos 32 *ℤ b)
agree_32 a b h =
    let ra = remainder 32 a (lit< tt) in
    let rb = remainder 32 b (lit< tt) in
    let r = remainder 1024 (pos 32 *ℤ b) (lit< tt) in
    unique 1024 (pos 32 *ℤ a) (ra.up + rb.down + r.up) (ra.down + rb.up + r.down)
    (omega (arith, times 32 a, times 32 b))
    r.low

-- 32 times each with the same summands: how incoming covers that agree modulo 32 give one EvenOdd weight
pub agree : (a b l s : ℤ) → modℤ 32 a ≡ modℤ 32 b
    → modℤ 1024 (pos 32 *ℤ (a +ℤ l) +ℤ s) ≡ modℤ 1024 (pos 32 *ℤ (b +ℤ l) +ℤ s)
agree a b l s h =
    agree_add 1024 (pos 32 *ℤ (a +ℤ l)) (pos 32 *ℤ (b +ℤ l)) s s (lit< tt)
    (agree_32 (a +ℤ l) (b +ℤ l) (agree_add 32 a b l l (lit< tt) h refl))
    refl

-- a multiple of m that keeps z from being negative does not change the remainder: how the code takes it
pub lifted : (m : ℕ) (z : ℤ) (k : ℕ) → 0 < m → minus z ≤ k * m → modℤ m z ≡ (plus z + k * m - minus z) % m
lifted m z k h low =
    let n = plus z + k * m - minus z in
    unique m z k (n / m) (omega (arith, div-add-mod' n m)) (mod-lt n h)
