-- Laws of the weights. Assumes nothing.
use Rattle.std.specs.Prelude.{◌≡◌, ◌+◌, ◌*◌, ◌-◌, ◌/◌, ◌%◌, ◌≤◌, ◌<◌, ◌+ℤ◌, ◌*ℤ◌}
use Rattle.laws.proofs.Prelude.{refl, ap, ◌∙◌, Bool, true, false, cond, ⊎_elim, ℕ, arith, eqb-true, eq-eqb}
use Rattle.laws.proofs.Prelude.{ne_eqb, leb-true, le-leb, lit<, ℤ, pos, negsuc, nat_abs, +ℤ_idr, remainder, unique, eq_or_ne, whole, times}
use Rattle.laws.proofs.Prelude.{difference, plus, minus, modℤ}
use native.Mathlib.Nat.{mul_comm}
use Rattle.laws.proofs.Mod.{agree_add, agree}
use Rattle.weight_table.specs.Rest.{rest_weight}
use Rattle.styling.specs.declared.FillRule.{FillRule}
use Rattle.styling.specs.declared.FillRule.TheVariants.{NonZero, EvenOdd}
use Rattle.cover_statements.specs.Cover.{empty_at, full_at, Agrees}
use Rattle.cover_statements.specs.Weight.{non_zero_of, even_odd_of, weight_of, is_inside}

-- the weight of a remainder: the distance to the nearer end of 0..1,024
pub low : (rest : ℕ) → rest ≤ 512 → rest_weight rest ≡ rest
low rest h = omega (arith, difference rest 512)

pub high : (rest : ℕ) → 512 ≤ rest → rest ≤ 1024 → rest_weight rest ≡ 1024 - rest
high rest h k = omega (arith, difference rest 512)

-- a weight is 0 to 512
pub weight_le : (rule : FillRule) (d : ℤ) → weight_of rule d ≤ 512
weight_le NonZero d = omega arith
weight_le EvenOdd d = omega arith

-- ---- EvenOdd sees d only modulo 1,024, and an incoming cover only modulo 32

multiple : (m : ℕ) (k : ℤ) → 0 < m → modℤ m (pos m *ℤ k) ≡ 0
multiple m k h =
    unique m (pos m *ℤ k) (minus k) (plus k)
    (omega (arith, times m k, mul_comm m (plus k), mul_comm m (minus k)))
    h

pub even_odd_shift : (d k : ℤ) → even_odd_of (d +ℤ pos 1024 *ℤ k) ≡ even_odd_of d
even_odd_shift d k =
    ap rest_weight
    (agree_add 1024 d d (pos 1024 *ℤ k) (pos 0) (lit< tt) refl (multiple 1024 k (lit< tt))
    ∙ ap (modℤ 1024) (+ℤ_idr d))

-- covers that agree give one weight, with the same covers and double areas beside them
pub weight_agree : (rule : FillRule) (a b left own : ℤ) → Agrees rule a b
    → weight_of rule (pos 32 *ℤ (a +ℤ left) +ℤ own) ≡ weight_of rule (pos 32 *ℤ (b +ℤ left) +ℤ own)
weight_agree NonZero a b left own h = ap (λ (z : ℤ). non_zero_of (pos 32 *ℤ (z +ℤ left) +ℤ own)) h
weight_agree EvenOdd a b left own h = ap rest_weight (agree a b left own h)

-- ---- whole covers, with no double area beside them

-- 32 times a number, modulo 1,024, from the number's remainder by 32
scaled : (cover : ℤ) (rest : ℕ) → modℤ 32 cover ≡ rest → rest < 32 → modℤ 1024 (pos 32 *ℤ cover) ≡ 32 * rest
scaled cover rest e h =
    let r = remainder 32 cover (lit< tt) in
    unique 1024 (pos 32 *ℤ cover) r.up r.down (omega (arith, times 32 cover)) (omega arith)

-- an empty cover weighs nothing, and a full one 512; no other cover does
pub empty_weight : (rule : FillRule) (cover : ℤ) → empty_at rule cover ≡ true → weight_of rule (pos 32 *ℤ cover) ≡ 0
empty_weight NonZero cover e =
    let h = eqb-true (nat_abs cover) 0 e in
    omega (arith, times 32 cover, whole (pos 32 *ℤ cover))
empty_weight EvenOdd cover e = ap rest_weight (scaled cover 0 (eqb-true (modℤ 32 cover) 0 e) (lit< tt))

pub full_weight : (rule : FillRule) (cover : ℤ) → full_at rule cover ≡ true → weight_of rule (pos 32 *ℤ cover) ≡ 512
full_weight NonZero cover e =
    let h = leb-true _ (nat_abs cover) e in
    omega (arith, times 32 cover, whole (pos 32 *ℤ cover))
full_weight EvenOdd cover e = ap rest_weight (scaled cover 16 (eqb-true (modℤ 32 cover) 16 e) (lit< tt))

pub weight_full : (rule : FillRule) (cover : ℤ) → weight_of rule (pos 32 *ℤ cover) ≡ 512 → full_at rule cover ≡ true
weight_full NonZero cover e = le-leb _ (nat_abs cover) (omega (arith, times 32 cover, whole cover, whole (pos 32 *ℤ cover)))
weight_full EvenOdd cover e =
    let rest = modℤ 32 cover in
    let r = remainder 32 cover (lit< tt) in
    let h : rest_weight (32 * rest) ≡ 512 = rw (scaled cover rest refl r.low) at e in
    eq-eqb rest 16 (omega (arith, h, difference (32 * rest) 512))

-- ---- SVG 2: cover 16 × k and no double area weigh 512 where a point with winding k is inside, and else nothing

-- the parity of k, as d has it
parity : (k : ℤ) → modℤ 1024 (pos 32 *ℤ (pos 16 *ℤ k)) ≡ 512 * (nat_abs k % 2)
parity k =
    let o = times 32 (pos 16 *ℤ k) in
    let i = times 16 k in
    let w = whole k in
    unique 1024 (pos 32 *ℤ (pos 16 *ℤ k)) (minus k / 2 + minus k % 2) (plus k / 2) (by k) (omega arith)
  where
    by : (k : ℤ) → plus (pos 32 *ℤ (pos 16 *ℤ k)) + (minus k / 2 + minus k % 2) * 1024 ≡ minus (pos 32 *ℤ (pos 16 *ℤ k)) + plus k / 2 * 1024 + 512 * (nat_abs k % 2)
    by (pos n) = omega (arith, times 32 (pos 16 *ℤ pos n), times 16 (pos n))
    by (negsuc n) = omega (arith, times 32 (pos 16 *ℤ negsuc n), times 16 (negsuc n))

pub winding_weight : (rule : FillRule) (k : ℤ) → weight_of rule (pos 32 *ℤ (pos 16 *ℤ k)) ≡ cond (is_inside rule k) 512 0
winding_weight NonZero k =
    let o = times 32 (pos 16 *ℤ k) in
    let i = times 16 k in
    let w = whole (pos 32 *ℤ (pos 16 *ℤ k)) in
    ⊎_elim
    (λ (q : nat_abs k ≡ 0). rw (eq-eqb (nat_abs k) 0 q) (omega arith))
    (λ (q : nat_abs k ≡ 0 → ⊥). rw (ne_eqb (nat_abs k) 0 q) (omega arith))
    (eq_or_ne (nat_abs k) 0)
winding_weight EvenOdd k =
    ⊎_elim
    (λ (q : nat_abs k % 2 ≡ 1). rw (parity k, q))
    (λ (q : nat_abs k % 2 ≡ 1 → ⊥).
    let z : nat_abs k % 2 ≡ 0 = omega arith in
    rw (parity k, z))
    (eq_or_ne (nat_abs k % 2) 1)

-- so a cover of 16 × k is full exactly where a point with winding k is inside
exactly : (full inside : Bool) (weight : ℕ) → (full ≡ true → weight ≡ 512) → (weight ≡ 512 → full ≡ true) → weight ≡ cond inside 512 0 → full ≡ inside
exactly full true weight f g e = g e
exactly true false weight f g e = absurd (omega (arith, f refl, e))
exactly false false weight f g e = refl

pub winding_full : (rule : FillRule) (k : ℤ) → full_at rule (pos 16 *ℤ k) ≡ is_inside rule k
winding_full rule k =
    let cover = pos 16 *ℤ k in
    exactly (full_at rule cover) (is_inside rule k) (weight_of rule (pos 32 *ℤ cover)) (full_weight rule cover) (weight_full rule cover) (winding_weight rule k)
