-- The opposite of a word, for every table of seven widths: its fields but the cover, what order compares and its range are the word's; the cover is
-- negated where it is not the lowest; twice is the word itself; and the opposite of a packed word is the negated cover packed. Assumes nothing.
use Rattle.std.specs.Prelude.{◌≡◌, ◌+◌, ◌-◌, ◌*◌, ◌/◌, ◌%◌, ◌^◌, ◌≤◌, ◌<◌, ◌*ℤ◌}
use Rattle.laws.proofs.Prelude.{ap, ap₂, ◌∙◌, Bool, true, ⊎_elim, List, ℕ, zero, suc, add-zero, mod-lt}
use Rattle.laws.proofs.Prelude.{mod-eq_of_lt, div-eq_of_lt, div-add-mod', div-one, arith, le-leb, leb-true, leb, lit<, ℤ, pos, neg_ℤ, nat_abs}
use Rattle.laws.proofs.Prelude.{get_or, pow_pos, plus, minus, modℤ, unique, all, all_intro, le_or_lt, whole, difference}
use native.Mathlib.Nat.{sub-zero, add-mul-mod_self_right, mul-add-mod_self_right, mul-add-div_right, mod_self}
use Rattle.laws.proofs.Mod.{opposite}
use Rattle.laws.proofs.Parts.{plus_neg, minus_neg, times_neg}
use Rattle.pixel_segment.specs.Field.{cpu, gpu, sum, width_of, shift_of, field_of, multiplier_of, signed_of, cover_of, double_area_of}
use Rattle.pixel_segment.specs.Pack.{word_of, with_cover}
use Rattle.pixel_segment.specs.Opposite.{opposite_of, Mild}
use Rattle.pixel_segment.specs.Order.{order_key}
use Rattle.pixel_segment.proofs.Ranges.{cpu_layout, gpu_layout, halves}
use Rattle.pixel_segment.proofs.ReadBack.{cover_back, kept}
use Rattle.pixel_segment.proofs.Covers.{cover_lowest, with_lt, with_field, with_order, with_cover_lem, with_packed}
use Rattle.pixel_segment.specs.Layout.{Layout}

-- a signed field's number has the field for its remainder
signed_mod : (k n : ℕ) → 1 ≤ k → n < 2 ^ k → modℤ (2 ^ k) (signed_of k n) ≡ n
signed_mod k n g h =
    let half = 2 ^ (k - 1) in
    let size : 2 ^ k ≡ half + half = halves k g in
    let turned = (n + half) % 2 ^ k in
    ⊎_elim
    (λ (q : half ≤ n).
    let is : n + half ≡ (n - half) + 1 * 2 ^ k = omega arith in
    let under : n - half < 2 ^ k = omega arith in
    let e : turned ≡ n - half = ap (λ (r : ℕ). r % 2 ^ k) is ∙ add-mul-mod_self_right (n - half) 1 (2 ^ k) ∙ mod-eq_of_lt under in
    unique (2 ^ k) (signed_of k n) 1 0 (omega (arith, difference turned half)) h)
    (λ (q : n < half).
    let under : n + half < 2 ^ k = omega arith in
    let e : turned ≡ n + half = mod-eq_of_lt under in
    unique (2 ^ k) (signed_of k n) 0 0 (omega (arith, difference turned half)) h)
    (le_or_lt half n)

-- the negated remainder, twice
twice_neg : (m r : ℕ) → r < m → (m - (m - r) % m) % m ≡ r
twice_neg m zero h = ap (λ (n : ℕ). (m - n % m) % m) (sub-zero m) ∙ ap (λ (n : ℕ). (m - n) % m) (mod_self m) ∙ ap (λ (n : ℕ). n % m) (sub-zero m) ∙ mod_self m
twice_neg m (suc r) h =
    let low : m - suc r < m = omega arith in
    let is : m - (m - suc r) ≡ suc r = omega arith in
    ap (λ (n : ℕ). (m - n) % m) (mod-eq_of_lt low) ∙ ap (λ (n : ℕ). n % m) is ∙ mod-eq_of_lt h

module _ (ws : List ℕ) (layout : Layout ws) where
  -- the opposite without signed numbers: the low field is taken from what it holds
  pub opposite_is : (w : ℕ) → opposite_of ws w ≡ w / 2 ^ width_of ws 6 * 2 ^ width_of ws 6 + (2 ^ width_of ws 6 - w % 2 ^ width_of ws 6) % 2 ^ width_of ws 6
  unfolding opposite_of with_cover cover_of
  opposite_is w =
      let m = 2 ^ width_of ws 6 in
      let field : field_of ws 6 w ≡ w % m = ap (λ (s : ℕ). w / 2 ^ s % m) (cover_lowest ws layout) ∙ ap (λ (n : ℕ). n % m) (div-one w) in
      let rest : modℤ m (signed_of (width_of ws 6) (field_of ws 6 w)) ≡ w % m =
      signed_mod (width_of ws 6) (field_of ws 6 w) layout.signed (mod-lt (w / 2 ^ shift_of ws 6) (pow_pos (width_of ws 6))) ∙ field in
      ap (λ (n : ℕ). w / m * m + n)
      (opposite m (signed_of (width_of ws 6) (field_of ws 6 w)) (pow_pos (width_of ws 6)) ∙ ap (λ (n : ℕ). (m - n) % m) rest)

  -- twice is the word itself, for every word
  pub opposite_twice : (w : ℕ) → opposite_of ws (opposite_of ws w) ≡ w
  opposite_twice w =
      let m = 2 ^ width_of ws 6 in
      let pos-m = pow_pos (width_of ws 6) in
      let r = (m - w % m) % m in
      let low : r < m = mod-lt (m - w % m) pos-m in
      let high : (w / m * m + r) / m ≡ w / m = mul-add-div_right pos-m (w / m) r ∙ ap (λ (n : ℕ). w / m + n) (div-eq_of_lt low) ∙ add-zero (w / m) in
      let rest : (w / m * m + r) % m ≡ r = mul-add-mod_self_right (w / m) m r ∙ mod-eq_of_lt low in
      opposite_is (opposite_of ws w)
      ∙ ap (λ (v : ℕ). v / m * m + (m - v % m) % m) (opposite_is w)
      ∙ ap₂ (λ (a b : ℕ). a * m + (m - b) % m) high rest
      ∙ ap (λ (n : ℕ). w / m * m + n) (twice_neg m (w % m) (mod-lt w pos-m))
      ∙ div-add-mod' w m

  module _ (w : ℕ) where
    pub opposite_field : (k : ℕ) → k < 6 → field_of ws k (opposite_of ws w) ≡ field_of ws k w
    unfolding opposite_of
    opposite_field k h = with_field ws w (neg_ℤ (cover_of ws w)) layout k h

    pub opposite_order : order_key ws (opposite_of ws w) ≡ order_key ws w
    unfolding opposite_of
    opposite_order = with_order ws w (neg_ℤ (cover_of ws w)) layout

    pub opposite_lt : w < 2 ^ sum ws → opposite_of ws w < 2 ^ sum ws
    unfolding opposite_of
    opposite_lt h = with_lt ws w (neg_ℤ (cover_of ws w)) layout.seven h

    module _ (mild : nat_abs (cover_of ws w) < 2 ^ (width_of ws 6 - 1)) where
      pub opposite_cover : cover_of ws (opposite_of ws w) ≡ neg_ℤ (cover_of ws w)
      unfolding opposite_of
      opposite_cover =
          let c = cover_of ws w in
          with_cover_lem ws w (neg_ℤ c) layout (omega (arith, whole c, minus_neg c)) (omega (arith, whole c, plus_neg c))

      pub opposite_area : double_area_of ws (opposite_of ws w) ≡ neg_ℤ (double_area_of ws w)
      unfolding double_area_of
      opposite_area =
          ap₂ (λ (m : ℕ) (c : ℤ). pos m *ℤ c) (opposite_field 5 (lit< tt)) opposite_cover
          ∙ times_neg (multiplier_of ws w) (cover_of ws w)

  -- the opposite of a packed word is the packing of the negated cover, where the field holds the cover
  pub opposite_packed : (layer : ℕ) (tx ty : ℤ) (x y m : ℕ) (c : ℤ) → minus c ≤ 2 ^ (width_of ws 6 - 1) → plus c < 2 ^ (width_of ws 6 - 1)
      → opposite_of ws (word_of ws layer tx ty x y m c) ≡ word_of ws layer tx ty x y m (neg_ℤ c)
  unfolding opposite_of cover_of
  opposite_packed layer tx ty x y m c low high =
      let w = word_of ws layer tx ty x y m c in
      let is : cover_of ws w ≡ c = cover_back c (field_of ws 6 w) (width_of ws 6) layout.signed (low, high) (kept ws layout layer tx ty x y m c 6 (lit< tt)) in
      ap (λ (d : ℤ). with_cover ws w (neg_ℤ d)) is ∙ with_packed ws layout layer tx ty x y m c (neg_ℤ c)

-- ---- rows with mild covers

abbrev pub is_mild : List ℕ → ℕ → Bool
is_mild ws w = leb (nat_abs (cover_of ws w)) 31

abbrev pub are_mild : List ℕ → List ℕ → Bool
are_mild ws row = all (is_mild ws) row

pub are_mild_lem : (ws row : List ℕ) → Mild ws row → are_mild ws row ≡ true
are_mild_lem ws row m = all_intro (is_mild ws) row 0 (λ i h. le-leb (nat_abs (cover_of ws (get_or row i 0))) 31 (m.small i h))

-- a table of seven widths whose covers go beyond 31 either way: both have it
pub record Wide (ws : List ℕ) : Type 0 where
  pub layout : Layout ws
  pub beyond : 31 < 2 ^ (width_of ws 6 - 1)

pub cpu_wide : Wide cpu
cpu_wide = record { layout = cpu_layout; beyond = omega arith }

pub gpu_wide : Wide gpu
gpu_wide = record { layout = gpu_layout; beyond = omega arith }

module _ {ws : List ℕ} (wide : Wide ws) (w : ℕ) (mild : is_mild ws w ≡ true) where
  within : nat_abs (cover_of ws w) < 2 ^ (width_of ws 6 - 1)
  within = omega (arith, leb-true (nat_abs (cover_of ws w)) 31 mild, wide.beyond)

  pub mild_cover : cover_of ws (opposite_of ws w) ≡ neg_ℤ (cover_of ws w)
  mild_cover = opposite_cover ws wide.layout w within

  pub mild_area : double_area_of ws (opposite_of ws w) ≡ neg_ℤ (double_area_of ws w)
  mild_area = opposite_area ws wide.layout w within
