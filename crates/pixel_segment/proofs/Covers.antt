-- A word with another cover, for every table of seven widths: the other six fields, what order compares and the word's range stay, and the cover is
-- the number that was put there, where the field holds it. Assumes nothing.
use Rattle.std.specs.Prelude.{◌≡◌, ◌∷◌, ◌+◌, ◌-◌, ◌*◌, ◌/◌, ◌%◌, ◌^◌, ◌≤◌, ◌<◌}
use Rattle.laws.proofs.Prelude.{ap, ap₂, sym, ◌∙◌, List, [], ℕ, div-eq_of_lt, div-lt_iff_lt-mul}
use Rattle.laws.proofs.Prelude.{div-one, mod-lt, mod-eq_of_lt, add-zero, arith, ℤ, length, pow_pos, pow-add, plus, minus, modℤ, remainder}
use Rattle.std.proofs.Common.{one-mul}
use native.Mathlib.Nat.{mul-add-div_right, mul-add-mod_self_right, div-div-eq-div-mul}
use Rattle.pixel_segment.specs.Field.{sum, width_of, shift_of, field_of, cover_of}
use Rattle.pixel_segment.specs.Pack.{word_of, with_cover}
use Rattle.pixel_segment.specs.Order.{order_key}
use Rattle.pixel_segment.proofs.Widths.{sum_step, sum_drop_mono, sum_drop_le, sum_past}
use Rattle.pixel_segment.proofs.ReadBack.{cover_back}
use Rattle.pixel_segment.specs.Layout.{Layout}

-- the cover stands below every other field
cover_below : (ws : List ℕ) → Layout ws → (k : ℕ) → k < 6 → width_of ws 6 ≤ shift_of ws k
cover_below ws layout k h = omega (arith, layout.seven, sum_step 6 ws (omega (arith, layout.seven)), sum_drop_mono (k + 1) 6 ws (omega arith))

pub cover_lowest : (ws : List ℕ) → Layout ws → shift_of ws 6 ≡ 0
cover_lowest ws layout = sum_past 7 ws (omega (arith, layout.seven))

module _ (ws : List ℕ) (w : ℕ) (c : ℤ) where
  stored_lt : modℤ (2 ^ width_of ws 6) c < 2 ^ width_of ws 6
  stored_lt = (remainder (2 ^ width_of ws 6) c (pow_pos (width_of ws 6))).low

  -- what stands above the cover stays
  pub above : (s : ℕ) → width_of ws 6 ≤ s → with_cover ws w c / 2 ^ s ≡ w / 2 ^ s
  unfolding with_cover
  above s h =
      let m = 2 ^ width_of ws 6 in
      let up = 2 ^ (s - width_of ws 6) in
      let e : 2 ^ s ≡ m * up = ap (λ (n : ℕ). 2 ^ n) (omega arith) ∙ pow-add 2 (width_of ws 6) (s - width_of ws 6) in
      let high : with_cover ws w c / m ≡ w / m = mul-add-div_right (pow_pos (width_of ws 6)) (w / m) (modℤ m c) ∙ ap (λ (n : ℕ). w / m + n) (div-eq_of_lt stored_lt) ∙ add-zero (w / m) in
      ap (λ (n : ℕ). with_cover ws w c / n) e
      ∙ sym (div-div-eq-div-mul (with_cover ws w c) m up)
      ∙ ap (λ (n : ℕ). n / up) high
      ∙ div-div-eq-div-mul w m up
      ∙ sym (ap (λ (n : ℕ). w / n) e)

  -- a word within the widths' sum stays within it: below 2^64, where they sum to 64
  pub with_lt : length ws ≡ 7 → w < 2 ^ sum ws → with_cover ws w c < 2 ^ sum ws
  with_lt seven h =
      let s = sum ws in
      let low : width_of ws 6 ≤ s = omega (arith, sum_step 6 ws (omega arith), sum_drop_le 6 ws) in
      let none : with_cover ws w c / 2 ^ s ≡ 0 = above s low ∙ div-eq_of_lt h in
      rw (one-mul (2 ^ s)) at ((div-lt_iff_lt-mul {k = 2 ^ s} {x = with_cover ws w c} {y = 1} (pow_pos s)).0 (omega arith))

  module _ (layout : Layout ws) where
    -- every other field is the word's
    pub with_field : (k : ℕ) → k < 6 → field_of ws k (with_cover ws w c) ≡ field_of ws k w
    with_field k h = ap (λ (n : ℕ). n % 2 ^ width_of ws k) (above (shift_of ws k) (cover_below ws layout k h))

    -- and so is what order compares
    pub with_order : order_key ws (with_cover ws w c) ≡ order_key ws w
    with_order = above (shift_of ws 2) (cover_below ws layout 2 (omega arith))

    -- the cover as it is stored
    pub with_stored : field_of ws 6 (with_cover ws w c) ≡ modℤ (2 ^ width_of ws 6) c
    unfolding with_cover
    with_stored =
        let m = 2 ^ width_of ws 6 in
        ap (λ (s : ℕ). with_cover ws w c / 2 ^ s % m) (cover_lowest ws layout)
        ∙ ap (λ (n : ℕ). n % m) (div-one (with_cover ws w c))
        ∙ mul-add-mod_self_right (w / m) m (modℤ m c)
        ∙ mod-eq_of_lt stored_lt

    -- the cover is c where the field holds it, from -2^(k-1) up to but not including 2^(k-1), k being its width
    pub with_cover_lem : minus c ≤ 2 ^ (width_of ws 6 - 1) → plus c < 2 ^ (width_of ws 6 - 1) → cover_of ws (with_cover ws w c) ≡ c
    unfolding cover_of
    with_cover_lem low high =
        cover_back c (field_of ws 6 (with_cover ws w c)) (width_of ws 6) layout.signed (low, high)
        (with_stored ∙ sym (mod-eq_of_lt stored_lt))

-- another cover put into a packed word is that cover packed
packed_last : (k q : ℕ) (c c' : ℤ) → (q * 2 ^ k + modℤ (2 ^ k) c % 2 ^ k) / 2 ^ k * 2 ^ k + modℤ (2 ^ k) c' ≡ q * 2 ^ k + modℤ (2 ^ k) c' % 2 ^ k
packed_last k q c c' =
    let m = 2 ^ k in
    let high : (q * m + modℤ m c % m) / m ≡ q = mul-add-div_right (pow_pos k) q (modℤ m c % m) ∙ ap (λ (n : ℕ). q + n) (div-eq_of_lt (mod-lt (modℤ m c) (pow_pos k))) ∙ add-zero q in
    ap₂ (λ (a b : ℕ). a * m + b) high (sym (mod-eq_of_lt (remainder m c' (pow_pos k)).low))

pub with_packed : (ws : List ℕ) → Layout ws → (layer : ℕ) (tx ty : ℤ) (x y m : ℕ) (c c' : ℤ) → with_cover ws (word_of ws layer tx ty x y m c) c' ≡ word_of ws layer tx ty x y m c'
unfolding with_cover
with_packed [] layout layer tx ty x y m c c' = absurd (omega (arith, layout.seven))
with_packed (a ∷ []) layout layer tx ty x y m c c' = absurd (omega (arith, layout.seven))
with_packed (a ∷ b ∷ []) layout layer tx ty x y m c c' = absurd (omega (arith, layout.seven))
with_packed (a ∷ b ∷ d ∷ []) layout layer tx ty x y m c c' = absurd (omega (arith, layout.seven))
with_packed (a ∷ b ∷ d ∷ e ∷ []) layout layer tx ty x y m c c' = absurd (omega (arith, layout.seven))
with_packed (a ∷ b ∷ d ∷ e ∷ f ∷ []) layout layer tx ty x y m c c' = absurd (omega (arith, layout.seven))
with_packed (a ∷ b ∷ d ∷ e ∷ f ∷ g ∷ []) layout layer tx ty x y m c c' = absurd (omega (arith, layout.seven))
with_packed (a ∷ b ∷ d ∷ e ∷ f ∷ g ∷ k ∷ []) layout layer tx ty x y m c c' = packed_last k _ c c'
with_packed (a ∷ b ∷ d ∷ e ∷ f ∷ g ∷ k ∷ l ∷ ls) layout layer tx ty x y m c c' = absurd (omega (arith, layout.seven))
