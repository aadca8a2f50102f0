-- A word with another cover, and the opposite of a word: every other field, order and range stay. Stands for W-210.
use Rattle.std.specs.Prelude.{◌≡◌, ◌<◌, ◌≤◌, ◌^◌, ◌-◌, ◌/◌, ◌*◌, ◌+◌, ◌%◌}
use Rattle.laws.specs.Prelude.{List, ℕ, ℤ, nat_abs, neg_ℤ, length, minus, plus}
use Rattle.pixel_segment.specs.Layout.{Layout}
use Rattle.pixel_segment.specs.Field.{field_of, width_of, cover_of, sum}
use Rattle.pixel_segment.specs.Pack.{with_cover, word_of}
use Rattle.pixel_segment.specs.Order.{order_key}
use Rattle.pixel_segment.specs.Opposite.{opposite_of}

pub record OppositeWords : Type 0 where
  -- every other field is the word's
  pub with_field : (ws : List ℕ) (w : ℕ) (c : ℤ) (layout : Layout ws) → (k : ℕ) → k < 6 → field_of ws k (with_cover ws w c) ≡ field_of ws k w
  -- the cover is c where the field holds it, from -2^(k-1) up to but not including 2^(k-1), k being its width
  pub with_cover_lem : (ws : List ℕ) (w : ℕ) (c : ℤ) (layout : Layout ws) → minus c ≤ 2 ^ (width_of ws 6 - 1) → plus c < 2 ^ (width_of ws 6 - 1) →
      cover_of ws (with_cover ws w c) ≡ c
  -- and so is what order compares
  pub with_order : (ws : List ℕ) (w : ℕ) (c : ℤ) (layout : Layout ws) → order_key ws (with_cover ws w c) ≡ order_key ws w
  -- a word within the widths' sum stays within it: below 2^64, where they sum to 64
  pub with_lt : (ws : List ℕ) (w : ℕ) (c : ℤ) → length ws ≡ 7 → w < 2 ^ sum ws → with_cover ws w c < 2 ^ sum ws
  pub with_packed : (ws : List ℕ) → Layout ws → (layer : ℕ) (tx ty : ℤ) (x y m : ℕ) (c c' : ℤ) →
      with_cover ws (word_of ws layer tx ty x y m c) c' ≡ word_of ws layer tx ty x y m c'
  pub opposite_field : (ws : List ℕ) (layout : Layout ws) (w : ℕ) → (k : ℕ) → k < 6 → field_of ws k (opposite_of ws w) ≡ field_of ws k w
  pub opposite_cover : (ws : List ℕ) (layout : Layout ws) (w : ℕ) (mild : nat_abs (cover_of ws w) < 2 ^ (width_of ws 6 - 1)) →
      cover_of ws (opposite_of ws w) ≡ neg_ℤ (cover_of ws w)
  -- the opposite without signed numbers: the low field is taken from what it holds
  pub opposite_is : (ws : List ℕ) (layout : Layout ws) → (w : ℕ) →
      opposite_of ws w ≡ w / 2 ^ width_of ws 6 * 2 ^ width_of ws 6 + (2 ^ width_of ws 6 - w % 2 ^ width_of ws 6) % 2 ^ width_of ws 6
  -- twice is the word itself, for every word
  pub opposite_twice : (ws : List ℕ) (layout : Layout ws) → (w : ℕ) → opposite_of ws (opposite_of ws w) ≡ w
  -- the opposite of a packed word is the packing of the negated cover, where the field holds the cover
  pub opposite_packed : (ws : List ℕ) (layout : Layout ws) → (layer : ℕ) (tx ty : ℤ) (x y m : ℕ) (c : ℤ) → minus c ≤ 2 ^ (width_of ws 6 - 1) →
      plus c < 2 ^ (width_of ws 6 - 1) → opposite_of ws (word_of ws layer tx ty x y m c) ≡ word_of ws layer tx ty x y m (neg_ℤ c)
