-- Laws of covers within bounds, for every table of seven widths: the lowest and the highest d are the least and the greatest of all choices and are
-- reached; every choice has its weights inside, and is light where the heavier bounds are; equal bounds tell all exactly; narrower bounds give an
-- interval inside. Assumes nothing.
use Rattle.std.specs.Prelude.{◌≡◌, ◌+◌, ◌-◌, ◌^◌, ◌≤◌, ◌<◌}
use Rattle.laws.proofs.Prelude.{refl, sym, ap, ◌∙◌, true, List, ℕ, arith, le-leb, ℤ, pos, nat_abs, length, plus, minus}
use Rattle.laws.proofs.Prelude.{is_within, AtMost, tabulate, every_intro, whole, equal, is_within_lem, get_d_tabulate}
use Rattle.laws.proofs.Parts.{most_of}
use Rattle.laws.proofs.Ranges.{within}
use Rattle.pixel_segment.specs.Field.{width_of}
use Rattle.styling.specs.declared.FillRule.{FillRule}
use Rattle.cover_statements.specs.Carry.{load_in, light_at, is_light}
use Rattle.cover_statements.specs.Cover.{cover_at}
use Rattle.cover_statements.specs.Weight.{weight_of}
use Rattle.cover_statements.proofs.Areas.{area_bound}
use Rattle.cover_statements.proofs.Carries.{Light, light}
use Rattle.cover_bounds_statements.specs.Interval.{least_weight, greatest_weight}
use Rattle.cover_bounds_statements.specs.Chosen.{chosen, chosen_area, InBounds, HeldCovers, heavier, is_light_within, Ordered, Reached}
use Rattle.cover_bounds_statements.proofs.Intervals.{least_is, greatest_is, least_one, greatest_one, narrower_least, narrower_greatest}
use Rattle.cover_bounds_statements.proofs.Choosing.{area_most, within_heavier, heavier_is, load_le}
use Rattle.pixel_segment.specs.Layout.{Layout}

-- ---- numbers within their bounds

in_order : {count : ℕ} {low high v : ℕ → ℤ} → InBounds count low high v → Ordered count low high
in_order b = record { at = λ i h. let w = within _ _ _ (b.at i h) in omega (arith, w.above, w.below) }

from_low : {count : ℕ} {low high v : ℕ → ℤ} → InBounds count low high v → Ordered count low v
from_low b = record { at = λ i h. (within _ _ _ (b.at i h)).above }

to_high : {count : ℕ} {low high v : ℕ → ℤ} → InBounds count low high v → Ordered count v high
to_high b = record { at = λ i h. (within _ _ _ (b.at i h)).below }

-- each bound lies within the bounds
pub low_itself : {count : ℕ} {low high : ℕ → ℤ} → Ordered count low high → InBounds count low high low
low_itself {low = low} {high = high} o = record { at = λ i h. is_within_lem (low i) (high i) (low i) (most_of {a = low i} refl) (o.at i h) }

pub high_itself : {count : ℕ} {low high : ℕ → ℤ} → Ordered count low high → InBounds count low high high
high_itself {low = low} {high = high} o = record { at = λ i h. is_within_lem (low i) (high i) (high i) (o.at i h) (most_of {a = high i} refl) }

held_by : (k : ℕ) (a b v : ℤ) → AtMost a v → AtMost v b → (minus a ≤ k) × (plus a < k) → (minus b ≤ k) × (plus b < k) → (minus v ≤ k) × (plus v < k)
held_by k a b v h l p q = omega (arith, whole a, whole b, whole v)

-- what lies between covers that the field holds, it holds
pub held_within : {ws : List ℕ} {count : ℕ} {low high v : ℕ → ℤ} → HeldCovers ws count low → HeldCovers ws count high → InBounds count low high v → HeldCovers ws count v
held_within {ws} {low = low} {high = high} {v = v} p q b =
    record {
      at =
          λ i h.
          let w = within _ _ _ (b.at i h) in
          held_by (2 ^ (width_of ws 6 - 1)) (low i) (high i) (v i) w.above w.below (p.at i h) (q.at i h);
    }

-- ---- d

module _ (ws : List ℕ) (layout : Layout ws) (n : ℕ) (part : List ℕ) (lows highs : ℕ → ℤ) (carryLow carryHigh : ℕ → ℤ) (hl : HeldCovers ws (length part) lows) (hh : HeldCovers ws (length part) highs) where
  -- a choice of a cover for each segment and of a carry for each pixel row
  module _ (cover carry : ℕ → ℤ) (b : InBounds (length part) lows highs cover) (k : InBounds n carryLow carryHigh carry) (c y : ℕ) (l : y < n) where
    pub lower : AtMost (chosen_area ws carryLow part lows c y) (chosen_area ws carry part cover c y)
    lower = area_most ws layout part lows cover hl (held_within hl hh b) (from_low b) c y carryLow carry ((from_low k).at y l)

    pub higher : AtMost (chosen_area ws carry part cover c y) (chosen_area ws carryHigh part highs c y)
    higher = area_most ws layout part cover highs (held_within hl hh b) hh (to_high b) c y carry carryHigh ((to_high k).at y l)

    pub inside : is_within (chosen_area ws carryLow part lows c y) (chosen_area ws carryHigh part highs c y) (chosen_area ws carry part cover c y) ≡ true
    inside =
        is_within_lem (chosen_area ws carryLow part lows c y) (chosen_area ws carryHigh part highs c y) (chosen_area ws carry part cover c y) lower higher

    -- its weights are inside, by both rules
    pub sound : (rule : FillRule)
        → (least_weight rule (chosen_area ws carryLow part lows c y) (chosen_area ws carryHigh part highs c y) ≤ weight_of rule (chosen_area ws carry part cover c y))
        × (weight_of rule (chosen_area ws carry part cover c y) ≤ greatest_weight rule (chosen_area ws carryLow part lows c y) (chosen_area ws carryHigh part highs c y))
    sound rule =
        let a = chosen_area ws carryLow part lows c y in
        let z = chosen_area ws carryHigh part highs c y in
        let d = chosen_area ws carry part cover c y in
        let o : AtMost a z = omega (arith, lower, higher) in
        ((least_is rule a z o).low d inside, (greatest_is rule a z o).high d inside)

  module _ (o : Ordered (length part) lows highs) (ko : Ordered n carryLow carryHigh) (c y : ℕ) where
    -- the lowest and the highest d are given by choices
    pub reached_lowest : Reached ws n part lows highs carryLow carryHigh c y (chosen_area ws carryLow part lows c y)
    reached_lowest = record { cover = lows; carry = carryLow; covers_in = low_itself o; carry_in_lem = low_itself ko; area_is = refl }

    pub reached_highest : Reached ws n part lows highs carryLow carryHigh c y (chosen_area ws carryHigh part highs c y)
    reached_highest = record { cover = highs; carry = carryHigh; covers_in = high_itself o; carry_in_lem = high_itself ko; area_is = refl }

    pub in_order_areas : y < n → AtMost (chosen_area ws carryLow part lows c y) (chosen_area ws carryHigh part highs c y)
    in_order_areas l = area_most ws layout part lows highs hl hh o c y carryLow carryHigh (ko.at y l)

  -- with equal bounds the two are one, and their weights the ordinary weight
  module _ (e : (i : ℕ) → i < length part → lows i ≡ highs i) (f : (y : ℕ) → y < n → carryLow y ≡ carryHigh y) (c y : ℕ) (l : y < n) where
    pub exact_area : chosen_area ws carryHigh part highs c y ≡ chosen_area ws carryLow part lows c y
    exact_area =
        let a = chosen_area ws carryLow part lows c y in
        let z = chosen_area ws carryHigh part highs c y in
        let up : AtMost a z = area_most ws layout part lows highs hl hh (record { at = λ i h. most_of (e i h) }) c y carryLow carryHigh (most_of (f y l)) in
        let down : AtMost z a = area_most ws layout part highs lows hh hl (record { at = λ i h. most_of (sym (e i h)) }) c y carryHigh carryLow (most_of (sym (f y l))) in
        equal z a (omega arith)

    pub exact_least : (rule : FillRule) → least_weight rule (chosen_area ws carryLow part lows c y) (chosen_area ws carryHigh part highs c y) ≡ weight_of rule (chosen_area ws carryLow part lows c y)
    exact_least rule =
        ap (least_weight rule (chosen_area ws carryLow part lows c y)) exact_area ∙ least_one rule (chosen_area ws carryLow part lows c y)

    pub exact_greatest : (rule : FillRule) → greatest_weight rule (chosen_area ws carryLow part lows c y) (chosen_area ws carryHigh part highs c y) ≡ weight_of rule (chosen_area ws carryLow part lows c y)
    exact_greatest rule =
        ap (greatest_weight rule (chosen_area ws carryLow part lows c y)) exact_area ∙ greatest_one rule (chosen_area ws carryLow part lows c y)

  -- ---- narrower bounds, within these

  module _ (lows' highs' carryLow' carryHigh' : ℕ → ℤ) (bl : InBounds (length part) lows highs lows') (bh : InBounds (length part) lows highs highs') (o : Ordered (length part) lows' highs') (kl : InBounds n carryLow carryHigh carryLow') (kh : InBounds n carryLow carryHigh carryHigh') (ko : Ordered n carryLow' carryHigh') (c y : ℕ) (l : y < n) where
    order' : AtMost (chosen_area ws carryLow' part lows' c y) (chosen_area ws carryHigh' part highs' c y)
    order' = area_most ws layout part lows' highs' (held_within hl hh bl) (held_within hl hh bh) o c y carryLow' carryHigh' (ko.at y l)

    pub narrower_lowest : AtMost (chosen_area ws carryLow part lows c y) (chosen_area ws carryLow' part lows' c y)
    narrower_lowest = lower lows' carryLow' bl kl c y l

    pub narrower_highest : AtMost (chosen_area ws carryHigh' part highs' c y) (chosen_area ws carryHigh part highs c y)
    narrower_highest = higher highs' carryHigh' bh kh c y l

    pub narrower : (rule : FillRule)
        → (least_weight rule (chosen_area ws carryLow part lows c y) (chosen_area ws carryHigh part highs c y) ≤ least_weight rule (chosen_area ws carryLow' part lows' c y) (chosen_area ws carryHigh' part highs' c y))
        × (greatest_weight rule (chosen_area ws carryLow' part lows' c y) (chosen_area ws carryHigh' part highs' c y) ≤ greatest_weight rule (chosen_area ws carryLow part lows c y) (chosen_area ws carryHigh part highs c y))
    narrower rule =
        let a = chosen_area ws carryLow part lows c y in
        let z = chosen_area ws carryHigh part highs c y in
        let a' = chosen_area ws carryLow' part lows' c y in
        let z' = chosen_area ws carryHigh' part highs' c y in
        (narrower_least rule a z a' z' narrower_lowest order' narrower_highest, narrower_greatest rule a z a' z' narrower_lowest order' narrower_highest)

-- ---- number 9

module _ (ws : List ℕ) (layout : Layout ws) (n : ℕ) (part : List ℕ) (lows highs : ℕ → ℤ) (low high : List ℤ) (hl : HeldCovers ws (length part) lows) (hh : HeldCovers ws (length part) highs) (e : is_light_within ws n low high part lows highs ≡ true) where
  -- what number 9 lets pass keeps every chosen row within 127
  pub light_within : (cover : ℕ → ℤ) (carry : List ℤ) → InBounds (length part) lows highs cover → InBounds n (cover_at low) (cover_at high) (cover_at carry) → is_light ws n carry (chosen ws part cover) ≡ true
  unfolding is_light_within is_light
  light_within cover carry b k =
      let heavy : ℕ → ℤ = λ i. heavier (lows i) (highs i) in
      let top : ℕ → ℤ = λ y. heavier (cover_at low y) (cover_at high y) in
      let all_light : Light ws n (tabulate n top) (chosen ws part heavy) = light e in
      let hs : HeldCovers ws (length part) heavy =
      record { at = λ i h. heavier_is (λ v. (minus v ≤ 2 ^ (width_of ws 6 - 1)) × (plus v < 2 ^ (width_of ws 6 - 1))) (lows i) (highs i) (hl.at i h) (hh.at i h) } in
      every_intro n (light_at ws carry (chosen ws part cover))
      (λ y l.
      let w = within (cover_at low y) (cover_at high y) (cover_at carry y) (k.at y l) in
      le-leb (nat_abs (cover_at carry y) + load_in ws y (chosen ws part cover)) 127
      (omega (
        arith,
        rw (get_d_tabulate n top (pos 0) y l) at (all_light.at y l),
        within_heavier (cover_at low y) (cover_at high y) (cover_at carry y) w.above w.below,
        load_le ws layout part cover heavy (held_within hl hh b) hs y
            (λ i h. let v = within (lows i) (highs i) (cover i) (b.at i h) in within_heavier (lows i) (highs i) (cover i) v.above v.below),
      )))

  -- and its d within 8,001
  pub small_within : width_of ws 5 ≡ 6 → (cover : ℕ → ℤ) (carry : List ℤ) → InBounds (length part) lows highs cover → InBounds n (cover_at low) (cover_at high) (cover_at carry) → (c y : ℕ) → y < n → nat_abs (chosen_area ws (cover_at carry) part cover c y) ≤ 8001
  small_within six cover carry b k c y l =
      area_bound ws six (cover_at carry) (chosen ws part cover) c y ((light (light_within cover carry b k)).at y l)
