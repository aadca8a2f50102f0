-- Laws of the mark by remainders: an EvenOdd coverage is above 0 exactly where its doubled area is no multiple of 1,024, and a weight, which is at
-- most 512, is its own EvenOdd weight. Assumes nothing.
use Rattle.std.specs.Prelude.{◌≡◌, ◌+◌, ◌*◌, ◌≤◌, ◌<◌}
use Rattle.laws.proofs.Prelude.{refl, sym, ap, ◌∙◌, List, ℕ, zero, suc, mod-eq_of_lt, arith, lt-ltb, ltb, lit<, nan, ℤ, pos}
use Rattle.laws.proofs.Prelude.{negsuc, nat_abs, length, get_or, length-map, ext_get_or, remainder, difference, minus, modℤ}
use Rattle.weight_table.specs.Rest.{rest_weight}
use Rattle.styling.specs.declared.FillRule.TheVariants.{EvenOdd}
use Rattle.cover_statements.specs.Cover.{cover_at}
use Rattle.cover_statements.specs.Coverage.{is_above, area_coverage}
use Rattle.cover_statements.specs.Mark.{some, some_above}
use Rattle.cover_statements.specs.Weight.{even_odd_of}
use Rattle.cover_statements.specs.InnerWeighed.{weight_in, weights_of, Weighed, coverages_in}
use Rattle.cover_statements.proofs.Coverages.{coverage_above}
use Rattle.cover_statements.proofs.Marks.{offset, offset_is, some_ext}
use Rattle.cover_statements.proofs.Weighings.{map_lt, coverages_are}
use Rattle.cover_statements.proofs.Weights.{low, weight_le}

rest_weight_above : (rest : ℕ) → rest < 1024 → ltb 0 (rest_weight rest) ≡ ltb 0 rest
rest_weight_above zero h = refl
rest_weight_above (suc n) h =
    lt-ltb 0 (rest_weight (suc n)) (omega (arith, difference (suc n) 512))
    ∙ sym (lt-ltb 0 (suc n) (omega arith))

pub rest_above : (d : ℤ) → ltb 0 (modℤ 1024 d) ≡ is_above (area_coverage EvenOdd d)
rest_above d =
    sym (coverage_above (even_odd_of d) (weight_le EvenOdd d)
    ∙ rest_weight_above (modℤ 1024 d) (remainder 1024 d (lit< tt)).low)

-- eight doubled areas tell whether one of their coverages is above 0
pub areas_above : (areas : List ℤ) (octet : ℕ) → 8 * octet + 8 ≤ length areas
    → some 8 (λ i. is_above (area_coverage EvenOdd (cover_at areas (offset 1 (8 * octet) i)))) ≡ some_above (coverages_in (weights_of EvenOdd areas)) octet
unfolding some_above
areas_above areas octet h =
    some_ext 8 (λ i. is_above (area_coverage EvenOdd (cover_at areas (offset 1 (8 * octet) i)))) (λ i. is_above (get_or (coverages_in (weights_of EvenOdd areas)) (8 * octet + i) nan))
    (λ i l.
    let k = 8 * octet + i in
    let q : offset 1 (8 * octet) i ≡ k = omega (arith, offset_is 1 (8 * octet) i) in
    ap (λ (j : ℕ). is_above (area_coverage EvenOdd (cover_at areas j))) q
    ∙ ap is_above (sym (rw (coverages_are EvenOdd areas) (map_lt (area_coverage EvenOdd) areas k nan (pos 0) (omega arith)))))

own : (w : ℤ) → minus w ≡ 0 → nat_abs w ≤ 512 → weight_in EvenOdd w ≡ w
own (pos n) e h = let p : n < 1024 = omega arith in ap pos (ap rest_weight (mod-eq_of_lt p) ∙ low n h)
own (negsuc n) e h = absurd (omega arith)

pub own_weights : {weights : List ℤ} → Weighed weights → weights_of EvenOdd weights ≡ weights
own_weights {weights} c =
    ext_get_or (pos 0) (weights_of EvenOdd weights) weights (length-map weights (weight_in EvenOdd))
    (λ k h.
    let p : k < length weights = omega (arith, length-map weights (weight_in EvenOdd)) in
    map_lt (weight_in EvenOdd) weights k (pos 0) (pos 0) p ∙ own (cover_at weights k) (c.low k p) (c.high k p))
