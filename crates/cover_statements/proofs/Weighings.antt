-- Laws of weights in the places of doubled areas: they are 0 to 512, and their coverages are the coverages of the areas. Assumes nothing.
use Rattle.std.specs.Prelude.{◌≡◌, ◌∷◌, ◌<◌}
use Rattle.laws.proofs.Prelude.{refl, ap, ◌∙◌, List, [], map, ℕ, arith, Float, ℤ, pos, length, get_or, length-map, drop-cons, map_at}
use Rattle.styling.specs.declared.FillRule.{FillRule}
use Rattle.cover_statements.specs.Cover.{cover_at}
use Rattle.cover_statements.specs.Coverage.{coverage_of}
use Rattle.cover_statements.specs.Plane.{coverages_of}
use Rattle.cover_statements.specs.Weight.{weight_of}
use Rattle.cover_statements.specs.InnerWeighed.{weight_in, weights_of, Weighed, coverages_in}
use Rattle.cover_statements.proofs.Weights.{weight_le}

-- an element of a mapped list
pub map_lt : {A B : Type 0} (f : A → B) (l : List A) (k : ℕ) (z : B) (d : A) → k < length l → get_or (map f l) k z ≡ f (get_or l k d)
map_lt f l k z d h = map_at f l k (drop-cons l k d h) z

pub weights_are : {weights : List ℤ} (rule : FillRule) (areas : List ℤ) → weights ≡ weights_of rule areas → Weighed weights
weights_are {weights} rule areas e =
    record {
      low = λ k h. let l : k < length areas = omega (arith, ap length e, length-map areas (weight_in rule)) in rw (at k l);
      high = λ k h. let l : k < length areas = omega (arith, ap length e, length-map areas (weight_in rule)) in rw (at k l) (weight_le rule (cover_at areas k));
    }
  where
    at : (k : ℕ) → k < length areas → cover_at weights k ≡ pos (weight_of rule (cover_at areas k))
    at k l = ap (λ (ws : List ℤ). cover_at ws k) e ∙ map_lt (weight_in rule) areas k (pos 0) (pos 0) l

-- the coverages of the weights of doubled areas
pub coverages_are : (rule : FillRule) (areas : List ℤ) → coverages_in (weights_of rule areas) ≡ coverages_of rule areas
coverages_are rule [] = refl
coverages_are rule (d ∷ ds) = ap (λ (r : List Float). coverage_of (weight_of rule d) ∷ r) (coverages_are rule ds)
