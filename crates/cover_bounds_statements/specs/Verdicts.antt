-- Calls worked out: by which number each is refused, where more than one applies. Stands for W-211's refusals and for 'the lowest that applies', in the
-- order 1, 3, 14, 9. proofs/Verdicts has them.
use Rattle.std.specs.Prelude.{◌≡◌, ◌∷◌}
use Rattle.laws.specs.Prelude.{List, [], ℕ, ℤ, pos, negsuc, replicate}
use Rattle.refusals.specs.Refusal.{pass, refuse}
use Rattle.pixel_segment.specs.Field.{cpu}
use Rattle.pixel_segment.specs.Pack.{word_of}
use Rattle.cover_bounds_statements.specs.Within.{BoundsCall, bounds_call, BoundPlanes, bound_planes, bounds_verdict}

-- a segment of a layer in pixel row 0 of tile 0
abbrev segment : ℕ → ℕ
segment layer = word_of cpu layer (pos 0) (pos 0) 3 0 32 (pos 16)

-- layer 1 in tile 0, of one segment, with one byte as the lowest and the highest of every carry
abbrev bounding : ℕ → List ℤ → ℤ → BoundsCall
bounding layer bounds carry = bounds_call 1 (pos 0) (pos 0) (segment layer ∷ []) bounds (replicate 16 carry) (replicate 16 carry)

-- planes of 256 numbers, and of n the last one
abbrev planes : ℕ → BoundPlanes
planes n = bound_planes (replicate 256 (pos 0)) (replicate 256 (pos 0)) (replicate 256 0) (replicate 256 0) (replicate 256 0) (replicate n 0)

pub record BoundsCases : Type 0 where
  -- a lowest cover of 5, a highest of 4 and a carry of 127: 14 and 9 apply
  pub crossed : bounds_verdict (bounding 1 (pos 5 ∷ pos 4 ∷ []) (pos 127)) (planes 256) ≡ refuse 14
  -- with the two exchanged 9 alone applies
  pub heavy : bounds_verdict (bounding 1 (pos 4 ∷ pos 5 ∷ []) (pos 127)) (planes 256) ≡ refuse 9
  -- a cover that no word holds
  pub outside : bounds_verdict (bounding 1 (pos 4 ∷ pos 32 ∷ []) (pos 0)) (planes 256) ≡ refuse 14
  -- a carry whose lowest byte is above its highest
  pub carry_crossed : bounds_verdict (bounds_call 1 (pos 0) (pos 0) [] [] (replicate 16 (pos 1)) (replicate 16 (pos 0))) (planes 256) ≡ refuse 14
  -- a segment of layer 2, with bounds to which 14 and 9 apply too
  pub foreign : bounds_verdict (bounding 2 (pos 5 ∷ pos 4 ∷ []) (pos 127)) (planes 256) ≡ refuse 3
  -- one bound for one segment, and a plane of 255 numbers, where 3 and 9 apply too
  pub few : bounds_verdict (bounding 2 (pos 5 ∷ []) (pos 127)) (planes 256) ≡ refuse 1
  pub short : bounds_verdict (bounding 2 (pos 4 ∷ pos 5 ∷ []) (pos 127)) (planes 255) ≡ refuse 1
  -- the widest bounds, and a carry of -95: 32 and 95 are not too much
  pub light : bounds_verdict (bounding 1 (negsuc 31 ∷ pos 31 ∷ []) (negsuc 94)) (planes 256) ≡ pass
