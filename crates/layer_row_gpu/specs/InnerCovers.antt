-- What the sums of one layer in a part with other layers say.
use Rattle.laws.specs.Prelude.{cond, List, ℕ, eqb, ℤ, pos, filter}
use Rattle.pixel_segment.specs.Field.{gpu, layer_id_of, cover_of}

-- the layer's segments of a part
abbrev pub layer_within : ℕ → List ℕ → List ℕ
layer_within layer part = filter (λ w. eqb (layer_id_of gpu w) layer) part

-- a segment's cover, where it is the layer's
abbrev pub cover_within : ℕ → ℕ → ℤ
cover_within layer w = cond (eqb (layer_id_of gpu w) layer) (cover_of gpu w) (pos 0)
