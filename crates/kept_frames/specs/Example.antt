-- P7 in a picture: the latest listed clip is not always the one that cuts. Clip 1 (span 1), clip 2 (span 5), clipped draw 3: the painter keeps the last
-- layer id of clip 1, so at 3 it has no clip, and the draw paints nothing. Without clip 1 the draw is cut by clip 2. And an opaque draw over a clip makes
-- it be skipped, so that a clipped draw above is left without one. proofs/Refuted has them computed.
use Rattle.std.specs.Prelude.{◌≡◌, ◌∷◌}
use Rattle.laws.specs.Prelude.{true, false, [], Option, Some, None, ℕ, binary32, of_bits}
use Rattle.styling.specs.declared.BlendMode.TheVariants.{Over}
use Rattle.styling.specs.declared.Color.{Color}
use Rattle.styling.specs.declared.Fill.TheVariants.{Solid}
use Rattle.styling.specs.declared.Func.TheVariants.{Draw, Clip}
use Rattle.pass_statements.specs.declared.item.Item.{Item}
use Rattle.kept_frames.specs.Picture.{Stroke, picture_of}

abbrev red : Color
red = record { r = of_bits binary32 0x3F800000; g = of_bits binary32 0; b = of_bits binary32 0; a = of_bits binary32 0x3F800000 }

abbrev clip : ℕ → ℕ → Item
clip id span = record { id = id; full = false; func = Clip span; unchanged = true }

abbrev draw : ℕ → Item
draw id = record { id = id; full = true; func = Draw (record { is_clipped = true; fill = Solid red; blend_mode = Over }); unchanged = true }

abbrev floor : Item
floor = record { id = 3; full = true; func = Draw (record { is_clipped = false; fill = Solid red; blend_mode = Over }); unchanged = true }

abbrev clip_stroke : ℕ → ℕ → Stroke
clip_stroke id span = record { layer = clip id span; needs = false; lacks = false; mask = None }

abbrev cut_stroke : ℕ → Option ℕ → Stroke
cut_stroke id mask = record { layer = draw id; needs = true; lacks = false; mask = mask }

abbrev lacking_stroke : ℕ → Stroke
lacking_stroke id = record { layer = draw id; needs = true; lacks = true; mask = None }

pub record PaintersClip : Type 0 where
  pub two_clips : picture_of (clip 1 1 ∷ clip 2 5 ∷ draw 3 ∷ []) ≡ clip_stroke 1 1 ∷ clip_stroke 2 5 ∷ lacking_stroke 3 ∷ []
  pub one_clip : picture_of (clip 2 5 ∷ draw 3 ∷ []) ≡ clip_stroke 2 5 ∷ cut_stroke 3 (Some 2) ∷ []
  -- a second clip within the first one's life writes the mask
  pub both_alive : picture_of (clip 1 5 ∷ clip 2 5 ∷ draw 3 ∷ []) ≡ clip_stroke 1 5 ∷ clip_stroke 2 5 ∷ cut_stroke 3 (Some 2) ∷ []
  pub skipped_clip : picture_of (clip 1 9 ∷ floor ∷ draw 4 ∷ []) ≡ record { layer = floor; needs = false; lacks = false; mask = None } ∷ lacking_stroke 4 ∷ []
