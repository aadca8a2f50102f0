-- *None* by the full-cover pass is no more right than specs/Right says, here as in the Rust: the smallest histories in which a tile is kept with a wrong
-- picture, flags truthful and no clip changed. In each frame of A to F every layer is full. Beside each, the ids of the layers that are shown at the last
-- work, and of those that drawing afresh would show. proofs/Refuted has them computed.
use Rattle.std.specs.Prelude.{◌≡◌, ◌∷◌, Some}
use Rattle.laws.specs.Prelude.{Bool, true, false, List, [], map, ℕ, binary32, of_bits, length}
use Rattle.styling.specs.declared.BlendMode.TheVariants.{Over}
use Rattle.styling.specs.declared.Color.{Color}
use Rattle.styling.specs.declared.Fill.TheVariants.{Solid}
use Rattle.styling.specs.declared.Func.{Func}
use Rattle.styling.specs.declared.Func.TheVariants.{Draw, Clip}
use Rattle.pass_statements.specs.Decide.{outcome_of}
use Rattle.pass_statements.specs.Decision.{none, solid, paint}
use Rattle.pass_statements.specs.declared.item.Item.{Item}
use Rattle.kept_frames.specs.Picture.{picture_of, decision_afresh}
use Rattle.kept_frames.specs.Told.{Told}
use Rattle.kept_frames.specs.Alike.{may_keep_count}
use Rattle.kept_frames.specs.Stays.{list_stays}
use Rattle.kept_frames.specs.Right.{Frames}

-- an opaque colour, and one of alpha 0.5: 0x3F800000 is 1, 0x3F000000 is 0.5
abbrev red : Color
red = record { r = of_bits binary32 0x3F800000; g = of_bits binary32 0; b = of_bits binary32 0; a = of_bits binary32 0x3F800000 }

abbrev green : Color
green = record { r = of_bits binary32 0; g = of_bits binary32 0x3F800000; b = of_bits binary32 0; a = of_bits binary32 0x3F000000 }

abbrev black : Color
black = record { r = of_bits binary32 0; g = of_bits binary32 0; b = of_bits binary32 0; a = of_bits binary32 0 }

abbrev draw : Color → Bool → Func
draw c clipped = Draw (record { is_clipped = clipped; fill = Solid c; blend_mode = Over })

abbrev full : ℕ → Func → Bool → Item
full id func unchanged = record { id = id; full = true; func = func; unchanged = unchanged }

abbrev pub seen_ids : List Item → List ℕ
seen_ids items = map (λ s. s.layer.id) (picture_of items)

-- the tile is kept, with the clear colour unchanged, and shows other layers than are due
pub record KeptWrongly (before now : List Item) (shows due : List ℕ) : Type 0 where
  pub frames : Frames before now
  pub kept : (outcome_of black true (Some (length before)) now).decision ≡ none
  pub shown : seen_ids before ≡ shows
  pub fresh : seen_ids now ≡ due

-- A. Draw 2 leaves above opaque 1, while draw 0 joins below it: the count stays
abbrev pub over_red : List Item
over_red = full 1 (draw red false) false ∷ full 2 (draw green false) false ∷ []

abbrev pub exchanged : List Item
exchanged = full 0 (draw green false) false ∷ full 1 (draw red false) true ∷ []

-- C. Draw 2 becomes clipped, and no clip lies below it: it is masked off, and its flag is not looked at
abbrev pub hidden_change : List Item
hidden_change = full 1 (draw red false) true ∷ full 2 (draw green true) false ∷ []

-- D. Clip 0 becomes a draw under opaque 1: clipped 2, unchanged, is masked off
abbrev pub under_clip : List Item
under_clip = full 0 (Clip 9) false ∷ full 1 (draw red false) false ∷ full 2 (draw green true) false ∷ []

abbrev pub clip_turned : List Item
clip_turned = full 0 (draw green false) false ∷ full 1 (draw red false) true ∷ full 2 (draw green true) true ∷ []

-- E. Clip 2 leaves, while draw 0 joins under opaque 1: clipped 3, unchanged, is masked off
abbrev pub between_clip : List Item
between_clip = full 1 (draw red false) false ∷ full 2 (Clip 9) false ∷ full 3 (draw green true) false ∷ []

abbrev pub clip_left : List Item
clip_left = full 0 (draw green false) false ∷ full 1 (draw red false) true ∷ full 3 (draw green true) true ∷ []

-- F. Draw 2 becomes opaque in a frame in which the tile is not worked, and is unchanged in the next: flags that are truthful since the last frame only
abbrev pub not_worked : List Item
not_worked = full 1 (draw red false) true ∷ full 2 (draw red false) false ∷ []

abbrev pub next_frame : List Item
next_frame = full 1 (draw red false) true ∷ full 2 (draw red false) true ∷ []

pub record SinceLastFrame : Type 0 where
  pub told : Told not_worked next_frame
  pub kept : (outcome_of black true (Some (length over_red)) next_frame).decision ≡ none
  pub shown : seen_ids over_red ≡ 1 ∷ 2 ∷ []
  pub fresh : seen_ids next_frame ≡ 2 ∷ []

-- Who was listed is listed still, as the same kind, and yet the tile would be drawn in another way. Clip 1 does not fill the tile and ends at its own id; it is
-- shown as long as clip 3 follows it, so the tile was painted. Clipped 2 joins past its end: it is masked off, clip 1 is so too, and the tile would be solid
abbrev half : Bool → Item
half unchanged = record { id = 1; full = false; func = Clip 0; unchanged = unchanged }

abbrev pub followed_clip : List Item
followed_clip = full 0 (draw red false) false ∷ half false ∷ full 3 (Clip 9) false ∷ []

abbrev pub ended_clip : List Item
ended_clip = full 0 (draw red false) true ∷ half true ∷ full 2 (draw green true) false ∷ full 3 (Clip 9) true ∷ []

pub record KeptOtherwise : Type 0 where
  pub frames : Frames followed_clip ended_clip
  pub stays : list_stays followed_clip ended_clip ≡ true
  pub kept : (outcome_of black true (Some (length followed_clip)) ended_clip).decision ≡ none
  pub was : decision_afresh black followed_clip ≡ paint
  pub is : decision_afresh black ended_clip ≡ solid red 1
  pub rule : may_keep_count black black followed_clip ended_clip ≡ false

pub record WronglyKept : Type 0 where
  pub exchange : KeptWrongly over_red exchanged (1 ∷ 2 ∷ []) (1 ∷ [])
  pub hidden_change_lem : KeptWrongly over_red hidden_change (1 ∷ 2 ∷ []) (1 ∷ [])
  pub clip_turned_lem : KeptWrongly under_clip clip_turned (1 ∷ 2 ∷ []) (1 ∷ [])
  pub clip_left_lem : KeptWrongly between_clip clip_left (1 ∷ 3 ∷ []) (1 ∷ [])
  pub since_last_frame : SinceLastFrame
  pub otherwise : KeptOtherwise
