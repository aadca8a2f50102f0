-- How a tile is drawn afresh: by the decision of a work without a cached tile, and by one painting for each of its shown layers, draws and clips,
-- ascending, from no clip. Of each: its record, whether it needs a clip, and whose coverages cut it. Those are of the clip that was painted last, while the
-- painter has a clip, which is not always the latest listed one (P7). A draw that needs a clip while the painter has none paints nothing. Flags have no
-- part in it. Whatever makes pixels of these, and of the clear colour, makes the same of the same; nothing is said of blending.
use Rattle.std.specs.Prelude.{◌&&◌, ◌∷◌}
use Rattle.laws.specs.Prelude.{Bool, true, false, cond, not, List, [], Option, Some, None, ℕ}
use Rattle.styling.specs.declared.Color.{Color}
use Rattle.styling.specs.declared.Func.{Func}
use Rattle.styling.specs.declared.Func.TheVariants.{Draw, Clip}
use Rattle.pass_statements.specs.Clips.{marks_of}
use Rattle.pass_statements.specs.Covered.{covered_of}
use Rattle.pass_statements.specs.Decide.{shown_of, outcome_of}
use Rattle.pass_statements.specs.Decision.{TileDecision}
use Rattle.pass_statements.specs.Rules.{needs_clip}
use Rattle.pass_statements.specs.declared.item.Item.{Item}
use Rattle.painter.specs.Clip.{alive_at, clip_after, has_no_clip, lacks_clip}

-- a listed layer but for its flag: what it shows in the tile rests on this alone
abbrev pub unflagged : Item → Item
unflagged x = record { id = x.id; full = x.full; func = x.func; unchanged = true }

-- ---- the paintings

-- the shown layers of a work that draws the tile: not masked off by the second pass, and not skipped by the third
abbrev pub shown_afresh : List Item → List Item
shown_afresh items =
    shown_of (covered_of items (marks_of items).unmasked (marks_of items).unclipped true).skipped.0 items (marks_of items).unmasked

-- a layer as it is painted: whether it needs a clip, and lacks one, so that it paints nothing; and the clip layer whose coverages cut it. A clip needs none
pub record Stroke : Type 0 where
  pub layer : Item
  pub needs : Bool
  pub lacks : Bool
  pub mask : Option ℕ

-- what cuts a layer: the mask, where the layer needs a clip and one is alive
abbrev pub mask_for : {A : Type 0} → Bool → Option ℕ → Option A → Option A
mask_for needs alive mask = cond (needs && not (has_no_clip alive)) mask None

-- a clip becomes the mask
abbrev pub mask_after : {A : Type 0} → Func → A → Option A → Option A
mask_after (Clip span) painted mask = Some painted
mask_after (Draw style) painted mask = mask

-- the layers that are left to paint, by the painter's clip and the clip layer that was painted last; `items` is the tile's list
unfoldable pub strokes_from : List Item → Option ℕ → Option ℕ → List Item → List Stroke
strokes_from items clip mask [] = []
strokes_from items clip mask (x ∷ xs) =
    let needs = needs_clip items x.func x.id in
    let alive = alive_at clip x.id in
    record { layer = unflagged x; needs = needs; lacks = lacks_clip needs alive; mask = mask_for needs alive mask }
    ∷ strokes_from items (clip_after x.func x.id clip) (mask_after x.func x.id mask) xs

abbrev pub picture_of : List Item → List Stroke
picture_of items = strokes_from items None None (shown_afresh items)

-- ---- with the decision

-- that of a work without a cached tile: solid, with the bottom colour and how many shown layers lie before those to mix; or paint
abbrev pub decision_afresh : Color → List Item → TileDecision
decision_afresh clear items = (outcome_of clear false None items).decision

pub record Drawn : Type 0 where
  pub clear : Color
  pub decision : TileDecision
  pub strokes : List Stroke

abbrev pub drawn_afresh : Color → List Item → Drawn
drawn_afresh clear items = record { clear = clear; decision = decision_afresh clear items; strokes = picture_of items }
