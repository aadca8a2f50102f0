-- How a work draws a tile afresh, by the whole row: by its decision without a count, and by painting its shown layers, draws and clips, by one call each,
-- ascending, from no clip; every painting is `paint_on`, as demand 3 has it. Of each layer its style, the revision of what it holds, its 256 coverages and its
-- mark; and what cuts it: the coverages of the clip that was painted last, where the layer needs a clip and the painter has one. And the clear colour. Here our
-- equality ends: nothing is blended, and whatever makes pixels of these makes the same of the same.
use Rattle.std.specs.Prelude.{◌≡◌, ◌∷◌}
use Rattle.laws.specs.Prelude.{Bool, cond, List, [], map, Option, Some, None, ℕ, Float}
use Rattle.styling.specs.declared.Color.{Color}
use Rattle.styling.specs.declared.Func.{Func}
use Rattle.styling.specs.declared.Func.TheVariants.{Draw, Clip}
use Rattle.cover_statements.specs.Mark.{mark_of}
use Rattle.pass_statements.specs.Decision.{TileDecision}
use Rattle.pass_statements.specs.Rules.{needs_clip}
use Rattle.pass_statements.specs.declared.item.Item.{Item}
use Rattle.painter.specs.Clip.{alive_at}
use Rattle.row_statements.specs.Due.{OpenRow, plane_on, paint_on}
use Rattle.kept_frames.specs.Picture.{shown_afresh, Stroke, mask_for, mask_after, picture_of, decision_afresh}
use Rattle.kept_rows.specs.Along.{revision_on, items_on}

-- a work on the tile row .from + place, with the revisions beside its table and its clear colour
pub record WorkedTile : Type 0 where
  pub row : OpenRow
  pub revisions : List ℕ
  pub place : ℕ
  pub clear : Color

abbrev pub items_for : WorkedTile → List Item
items_for w = items_on w.row w.place

pub record ShownLayer : Type 0 where
  pub id : ℕ
  pub func : Func
  pub revision : ℕ
  pub plane : List Float
  pub mark : ℕ
  pub cut : Option (List Float)

-- the layers that are left to paint, by the painter's clip and what the clip that was painted last left in its mask
unfoldable pub paintings_from : OpenRow → List ℕ → ℕ → Option ℕ → Option (List Float) → List Item → List ShownLayer
paintings_from o revisions n clip mask [] = []
paintings_from o revisions n clip mask (x ∷ xs) =
    let says = paint_on o n x.id clip in
    let cut = mask_for (needs_clip (items_on o n) x.func x.id) (alive_at clip x.id) mask in
    record { id = x.id; func = x.func; revision = revision_on o revisions x.id; plane = says.plane; mark = says.mark; cut = cut }
    ∷ paintings_from o revisions n says.clip (mask_after x.func says.plane mask) xs

pub record TileDrawn : Type 0 where
  pub clear : Color
  pub decision : TileDecision
  pub layers : List ShownLayer

abbrev pub drawn_by : WorkedTile → TileDrawn
drawn_by w =
    record {
      clear = w.clear;
      decision = decision_afresh w.clear (items_for w);
      layers = paintings_from w.row w.revisions w.place None None (shown_afresh (items_for w));
    }

-- ---- these are the strokes of the picture (`kept_frames/specs/Picture`), with the row's coverages and revisions

abbrev pub planes_of : (ℕ → List Float) → Option ℕ → Option (List Float)
planes_of planes None = None
planes_of planes (Some id) = Some (planes id)

-- a clip uses no octet, nor does a draw that lacks its clip
abbrev pub mark_by : Func → Bool → List Float → ℕ
mark_by (Clip span) lacks plane = 0
mark_by (Draw style) lacks plane = cond lacks 0 (mark_of plane)

abbrev pub painted : (ℕ → List Float) → (ℕ → ℕ) → Stroke → ShownLayer
painted planes revisions s =
    record {
      id = s.layer.id;
      func = s.layer.func;
      revision = revisions s.layer.id;
      plane = planes s.layer.id;
      mark = mark_by s.layer.func s.lacks (planes s.layer.id);
      cut = planes_of planes s.mask;
    }

abbrev pub LayersPainted : Type 0
LayersPainted =
    (w : WorkedTile) → (drawn_by w).layers ≡ map (painted (plane_on w.row w.place) (revision_on w.row w.revisions)) (picture_of (items_for w))

-- ---- the same

-- what was drawn at one work is what drawing afresh at another draws, by the same decision and the same calls
abbrev pub SameShown : WorkedTile → WorkedTile → Type 0
SameShown drawn now = drawn_by drawn ≡ drawn_by now
