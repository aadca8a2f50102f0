-- The rules of the passes in the words of the scope, by the list alone. proofs/Words has that the passes go by them.
-- 'A clipped draw needs a clip unless the latest listed clip below it, within whose span it lies, is full.'
-- 'A clipped draw before any clip, or past the span of the latest one, is masked off.'
-- 'A clip followed by another clip before a listed draw past its end is never judged for use; it stays shown unless full': shown there is not
-- masked off. A clip that is judged is masked off where no listed draw uses it.
use Rattle.std.specs.Prelude.{◌≡◌, ◌&&◌, ◌||◌, ◌∷◌, ◌+◌, ◌<◌}
use Rattle.laws.specs.Prelude.{Bool, true, false, cond, not, List, [], map, Option, Some, None, ℕ, suc, ltb, leb, eqb}
use Rattle.laws.specs.Prelude.{length, get_or, set, drop, any}
use Rattle.styling.specs.Ascending.{strictly_ascends}
use Rattle.styling.specs.declared.Layer.{Layer}
use Rattle.styling.specs.declared.Func.{Func}
use Rattle.styling.specs.declared.Func.TheVariants.{Draw, Clip}
use Rattle.styling.specs.Style.{is_clipped_of, is_opaque}
use Rattle.pass_statements.specs.Clips.{is_clip, marks_of}
use Rattle.pass_statements.specs.Covered.{item_at, are_clips_unchanged}
use Rattle.pass_statements.specs.Entry.{Entry}
use Rattle.pass_statements.specs.Item.{items_of}
use Rattle.pass_statements.specs.declared.item.Item.{Item}

-- the latest listed clip below a layer id
unfoldable pub latest_clip : List Item → ℕ → Option Item → Option Item
latest_clip [] id found = found
latest_clip (x ∷ xs) id found = latest_clip xs id (cond (is_clip x.func && ltb x.id id) (Some x) found)

-- the last layer id that a clip reaches
abbrev pub last_reached : ℕ → Func → ℕ
last_reached id (Clip span) = id + span
last_reached id (Draw style) = id

-- the layer lies within the span of the clip
abbrev pub is_under : Option Item → ℕ → Bool
is_under None id = false
is_under (Some c) id = leb id (last_reached c.id c.func)

-- a full clip, within whose span the layer lies
abbrev pub is_freed : Option Item → ℕ → Bool
is_freed None id = false
is_freed (Some c) id = leb id (last_reached c.id c.func) && c.full

-- a draw of the layer id needs a clip
abbrev pub needs_clip : List Item → Func → ℕ → Bool
needs_clip items func id = is_clipped_of func && not (is_freed (latest_clip items id None) id)

-- the ids of a tile's list ascend strictly
abbrev pub is_ascending : List Item → Bool
is_ascending items = strictly_ascends (map (λ x. x.id) items)

-- the latest listed clip below the layer in place i
abbrev pub latest_below : List Item → ℕ → Option Item
latest_below items i = latest_clip items (item_at items i).id None

-- what the second pass leaves in place i: the layer is not masked off; it is drawn unclipped
abbrev pub is_unmasked : List Item → ℕ → Bool
is_unmasked items i = get_or (marks_of items).unmasked i false

abbrev pub is_free : List Item → ℕ → Bool
is_free items i = get_or (marks_of items).unclipped i false

-- a draw is listed in place i
pub record DrawAt (items : List Item) (i : ℕ) : Type 0 where
  pub listed : i < length items
  pub draws : is_clip (item_at items i).func ≡ false

-- a clip is listed in place i
pub record ClipAt (items : List Item) (i : ℕ) : Type 0 where
  pub listed : i < length items
  pub clips : is_clip (item_at items i).func ≡ true

-- the last layer id that the layer in place i reaches
abbrev pub reach_of : List Item → ℕ → ℕ
reach_of items i = last_reached (item_at items i).id (item_at items i).func

-- going up from the lowest of these layers, a clip comes before any layer past the id `last`
unfoldable pub meets_clip : ℕ → List Item → Bool
meets_clip last [] = false
meets_clip last (x ∷ xs) = is_clip x.func || leb x.id last && meets_clip last xs

-- the clip in place i is followed by another clip before a listed layer past its end
abbrev pub is_followed : List Item → ℕ → Bool
is_followed items i = meets_clip (reach_of items i) (drop (suc i) items)

-- the clip that was found is c
abbrev pub is_latest : Item → Option Item → Bool
is_latest c None = false
is_latest c (Some x) = eqb x.id c.id

-- x is a clipped draw that has the clip c as its latest one and lies within its span
abbrev pub uses : Item → Option Item → Item → Bool
uses c latest x = is_clipped_of x.func && is_latest c latest && leb x.id (last_reached c.id c.func)

-- some listed draw uses the clip in place i
abbrev pub is_clip_used : List Item → ℕ → Bool
is_clip_used items i = any (λ x. uses (item_at items i) (latest_clip items x.id None) x) items

-- the layer in place p hides what is under it: it is listed and not masked off, full and opaque, and needs no clip
pub record Hides (items : List Item) (unmasked : List Bool) (p : ℕ) : Type 0 where
  pub listed : p < length items
  pub is_unmasked : get_or unmasked p false ≡ true
  pub full : (item_at items p).full ≡ true
  pub opaque : is_opaque (item_at items p).func ≡ true
  pub unclipped : needs_clip items (item_at items p).func (item_at items p).id ≡ false

-- the layer in place p lies over the one in place i, and hides it
pub record Over (items : List Item) (unmasked : List Bool) (i p : ℕ) : Type 0 where
  pub above : (item_at items i).id < (item_at items p).id
  pub covers : Hides items unmasked p

-- two lists of the same length with the same layers in the places that are not masked off; and a clip is changed in both or in neither (W-208)
pub record Alike (unmasked : List Bool) (items items' : List Item) : Type 0 where
  pub same_length : length items ≡ length items'
  pub same_layer : (i : ℕ) → get_or unmasked i false ≡ true → item_at items i ≡ item_at items' i
  pub same_clips : are_clips_unchanged items ≡ are_clips_unchanged items'

-- ---- marks (W-208)

-- a layer that the table says is a clip is listed in place i, and its mark is set
pub record ChangedClipAt (table : List Layer) (entries : List Entry) (i : ℕ) : Type 0 where
  pub listed : i < length entries
  pub clips : is_clip (item_at (items_of table entries) i).func ≡ true
  pub marked : get_or (map (λ e. e.changed) entries) i false ≡ true

-- a layer with another mark
abbrev pub remarked : Item → Bool → Item
remarked x changed = record { id = x.id; full = x.full; func = x.func; unchanged = not changed }

-- the list in which the layer in place i has the mark that is given, and all else is the same
abbrev pub with_mark : List Item → ℕ → Bool → List Item
with_mark items i changed = set items i (remarked (item_at items i) changed)
