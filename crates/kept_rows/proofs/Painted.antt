-- The paintings of a tile's shown layers are the strokes of its picture, with the row's coverages and revisions. Assumes nothing.
use Rattle.std.specs.Prelude.{◌≡◌, ◌&&◌, ◌∷◌, ◌<◌}
use Rattle.laws.proofs.Prelude.{refl, sym, ap, ap₂, ◌∙◌, Bool, true, false, cond, not, List, [], map, Option, None, ℕ, zero, suc}
use Rattle.laws.proofs.Prelude.{arith, Float, length, Answer, refused, given}
use Rattle.layer_table.specs.Lookup.{lookup}
use Rattle.styling.specs.declared.Func.{Func}
use Rattle.styling.specs.declared.Func.TheVariants.{Draw, Clip}
use Rattle.styling.specs.declared.Layer.{Layer}
use Rattle.pass_statements.specs.Clips.{marks_of}
use Rattle.pass_statements.specs.Covered.{item_at}
use Rattle.pass_statements.specs.Entry.{Entry}
use Rattle.pass_statements.specs.Item.{item_from, item_of, items_of}
use Rattle.pass_statements.specs.Rules.{needs_clip}
use Rattle.pass_statements.specs.declared.item.Item.{Item}
use Rattle.layer_workbench.specs.Work.{entry_of}
use Rattle.painter.specs.Clip.{alive_at, clip_after, has_no_clip, lacks_clip}
use Rattle.painter.specs.Painting.{mark_for}
use Rattle.row_statements.specs.Painting.{layer_in}
use Rattle.row_statements.specs.Due.{OpenRow, table_on, layers_on, func_on, plane_on, paint_on}
use Rattle.kept_frames.specs.Picture.{shown_afresh, Stroke, mask_for, mask_after, strokes_from}
use Rattle.kept_frames.proofs.Strokes.{stroke_of, strokes_end, strokes_next, Each, each_shown}
use Rattle.kept_rows.specs.Along.{revision_on, items_on}
use Rattle.kept_rows.specs.Shown.{items_for, ShownLayer, paintings_from, planes_of, mark_by, painted, LayersPainted}

-- ---- the record of a listed layer is the table's

func_by : (table : List Layer) (e : Entry) → (layer_in table (item_of table e).id).props.func ≡ (item_of table e).func
func_by table e = by (lookup table e.id) refl
  where
    by : (a : Answer Layer) → lookup table e.id ≡ a
        → (layer_in table (item_from (lookup table e.id) e).id).props.func ≡ (item_from (lookup table e.id) e).func
    by (refused n) q = rw q (rw q refl)
    by (given l) q = rw q (rw q refl)

func_at : (table : List Layer) (es : List Entry) (i : ℕ) → i < length (items_of table es)
    → (layer_in table (item_at (items_of table es) i).id).props.func ≡ (item_at (items_of table es) i).func
func_at table [] i h = absurd (omega (arith, h))
func_at table (e ∷ es) zero h = func_by table e
func_at table (e ∷ es) (suc i) h = func_at table es i (omega (arith, h))

-- ---- turns

mark_by_lem : (f : Func) (needs : Bool) (alive : Option ℕ) (plane : List Float) → mark_for f needs alive plane ≡ mark_by f (lacks_clip needs alive) plane
mark_by_lem (Draw style) needs alive plane = refl
mark_by_lem (Clip span) needs alive plane = refl

mask_planes : (planes : ℕ → List Float) (t : Bool) (mask : Option ℕ) → cond t (planes_of planes mask) None ≡ planes_of planes (cond t mask None)
mask_planes planes true mask = refl
mask_planes planes false mask = refl

mask_next : (planes : ℕ → List Float) (f : Func) (id : ℕ) (mask : Option ℕ)
    → mask_after f (planes id) (planes_of planes mask) ≡ planes_of planes (mask_after f id mask)
mask_next planes (Clip span) id mask = refl
mask_next planes (Draw style) id mask = refl

module _ (o : OpenRow) (revisions : List ℕ) (n : ℕ) where
  abbrev stroked : Stroke → ShownLayer
  stroked = painted (plane_on o n) (revision_on o revisions)

  module _ (clip : Option ℕ) (mask : Option (List Float)) where
    abbrev painted_at : Item → ShownLayer
    painted_at x =
        let says = paint_on o n x.id clip in
        let cut = mask_for (needs_clip (items_on o n) x.func x.id) (alive_at clip x.id) mask in
        record { id = x.id; func = x.func; revision = revision_on o revisions x.id; plane = says.plane; mark = says.mark; cut = cut }

    end : paintings_from o revisions n clip mask [] ≡ []
    unfolding paintings_from
    end = refl

    on : (x : Item) (xs : List Item)
        → paintings_from o revisions n clip mask (x ∷ xs)
        ≡ painted_at x ∷ paintings_from o revisions n (clip_after (func_on o x.id) x.id clip) (mask_after x.func (plane_on o n x.id) mask) xs
    unfolding paintings_from
    on x xs = refl

  one : (clip mask : Option ℕ) (x : Item) → func_on o x.id ≡ x.func
      → painted_at clip (planes_of (plane_on o n) mask) x ≡ stroked (stroke_of (items_on o n) clip mask x)
  one clip mask x f =
      let needs = needs_clip (items_on o n) x.func x.id in
      let alive = alive_at clip x.id in
      let mark : (paint_on o n x.id clip).mark ≡ mark_by x.func (lacks_clip needs alive) (plane_on o n x.id) =
      ap (λ (g : Func). mark_for g (needs_clip (items_on o n) g x.id) alive (plane_on o n x.id)) f ∙ mark_by_lem x.func needs alive (plane_on o n x.id) in
      let cut = mask_planes (plane_on o n) (needs && not (has_no_clip alive)) mask in
      λ i. record { id = x.id; func = x.func; revision = revision_on o revisions x.id; plane = plane_on o n x.id; mark = mark i; cut = cut i }

  pub paintings : (xs : List Item) (clip mask : Option ℕ) → Each (λ x. func_on o x.id ≡ x.func) xs
      → paintings_from o revisions n clip (planes_of (plane_on o n) mask) xs ≡ map stroked (strokes_from (items_on o n) clip mask xs)
  paintings [] clip mask fs = end clip (planes_of (plane_on o n) mask) ∙ ap (map stroked) (sym (strokes_end (items_on o n) clip mask))
  paintings (x ∷ xs) clip mask (f, fs) =
      let after : clip_after (func_on o x.id) x.id clip ≡ clip_after x.func x.id clip = ap (λ (g : Func). clip_after g x.id clip) f in
      on clip (planes_of (plane_on o n) mask) x xs
      ∙ ap₂ (λ (d : ShownLayer) (ds : List ShownLayer). d ∷ ds) (one clip mask x f)
      (ap₂ (λ (c : Option ℕ) (m : Option (List Float)). paintings_from o revisions n c m xs) after (mask_next (plane_on o n) x.func x.id mask)
      ∙ paintings xs (clip_after x.func x.id clip) (mask_after x.func x.id mask) fs)
      ∙ ap (map stroked) (sym (strokes_next (items_on o n) clip mask x xs))

pub layers_painted : LayersPainted
layers_painted w =
    paintings w.row w.revisions w.place (shown_afresh (items_for w)) None None
    (each_shown (λ x. func_on w.row x.id ≡ x.func) _ (items_for w) (marks_of (items_for w)).unmasked
    (λ i l m q. func_at (table_on w.row) (map (entry_of (table_on w.row)) (layers_on w.row w.place)) i l))
