-- A tile that is decided *none* would be drawn afresh as it was, by styles, revisions, coverages, cuts and marks. Assumes nothing.
use Rattle.std.specs.Prelude.{◌≡◌, ◌∷◌}
use Rattle.laws.proofs.Prelude.{refl, sym, ap, ◌∙◌, List, [], map, Option, Some, None, ℕ, Float}
use Rattle.row_statements.specs.Due.{table_on, layers_on, plane_on}
use Rattle.kept_frames.specs.Picture.{Stroke, picture_of, Drawn}
use Rattle.kept_frames.specs.Right.{MaskUnchanged, StrokesUnchanged, ShowsSame}
use Rattle.kept_rows.specs.Along.{revision_on, ContentsTold, ToldAlong}
use Rattle.kept_rows.specs.Shown.{WorkedTile, items_for, drawn_by, planes_of, painted, SameShown}
use Rattle.kept_rows.proofs.Present.{listed_unchanged}
use Rattle.kept_rows.proofs.Painted.{layers_painted}

module _ (last now : WorkedTile) (told : ToldAlong last.row now.row last.place now.place) (contents : ContentsTold last.row last.revisions now.row now.revisions) where
  abbrev old : ℕ → List Float
  old = plane_on last.row last.place

  abbrev new : ℕ → List Float
  new = plane_on now.row now.place

  abbrev held : ℕ → ℕ
  held = revision_on last.row last.revisions

  abbrev holds : ℕ → ℕ
  holds = revision_on now.row now.revisions

  same_mask : (c : Option ℕ) → MaskUnchanged (items_for now) c → planes_of old c ≡ planes_of new c
  same_mask None m = refl
  same_mask (Some id) m = ap Some (told.planes id (listed_unchanged [] (table_on now.row) (layers_on now.row now.place) id m))

  -- unchanged layers are painted alike
  same_layers : (ss : List Stroke) → StrokesUnchanged (items_for now) ss → map (painted old held) ss ≡ map (painted new holds) ss
  same_layers [] u = refl
  same_layers (s ∷ ss) ((d, c), us) =
      let unchanged = listed_unchanged [] (table_on now.row) (layers_on now.row now.place) s.layer.id d in
      let plane = told.planes s.layer.id unchanged in
      let revision = contents s.layer.id unchanged in
      let cut = same_mask s.mask c in
      let mark = ap (λ (p : List Float). (painted (λ (id : ℕ). p) held s).mark) plane in
      let rest = same_layers ss us in
      λ i. record { id = s.layer.id; func = s.layer.func; revision = revision i; plane = plane i; mark = mark i; cut = cut i } ∷ rest i

  pub same_shown_lem : (drawn : WorkedTile) → SameShown drawn last → ShowsSame last.clear now.clear (items_for last) (items_for now) → SameShown drawn now
  same_shown_lem drawn s k =
      let layers : (drawn_by last).layers ≡ (drawn_by now).layers =
      layers_painted last
      ∙ ap (λ (d : Drawn). map (painted old held) d.strokes) k.drawn
      ∙ same_layers (picture_of (items_for now)) k.unchanged
      ∙ sym (layers_painted now) in
      s ∙ (λ i. record { clear = (k.drawn i).clear; decision = (k.drawn i).decision; layers = layers i })
