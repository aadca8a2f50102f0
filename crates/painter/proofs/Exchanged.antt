-- W-209: what a layer paints is its plane by columns, the order before, with the two places exchanged; so for a draw and for a clip. A draw's mark is
-- the one that the plane by columns had. Assumes nothing.
use Rattle.std.specs.Prelude.{◌≡◌}
use Rattle.laws.proofs.Prelude.{ap, ◌∙◌, Bool, cond, List, Option, ℕ, Float, nan, over}
use Rattle.pixel_segment.specs.Field.{cpu}
use Rattle.segment_rows.specs.Search.{layer_part}
use Rattle.styling.specs.declared.Func.{Func}
use Rattle.styling.specs.declared.Func.TheVariants.{Draw, Clip}
use Rattle.styling.specs.declared.Layer.{Layer}
use Rattle.styling.specs.declared.Style.{Style}
use Rattle.cover_statements.specs.Cover.{cover_at}
use Rattle.cover_statements.specs.Mark.{mark_of, mark_by_columns}
use Rattle.cover_statements.specs.Plane.{pixel_of, exchange, exchange_back}
use Rattle.cover_statements.proofs.Marks.{mark_exchanged}
use Rattle.cover_statements.proofs.Planes.{exchanged, exchanged_back}
use Rattle.queue_statements.specs.Queue.{Carry, held_in}
use Rattle.painter.specs.Clip.{alive_at, lacks_clip}
use Rattle.painter.specs.Painting.{needs_in, mark_for, plane_in, Paints, plane_by_columns}
use Rattle.painter.specs.declared.painting.Painting as painting

mark_drawn : {style : Style} (func : Func) (needs : Bool) (alive : Option ℕ) (plane : List Float) → func ≡ Draw style → mark_for func needs alive plane ≡ cond (lacks_clip needs alive) 0 (mark_of plane)
mark_drawn func needs alive plane e = rw e

module _ (queue : List Carry) (part : List ℕ) (id : ℕ) (layer : Layer) where
  pub layer_exchanged : plane_in queue part id layer ≡ exchange nan 16 (plane_by_columns queue part id layer)
  layer_exchanged = exchanged 16 (pixel_of cpu layer.props.fill_rule (cover_at (held_in queue id)) (layer_part id part)) nan

  pub layer_exchanged_back : plane_by_columns queue part id layer ≡ exchange_back nan 16 (plane_in queue part id layer)
  layer_exchanged_back = exchanged_back 16 (pixel_of cpu layer.props.fill_rule (cover_at (held_in queue id)) (layer_part id part)) nan

  module _ (table : List Layer) (clip : Option ℕ) {old plane : List Float} {r : painting.Painting} (p : Paints table queue part id layer clip old r plane) where
    written : plane ≡ over (exchange nan 16 (plane_by_columns queue part id layer)) old
    written = p.plane_is ∙ ap (λ (l : List Float). over l old) layer_exchanged

    pub draw_exchanged : {style : Style} → layer.props.func ≡ Draw style → (plane ≡ over (exchange nan 16 (plane_by_columns queue part id layer)) old) × (r.mark ≡ cond (lacks_clip (needs_in table queue part layer.props.func id) (alive_at clip id)) 0 (mark_by_columns (plane_by_columns queue part id layer)))
    draw_exchanged e = (
      written,
      p.mark_is
          ∙ mark_drawn layer.props.func (needs_in table queue part layer.props.func id) (alive_at clip id) (plane_in queue part id layer) e
          ∙ ap (cond (lacks_clip (needs_in table queue part layer.props.func id) (alive_at clip id)) 0) (ap mark_of layer_exchanged ∙ mark_exchanged (plane_by_columns queue part id layer)),
    )

    pub clip_exchanged : {span : ℕ} → layer.props.func ≡ Clip span → (plane ≡ over (exchange nan 16 (plane_by_columns queue part id layer)) old) × (r.mark ≡ 0)
    clip_exchanged e = (written, p.mark_is ∙ rw e)
