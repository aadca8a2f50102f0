-- `tiles::work_plane` meets its contract. Assumes nothing.
use Rattle.laws.proofs.Prelude.{ap, ◌∙◌, List, arith, Float, over}
use Rattle.pixel_segment.specs.Field.{gpu}
use Rattle.cover_statements.specs.Cover.{cover_at}
use Rattle.cover_statements.specs.Plane.{plane_of}
use Rattle.layer_row_gpu.specs.LayerState.{layer_state_in}
use Rattle.layer_row_gpu.specs.InnerWorks.{due_tile}
use Rattle.layer_row_gpu.proofs.Planes.{put_plane, lent_plane, lent_long}
use Rattle.layer_row_gpu.proofs.tiles.work_plane.Goals as goal

pub work-requires : goal.work-requires
work-requires c =
    let r = c.requires.0 in
    record {
      room = lent_long c.args.k c.args.planes.now c.requires.1;
      next = omega (arith, r.left, r.ready.last_low);
      in_order = r.ready.in_order;
      light = r.light;
    }

pub returns : goal.returns
returns c =
    let w = c.work in
    let a = c.args in
    let x = plane_of gpu 4 a.state.rule (cover_at a.state.cover.covers) (due_tile (layer_state_in a.state) a.row.now) in (
      w.ensures.0,
      put_plane a.k a.planes.now _ _ c.requires.1 (w.ensures.1 ∙ ap (λ (l : List Float). over x l) (lent_plane a.k a.planes.now)) w.auto.plane,
    )
