-- `work` meets its contract. Assumes nothing.
use Rattle.std.specs.Prelude.{◌≡◌}
use Rattle.laws.proofs.Prelude.{ap, ◌∙◌, List, ℕ, over}
use Rattle.pixel_segment.specs.Field.{gpu}
use Rattle.cover_statements.specs.Carry.{is_light, carry_of}
use Rattle.cover_statements.specs.Cover.{cover_at}
use Rattle.cover_statements.specs.Plane.{plane_of}
use Rattle.layer_row_gpu.specs.InnerWorks.{due_tile}
use Rattle.layer_row_gpu.specs.LayerState.{layer_state_in, handed_layer}
use Rattle.layer_row_gpu.proofs.Parts.{part_is}
use Rattle.layer_row_gpu.proofs.work.Goals as goal
use Rattle.layer_row_gpu.proofs.work.Goals.{After-layer_part-part}

-- the part that was found is that of the whole row
part-told : (c : After-layer_part-part) → c.layer_part-part.result.now ≡ due_tile (layer_state_in c.args.state) c.args.row.now
part-told c =
    c.layer_part-part.ensures
    ∙ part_is _ (record { small = λ i. (c.type_inv.row i).fits }) c.requires.in_order c.args.state.next c.args.state.layer_id

pub layer_part-part-requires : goal.layer_part-part-requires
layer_part-part-requires c = c.requires.next

pub paint-requires : goal.paint-requires
paint-requires c =
    (ap (is_light gpu 4 c.args.state.cover.covers) (part-told (goal.at.paint-requires c).After-layer_part-part) ∙ c.requires.light, c.requires.room)

pub add_segments-requires : goal.add_segments-requires
add_segments-requires c =
    ap (is_light gpu 4 c.args.state.cover.covers) (part-told (goal.at.add_segments-requires c).After-layer_part-part) ∙ c.requires.light

pub hand_on-requires : goal.hand_on-requires
hand_on-requires c = c.requires.next

pub returns : goal.returns
returns c =
    let covers = c.args.state.cover.covers in (
      c.hand_on.ensures ∙ ap (handed_layer (layer_state_in c.args.state)) (c.add_segments.ensures ∙ ap (carry_of gpu 4 covers) (part-told (goal.at.returns c).After-layer_part-part)),
      c.paint.ensures ∙ ap (λ (l : List ℕ). over (plane_of gpu 4 c.args.state.rule (cover_at covers) l) c.args.plane.now) (part-told (goal.at.returns c).After-layer_part-part),
    )
