-- `editing::begin_with` meets its contract. Assumes nothing.
use Rattle.laws.proofs.Prelude.{arith, rules, to_z-of_z}
use Rattle.segment_set_statements.specs.Set.{beginning}
use Rattle.segment_set_statements.proofs.Begins.{begin_passed, add_ready, add_next}
use Rattle.segment_set_statements.proofs.Starting.{begin_start, begin_end}
use Rattle.segment_set.proofs.editing.begin_with.Goals as goal

pub start_areas-requires : goal.start_areas-requires
start_areas-requires c = (begin_passed c.requires).room

pub loop-word-init : goal.loop-word-init
loop-word-init c =
    rw (to_z-of_z c.ranges.tile_x, to_z-of_z c.ranges.tile_y)
    (begin_start (beginning c.args.layer_id c.args.tile_x c.args.tile_y c.args.cover.covers c.args.part.now) c.args.slots.now c.args.areas.now _ c.start_areas.ensures (begin_passed c.requires) (search rules) c.magnitudes-loads.ensures)

pub add-set-requires : goal.add-set-requires
add-set-requires c = add_ready c.loop-word.invariant (omega arith)

pub loop-word-preserved : goal.loop-word-preserved
loop-word-preserved c = add_next c.loop-word.invariant (omega arith) c.add-set.ensures

pub returns : goal.returns
returns c =
    let held = rw (to_z-of_z c.ranges.tile_x, to_z-of_z c.ranges.tile_y) at c.loop-word.invariant in
    begin_end (beginning c.args.layer_id c.args.tile_x c.args.tile_y c.args.cover.covers c.args.part.now) c.args.slots.now c.args.areas.now _ c.start_areas.ensures held (omega arith)
