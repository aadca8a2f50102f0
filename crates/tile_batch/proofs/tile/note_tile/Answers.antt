-- `tile::note_tile` meets its contract. Assumes nothing.
use Rattle.std.specs.Prelude.{◌*◌}
use Rattle.laws.proofs.Prelude.{refl, ap, ◌∙◌, arith, take, sets}
use Rattle.layer_table.specs.Table.{table_of}
use Rattle.queue_statements.specs.Queue.{queue_of}
use Rattle.pass_statements.specs.Decision.{decision_in}
use Rattle.row_statements.specs.TileWork.{tile_answer_in}
use Rattle.row_lines.specs.Shown.{shown_in}
use Rattle.shown_layers.specs.Counting.{ids_of}
use Rattle.batch_statements.specs.BatchLent.{WordsAt, tile_numbers}
use Rattle.batch_painting.specs.InnerShown.{WalkAt}
use Rattle.tile_batch.specs.InnerTurns.{mix_past}
use Rattle.tile_batch.proofs.Noting.{mix_room}
use Rattle.tile_batch.proofs.tile.note_tile.Goals as goal

pub put_mixed-used-requires : goal.put_mixed-used-requires
put_mixed-used-requires c =
    let a = c.args in
    let queue = queue_of a.n a.ids.now a.covers.now in
    let made = rw c.is_paint.ensures at c.paint_shown-made.ensures in
    mix_room (decision_in a.done.decision) (table_of a.layers.now a.colors.now a.count) queue a.part.now
    (shown_in a.done.skipped.0 (take a.done.listed a.list_unmasked.now) (ids_of queue a.part.now))
    c.paint_shown-made.result (record { state = a.worked.state; used = a.at.used; shown = 0 })
    made c.requires.1.within c.requires.2 c.requires.1.unmasked_long c.requires.4

pub put_tile-requires : goal.put_tile-requires
put_tile-requires c = c.requires.3

pub past-requires : goal.past-requires
past-requires c = omega (arith, c.requires.3.told_long, c.well_formed.1.1.1.1.1.1.1.1.1.1.1.1.1.1.0.0)

pub returns : goal.returns
returns c =
    let a = c.args in
    let p = rw c.is_paint.ensures at c.paint_shown-made.ensures in
    let mixed = c.put_mixed-used.ensures ∙ ap (λ (x : WalkAt). mix_past x a.done a.list_ids.now a.list_unmasked.now) p in
    let noted = c.put_tile.ensures in
    rw c.past.ensures
    (record {
      state = ap (λ (x : WalkAt). x.at.state) p;
      worked = refl;
      used = ap (λ (y : WordsAt). y.used) mixed;
      first = refl;
      verdict = refl;
      kept_is = noted.kept_after;
      told_is = noted.told_after ∙ ap (λ (x : WalkAt). sets a.told.now (a.at.worked * 6) (tile_numbers (tile_answer_in a.done) x.shown a.worked.state.left)) p;
      bottoms_are = noted.bottoms_after;
      planes_are = ap (λ (x : WalkAt). x.at.planes) p;
      painted_are = ap (λ (y : WordsAt). y.painted) mixed;
    })
