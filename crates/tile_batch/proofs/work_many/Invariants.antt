use Rattle.std.specs.Prelude.{◌≡◌, ◌-◌}
use Rattle.laws.proofs.Prelude.{pos, length}
use Rattle.refusals.specs.Refusal.{pass, judgement_in}
use Rattle.segment_rows.specs.Search.{left_part}
use Rattle.row_statements.specs.Lent.{columns, lent_table}
use Rattle.batch_statements.specs.BatchLent.{batch_lent, sided}
use Rattle.batch_statements.specs.Batch.{batch_row}
use Rattle.tile_batch.specs.InnerTurns.{batch_in}
use Rattle.tile_batch.proofs.Going.{Going, left_of}
use Rattle.tile_batch.proofs.work_many.Given as goal

abbrev pub invariant-loop-room : goal.invariant-loop-room
invariant-loop-room l =
    Going (batch_row l.row (lent_table l.layers l.colors l.count) l.keeps l.clear l.previous) l.room l.tiles
    (batch_in l.initial.at (batch_lent (columns l.initial.a_ids l.initial.a_covers) (columns l.initial.b_ids l.initial.b_covers) l.initial.kept l.initial.told l.initial.bottoms l.initial.planes l.initial.painted))
    (batch_in l.at (sided l.at.first (batch_lent (columns l.a_ids l.a_covers) (columns l.b_ids l.b_covers) l.kept l.told l.bottoms l.planes l.painted)))
    (judgement_in l.at.verdict)
    × (length l.a_ids ≡ length l.initial.a_ids)
    × (length l.a_covers ≡ length l.initial.a_covers)
    × (length l.b_ids ≡ length l.initial.b_ids)
    × (length l.b_covers ≡ length l.initial.b_covers)
    × (length l.kept ≡ length l.initial.kept)
    × (length l.told ≡ length l.initial.told)
    × (length l.bottoms ≡ length l.initial.bottoms)
    × (length l.planes ≡ length l.initial.planes)
    × (length l.painted ≡ length l.initial.painted)
    × (length l.list_ids ≡ 256)
    × (length l.list_covers ≡ 4096)
    × (length l.list_flags ≡ 512)
    × (length l.list_unmasked ≡ 256)
    × (judgement_in l.at.verdict ≡ pass → l.start ≡ length (left_part (pos l.at.state.next) l.row))

abbrev pub decreases-loop-room : goal.decreases-loop-room
decreases-loop-room l =
    left_of (judgement_in l.at.verdict) (l.tiles - l.at.worked)
