-- The first five conditions of a call on a tile of an open row, lowest first, said once: tile work, listing and painting are judged by these lines.
-- They differ in what is short, in which tile is wrong, and in which queue is lent. Stands for 1 to 5 of 'Turned down'.
use Rattle.laws.specs.Prelude.{Bool, not, List, ℕ, suc}
use Rattle.refusals.specs.Refusal.{Judgement, unless}
use Rattle.pixel_segment.specs.Field.{cpu}
use Rattle.segment_rows.specs.Rows.{is_row}
use Rattle.queue_statements.specs.Queue.{is_queue}
use Rattle.row_statements.specs.Lent.{LentTable, is_lent_table}

-- `short` and `wrong` being the conditions of 1 and 2, n the carries that the queue has, and `below` the lines that follow
abbrev pub first_five : Bool → Bool → ℕ → List ℕ → LentTable → ℕ → List ℕ → Judgement → Judgement
first_five short wrong tile_y row table n ids below =
    unless short 1
    (unless wrong 2
    (unless (not (is_row cpu (suc tile_y) row)) 3
    (unless (not (is_lent_table table)) 4
    (unless (not (is_queue n ids)) 5
    below))))
