-- `tile::turn` meets its contract: the queue that comes in is lent as `&`, so it is kept. Assumes nothing.
use Rattle.laws.proofs.Prelude.{rules}
use Rattle.tile_batch.proofs.Turning.{as_first, as_second}
use Rattle.tile_batch.proofs.tile.turn.Goals as goal

pub work_here-requires : goal.work_here-requires
work_here-requires c = rw c.if-at.true (rw c.if-at.true at c.requires)

pub work_here-requires-else-at : goal.work_here-requires-else-at
work_here-requires-else-at c = rw c.if-at.false (rw c.if-at.false at c.requires)

pub shape_of-a_ids-then-at : goal.shape_of-a_ids-then-at
shape_of-a_ids-then-at c = search rules

pub shape_of-a_covers-then-at : goal.shape_of-a_covers-then-at
shape_of-a_covers-then-at c = search rules

pub shape_of-b_ids-then-at : goal.shape_of-b_ids-then-at
shape_of-b_ids-then-at c = search rules

pub shape_of-b_covers-then-at : goal.shape_of-b_covers-then-at
shape_of-b_covers-then-at c = search rules

pub shape_of-list_ids-then-at : goal.shape_of-list_ids-then-at
shape_of-list_ids-then-at c = search rules

pub shape_of-list_covers-then-at : goal.shape_of-list_covers-then-at
shape_of-list_covers-then-at c = search rules

pub shape_of-list_flags-then-at : goal.shape_of-list_flags-then-at
shape_of-list_flags-then-at c = search rules

pub shape_of-list_unmasked-then-at : goal.shape_of-list_unmasked-then-at
shape_of-list_unmasked-then-at c = search rules

pub shape_of-kept-then-at : goal.shape_of-kept-then-at
shape_of-kept-then-at c = search rules

pub shape_of-told-then-at : goal.shape_of-told-then-at
shape_of-told-then-at c = search rules

pub shape_of-bottoms-then-at : goal.shape_of-bottoms-then-at
shape_of-bottoms-then-at c = search rules

pub shape_of-planes-then-at : goal.shape_of-planes-then-at
shape_of-planes-then-at c = search rules

pub shape_of-painted-then-at : goal.shape_of-painted-then-at
shape_of-painted-then-at c = search rules

pub returns-then-at : goal.returns-then-at
returns-then-at c =
    let given = rw c.if-at.true at c.work_here.ensures in
    rw c.if-at.true (record { gives = λ row p. as_first (given.gives row p) })

pub shape_of-a_ids-else-at : goal.shape_of-a_ids-else-at
shape_of-a_ids-else-at c = search rules

pub shape_of-a_covers-else-at : goal.shape_of-a_covers-else-at
shape_of-a_covers-else-at c = search rules

pub shape_of-b_ids-else-at : goal.shape_of-b_ids-else-at
shape_of-b_ids-else-at c = search rules

pub shape_of-b_covers-else-at : goal.shape_of-b_covers-else-at
shape_of-b_covers-else-at c = search rules

pub shape_of-list_ids-else-at : goal.shape_of-list_ids-else-at
shape_of-list_ids-else-at c = search rules

pub shape_of-list_covers-else-at : goal.shape_of-list_covers-else-at
shape_of-list_covers-else-at c = search rules

pub shape_of-list_flags-else-at : goal.shape_of-list_flags-else-at
shape_of-list_flags-else-at c = search rules

pub shape_of-list_unmasked-else-at : goal.shape_of-list_unmasked-else-at
shape_of-list_unmasked-else-at c = search rules

pub shape_of-kept-else-at : goal.shape_of-kept-else-at
shape_of-kept-else-at c = search rules

pub shape_of-told-else-at : goal.shape_of-told-else-at
shape_of-told-else-at c = search rules

pub shape_of-bottoms-else-at : goal.shape_of-bottoms-else-at
shape_of-bottoms-else-at c = search rules

pub shape_of-planes-else-at : goal.shape_of-planes-else-at
shape_of-planes-else-at c = search rules

pub shape_of-painted-else-at : goal.shape_of-painted-else-at
shape_of-painted-else-at c = search rules

pub returns-else-at : goal.returns-else-at
returns-else-at c =
    let given = rw c.if-at.false at c.work_here-else-at.ensures in
    rw c.if-at.false (record { gives = λ row p. as_second (given.gives row p) })
