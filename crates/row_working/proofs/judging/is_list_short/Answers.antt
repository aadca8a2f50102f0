-- `judging::is_list_short` meets its contract. Assumes nothing.
use Rattle.row_working.proofs.judging.is_list_short.Goals as goal

pub returns : goal.returns
returns c = rw c.are_entries_short.ensures
