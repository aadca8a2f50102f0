-- `search::half_of` meets its contract. Assumes nothing.
use Rattle.segment_rows.proofs.search.half_of.Goals as goal

pub returns : goal.returns
returns c =
    let told = c.field_at.ensures in
    record { start_is = rw (c.choose.ensures, told); len_is = rw (c.choose-2.ensures, told) }
