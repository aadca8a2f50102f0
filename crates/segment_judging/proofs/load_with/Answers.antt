-- `load_with` meets its contract. Assumes nothing.
use Rattle.laws.proofs.Prelude.{w8, kept}
use Rattle.segment_judging.proofs.load_with.Goals as goal

pub returns : goal.returns
returns c =
    rw (c.local_y-y.ensures, rw (kept w8 c.cover.result c.cover.type_inv, c.cover.ensures) at c.cover_magnitude.ensures.0) at c.total.ensures
