-- `search::halve` meets its contract. What holds of the part that is left is `Left`. Assumes nothing.
use Rattle.laws.proofs.Prelude.{arith, rules}
use Rattle.segment_rows.proofs.Halving.{begin, half_left, half_some, half_fewer, ends}
use Rattle.segment_rows.proofs.search.halve.Goals as goal

pub loop-len-init : goal.loop-len-init
loop-len-init c = begin _ _

pub half_of-first-requires : goal.half_of-first-requires
half_of-first-requires c = search rules

pub half_of-second-requires : goal.half_of-second-requires
half_of-second-requires c =
    let s = c.requires in
    let left = half_left _ _ c.loop-len.invariant (omega arith) c.half_of-first.ensures in
    (s.0, s.1, s.2, half_some _ _ (omega arith) c.half_of-first.ensures, left.within)

pub loop-len-smaller : goal.loop-len-smaller
loop-len-smaller c =
    let some = half_some _ _ (omega arith) c.half_of-first.ensures in
    let first = half_fewer _ _ (omega arith) c.half_of-first.ensures in
    let less = first.1 (omega arith) in
    omega (arith, (half_fewer _ _ some c.half_of-second.ensures).0)

pub loop-len-preserved : goal.loop-len-preserved
loop-len-preserved c =
    let some = half_some _ _ (omega arith) c.half_of-first.ensures in
    half_left _ _ (half_left _ _ c.loop-len.invariant (omega arith) c.half_of-first.ensures) some c.half_of-second.ensures

pub returns : goal.returns
returns c = ends _ _ c.loop-len.invariant (omega arith)
