-- `carry_with` meets its contract. Assumes nothing.
use Rattle.laws.proofs.Prelude.{arith, ap, ◌∙◌, get_or, pos, ℤ, set, to_z-of_z, w8, kept}
use Rattle.segment_effect.proofs.carry_with.Goals as goal

pub returns : goal.returns
returns c =
    ap (λ (z : ℤ). set c.args.carry.covers c.args.y z)
    (kept w8 c.add_cover.result c.add_cover.type_inv
    ∙ rw (kept w8 (get_or c.args.carry.covers c.args.y (pos 0)) (omega arith), to_z-of_z c.ranges.cover) at c.add_cover.ensures)
