-- `consts::cover_of` meets its contract: the field plus half its size, modulo its size, is a small number. Assumes nothing.
use Rattle.std.specs.Prelude.{◌+◌, ◌%◌}
use Rattle.laws.proofs.Prelude.{sym, ap, ◌∙◌, ℕ, div-one, arith, sub_ℕ, w16, to_z_pos, to_z-of_z, difference, sfits}
use Rattle.pixel_segment.specs.Field.{cover_of}
use Rattle.pixel_segment.proofs.consts.cover_of.Goals as goal

pub overflow_sub-result : goal.overflow_sub-result
overflow_sub-result c =
    let n = (c.args.word % 64 + 32) % 64 in
    rw (to_z_pos w16 {n = n} (omega arith))
    (sfits w16 (sub_ℕ n 32) (omega (arith, difference n 32)))

pub returns : goal.returns
unfolding cover_of
returns c = let w = c.args.word in
    let n = (w % 64 + 32) % 64 in
    to_z-of_z (overflow_sub-result c)
    ∙ rw (to_z_pos w16 {n = n} (omega arith)) (ap (λ (k : ℕ). sub_ℕ ((k % 64 + 32) % 64) 32) (sym (div-one w)))
