-- `judging::add_heavier` meets its contract. Assumes nothing.
use Rattle.std.specs.Prelude.{◌≡◌, ◌<◌}
use Rattle.laws.proofs.Prelude.{sym, ◌∙◌, ℕ, arith, ℤ, length, w8, kept}
use Rattle.pixel_segment.specs.Field.{cpu}
use Rattle.pixel_segment.proofs.Ranges.{cpu_layout}
use Rattle.cover_statements.proofs.Loads.{load_next, load_end}
use Rattle.cover_bounds_statements.specs.Chosen.{heavier}
use Rattle.cover_bounds_statements.specs.Within.{bound_at}
use Rattle.cover_bounds_statements.proofs.Calls.{held_heavier}
use Rattle.cover_bounds_statements.proofs.Choosing.{chosen_length, chosen_y, chosen_cover}
use Rattle.cover_bounds.proofs.judging.add_heavier.Goals as goal

pub loop-i-preserved : goal.loop-i-preserved
loop-i-preserved c =
    let part = c.args.part.now in
    let bounds = c.args.bounds.now in
    let i = c.loop-i.i in
    let cover : ℕ → ℤ = λ j. heavier (bound_at 0 bounds j) (bound_at 1 bounds j) in
    let low : i < length part = omega arith in
    let is : c.heavier-cover.result ≡ cover i =
    rw (kept w8 c.bound_at.result c.bound_at.type_inv, kept w8 c.bound_at-in-loop-i.result c.bound_at-in-loop-i.type_inv, c.bound_at.ensures, c.bound_at-in-loop-i.ensures) at c.heavier-cover.ensures in
    load_next c.loop-i.invariant (rw (chosen_length cpu part cover) low)
    (c.local_y-y.ensures ∙ sym (chosen_y cpu part cover cpu_layout i low))
    (omega arith)
    (rw (kept w8 c.heavier-cover.result c.heavier-cover.type_inv, is, ← chosen_cover cpu part cover cpu_layout i low (held_heavier (length part) bounds c.requires.2)) at c.raised.ensures)

pub returns : goal.returns
returns c =
    let bounds = c.args.bounds.now in
    load_end cpu c.loop-i.invariant (rw (chosen_length cpu c.args.part.now (λ j. heavier (bound_at 0 bounds j) (bound_at 1 bounds j))) (omega arith))
