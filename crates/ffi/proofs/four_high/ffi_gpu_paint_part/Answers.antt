-- `four_high::ffi_gpu_paint_part` meets its contract: it tells what painting answers, and what the plane holds. Assumes nothing.
use Rattle.laws.proofs.Prelude.{ap, ◌∙◌}
use Rattle.ffi_numbers.specs.Numbers.{refusal_number}
use Rattle.ffi.proofs.four_high.ffi_gpu_paint_part.Goals as goal

pub returns : goal.returns
returns c =
    let painting = c.paint_part-painted.ensures in
    let rule = c.fill_rule.ensures in
    record { value = c.painted_number.ensures ∙ ap refusal_number painting.answer; plane_after = rw rule at painting.plane_is }
