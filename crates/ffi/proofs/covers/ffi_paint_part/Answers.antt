-- `covers::ffi_paint_part` meets its contract: it tells what painting answers, and what the plane holds. Assumes nothing.
use Rattle.ffi.proofs.Told.{answered}
use Rattle.ffi.proofs.covers.ffi_paint_part.Goals as goal

pub returns : goal.returns
returns c =
    let painting = c.paint_part-painted.ensures in
    let rule = c.fill_rule.ensures in
    let told =
    answered c.args.mark.now (rw rule at painting.answer) (c.put_mark.ensures.value, c.put_mark.ensures.mark_after) in
    record { value = told.0; mark_after = told.1; plane_after = rw rule at painting.plane_is }
