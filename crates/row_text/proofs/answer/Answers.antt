-- `answer` meets its contract: what is lent to be driven is the job that was read, and arrays of these lengths hold every job. Assumes nothing.
use Rattle.std.specs.Prelude.{◌*◌}
use Rattle.laws.proofs.Prelude.{refl, sym, arith, length-take-le}
use Rattle.report.proofs.Lines.{at_front}
use Rattle.row_answer.proofs.Reading.{accepts, has_room_lem, refuses, same_text}
use Rattle.row_text.proofs.answer.Goals as goal

pub overflow_mul-words : goal.overflow_mul-words
overflow_mul-words c =
    let j = c.read_job in
    let x = accepts j.ensures refl refl refl c.in-Ok.is in
    omega (arith, x.words_fit)

pub overflow_mul-floats : goal.overflow_mul-floats
overflow_mul-floats c =
    let j = c.read_job in
    let x = accepts j.ensures refl refl refl c.in-Ok.is in
    omega (arith, x.colors_fit)

pub slice_bounds-row-end : goal.slice_bounds-row-end
slice_bounds-row-end c =
    let j = c.read_job in
    let x = accepts j.ensures refl refl refl c.in-Ok.is in
    omega (arith, x.row_fits)

pub slice_bounds-drive-end : goal.slice_bounds-drive-end
slice_bounds-drive-end c =
    let j = c.read_job in
    let x = accepts j.ensures refl refl refl c.in-Ok.is in
    sym (length-take-le c.in-Ok.numbers.segments j.new.row (omega (arith, x.row_fits, j.auto.row)))

pub slice_bounds-layers-end : goal.slice_bounds-layers-end
slice_bounds-layers-end c =
    let j = c.read_job in
    let x = accepts j.ensures refl refl refl c.in-Ok.is in
    omega (arith, x.words_fit)

pub slice_bounds-drive-end-in-Ok : goal.slice_bounds-drive-end-in-Ok
slice_bounds-drive-end-in-Ok c =
    let j = c.read_job in
    let x = accepts j.ensures refl refl refl c.in-Ok.is in
    sym (length-take-le (c.in-Ok.numbers.layers * 8) j.new.layers (omega (arith, x.words_fit, j.auto.layers)))

pub slice_bounds-colors-end : goal.slice_bounds-colors-end
slice_bounds-colors-end c =
    let j = c.read_job in
    let x = accepts j.ensures refl refl refl c.in-Ok.is in
    omega (arith, x.colors_fit)

pub slice_bounds-drive-end-in-Ok-2 : goal.slice_bounds-drive-end-in-Ok-2
slice_bounds-drive-end-in-Ok-2 c =
    let j = c.read_job in
    let x = accepts j.ensures refl refl refl c.in-Ok.is in
    sym (length-take-le (c.in-Ok.numbers.layers * 4) j.new.colors (omega (arith, x.colors_fit, j.auto.colors)))

pub returns-in-Ok : goal.returns-in-Ok
returns-in-Ok c =
    let j = c.read_job in
    let x = accepts j.ensures refl refl refl c.in-Ok.is in
    same_text x.answer c.drive.ensures

pub returns-in-Err-NoRoom : goal.returns-in-Err-NoRoom
returns-in-Err-NoRoom c = absurd (has_room_lem c.read_job.ensures refl refl refl (rw c.in-Err-NoRoom.field-0-is at c.in-Err-NoRoom.is))

pub returns-in-Err-Malformed : goal.returns-in-Err-Malformed
returns-in-Err-Malformed c =
    let p = c.print_refusal.ensures in
    same_text (refuses c.read_job.ensures refl refl refl (rw c.in-Err-Malformed.field-0-is at c.in-Err-Malformed.is)) (at_front p.0 (omega (arith, p.1)))
