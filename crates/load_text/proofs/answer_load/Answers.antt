-- `answer_load` meets its contract: the text is written to an array of its own, and copied from there: no text is longer than `out`.
-- Assumes nothing.
use Rattle.laws.proofs.Prelude.{refl, sym, ap, arith, length, length-take-le}
use Rattle.report.proofs.Putting.{front, copied}
use Rattle.load_statements.proofs.Forming.{text_long}
use Rattle.load_text.proofs.answer_load.Goals as goal

pub slice_bounds-print_bytes-end-2 : goal.slice_bounds-print_bytes-end-2
slice_bounds-print_bytes-end-2 c =
    let w = c.write_load-end in
    sym (length-take-le w.result w.new.out (omega (arith, w.auto.out, w.ensures.answer, w.ensures.fits)))

pub print_bytes-requires : goal.print_bytes-requires
print_bytes-requires c =
    omega (arith, ap length (front c.write_load-end.ensures), text_long _ c.requires)

pub returns : goal.returns
returns c =
    copied c.write_load-end.ensures refl c.print_bytes.ensures (omega (arith, text_long _ c.requires))
