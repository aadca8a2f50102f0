-- `print_curve` meets its contract: the text is written to an array of its own and copied from there. Assumes nothing.
use Rattle.laws.proofs.Prelude.{refl, sym, ap, arith, length, length-take-le}
use Rattle.report.proofs.Putting.{front, copied}
use Rattle.curve_text.proofs.Examples.{fills}
use Rattle.curve_text.proofs.print_curve.Goals as goal

pub slice_bounds-text-end : goal.slice_bounds-text-end
slice_bounds-text-end c = let w = c.write_curve-end in omega (arith, w.ensures.answer, w.ensures.fits)

pub slice_bounds-print_bytes-end-2 : goal.slice_bounds-print_bytes-end-2
slice_bounds-print_bytes-end-2 c =
    let w = c.write_curve-end in
    sym (length-take-le w.result w.new.out (omega (arith, w.auto.out, w.ensures.answer, w.ensures.fits)))

pub print_bytes-requires : goal.print_bytes-requires
print_bytes-requires c = omega (arith, ap length (front c.write_curve-end.ensures), fills)

pub returns : goal.returns
returns c = copied c.write_curve-end.ensures refl c.print_bytes.ensures (omega (arith, fills))
