-- `print_tile` meets its contract: the line is written to a buffer of its own and put from there. Assumes nothing.
use Rattle.laws.proofs.Prelude.{refl, sym, arith, length-take-le}
use Rattle.report.proofs.Putting.{put_line}
use Rattle.report.proofs.print_tile.Goals as goal

pub slice_bounds-text-end : goal.slice_bounds-text-end
slice_bounds-text-end c = let w = c.write_tile-end in omega (arith, w.ensures.answer, w.ensures.fits)

pub slice_bounds-put-end : goal.slice_bounds-put-end
slice_bounds-put-end c = let w = c.write_tile-end in sym (length-take-le w.result w.new.out (omega (arith, w.auto.out, w.ensures.answer, w.ensures.fits)))

pub returns : goal.returns
returns c = put_line c.write_tile-end.ensures refl c.put.ensures
