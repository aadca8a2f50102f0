-- `order::is_row_in` meets its contract. Assumes nothing.
use Rattle.laws.proofs.Prelude.{sym, ◌∙◌, arith, eqb-false}
use Rattle.pixel_segment.specs.Field.{widths_of}
use Rattle.pixel_segment.proofs.Heights.{keyed_of}
use Rattle.segment_rows.proofs.Rows.{told_by_ends}
use Rattle.segment_rows.proofs.order.is_row_in.Goals as goal

pub returns : goal.returns
returns c =
    rw (c.extract-last.ensures, c.extract-first.ensures)
    (told_by_ends (widths_of c.args.layout) (keyed_of c.args.layout) c.args.stored_tile_y c.args.row.now
    (λ i. (c.type_inv.row i).fits)
    (omega (arith, eqb-false _ _ (sym c.is_empty.ensures ∙ c.if-is_empty.false)))
    (sym c.does_ascend_in.ensures ∙ c.if-not-does_ascend_in.false))
