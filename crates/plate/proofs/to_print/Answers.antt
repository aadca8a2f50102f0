-- `to_print` meets its contract. Assumes nothing.
use Rattle.std.specs.Prelude.{◌≡◌}
use Rattle.laws.proofs.Prelude.{ap, sym, ◌∙◌}
use Rattle.plate.specs.Print.{RowPrinting, row, printing_in, print_row, part_in}
use Rattle.plate.proofs.Finding.{printed_inside}
use Rattle.plate.proofs.to_print.Goals as goal
use Rattle.plate.proofs.to_print.Goals.{In-Some}

-- what is printed of the row
printed : (c : In-Some) → row c.in-Some.part.start c.in-Some.part.end ≡ print_row c.args.crop c.args.j c.args.segments.now
printed c = sym (ap printing_in c.in-Some.is) ∙ c.print_row.ensures

pub slice_of-requires : goal.slice_of-requires
slice_of-requires c =
    let s = c.args in
    printed_inside s.crop s.j s.segments.now c.in-Some.part.start c.in-Some.part.end (printed c)

pub returns-in-Some : goal.returns-in-Some
returns-in-Some c =
    let l = c.args.segments.now in
    c.slice_of.ensures ∙ ap (λ (p : RowPrinting). part_in p l) (printed (goal.at.returns-in-Some c).In-Some)

pub returns-in-None : goal.returns-in-None
returns-in-None c =
    let l = c.args.segments.now in
    ap (λ (p : RowPrinting). part_in p l) (sym (ap printing_in c.in-None.is) ∙ c.print_row.ensures)
