-- `print_driven` meets its contract: names, lines and refusal one after another. Assumes nothing.
use Rattle.laws.proofs.Prelude.{ap, arith}
use Rattle.row_lines.specs.Driven.{lines_written}
use Rattle.row_printing.proofs.Lining.{last_room, done, refused}
use Rattle.row_printing.proofs.print_driven.Goals as goal

pub returns-in-Ok : goal.returns-in-Ok
returns-in-Ok c =
    let e = c.in-Ok.is in
    let p = c.print_names-start.ensures in
    let q = c.print_lines.ensures in
    let room = last_room c.requires (ap lines_written e) p in
    done c.args.told.now c.args.first e p q.0 (omega (arith, room, q.1))

pub returns-in-Err : goal.returns-in-Err
returns-in-Err c =
    let e = c.in-Err.is in
    let p = c.print_names-start.ensures in
    let q = c.print_lines-end.ensures in
    let u = c.print_refusal.ensures in
    let room = last_room c.requires (ap lines_written e) p in
    refused c.args.told.now c.args.first e c.number_of.ensures p q.0 u.0 (omega (arith, room, q.1, u.1))
