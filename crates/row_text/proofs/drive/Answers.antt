-- `drive` meets its contract: what the driver told, with room for every row. Assumes nothing.
use Rattle.std.specs.Prelude.{◌≡◌}
use Rattle.laws.proofs.Prelude.{sym, arith, replicate, w32, plus, kept}
use Rattle.laws.proofs.Machine as machine
use Rattle.row_lines.specs.Driven.{Drives}
use Rattle.row_answer.specs.Answer.{head_driving}
use Rattle.row_text.proofs.Telling.{all_told, text_is}
use Rattle.row_text.proofs.drive.Goals as goal
use Rattle.row_text.proofs.drive.Goals.{After-drive_row-driven, After-natural}

-- what the driver told
told-by : (c : After-drive_row-driven)
    → let a = c.args in
    let d = c.drive_row-driven in
    Drives (head_driving a.head a.row.now a.layers.now a.colors.now a.count) (replicate 20475 0) d.result d.new.lines
told-by c =
    let h = c.args.head in
    rw (kept w32 h.row (omega arith), kept w32 h.from (omega arith), kept w32 h.to (omega arith), kept w32 h.tiles (omega arith)) at c.drive_row-driven.ensures

-- the first tile
first_is : (c : After-natural) → c.natural.result ≡ plus c.args.head.from
first_is c = rw (kept w32 c.args.head.from (omega arith)) at c.natural.ensures

pub slice_bounds-print_driven-end : goal.slice_bounds-print_driven-end
slice_bounds-print_driven-end c = sym (told-by (goal.at.slice_bounds-print_driven-end c).After-drive_row-driven).long

pub print_driven-requires : goal.print_driven-requires
print_driven-requires c =
    let a = c.args in
    let low = (machine.within w32 a.head.from (record { sfits = omega arith })).above in
    all_told a.head a.row.now a.layers.now a.colors.now a.count (told-by (goal.at.print_driven-requires c).After-drive_row-driven) (first_is (goal.at.print_driven-requires c).After-natural)
    (told-by (goal.at.print_driven-requires c).After-drive_row-driven).long (omega (arith, low)) c.requires

pub returns : goal.returns
returns c =
    let a = c.args in
    text_is a.head a.row.now a.layers.now a.colors.now a.count (told-by (goal.at.returns c).After-drive_row-driven) (first_is (goal.at.returns c).After-natural)
    c.print_driven.ensures
