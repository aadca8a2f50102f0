-- `tile::work_line` meets its contract. Assumes nothing.
use Rattle.laws.proofs.Prelude.{List, ℕ, pos}
use Rattle.row_statements.specs.Lent.{columns, list_columns}
use Rattle.row_statements.specs.TileWork.{WorkCall, WorkLent, work_lent}
use Rattle.row_driver.specs.InnerSteps.{args_of}
use Rattle.row_driver.proofs.Listed.{painter, accepted, few, walkable, line_done, line_refused}
use Rattle.row_driver.proofs.tile.work_line.Goals as goal
use Rattle.row_driver.proofs.tile.work_line.Goals.{Start}

-- what the function is called with where the part is a row's, and what it is lent
abbrev called : Start → List ℕ → WorkCall
called s row =
    let a = s.args in
    args_of a.state row a.layers.now a.colors.now a.count (columns a.ids.now a.covers.now)

abbrev lentTo : Start → WorkLent
lentTo s =
    let a = s.args in
    work_lent (columns a.next_ids.now a.next_covers.now) (list_columns a.list_ids.now a.list_covers.now a.list_flags.now a.list_unmasked.now)

pub tally_shown-tally-requires : goal.tally_shown-tally-requires
tally_shown-tally-requires c =
    let p = c.requires in
    let given = rw (c.absent.ensures, c.clear_color.ensures) at (c.work_part-worked.ensures.gives (pos c.args.state.next) p.row p.part_is) in
    let a = called (goal.at.tally_shown-tally-requires c).Start p.row in
    let t = accepted a (lentTo (goal.at.tally_shown-tally-requires c).Start) p.workable c.in-Ok.is given in
    rw p.part_is (painter a (lentTo (goal.at.tally_shown-tally-requires c).Start) p.workable, walkable a (lentTo (goal.at.tally_shown-tally-requires c).Start) p.workable t)

pub line_of-requires : goal.line_of-requires
line_of-requires c =
    let p = c.requires in
    let given = rw (c.absent.ensures, c.clear_color.ensures) at (c.work_part-worked.ensures.gives (pos c.args.state.next) p.row p.part_is) in
    let a = called (goal.at.line_of-requires c).Start p.row in
    few a (lentTo (goal.at.line_of-requires c).Start) p.workable (accepted a (lentTo (goal.at.line_of-requires c).Start) p.workable c.in-Ok.is given)

pub returns-in-Err : goal.returns-in-Err
returns-in-Err c =
    record {
      gives =
          λ row own workable.
          let given = rw (c.absent.ensures, c.clear_color.ensures) at (c.work_part-worked.ensures.gives (pos c.args.state.next) row own) in
          record { works = given; line_is = λ e. absurd (line_refused (called (goal.at.returns-in-Err c).Start row) (lentTo (goal.at.returns-in-Err c).Start) workable c.in-Err.is given e) };
    }

pub returns-in-Ok : goal.returns-in-Ok
returns-in-Ok c =
    record {
      gives =
          λ row own workable.
          let given = rw (c.absent.ensures, c.clear_color.ensures) at (c.work_part-worked.ensures.gives (pos c.args.state.next) row own) in
          let t = accepted (called (goal.at.returns-in-Ok c).Start row) (lentTo (goal.at.returns-in-Ok c).Start) workable c.in-Ok.is given in
          let tallied = rw (own, c.is_paint.ensures) at c.tally_shown-tally.ensures in
          record { works = given; line_is = λ e. line_done (called (goal.at.returns-in-Ok c).Start row) (lentTo (goal.at.returns-in-Ok c).Start) workable t c.tally_shown-tally.result tallied c.line_of.ensures };
    }
