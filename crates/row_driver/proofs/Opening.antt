-- A row that the driver opens: what an accepted opening leaves lets its tiles be driven, and a refused one ends the row. Assumes nothing.
use Rattle.std.specs.Prelude.{◌≡◌, ◌+◌, ◌*◌, ◌≤◌, Result, Err, Ok}
use Rattle.laws.proofs.Prelude.{refl, ap, sym, subst, List, [], flatten, Some, ℕ, arith, ℤ, length, Answer}
use Rattle.laws.proofs.Prelude.{plus, over}
use Rattle.refusals.specs.Refusal.{number_of}
use Rattle.refusals.specs.declared.Refusal.{Refusal}
use Rattle.segment_rows.specs.Rows.{Words}
use Rattle.row_statements.specs.Lent.{Columns}
use Rattle.row_statements.specs.State.{State}
use Rattle.row_statements.specs.Opening.{OpenCall, open_of, OpensRow}
use Rattle.row_statements.specs.Due.{OpenRow}
use Rattle.row_statements.specs.Run.{open_row}
use Rattle.row_statements.specs.declared.RowState.{RowState}
use Rattle.row_statements.proofs.Openings.{opening_passed}
use Rattle.row_statements.proofs.Run.{Accepted, accepted, is_open, held_first_lem}
use Rattle.row_lines.specs.Lines.{lines_from, lines_words}
use Rattle.row_lines.specs.Driven.{Driving, due_tiles, empty_queue, opened_driving, driving_of, row_driving, Drives}
use Rattle.row_driver.specs.InnerSteps.{row_by, Opened}

-- ---- nothing written

none_written : (old : List ℕ) (r : Refusal) (d : Driving) → d ≡ record { lines = []; refusal = Some (number_of r) } → Drives d old (Err (r, 0)) old
unfolding over lines_words flatten
none_written old r d e = subst (λ (x : Driving). Drives x old (Err (r, 0)) old) (sym e) (record { answer = refl; long = refl; lines_are = refl })

module _ (c : OpenCall) (tiles : ℤ) (lines : List ℕ) where
  -- the opening is refused
  pub not_opened : {r : Refusal} {back : Columns} → OpensRow (open_of c empty_queue) (Err r) back → Drives (row_driving c tiles) lines (Err (r, 0)) lines
  unfolding row_driving
  not_opened {r} {back} g = none_written lines r _ (sym (ap (λ (a : Answer State). opened_driving a (open_row c) (due_tiles c.from c.to tiles)) g.answer))

  module _ {s : RowState} {back : Columns} (w : Words c.row) (g : OpensRow (open_of c empty_queue) (Ok s) back) where
    told : Accepted c empty_queue back s
    told = accepted c empty_queue back s g

    -- the state stands in the row
    row_is : row_by s c.row c.table.words c.table.floats c.table.count ≡ open_row c
    row_is = ap (λ (x : State). record { tile_y = x.tile_y; from = x.from; to = x.to; row = c.row; table = c.table }) told.state

    pub opens : 20475 ≤ length lines → Opened (row_by s c.row c.table.words c.table.floats c.table.count) s (due_tiles c.from c.to tiles) back lines
    opens h =
        let e = (opening_passed c empty_queue told.passes).ends in
        let inside : plus c.from + due_tiles c.from c.to tiles ≤ plus c.to = omega (arith, e.first) in
        let room : due_tiles c.from c.to tiles * 5 ≤ length lines = omega (arith, h) in
        subst (λ (o : OpenRow). Opened o s (due_tiles c.from c.to tiles) back lines) (sym row_is)
        (record { is_open = is_open c empty_queue back s w told; holds = held_first_lem c empty_queue back s w told; inside = inside; room = room })

    pub driven : {r : Result ℕ (Refusal × ℕ)} {new : List ℕ} → Drives (driving_of (lines_from (row_by s c.row c.table.words c.table.floats c.table.count) (due_tiles c.from c.to tiles) 0)) lines r new → Drives (row_driving c tiles) lines r new
    unfolding row_driving
    driven {r} {new} d =
        subst (λ (x : Driving). Drives x lines r new) (ap (λ (a : Answer State). opened_driving a (open_row c) (due_tiles c.from c.to tiles)) g.answer)
        (subst (λ (o : OpenRow). Drives (driving_of (lines_from o (due_tiles c.from c.to tiles) 0)) lines r new) row_is d)
