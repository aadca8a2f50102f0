-- What a passed opening's verdict tells, and the operation put together from its parts. Assumes nothing.
use Rattle.std.specs.Prelude.{◌≡◌, ◌||◌, ◌≤◌, Result, Err}
use Rattle.laws.proofs.Prelude.{refl, ap, ◌∙◌, true, false, List, ℕ, suc, arith, not-false, ℤ, pos, lt_z, Answer, refused, given, plus}
use Rattle.laws.proofs.Prelude.{minus, whole, lt_false}
use Rattle.row_statements.specs.declared.RowState.{RowState}
use Rattle.refusals.specs.Refusal.{pass, refuse, number_of}
use Rattle.refusals.specs.declared.Refusal.{Refusal}
use Rattle.refusals.proofs.Judging.{passed, or_left, or_right}
use Rattle.pixel_segment.specs.Field.{cpu}
use Rattle.segment_rows.specs.Rows.{is_row}
use Rattle.queue_statements.specs.Queue.{ids_in, covers_in}
use Rattle.queue_statements.specs.Opening.{open_queue, open_answer, written_if, Opens}
use Rattle.row_statements.specs.Lent.{Columns, is_queue_short, is_lent_short, is_lent_table}
use Rattle.row_statements.specs.Opening.{OpenCall, left_of, has_bad_ends, open_verdict, state_by, open_out, open_of, opened_answer, OpensRow}

-- the row's number and its tiles are in range
pub record Ends (tileY from to : ℤ) : Type 0 where
  pub tile_y : (minus tileY ≡ 0) × (plus tileY ≤ 2046)
  pub first : (minus from ≡ 0) × (plus from ≤ plus to)
  pub last : (minus to ≡ 0) × (plus to ≤ 4095)

pub good_ends : (tile_y from to : ℤ) → has_bad_ends tile_y from to ≡ false → Ends tile_y from to
good_ends tile_y from to e =
    let e4 = or_left (lt_z tile_y (pos 0) || lt_z (pos 2046) tile_y || lt_z from (pos 0) || lt_z to from) (lt_z (pos 4095) to) e in
    let e3 = or_left (lt_z tile_y (pos 0) || lt_z (pos 2046) tile_y || lt_z from (pos 0)) (lt_z to from) e4 in
    let e2 = or_left (lt_z tile_y (pos 0) || lt_z (pos 2046) tile_y) (lt_z from (pos 0)) e3 in
    let a = lt_false tile_y (pos 0) (or_left (lt_z tile_y (pos 0)) (lt_z (pos 2046) tile_y) e2) in
    let b = lt_false (pos 2046) tile_y (or_right (lt_z tile_y (pos 0)) (lt_z (pos 2046) tile_y) e2) in
    let c = lt_false from (pos 0) (or_right (lt_z tile_y (pos 0) || lt_z (pos 2046) tile_y) (lt_z from (pos 0)) e3) in
    let d = lt_false to from (or_right (lt_z tile_y (pos 0) || lt_z (pos 2046) tile_y || lt_z from (pos 0)) (lt_z to from) e4) in
    let f = lt_false (pos 4095) to (or_right (lt_z tile_y (pos 0) || lt_z (pos 2046) tile_y || lt_z from (pos 0) || lt_z to from) (lt_z (pos 4095) to) e) in
    record {
      tile_y = (omega (arith, whole tile_y, a), omega (arith, whole tile_y, b));
      first = (omega (arith, whole from, c), omega (arith, whole from, whole to, c, d));
      last = (omega (arith, whole from, whole to, c, d), omega (arith, whole to, f));
    }

module _ (c : OpenCall) (lent : Columns) where
  pub record Passed : Type 0 where
    pub room : is_queue_short lent ≡ false
    pub ends : Ends c.tile_y c.from c.to
    pub in_row_lem : is_row cpu (suc (plus c.tile_y)) c.row ≡ true
    pub in_table : is_lent_table c.table ≡ true

  pub opening_passed : open_verdict c lent ≡ pass → Passed
  unfolding open_verdict
  opening_passed e =
      let one = passed _ _ _ e in
      let two = passed _ _ _ one.1 in
      let three = passed _ _ _ two.1 in
      let four = passed _ _ _ three.1 in
      record {
        room = or_left (is_queue_short lent) (is_lent_short c.table) one.0;
        ends = good_ends c.tile_y c.from c.to two.0;
        in_row_lem = not-false (is_row cpu (suc (plus c.tile_y)) c.row) three.0;
        in_table = not-false (is_lent_table c.table) four.0;
      }

  -- ---- the operation

  -- a verdict that refuses: its number, and the queue as it was
  pub refused_row : {r : Refusal} → open_verdict c lent ≡ refuse (number_of r) → OpensRow (open_of c lent) (Err r) lent
  unfolding open_of
  refused_row {r} e = rw e (record { answer = refl; lent_is = refl })

  -- a verdict that passes: what the opening's queue answers
  pub opened_row : {r : Result RowState Refusal} {made : Answer ℕ} {ids : List ℕ} {covers : List ℤ} → open_verdict c lent ≡ pass → Opens (left_of c) lent.ids lent.covers made ids covers → opened_answer r ≡ state_by c.tile_y c.from c.to made → OpensRow (open_of c lent) r (record { ids = ids; covers = covers })
  unfolding open_of
  opened_row {r} {made} {ids} {covers} e o told = rw e (by (open_answer (left_of c)) o.answer o.ids_are o.covers_are)
    where
      by : (a : Answer ℕ) → made ≡ a → ids ≡ written_if a (ids_in (open_queue (left_of c))) lent.ids → covers ≡ written_if a (covers_in (open_queue (left_of c))) lent.covers → OpensRow (open_out a c lent) r (record { ids = ids; covers = covers })
      by (refused n) ea ei ec = record { answer = told ∙ ap (state_by c.tile_y c.from c.to) ea; lent_is = λ i. record { ids = ei i; covers = ec i } }
      by (given n) ea ei ec = record { answer = told ∙ ap (state_by c.tile_y c.from c.to) ea; lent_is = λ i. record { ids = ei i; covers = ec i } }
