-- What verdicts that pass tell of an opening and of a work, and what the operations give by their verdicts. Assumes nothing.
use Rattle.std.specs.Prelude.{◌≡◌, ◌||◌, ◌≤◌, ◌<◌}
use Rattle.laws.proofs.Prelude.{true, false, not, ⊎_elim, List, ℕ, suc, arith, not-false, lt-ltb, le-leb, eqb-true, ltb, leb}
use Rattle.laws.proofs.Prelude.{eqb, Float, ℤ, pos, length, lt_z, plus, minus, whole, lt_false, equal, clash, le_or_lt}
use Rattle.refusals.specs.Refusal.{pass, unless}
use Rattle.refusals.proofs.Judging.{passed, or_left, or_right}
use Rattle.pixel_segment.specs.Field.{gpu}
use Rattle.segment_rows.specs.Rows.{is_row}
use Rattle.cover_statements.specs.Carry.{is_light}
use Rattle.cover_statements.specs.Cover.{no_cover}
use Rattle.layer_row_gpu.specs.InnerWorks.{Openable, WorkableLayer}
use Rattle.layer_row_gpu.specs.LayerState.{LayerState, has_bad_span, is_astray, is_other_tile, layer_tile}
use Rattle.layer_row_gpu.specs.OpenLayer.{LayerCall, layer_left, is_bad_record, open_layer_verdict, call_verdict_of}
use Rattle.layer_row_gpu.specs.WorkLayer.{work_layer_verdict}

-- a test that fails, as a fact
not_below : (m n : ℕ) → ltb m n ≡ false → n ≤ m
not_below m n e =
    ⊎_elim (λ (h : n ≤ m). h) (λ (h : m < n). absurd (clash (lt-ltb m n h) e)) (le_or_lt n m)

pub not_at_most : (m n : ℕ) → leb m n ≡ false → n < m
not_at_most m n h = ⊎_elim (λ (p : m ≤ n). absurd (clash (le-leb m n p) h)) (λ (p : n < m). p) (le_or_lt m n)

-- numbers in range, where 2 does not apply to an opening
pub record Span (tile_y from to : ℤ) : Type 0 where
  pub row : (minus tile_y ≡ 0) × (plus tile_y ≤ 8190)
  pub first : (minus from ≡ 0) × (plus from ≤ plus to)
  pub last : (minus to ≡ 0) × (plus to ≤ 4095)

pub good_span : (tile_y from to : ℤ) → has_bad_span tile_y from to ≡ false → Span tile_y from to
good_span tile_y from to e =
    let e4 = or_left (lt_z tile_y (pos 0) || lt_z (pos 8190) tile_y || lt_z from (pos 0) || lt_z to from) (lt_z (pos 4095) to) e in
    let e3 = or_left (lt_z tile_y (pos 0) || lt_z (pos 8190) tile_y || lt_z from (pos 0)) (lt_z to from) e4 in
    let e2 = or_left (lt_z tile_y (pos 0) || lt_z (pos 8190) tile_y) (lt_z from (pos 0)) e3 in
    let a = lt_false tile_y (pos 0) (or_left (lt_z tile_y (pos 0)) (lt_z (pos 8190) tile_y) e2) in
    let b = lt_false (pos 8190) tile_y (or_right (lt_z tile_y (pos 0)) (lt_z (pos 8190) tile_y) e2) in
    let c = lt_false from (pos 0) (or_right (lt_z tile_y (pos 0) || lt_z (pos 8190) tile_y) (lt_z from (pos 0)) e3) in
    let d = lt_false to from (or_right (lt_z tile_y (pos 0) || lt_z (pos 8190) tile_y || lt_z from (pos 0)) (lt_z to from) e4) in
    let f = lt_false (pos 4095) to (or_right (lt_z tile_y (pos 0) || lt_z (pos 8190) tile_y || lt_z from (pos 0) || lt_z to from) (lt_z (pos 4095) to) e) in
    record {
      row = (omega (arith, whole tile_y, a), omega (arith, whole tile_y, b));
      first = (omega (arith, whole from, c), omega (arith, whole from, whole to, c, d));
      last = (omega (arith, whole from, whole to, c, d), omega (arith, whole to, f));
    }

-- ---- an opening that passes

pub record OpenPassed (c : LayerCall) : Type 0 where
  pub span : Span c.tile_y c.from c.to
  pub in_order : is_row gpu (suc (plus c.tile_y)) c.row ≡ true
  pub light : is_light gpu 4 (no_cover 4) (layer_left c.from c.layer c.row) ≡ true

pub open_passed : (c : LayerCall) → call_verdict_of c ≡ pass → OpenPassed c
unfolding open_layer_verdict
open_passed c e =
    let light = unless (not (is_light gpu 4 (no_cover 4) (layer_left c.from c.layer c.row))) 9 pass in
    let known = unless (is_bad_record c.layer c.rule) 4 light in
    let two = passed _ _ _ e in
    let three = passed (not (is_row gpu (suc (plus c.tile_y)) c.row)) 3 known two.1 in
    let four = passed (is_bad_record c.layer c.rule) 4 light three.1 in
    let nine = passed _ _ _ four.1 in
    record {
      span = good_span c.tile_y c.from c.to two.0;
      in_order = not-false (is_row gpu (suc (plus c.tile_y)) c.row) three.0;
      light = not-false (is_light gpu 4 (no_cover 4) (layer_left c.from c.layer c.row)) nine.0;
    }

pub openable : (c : LayerCall) → call_verdict_of c ≡ pass → Openable c
openable c e =
    let p = open_passed c e in
    let s = p.span in
    record { first = (s.first.0, omega (arith, s.first.1, s.last.1)); in_order = p.in_order; light = p.light }

-- ---- a work that passes: the tile is the next one, and some is left

pub record WorkPassed (s : LayerState) (tile : ℤ) (row : List ℕ) (plane : List Float) : Type 0 where
  pub room : 64 ≤ length plane
  pub tile_is : tile ≡ pos s.next
  pub left : s.next < s.to
  pub last : s.to ≤ 4095
  pub known : is_astray s ≡ false
  pub in_order : is_row gpu (suc s.tile_y) row ≡ true
  pub light : is_light gpu 4 s.covers (layer_tile s tile row) ≡ true

module _ (s : LayerState) (tile : ℤ) where
  -- the tile is the next one, and some is left
  pub is_next : is_other_tile s tile ≡ false → (tile ≡ pos s.next) × (s.next < s.to)
  is_next other =
      let ahead = or_left (leb s.to s.next) (lt_z tile (pos 0)) (or_left (leb s.to s.next || lt_z tile (pos 0)) (not (eqb (plus tile) s.next)) other) in
      let low = lt_false tile (pos 0) (or_right (leb s.to s.next) (lt_z tile (pos 0)) (or_left (leb s.to s.next || lt_z tile (pos 0)) (not (eqb (plus tile) s.next)) other)) in
      let same = eqb-true (plus tile) s.next (not-false (eqb (plus tile) s.next) (or_right (leb s.to s.next || lt_z tile (pos 0)) (not (eqb (plus tile) s.next)) other)) in (
        equal tile (pos s.next) (omega (arith, whole tile, low, same)),
        not_at_most s.to s.next ahead,
      )

  -- 2 does not apply
  pub due : (is_astray s || is_other_tile s tile) ≡ false → (tile ≡ pos s.next) × (s.next < s.to) × (s.to ≤ 4095)
  due e =
      let astray = or_left (is_astray s) (is_other_tile s tile) e in
      let high = or_right (ltb 8190 s.tile_y) (ltb 4095 s.to)
      (or_left (ltb 8190 s.tile_y || ltb 4095 s.to) (ltb s.next s.from)
      (or_left (ltb 8190 s.tile_y || ltb 4095 s.to || ltb s.next s.from) (ltb s.to s.next) astray)) in
      let t = is_next (or_right (is_astray s) (is_other_tile s tile) e) in
      (t.0, t.1, not_below 4095 s.to high)

  module _ (row : List ℕ) (plane : List Float) where
    pub work_passed : work_layer_verdict s tile row plane ≡ pass → WorkPassed s tile row plane
    unfolding work_layer_verdict
    work_passed e =
        let one = passed _ _ _ e in
        let two = passed _ _ _ one.1 in
        let three = passed _ _ _ two.1 in
        let nine = passed _ _ _ three.1 in
        let d = due two.0 in
        record {
          room = not_below (length plane) 64 one.0;
          tile_is = d.0;
          left = d.1;
          last = d.2;
          known = or_left (is_astray s) (is_other_tile s tile) two.0;
          in_order = not-false (is_row gpu (suc s.tile_y) row) three.0;
          light = not-false (is_light gpu 4 s.covers (layer_tile s tile row)) nine.0;
        }

    pub workable : work_layer_verdict s tile row plane ≡ pass → WorkableLayer s row plane
    workable e =
        let p = work_passed e in
        record {
          room = p.room;
          next = omega (arith, p.left, p.last);
          in_order = p.in_order;
          light = rw p.tile_is at p.light;
        }
