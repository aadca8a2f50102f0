-- `plane::area::acc_segments` meets its contract: two tables are filled, of double areas and of covers, while loads are judged. Assumes nothing.
use Rattle.std.specs.Prelude.{◌≡◌, ◌+◌, ◌*◌, ◌%◌, ◌≤◌, ◌+ℤ◌}
use Rattle.laws.proofs.Prelude.{refl, sym, ap, false≢true, ℕ, arith, rules, pos, nat_abs, get_or, to_z-of_z, w8, w16}
use Rattle.laws.proofs.Prelude.{SFits, to_z, of_z, small, kept}
use Rattle.pixel_segment.specs.Field.{cpu, local_y_of, cover_of, double_area_of}
use Rattle.pixel_segment.proofs.Widths.{cover_fits}
use Rattle.cover_statements.specs.Carry.{abs_cover}
use Rattle.cover_statements.proofs.Areas.{area_weight}
use Rattle.cover_statements.proofs.Judging.{load_start, load_next, load_refused, load_accepted, sum_zeros, sum_fits, sum_next, sum_whole}
use Rattle.cover_statements.proofs.Loads.{light_at_lem}
use Rattle.plane.proofs.area.acc_segments.Goals as goal
use Rattle.plane.proofs.area.acc_segments.Goals.{After-magnitude}

-- the word, its load as the definition has it, and the cover's own weight
abbrev word : (m : After-magnitude) → ℕ
word m = get_or m.args.part.now m.loop-word.word-index 0

-- its pixel row
row : (m : After-magnitude) → m.cell-k.result % 16 ≡ local_y_of cpu (word m)
row m = omega (arith, m.cell-k.ensures)

load : (m : After-magnitude) → let before = get_or m.loop-word.loads (m.cell-k.result % 16) 0 in before + m.magnitude.result ≡ before + abs_cover cpu (word m)
load m =
    ap (λ (a : ℕ). get_or m.loop-word.loads (m.cell-k.result % 16) 0 + a)
    (rw (kept w16 m.cover_of-cover.result m.cover_of-cover.type_inv, m.cover_of-cover.ensures) at m.magnitude.ensures)

-- it fits eight bits
narrow : (m : After-magnitude) → SFits w8 (to_z w16 (of_z w16 m.cover_of-cover.result))
narrow m =
    rw (kept w16 m.cover_of-cover.result m.cover_of-cover.type_inv, m.cover_of-cover.ensures) (cover_fits (word m))

cover_weight : (w : ℕ) → nat_abs (cover_of cpu w) ≤ 1 * abs_cover cpu w
cover_weight w = omega arith

pub loop-word-init : goal.loop-word-init
loop-word-init c = (
  load_start (search rules) (λ y h. light_at_lem c.args.incoming c.requires.0 y (omega arith)),
  sum_zeros c.requires.1,
  sum_zeros c.requires.2,
)

pub returns-then-load-gt127 : goal.returns-then-load-gt127
returns-then-load-gt127 c =
    record {
      light =
          let m = (goal.at.returns-then-load-gt127 c).After-magnitude in
          sym (load_refused c.loop-word.invariant.0 c.loop-word-test.true (omega arith) (row m) (load m) c.if-load-gt127.true);
      sums = λ e. absurd (false≢true e);
    }

pub overflow_add-areas : goal.overflow_add-areas
overflow_add-areas c =
    let m = (goal.at.overflow_add-areas c).After-magnitude in
    let s = c.loop-word.invariant.1 in
    rw (
      kept w16 (get_or c.loop-word.areas c.cell-k.result (pos 0)) (omega arith),
      kept w16 c.area_of.result c.area_of.type_inv,
      c.area_of.ensures,
    )
    (small w16 _ (omega (
      arith,
      sum_fits s c.loop-word-test.true (omega arith) (omega arith) (area_weight cpu refl) c.cell-k.ensures (row m) (load m) c.if-load-gt127.false,
    )))

pub overflow_add-covers : goal.overflow_add-covers
overflow_add-covers c =
    let m = (goal.at.overflow_add-covers c).After-magnitude in
    let s = c.loop-word.invariant.2 in
    rw (
      kept w8 (get_or c.loop-word.covers c.cell-k.result (pos 0)) (omega arith),
      to_z-of_z (narrow (goal.at.overflow_add-covers c).After-magnitude),
      kept w16 c.cover_of-cover.result c.cover_of-cover.type_inv,
      c.cover_of-cover.ensures,
    )
    (small w8 _ (omega (
      arith,
      sum_fits s c.loop-word-test.true (omega arith) (omega arith) cover_weight c.cell-k.ensures (row m) (load m) c.if-load-gt127.false,
    )))

pub loop-word-preserved : goal.loop-word-preserved
loop-word-preserved c =
    let m = (goal.at.loop-word-preserved c).After-magnitude in
    let s = c.loop-word.invariant in
    let h = c.loop-word-test.true in
    let long = s.0.long in
    let area = get_or c.loop-word.areas c.cell-k.result (pos 0) +ℤ double_area_of cpu (get_or c.args.part.now c.loop-word.word-index 0) in
    let fits : SFits w16 area =
    small w16 area (omega (
      arith,
      sum_fits s.1 h (omega arith) (omega arith) (area_weight cpu refl) c.cell-k.ensures (row m) (load m) c.if-load-gt127.false,
    )) in (
      load_next s.0 h (omega arith) (row m) (load m) c.if-load-gt127.false,
      sum_next s.1 h (omega arith) (omega arith) (area_weight cpu refl) long c.cell-k.ensures (row m) (load m)
          (rw (
            kept w16 (get_or c.loop-word.areas c.cell-k.result (pos 0)) (omega arith),
            kept w16 c.area_of.result c.area_of.type_inv,
            c.area_of.ensures,
            to_z-of_z fits,
          )),
      sum_next s.2 h (omega arith) (omega arith) cover_weight long c.cell-k.ensures (row m) (load m)
          (rw (
            to_z-of_z (overflow_add-covers c),
            kept w8 (get_or c.loop-word.covers c.cell-k.result (pos 0)) (omega arith),
            to_z-of_z (narrow (goal.at.loop-word-preserved c).After-magnitude),
            kept w16 c.cover_of-cover.result c.cover_of-cover.type_inv,
            c.cover_of-cover.ensures,
          )),
    )

pub returns : goal.returns
returns c =
    record {
      light = sym (load_accepted c.loop-word.invariant.0 (omega arith));
      sums = λ e. record { areas_are = sum_whole c.loop-word.invariant.1 (omega arith); covers_are = sum_whole c.loop-word.invariant.2 (omega arith) };
    }
