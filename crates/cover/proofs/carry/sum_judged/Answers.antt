-- `cover::carry::sum_judged` meets its contract: the covers of the rows are summed while loads are judged. Assumes nothing.
use Rattle.std.specs.Prelude.{◌≡◌, ◌+◌}
use Rattle.laws.proofs.Prelude.{ap, ◌∙◌, sym, List, ℕ, arith, rules, pos, get_or, to_z-of_z, w8, small, kept}
use Rattle.pixel_segment.specs.Field.{cpu}
use Rattle.cover_statements.specs.Carry.{abs_cover, is_light}
use Rattle.cover_statements.specs.InnerLoad.{loads_of, all_light}
use Rattle.cover_statements.proofs.Judging.{load_start, load_next, load_refused, load_accepted}
use Rattle.cover_statements.proofs.Loads.{light_at_lem, loads_judge}
use Rattle.cover.proofs.RowSums.{rows_start, rows_fit, rows_next, rows_end}
use Rattle.cover.proofs.carry.sum_judged.Goals as goal
use Rattle.cover.proofs.carry.sum_judged.Goals.{After-cover_magnitude, Start}

-- the word, and the load of its row as the definition has it
abbrev word : (m : After-cover_magnitude) → ℕ
word m = get_or m.args.part.now m.loop-word.word-index 0

load : (m : After-cover_magnitude) → let before = get_or m.loop-word.loads m.local_y-y.result 0 in
    before + m.cover_magnitude.result ≡ before + abs_cover cpu (word m)
load m =
    ap (λ (a : ℕ). get_or m.loop-word.loads m.local_y-y.result 0 + a)
    (rw (kept w8 m.cover-own.result m.cover-own.type_inv, m.cover-own.ensures) at m.cover_magnitude.ensures.0)

-- what the loads say is number 9
judged : (s : Start) → all_light (loads_of cpu 16 s.args.incoming s.args.part.now) ≡ is_light cpu 16 s.args.cover.covers s.args.part.now
judged s =
    ap (λ (l : List ℕ). all_light (loads_of cpu 16 l s.args.part.now)) s.requires.0.same
    ∙ loads_judge cpu 16 s.args.cover.covers s.args.part.now

pub loop-word-init : goal.loop-word-init
loop-word-init c = (
  load_start (search rules) (λ y h. light_at_lem c.args.incoming c.requires.1 y (omega arith)),
  rows_start (search rules) c.requires.0.same,
)

pub returns-then-load-gt127 : goal.returns-then-load-gt127
returns-then-load-gt127 c =
    let at = goal.at.returns-then-load-gt127 c in
    let s = c.loop-word.invariant.0 in
    let e = sym (judged at.Start) ∙ load_refused s c.loop-word-test.true (omega arith) c.local_y-y.ensures (load at.After-cover_magnitude) c.if-load-gt127.true in
    record { answer = rw e; covers_are = rw e }

pub overflow_add-covers : goal.overflow_add-covers
overflow_add-covers c =
    rw (kept w8 (get_or c.loop-word.covers c.local_y-y.result (pos 0)) (omega arith), kept w8 c.cover-own.result c.cover-own.type_inv, c.cover-own.ensures)
    (small w8 _ (omega (
      arith,
      c.if-load-gt127.false,
      rows_fit c.loop-word.invariant.1 c.loop-word-test.true (omega arith) c.local_y-y.ensures (load (goal.at.overflow_add-covers c).After-cover_magnitude),
    )))

pub loop-word-preserved : goal.loop-word-preserved
loop-word-preserved c = let more = load (goal.at.loop-word-preserved c).After-cover_magnitude in (
  load_next c.loop-word.invariant.0 c.loop-word-test.true (omega arith) c.local_y-y.ensures more c.if-load-gt127.false,
  rows_next c.loop-word.invariant.1 c.loop-word-test.true (omega arith) c.loop-word.invariant.0.long c.local_y-y.ensures more
      (rw (
        to_z-of_z (overflow_add-covers c),
        kept w8 (get_or c.loop-word.covers c.local_y-y.result (pos 0)) (omega arith),
        kept w8 c.cover-own.result c.cover-own.type_inv,
        c.cover-own.ensures,
      )),
)

pub returns : goal.returns
returns c =
    let e = sym (judged (goal.at.returns c).Start) ∙ load_accepted c.loop-word.invariant.0 (omega arith) in
    let sums = rows_end c.loop-word.invariant.1 (omega arith) in
    record { answer = rw (e, sums); covers_are = rw (e, sums) }
