-- `search::search_number` meets its contract. Assumes nothing.
use Rattle.std.specs.Prelude.{◌≡◌, ◌+◌, ◌/◌, ◌%◌, ◌^◌, ◌<◌}
use Rattle.laws.proofs.Prelude.{sym, ℕ, mod-lt, arith, length, get_or}
use Rattle.pixel_segment.specs.Order.{compare_of}
use Rattle.pixel_segment.proofs.Lexical.{compare_less, compare_equal, compare_greater}
use Rattle.segment_rows.specs.Search.{ended, search_of}
use Rattle.segment_rows.proofs.Halving.{same_end, end_lt, search_told, search_empty}
use Rattle.segment_rows.proofs.Above.{above_rank}
use Rattle.segment_rows.proofs.search.search_number.Goals as goal
use Rattle.segment_rows.proofs.search.search_number.Goals.{After-field_at-next, After-halve-end}

-- the halving ends inside
inside : (c : After-halve-end) → c.halve-end.result < length c.args.segments.now
inside c = end_lt _ _ (omega arith) c.halve-end.ensures

-- the search tells the rank of the word there
told : (c : After-field_at-next) {r : ℕ} → r ≡ compare_of (c.field_at-next.result + 1) c.args.above → let s = c.args in ended r c.halve-end.result ≡ search_of (λ w. compare_of (w / 2 ^ s.offset % s.size + 1) s.above) s.segments.now
told c e =
    let s = c.args in
    search_told _ _ (omega arith) (same_end _ _ _ c.halve-end.ensures (λ w. above_rank (w / 2 ^ s.offset % s.size) s.above))
    (rw c.field_at-next.ensures at e)

pub field_at-next-requires : goal.field_at-next-requires
field_at-next-requires c = let s = c.requires in (s.0, s.1, omega arith, inside c)

pub overflow_add-next : goal.overflow_add-next
overflow_add-next c =
    omega (arith, c.field_at-next.ensures, mod-lt (get_or c.args.segments.now c.halve-end.result 0 / 2 ^ c.args.offset) c.requires.1)

pub returns-then-count-eq0 : goal.returns-then-count-eq0
returns-then-count-eq0 c = search_empty _ _ c.if-count-eq0.true

pub returns-then-next-above : goal.returns-then-next-above
returns-then-next-above c = told (goal.at.returns-then-next-above c).After-field_at-next (sym (compare_equal _ _ c.if-next-above.true))

pub overflow_add-result : goal.overflow_add-result
overflow_add-result c = omega (arith, inside (goal.at.overflow_add-result c).After-halve-end)

pub returns-then-next-above-2 : goal.returns-then-next-above-2
returns-then-next-above-2 c = told (goal.at.returns-then-next-above-2 c).After-field_at-next (sym (compare_less _ _ c.if-next-above-2.true))

pub returns : goal.returns
returns c = told (goal.at.returns c).After-field_at-next (sym (compare_greater (c.field_at-next.result + 1) c.args.above (omega arith)))
