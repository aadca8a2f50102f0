-- `search::search_at_least` meets its contract. Assumes nothing.
use Rattle.std.specs.Prelude.{◌≡◌, ◌-◌, ◌/◌, ◌%◌, ◌^◌, ◌<◌}
use Rattle.laws.proofs.Prelude.{ap, sym, ◌∙◌, Bool, true, false, ℕ, arith, eqb, eqb-false, eqb-true, le-leb, lt-leb, leb, length}
use Rattle.pixel_segment.specs.Order.{compare_bool}
use Rattle.segment_rows.specs.Search.{ended, search_of}
use Rattle.segment_rows.proofs.Halving.{same_end, end_lt, end_last, search_told, search_empty}
use Rattle.segment_rows.proofs.Above.{never_above, above_unwanted}
use Rattle.segment_rows.proofs.search.search_at_least.Goals as goal
use Rattle.segment_rows.proofs.search.search_at_least.Goals.{After-field_at, After-field_at-2, After-halve-end}

some : {n : ℕ} {empty : Bool} → empty ≡ eqb n 0 → empty ≡ false → 0 < n
some {n} e h = omega (arith, eqb-false n 0 (sym e ∙ h))

-- where the field is wanted at least the start: the search tells the rank of the last word
told-last : (c : After-field_at) {r : ℕ} → let s = c.args in r ≡ compare_bool (leb s.start c.field_at.result) true → ended r (length s.segments.now - 1) ≡ search_of (λ w. compare_bool (leb s.start (w / 2 ^ s.offset % s.size)) s.wanted) s.segments.now
told-last c e =
    let s = c.args in
    let long : 0 < length s.segments.now = some c.is_empty.ensures c.if-is_empty.false in
    rw c.if-wanted.true
    (search_told _ _ long
    (end_last _ _ (omega arith) (λ w. never_above (leb s.start (w / 2 ^ s.offset % s.size))))
    (rw c.field_at.ensures at e))

-- the halving ends inside
inside : (c : After-halve-end) → c.halve-end.result < length c.args.segments.now
inside c = end_lt _ _ (some c.is_empty.ensures c.if-is_empty.false) c.halve-end.ensures

-- where it is not: the rank of the word where the halving ends
told-end : (c : After-field_at-2) {r : ℕ} → let s = c.args in r ≡ compare_bool (leb s.start c.field_at-2.result) false → ended r c.halve-end.result ≡ search_of (λ w. compare_bool (leb s.start (w / 2 ^ s.offset % s.size)) s.wanted) s.segments.now
told-end c e =
    let s = c.args in
    rw c.if-wanted.false
    (search_told _ _ (some c.is_empty.ensures c.if-is_empty.false)
    (same_end _ _ _ c.halve-end.ensures (λ w. above_unwanted (leb s.start (w / 2 ^ s.offset % s.size))))
    (rw c.field_at-2.ensures at e))

pub returns-then-is_empty : goal.returns-then-is_empty
returns-then-is_empty c = search_empty _ _ (eqb-true _ _ (sym c.is_empty.ensures ∙ c.if-is_empty.true))

pub returns-then-start-field_at : goal.returns-then-start-field_at
returns-then-start-field_at c = told-last (goal.at.returns-then-start-field_at c).After-field_at (sym (ap (λ (b : Bool). compare_bool b true) (le-leb _ _ c.if-start-field_at.true)))

pub returns-then-wanted : goal.returns-then-wanted
returns-then-wanted c = told-last (goal.at.returns-then-wanted c).After-field_at (sym (ap (λ (b : Bool). compare_bool b true) (lt-leb _ _ c.if-start-field_at.false)))

pub field_at-requires-2 : goal.field_at-requires-2
field_at-requires-2 c = let s = c.requires in (s.0, s.1, s.2, inside c)

pub returns-then-field_at-start : goal.returns-then-field_at-start
returns-then-field_at-start c = told-end (goal.at.returns-then-field_at-start c).After-field_at-2 (sym (ap (λ (b : Bool). compare_bool b false) (lt-leb _ _ c.if-field_at-start.true)))

pub returns : goal.returns
returns c = told-end (goal.at.returns c).After-field_at-2 (sym (ap (λ (b : Bool). compare_bool b false) (le-leb _ _ c.if-field_at-start.false)))
