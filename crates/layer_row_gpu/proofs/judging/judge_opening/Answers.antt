-- `judging::judge_opening` meets its contract: a line for each condition, the lowest first. Assumes nothing.
use Rattle.std.specs.Prelude.{◌≡◌}
use Rattle.laws.proofs.Prelude.{true, false, ℤ, sym, ap, ◌∙◌, List, ℕ, suc, add-one, arith, w16, SFits, to_z-of_z, plus, sfits}
use Rattle.pixel_segment.specs.Field.{gpu}
use Rattle.segment_rows.specs.Rows.{is_row, Words}
use Rattle.cover_statements.specs.Carry.{is_light}
use Rattle.cover_statements.specs.Cover.{no_cover}
use Rattle.layer_row_gpu.specs.InnerCovers.{layer_within}
use Rattle.layer_row_gpu.specs.LayerState.{has_bad_span}
use Rattle.layer_row_gpu.specs.OpenLayer.{layer_left, open_layer_verdict}
use Rattle.layer_row_gpu.proofs.Parts.{left_from}
use Rattle.layer_row_gpu.proofs.Verdicts.{Span, good_span}
use Rattle.layer_row_gpu.proofs.judging.judge_opening.Goals as goal
use Rattle.layer_row_gpu.proofs.judging.judge_opening.Goals.{After-has_bad_span, After-is_light, After-is_row}

-- whether the numbers are out of range
span-told : (c : After-has_bad_span) → c.has_bad_span.result ≡ has_bad_span c.args.tile_y c.args.from c.args.to
span-told c =
    c.has_bad_span.ensures ∙ rw (to_z-of_z c.ranges.tile_y, to_z-of_z c.ranges.from, to_z-of_z c.ranges.to)

-- whether the row is in order, as the definition asks it
row_told : (c : After-is_row) → c.is_row.result ≡ is_row gpu (suc (plus c.args.tile_y)) c.args.row.now
row_told c =
    c.is_row.ensures
    ∙ ap (λ (n : ℕ). is_row gpu n c.args.row.now) (add-one c.natural.result ∙ ap suc (c.natural.ensures ∙ ap plus (to_z-of_z c.ranges.tile_y)))

-- where neither 2 nor 3 applies
span : (c : After-has_bad_span) → c.has_bad_span.result ≡ false → Span c.args.tile_y c.args.from c.args.to
span c h = good_span _ _ _ (sym (span-told c) ∙ h)

first_fits : (tile_y from to : ℤ) → Span tile_y from to → SFits w16 from
first_fits tile_y from to p =
    sfits w16 _ (record { above = omega (arith, p.first.1, p.last.1); below = omega (arith, p.first.0) })

in_order : (c : After-is_row) → c.is_row.result ≡ true → is_row gpu (suc (plus c.args.tile_y)) c.args.row.now ≡ true
in_order c h = sym (row_told c) ∙ h

-- whether number 9 does not apply
light-told :
    (c : After-is_light)
    → let a = c.args in
    Span a.tile_y a.from a.to
    → is_row gpu (suc (plus a.tile_y)) a.row.now ≡ true
    → Words a.row.now
    → c.is_light.result ≡ is_light gpu 4 (no_cover 4) (layer_left a.from a.layer_id a.row.now)
light-told c p e s =
    c.is_light.ensures
    ∙ ap (λ (l : List ℕ). is_light gpu 4 (no_cover 4) (layer_within c.args.layer_id l)) (rw (to_z-of_z c.ranges.from, to_z-of_z (first_fits _ _ _ p)) at c.left_of_tile.ensures)
    ∙ ap (is_light gpu 4 (no_cover 4)) (left_from _ s e c.args.from p.first.0 c.args.layer_id)

pub returns-then-has_bad_span : goal.returns-then-has_bad_span
unfolding open_layer_verdict
returns-then-has_bad_span c = rw (← span-told (goal.at.returns-then-has_bad_span c).After-has_bad_span, c.if-has_bad_span.true)

pub returns-then-not-is_row : goal.returns-then-not-is_row
unfolding open_layer_verdict
returns-then-not-is_row c = rw (← span-told (goal.at.returns-then-not-is_row c).After-has_bad_span, c.if-has_bad_span.false, ← row_told (goal.at.returns-then-not-is_row c).After-is_row, c.if-not-is_row.true)

pub returns-then-is_bad_record : goal.returns-then-is_bad_record
unfolding open_layer_verdict
returns-then-is_bad_record c =
    rw (← span-told (goal.at.returns-then-is_bad_record c).After-has_bad_span, c.if-has_bad_span.false, ← row_told (goal.at.returns-then-is_bad_record c).After-is_row, c.if-not-is_row.false, ← c.is_bad_record.ensures, c.if-is_bad_record.true)

pub overflow_cast-from : goal.overflow_cast-from
overflow_cast-from c =
    rw (to_z-of_z c.ranges.from) (first_fits _ _ _ (span (goal.at.overflow_cast-from c).After-has_bad_span c.if-has_bad_span.false))

pub returns-then-not-is_light : goal.returns-then-not-is_light
unfolding open_layer_verdict
returns-then-not-is_light c =
    let places = goal.at.returns-then-not-is_light c in
    let good = span places.After-has_bad_span c.if-has_bad_span.false in
    let sorted = in_order places.After-is_row c.if-not-is_row.false in
    rw (
      ← span-told places.After-has_bad_span,
      c.if-has_bad_span.false,
      ← row_told places.After-is_row,
      c.if-not-is_row.false,
      ← c.is_bad_record.ensures,
      c.if-is_bad_record.false,
      ← light-told places.After-is_light good sorted (record { small = λ i. (c.type_inv.row i).fits }),
      c.if-not-is_light.true,
    )

pub returns : goal.returns
unfolding open_layer_verdict
returns c =
    let places = goal.at.returns c in
    let good = span places.After-has_bad_span c.if-has_bad_span.false in
    let sorted = in_order places.After-is_row c.if-not-is_row.false in
    rw (
      ← span-told places.After-has_bad_span,
      c.if-has_bad_span.false,
      ← row_told places.After-is_row,
      c.if-not-is_row.false,
      ← c.is_bad_record.ensures,
      c.if-is_bad_record.false,
      ← light-told places.After-is_light good sorted (record { small = λ i. (c.type_inv.row i).fits }),
      c.if-not-is_light.false,
    )
