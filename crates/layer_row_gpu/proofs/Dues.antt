-- A work after an accepted opening is as the whole row has it. Assumes nothing.
use Rattle.std.specs.Prelude.{◌≡◌, ◌||◌, ◌+◌, ◌≤◌, ◌<◌}
use Rattle.laws.proofs.Prelude.{refl, ap, ◌∙◌, Bool, true, false, cond, not, List, ℕ, zero, suc, add-zero, add-suc, add-one}
use Rattle.laws.proofs.Prelude.{arith, le-ltb, lit<, ltb, Float, ℤ, pos, length, length-replicate, plus, over}
use Rattle.refusals.specs.Refusal.{Judgement, pass, refuse, unless}
use Rattle.refusals.proofs.Judging.{passed}
use Rattle.pixel_segment.specs.Field.{gpu}
use Rattle.segment_rows.specs.Rows.{is_row}
use Rattle.styling.specs.declared.FillRule.{FillRule}
use Rattle.cover_statements.specs.Carry.{is_light, carry_of}
use Rattle.cover_statements.specs.Cover.{no_cover, is_empty}
use Rattle.cover_statements.specs.WholeRow.{part_of, FromRow}
use Rattle.cover_statements.proofs.Carries.{carry_length, no_cover_at}
use Rattle.cover_statements.proofs.FromRow.{opening_from_row, carry_from_row, dropped_from_row, plane_from_row}
use Rattle.layer_row_gpu.specs.LayerState.{layer_tile, dropped, past_tile, is_astray}
use Rattle.layer_row_gpu.specs.OpenLayer.{LayerCall, layer_rule, first_state}
use Rattle.layer_row_gpu.specs.WorkLayer.{LayerChoice, work_layer_verdict, worked_by, work_layer_of}
use Rattle.layer_row_gpu.specs.LayerDue.{layer_tile_on, layer_part_on, cover_on, layer_state_on, is_tile_not_due, layer_due_verdict, layer_out, work_layer_due, tiles_after}
use Rattle.layer_row_gpu.specs.LayerRun.{LayerFacts}
use Rattle.layer_row_gpu.proofs.Verdicts.{OpenPassed, is_next}

-- ---- the carry past a tile, from the whole row

no_cover_length : length (no_cover 4) ≡ 4
unfolding no_cover
no_cover_length = length-replicate 4 (pos 0)

dropped_length : (rule : FillRule) (covers : List ℤ) → length covers ≡ 4 → length (dropped rule covers) ≡ 4
dropped_length rule covers h = by (is_empty rule covers)
  where
    by : (t : Bool) → length (cond t (no_cover 4) covers) ≡ 4
    by true = no_cover_length
    by false = h

dropped_carry : {rule : FillRule} {tile layer : ℕ} {row : List ℕ} (covers : List ℤ) → length covers ≡ 4 → FromRow gpu 4 rule tile layer row covers → FromRow gpu 4 rule tile layer row (dropped rule covers)
dropped_carry {rule} {tile} {layer} {row} covers h c = by (is_empty rule covers) refl
  where
    by : (t : Bool) → is_empty rule covers ≡ t → FromRow gpu 4 rule tile layer row (cond t (no_cover 4) covers)
    by true e = dropped_from_row {covers = covers} {zeros = no_cover 4} h e (no_cover_at 4) c
    by false e = c

past : {rule : FillRule} {tile layer : ℕ} {row : List ℕ} (covers : List ℤ) → FromRow gpu 4 rule tile layer row covers → FromRow gpu 4 rule (suc tile) layer row (dropped rule (carry_of gpu 4 covers (part_of gpu tile layer row)))
past {rule} {tile} {layer} {row} covers c =
    let part = part_of gpu tile layer row in
    dropped_carry (carry_of gpu 4 covers part) (carry_length gpu 4 covers part)
    (rw (← add-one tile) (carry_from_row {covers = covers} c))

-- the lines below a condition matter only where it does not apply
below : (t : Bool) (number : ℕ) (a b : Judgement) → (t ≡ false → a ≡ b) → unless t number a ≡ unless t number b
below true number a b h = refl
below false number a b h = h refl

-- ---- the carries of a row

module _ (c : LayerCall) where
  cover_wide : (n : ℕ) → length (cover_on c n) ≡ 4
  unfolding cover_on
  cover_wide zero = carry_length gpu 4 (no_cover 4) _
  cover_wide (suc n) = dropped_length (layer_rule c) _ (carry_length gpu 4 (cover_on c n) _)

  cover_from_row : (n : ℕ) → FromRow gpu 4 (layer_rule c) (suc (layer_tile_on c n)) c.layer c.row (cover_on c n)
  unfolding cover_on
  cover_from_row zero = rw (add-zero (plus c.from)) opening_from_row
  cover_from_row (suc n) = rw (add-suc (plus c.from) n) (past (cover_on c n) (cover_from_row n))

  -- before the first tile
  pub start : layer_state_on c 0 ≡ first_state c
  unfolding cover_on
  start = let none : layer_tile_on c 0 ≡ plus c.from = add-zero (plus c.from) in λ i. record { tile_y = plus c.tile_y; from = plus c.from; to = plus c.to; next = none i; layer = c.layer; rule = layer_rule c; covers = (first_state c).covers }

  -- ---- what the row alone says

  -- a call that is due to be accepted is that of the next tile
  pub next_tile : (n : ℕ) (choice : LayerChoice) → layer_due_verdict c n choice ≡ pass → (choice.tile ≡ pos (layer_tile_on c n)) × (layer_tile_on c n < plus c.to)
  unfolding layer_due_verdict
  next_tile n choice e =
      let nine = unless (not (is_light gpu 4 (cover_on c n) (layer_part_on c n choice.row))) 9 pass in
      let three = unless (not (is_row gpu (suc (plus c.tile_y)) choice.row)) 3 nine in
      let two = unless (is_tile_not_due c n choice.tile) 2 three in
      let one = passed (ltb (length choice.plane) 64) 1 two e in
      is_next (layer_state_on c n) choice.tile (passed (is_tile_not_due c n choice.tile) 2 three one.1).0

  pub layer_facts : (n : ℕ) → LayerFacts c n
  layer_facts n =
      record {
        wide = cover_wide n;
        sums = cover_from_row n;
        tile_is = λ choice e. (next_tile n choice e).0;
      }

  -- ---- the verdict at a state is the one that is due

  module _ (p : OpenPassed c) (n : ℕ) (inside : layer_tile_on c n ≤ plus c.to) (choice : LayerChoice) where
    not_astray : is_astray (layer_state_on c n) ≡ false
    not_astray =
        let s = p.span in
        rw (
          le-ltb 8190 (plus c.tile_y) s.row.1,
          le-ltb 4095 (plus c.to) s.last.1,
          le-ltb (layer_tile_on c n) (plus c.from) (omega arith),
          le-ltb (plus c.to) (layer_tile_on c n) inside,
        )
        refl

    -- 3 and 9, once 2 does not apply
    abbrev rest : List ℕ → Judgement
    rest part = unless (not (is_row gpu (suc (plus c.tile_y)) choice.row)) 3 (unless (not (is_light gpu 4 (cover_on c n) part)) 9 pass)

    pub verdict_due : work_layer_verdict (layer_state_on c n) choice.tile choice.row choice.plane ≡ layer_due_verdict c n choice
    unfolding work_layer_verdict layer_due_verdict
    verdict_due =
        ap (λ (t : Bool). unless (ltb (length choice.plane) 64) 1 (unless (t || is_tile_not_due c n choice.tile) 2 (rest (part_of gpu (suc (plus choice.tile)) c.layer choice.row)))) not_astray
        ∙ ap (unless (ltb (length choice.plane) 64) 1)
        (below (is_tile_not_due c n choice.tile) 2 _ _
        (λ e. ap (λ (t : ℤ). rest (part_of gpu (suc (plus t)) c.layer choice.row)) (is_next (layer_state_on c n) choice.tile e).0))

    -- the state past the tile
    past_due : {row : List ℕ} → choice.tile ≡ pos (layer_tile_on c n) → row ≡ c.row → past_tile (layer_state_on c n) (layer_tile (layer_state_on c n) choice.tile row) ≡ layer_state_on c (suc n)
    unfolding cover_on
    past_due {row} there same =
        let on : layer_tile_on c n + 1 ≡ layer_tile_on c (suc n) = omega arith in
        let part : layer_tile (layer_state_on c n) choice.tile row ≡ layer_part_on c n c.row = rw (there, same) refl in
        λ i.
        record {
          tile_y = plus c.tile_y;
          from = plus c.from;
          to = plus c.to;
          next = on i;
          layer = c.layer;
          rule = layer_rule c;
          covers = dropped (layer_rule c) (carry_of gpu 4 (cover_on c n) (part i));
        }

    -- ---- a call gives what is due

    given_by : (j : Judgement) → layer_due_verdict c n choice ≡ j → (j ≡ pass → choice.row ≡ c.row) → worked_by j (layer_state_on c n) choice ≡ layer_out j c n choice.plane
    given_by (refuse number) v same = refl
    given_by pass v same =
        let there = (layer_facts n).tile_is choice v in
        let state_is = past_due there (same refl) in
        let plane_is : (worked_by pass (layer_state_on c n) choice).plane ≡ (layer_out pass c n choice.plane).plane =
        rw (there, same refl) (ap (λ (l : List Float). over l choice.plane) (plane_from_row {covers = cover_on c n} (lit< tt) (cover_from_row n))) in
        λ i. record { answer = pass; state = state_is i; plane = plane_is i }

    pub work_given : (layer_due_verdict c n choice ≡ pass → choice.row ≡ c.row) → work_layer_of (layer_state_on c n) choice ≡ work_layer_due c n choice
    work_given same = ap (λ (j : Judgement). worked_by j (layer_state_on c n) choice) verdict_due ∙ given_by (layer_due_verdict c n choice) refl same

    pub inside_after : (j : Judgement) → layer_due_verdict c n choice ≡ j → layer_tile_on c (tiles_after j n) ≤ plus c.to
    inside_after (refuse number) v = inside
    inside_after pass v = let t : layer_tile_on c n < plus c.to = (next_tile n choice v).1 in omega (arith, t)

  pub state_after_lem : (n : ℕ) (plane : List Float) (j : Judgement) → (layer_out j c n plane).state ≡ layer_state_on c (tiles_after j n)
  state_after_lem n plane pass = refl
  state_after_lem n plane (refuse number) = refl
