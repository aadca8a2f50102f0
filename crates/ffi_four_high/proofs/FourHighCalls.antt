-- The claim of specs/FourHighCalls. Assumes nothing.
use Rattle.std.specs.Prelude.{◌≡◌, ◌∷◌, ◌+◌, ◌≤◌}
use Rattle.laws.proofs.Prelude.{refl, sym, ap, subst, ◌∙◌, Bool, true, false, not, List, [], ℕ, suc, arith, plus}
use Rattle.refusals.specs.Refusal.{Judgement, pass, refuse, unless}
use Rattle.pixel_segment.specs.Field.{gpu}
use Rattle.segment_rows.specs.Rows.{is_row}
use Rattle.styling.specs.Codes.{rule_of, rule_code}
use Rattle.styling.specs.declared.FillRule.{FillRule}
use Rattle.styling.specs.declared.FillRule.TheVariants.{NonZero, EvenOdd}
use Rattle.cover_statements.specs.Carry.{is_light}
use Rattle.cover_statements.specs.Cover.{no_cover}
use Rattle.layer_row_gpu.specs.LayerState.{LayerState, has_bad_span}
use Rattle.layer_row_gpu.specs.OpenLayer.{LayerCall, layer_left, is_bad_record, open_layer_verdict, call_verdict_of, opened_state}
use Rattle.layer_row_gpu.specs.WorkLayer.{LayerChoice, LayerGiven, work_layer_of}
use Rattle.layer_row_gpu.specs.WorkTiles.{TilesChoice, TilesGiven, work_tiles_of}
use Rattle.layer_row_gpu.specs.LayerDue.{layer_tile_on, layer_state_on, layer_due_verdict, layer_out, work_layer_due, tiles_after, tiles_due_verdict, tiles_out, work_tiles_due}
use Rattle.layer_row_gpu.specs.LayerExample.{CallChoice}
use Rattle.layer_row_gpu.proofs.Verdicts.{OpenPassed, open_passed}
use Rattle.layer_row_gpu.proofs.Dues.{layer_facts, start, work_given, inside_after, state_after_lem}
use Rattle.layer_row_gpu.proofs.Ranges.{tiles_given, tiles_inside, tiles_state}
use Rattle.layer_row_gpu.proofs.Runs.{turned_down, range_turned_down}
use Rattle.ffi_numbers.specs.Numbers.{judged_number}
use Rattle.ffi_four_high.specs.FourHighRows.{LayerNumbers, layer_state_from, layer_row_words, layer_numbers_by, TilesNumbers, tiles_numbers_by, WorkLayerTold, TilesTold}
use Rattle.ffi_four_high.specs.FourHighCalls.{state_held, LayerTold, NumberCall, NumberCalls, AllTold, NumbersClaim, NumbersExist}

-- ---- an opening that tells 0 is accepted

zero_passes : (a b c d : Bool) → 0 ≡ judged_number (unless a 2 (unless b 3 (unless c 4 (unless d 9 pass)))) → unless a 2 (unless b 3 (unless c 4 (unless d 9 pass))) ≡ pass
zero_passes true b c d e = absurd (omega (arith, e))
zero_passes false true c d e = absurd (omega (arith, e))
zero_passes false false true d e = absurd (omega (arith, e))
zero_passes false false false true e = absurd (omega (arith, e))
zero_passes false false false false e = refl

accepted : (c : LayerCall) → 0 ≡ judged_number (call_verdict_of c) → call_verdict_of c ≡ pass
unfolding open_layer_verdict
accepted c e =
    zero_passes (has_bad_span c.tile_y c.from c.to) (not (is_row gpu (suc (plus c.tile_y)) c.row)) (is_bad_record c.layer c.rule)
    (not (is_light gpu 4 (no_cover 4) (layer_left c.from c.layer c.row))) e

-- ---- the numbers of a state are those of that state

rule_back : (r : FillRule) → rule_of (rule_code r) ≡ r
rule_back NonZero = refl
rule_back EvenOdd = refl

state_back : (s : LayerState) → layer_state_from (layer_row_words s) s.covers ≡ s
state_back s =
    λ i. record { tile_y = s.tile_y; from = s.from; to = s.to; next = s.next; layer = s.layer; rule = rule_back s.rule i; covers = s.covers }

-- after a call that gave the state, where a refusal leaves it
held_after : (j : Judgement) {s t : LayerState} (old : LayerNumbers) → state_held old ≡ t → ((n : ℕ) → j ≡ refuse n → s ≡ t) → state_held (layer_numbers_by j s old) ≡ s
held_after pass {s} old is kept = state_back s
held_after (refuse n) old is kept = is ∙ sym (kept n refl)

module _ (c : LayerCall) where
  work_kept : (n : ℕ) (choice : LayerChoice) (j : Judgement) (m : ℕ) → (layer_out j c n choice.plane).answer ≡ refuse m → (layer_out j c n choice.plane).state ≡ layer_state_on c n
  work_kept n choice pass m e = absurd (let z : ◌≡◌ {A = ℕ} 0 1 = cc in omega arith)
  work_kept n choice (refuse number) m e = refl

  range_kept : (n : ℕ) (choice : TilesChoice) (j : Judgement) (m : ℕ) → (tiles_out j c n choice).answer ≡ refuse m → (tiles_out j c n choice).state ≡ layer_state_on c n
  range_kept n choice pass m e = absurd (let z : ◌≡◌ {A = ℕ} 0 1 = cc in omega arith)
  range_kept n choice (refuse number) m e = refl

module _ (c : LayerCall) (p : OpenPassed c) where
  abbrev Then : LayerNumbers → List LayerTold → Type 0
  Then k ts = (m : ℕ) → layer_tile_on c m ≤ plus c.to → state_held k ≡ layer_state_on c m → AllTold c m ts

  module _ (n : ℕ) (inside : layer_tile_on c n ≤ plus c.to) (ts : List LayerTold) where
    work_then : {k new : LayerNumbers} {r : ℕ} (choice : LayerChoice) (back : _) → state_held k ≡ layer_state_on c n → (layer_due_verdict c n choice ≡ pass → choice.row ≡ c.row)
        → WorkLayerTold (work_layer_of (state_held k) choice) k r new back → Then new ts → AllTold c n (LayerTold.work choice k r new back ∷ ts)
    work_then {k} {new} {r} choice back is same w more =
        let v = layer_due_verdict c n choice in
        let d = subst (λ (g : LayerGiven). WorkLayerTold g k r new back) (ap (λ (x : LayerState). work_layer_of x choice) is ∙ work_given c p n inside choice same) w in
        let g = work_layer_due c n choice in (
          d,
          more (tiles_after v n) (inside_after c p n inside choice v refl)
              (ap state_held d.numbers ∙ held_after g.answer k is (work_kept c n choice v) ∙ state_after_lem c n choice.plane v),
        )

    range_then : {old new : TilesNumbers} {r : ℕ} (choice : TilesChoice) (back : _) → state_held old.state ≡ layer_state_on c n → (tiles_due_verdict c n choice ≡ pass → choice.row ≡ c.row)
        → TilesTold (work_tiles_of (state_held old.state) choice) old r new back → Then new.state ts → AllTold c n (LayerTold.range choice old r new back ∷ ts)
    range_then {old} {new} {r} choice back is same w more =
        let d = subst (λ (g : TilesGiven). TilesTold g old r new back) (ap (λ (x : LayerState). work_tiles_of x choice) is ∙ tiles_given c p n inside choice same) w in
        let g = work_tiles_due c n choice in (
          d,
          more (n + g.worked) (tiles_inside c p n inside choice)
              (ap (λ (x : TilesNumbers). state_held x.state) d.numbers
              ∙ held_after g.answer old.state is (range_kept c n choice (tiles_due_verdict c n choice)) ∙ tiles_state c n choice),
        )

    call_then : {k k' : LayerNumbers} {t : LayerTold} → state_held k ≡ layer_state_on c n → NumberCall c k t k' → Then k' ts → AllTold c n (t ∷ ts)
    call_then is (NumberCall.work {choice = choice} {back = back} same w) more = work_then choice back is (λ v. same) w more
    call_then is (NumberCall.other_work {choice = choice} {back = back} refused w) more = work_then choice back is (turned_down c p n inside choice is refused) w more
    call_then is (NumberCall.range {choice = choice} {back = back} same w) more = range_then choice back is (λ v. same) w more
    call_then is (NumberCall.other_range {choice = choice} {back = back} refused w) more = range_then choice back is (range_turned_down c p n inside choice is refused) w more

  all_told : {k k' : LayerNumbers} {ts : List LayerTold} → NumberCalls c k ts k' → Then k ts
  all_told NumberCalls.none n inside is = tt
  all_told (NumberCalls.next {ts = ts} call more) n inside is = call_then n inside ts is call (all_told more)

-- demand 3 by numbers
pub numbers : NumbersClaim
numbers c old new k ts opened calls =
    let ok = accepted c opened.number in
    let p = open_passed c ok in
    let is : state_held new ≡ layer_state_on c 0 =
    ap state_held opened.numbers ∙ ap (λ (j : Judgement). state_held (layer_numbers_by j (opened_state j c) old)) ok ∙ state_back (opened_state pass c) ∙ sym (start c) in
    (layer_facts c, all_told c p calls 0 (omega (arith, p.span.first.1)) is)

-- ---- such calls exist

pub exist : NumbersExist
exist c k [] lends = record { told = []; after = k; calls = NumberCalls.none; choices = refl }
exist c k (CallChoice.one choice ∷ cs) lends =
    let g = work_layer_of (state_held k) choice in
    let new = layer_numbers_by g.answer g.state k in
    let rest = exist c new cs lends.1 in
    record {
      told = LayerTold.work choice k (judged_number g.answer) new g.plane ∷ rest.told;
      after = rest.after;
      calls = NumberCalls.next (NumberCall.work lends.0 (record { number = refl; numbers = refl; plane_is = refl })) rest.calls;
      choices = ap (λ (l : List CallChoice). CallChoice.one choice ∷ l) rest.choices;
    }
exist c k (CallChoice.range choice ∷ cs) lends =
    let g = work_tiles_of (state_held k) choice in
    let old : TilesNumbers = record { state = k; done = 0 ∷ 0 ∷ 0 ∷ [] } in
    let new = tiles_numbers_by g old in
    let rest = exist c new.state cs lends.1 in
    record {
      told = LayerTold.range choice old (judged_number g.answer) new g.planes ∷ rest.told;
      after = rest.after;
      calls = NumberCalls.next (NumberCall.range {old = old} {new = new} lends.0 (record { number = refl; numbers = refl; planes_are = refl })) rest.calls;
      choices = ap (λ (l : List CallChoice). CallChoice.range choice ∷ l) rest.choices;
    }
