-- What is told of an edit by numbers, from what the operation gives. Assumes nothing.
use Rattle.std.specs.Prelude.{◌≡◌}
use Rattle.laws.proofs.Prelude.{ap, ◌∙◌, List, ℕ, ℤ}
use Rattle.refusals.specs.Refusal.{Judgement, judgement_in}
use Rattle.segment_set_statements.specs.Set.{SetState, Beginning, Gives, begin_verdict, begin_of}
use Rattle.segment_set_statements.specs.declared.Edited.{Edited}
use Rattle.ffi_numbers.specs.Numbers.{judged_number}
use Rattle.ffi_sets.specs.Sets.{SetPlace, placed_by, SetNumbers, edited_numbers, SetLent, set_lent, EditTold, BeginTold}

-- an edit
pub edited : {v : Judgement} {after : SetState} {e : Edited} {old : SetLent} {new : SetNumbers} {r : ℕ} {slots : List ℕ} {areas : List ℤ} →
    Gives v after e slots areas →
    (r ≡ judged_number (judgement_in e.verdict)) × (new ≡ edited_numbers (judgement_in e.verdict) e.set old.numbers) →
    EditTold v after old r (set_lent old.place new slots areas)
edited {old = old} gives told =
    let numbers = told.1 ∙ λ i. edited_numbers (gives.answer i) (gives.leaves i).set old.numbers in
    record {
      number = told.0 ∙ ap judged_number gives.answer;
      lent_is = λ i. set_lent old.place (numbers i) (gives.leaves i).slots (gives.leaves i).areas;
    }

-- a beginning
pub begun : {b : Beginning} {e : Edited} {old : SetLent} {place : SetPlace} {new : SetNumbers} {r : ℕ} {slots : List ℕ} {areas : List ℤ} →
    Gives (begin_verdict b old.slots old.areas) (begin_of b old.slots old.areas) e slots areas →
    place ≡ placed_by (judgement_in e.verdict) e.set old.place →
    (r ≡ judged_number (judgement_in e.verdict)) × (new ≡ edited_numbers (judgement_in e.verdict) e.set old.numbers) →
    BeginTold b old r (set_lent place new slots areas)
begun {old = old} gives placed told =
    let at = placed ∙ λ i. placed_by (gives.answer i) (gives.leaves i).set old.place in
    let numbers = told.1 ∙ λ i. edited_numbers (gives.answer i) (gives.leaves i).set old.numbers in
    record {
      number = told.0 ∙ ap judged_number gives.answer;
      lent_is = λ i. set_lent (at i) (numbers i) (gives.leaves i).slots (gives.leaves i).areas;
    }
