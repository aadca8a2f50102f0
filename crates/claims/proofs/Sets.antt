-- The claims of specs/Sets, cited. Assumes nothing.
use Rattle.segment_set_statements.proofs.Keeping as keeping
use Rattle.segment_set_statements.proofs.Effects as effects
use Rattle.segment_set_statements.proofs.Undoing as undoing
use Rattle.segment_set_statements.proofs.Sames as sames
use Rattle.segment_set_statements.proofs.Alikes as alikes
use Rattle.segment_set_statements.proofs.Each as each
use Rattle.laws.proofs.Prelude.{refl, sym, ap}
use Rattle.refusals.specs.Refusal.{Judgement}
use Rattle.segment_set_statements.specs.Set.{state, nothing, fresh_state, settled}
use Rattle.ffi_numbers.specs.Numbers.{judged_number}
use Rattle.ffi_sets.specs.Sets.{begun_lent}
use Rattle.claims.specs.Sets.{SegmentSets, SetCallsExist}

pub segment_sets : SegmentSets
segment_sets =
    record {
      kept = keeping.kept;
      taken_as_begun = alikes.taken_as_begun;
      small = λ h. (keeping.small h).small;
      effect_more = effects.effect_more;
      cover_more = effects.cover_more;
      load_more = effects.load_more;
      framed_areas = undoing.framed_areas;
      framed_carry = undoing.framed_carry;
      undone = undoing.undone;
      order_law = alikes.order_law;
      same_areas = sames.same_areas;
      same_carry = sames.same_carry;
      same_loads = sames.same_loads;
      begun_each = each.begun_each;
    }

pub set_calls_exist : SetCallsExist
set_calls_exist =
    record {
      begins = λ b old e.
          let fresh = fresh_state b old.slots old.areas in
          let before = state nothing old.slots old.areas in
          record {
            number = sym (ap judged_number e);
            lent_is = sym (ap (λ (j : Judgement). begun_lent j (settled j fresh before) old) e);
          };
      takes = λ k w. record { number = _; new = _; told = record { number = refl; lent_is = refl } };
      lets = λ k w. record { number = _; new = _; told = record { number = refl; lent_is = refl } };
    }
