-- Beginning with a part is beginning with none and taking its words in, one after the other. Assumes nothing.
use Rattle.std.specs.Prelude.{◌≡◌, ◌+◌, ◌<◌}
use Rattle.laws.proofs.Prelude.{refl, ap, ◌∙◌, true, List, ℕ, zero, suc, add-one, arith, le-ltb, lt-leb, ℤ, length}
use Rattle.laws.proofs.Prelude.{get_or, drop, drop_of_length-le, drop-cons, all_at}
use Rattle.refusals.specs.Refusal.{Judgement, pass}
use Rattle.pixel_segment.specs.Field.{cpu, local_y_of}
use Rattle.cover_statements.specs.Carry.{abs_cover}
use Rattle.segment_set_statements.specs.Set.{SetState, Beginning, begin_verdict, fresh_state, is_of, is_here, take_verdict, taken_in, settled}
use Rattle.segment_set_statements.specs.Edits.{take_all}
use Rattle.segment_set_statements.specs.InnerSpread.{Addable}
use Rattle.segment_set_statements.proofs.Begins.{Adding, up_to, begin_passed, add_start, add_ready, add_next, add_end}

-- what can be added and is of the set's layer and tile passes
pub take_passes : (s : SetState) (w : ℕ) → Addable s w → is_here s.set w ≡ true → take_verdict s w ≡ pass
unfolding take_verdict
take_passes s w a h =
    rw (
      le-ltb (length s.areas) 256 a.room,
      h,
      le-ltb 127 (get_or s.set.loads (local_y_of cpu w) 0 + abs_cover cpu w) a.small,
      lt-leb (length s.slots) s.set.count a.free,
    )

module _ (b : Beginning) (slots : List ℕ) (areas : List ℤ) where
  -- the next word passes
  passes : {i : ℕ} {s : SetState} → Adding b slots areas i s → i < length b.part → take_verdict s (get_or b.part i 0) ≡ pass
  passes {i} {s} c h =
      take_passes s (get_or b.part i 0) (add_ready c h)
      (ap (λ (t : SetState). is_here t.set (get_or b.part i 0)) c.so_far ∙ all_at (is_of b.layer b.tile_x b.tile_y) b.part c.begun.here i 0 h)

  each : (n i : ℕ) (s : SetState) → Adding b slots areas i s → i + n ≡ length b.part → take_all s (drop i b.part) ≡ fresh_state b slots areas
  each zero i s c e = ap (take_all s) (drop_of_length-le b.part {i = i} (omega arith)) ∙ add_end c (omega arith)
  each (suc n) i s c e =
      let h : i < length b.part = omega arith in
      let w = get_or b.part i 0 in
      ap (take_all s) (drop-cons b.part i 0 h)
      ∙ ap (λ (j : Judgement). take_all (settled j (taken_in s w) s) (drop (suc i) b.part)) (passes c h)
      ∙ each n (suc i) (taken_in s w) (rw add-one at (add_next c h refl)) (omega arith)

  pub begun_each : begin_verdict b slots areas ≡ pass → take_all (fresh_state (up_to b 0) slots areas) b.part ≡ fresh_state b slots areas
  begun_each e = each (length b.part) 0 (fresh_state (up_to b 0) slots areas) (add_start (begin_passed e) refl) (omega arith)
