-- A state written as numbers is read again as it was, a refusal's number is never 0, and an opening that tells 0 leaves what a run begins with. Assumes
-- nothing.
use Rattle.std.specs.Prelude.{◌≡◌, ◌||◌, ◌<◌, Ok}
use Rattle.laws.proofs.Prelude.{refl, ap, sym, subst, ◌∙◌, Bool, true, false, not, cond, Option, Some, None, ℕ, suc, arith, ltb}
use Rattle.laws.proofs.Prelude.{length, Answer, refused, given, plus}
use Rattle.refusals.specs.Refusal.{Judgement, pass, refuse, unless, number_of}
use Rattle.refusals.specs.declared.Refusal.{Refusal}
use Rattle.refusals.specs.declared.Refusal.TheVariants.{Room, Tile, Row, Table, Queue, Tag, Layers, Missing, Covers, Fields, NotHeld, Slots, Bounds, Revisions}
use Rattle.refusals.proofs.Naming.{refusal_of, Named, named}
use Rattle.pixel_segment.specs.Field.{cpu}
use Rattle.segment_rows.specs.Rows.{Words, is_row}
use Rattle.queue_statements.specs.Opening.{open_queue, is_light_opening}
use Rattle.row_statements.specs.Lent.{Columns, is_queue_short, is_lent_short, is_lent_table}
use Rattle.row_statements.specs.State.{State}
use Rattle.row_statements.specs.Opening.{OpenCall, left_of, has_bad_ends, open_verdict, open_count, state_by, open_of, OpensRow}
use Rattle.row_statements.specs.Due.{at_first}
use Rattle.row_statements.specs.Run.{open_row}
use Rattle.row_statements.specs.InnerHolding.{IsOpen, Holds}
use Rattle.row_statements.proofs.Run.{accepted, is_open, held_first_lem}
use Rattle.row_statements.proofs.Runs.{state_out, state_back}
use Rattle.ffi_numbers.specs.Numbers.{refusal_number}
use Rattle.ffi_numbers.specs.Rows.{clip_flag, clip_last, clip_of, state_words, counts_of, state_from, StateNumbers, open_numbers, OpenTold}
use Rattle.ffi_calls.specs.Calls.{held_from, held_opened}

-- ---- a state written as numbers and read again

clip_again : (clip : Option ℕ) → clip_of (clip_flag clip) (clip_last clip) ≡ clip
clip_again None = refl
clip_again (Some last) = refl

abbrev with_clip_of : State → Option ℕ → State
with_clip_of s clip = record { tile_y = s.tile_y; from = s.from; to = s.to; next = s.next; left = s.left; taken = s.taken; clip = clip }

pub state_again : (s : State) → state_from (state_words s) (counts_of s) ≡ s
state_again s = ap (with_clip_of s) (clip_again s.clip)

-- ---- the number of a refusal is not 0

number_positive : (r : Refusal) → 0 < number_of r
number_positive Room = omega arith
number_positive Tile = omega arith
number_positive Row = omega arith
number_positive Table = omega arith
number_positive Queue = omega arith
number_positive Tag = omega arith
number_positive Layers = omega arith
number_positive Missing = omega arith
number_positive Covers = omega arith
number_positive Fields = omega arith
number_positive NotHeld = omega arith
number_positive Slots = omega arith
number_positive Bounds = omega arith
number_positive Revisions = omega arith

pub positive : (n : ℕ) → Named (refuse n) → 0 < n
positive n e = subst (λ (m : ℕ). 0 < m) e (number_positive (refusal_of n))

-- ---- the opening

open_named : (c : OpenCall) (lent : Columns) → Named (open_verdict c lent)
unfolding open_verdict
open_named c lent =
    let four = unless (not (is_lent_table c.table)) 4 pass in
    let three = unless (not (is_row cpu (suc (plus c.tile_y)) c.row)) 3 four in
    let two = unless (has_bad_ends c.tile_y c.from c.to) 2 three in
    named (is_queue_short lent || is_lent_short c.table) 1 two refl
    (named (has_bad_ends c.tile_y c.from c.to) 2 three refl
    (named (not (is_row cpu (suc (plus c.tile_y)) c.row)) 3 four refl (named (not (is_lent_table c.table)) 4 pass refl tt)))

abbrev is_refused : Answer State → ℕ
is_refused (refused n) = 1
is_refused (given s) = 0

module _ (c : OpenCall) (lent : Columns) where
  -- 7 and 9, of a verdict that passes
  by_queue : (many light : Bool) (count n : ℕ) → state_by c.tile_y c.from c.to (cond many (refused 7) (cond light (given count) (refused 9))) ≡ refused n → 0 < n
  by_queue true light count n e = omega (arith, ap refusal_number e)
  by_queue false true count n e = absurd (omega (arith, ap is_refused e))
  by_queue false false count n e = omega (arith, ap refusal_number e)

  by_verdict : (v : Judgement) → Named v → (n : ℕ) → state_by c.tile_y c.from c.to (open_count v (left_of c)) ≡ refused n → 0 < n
  by_verdict (refuse m) h n e = let above : 0 < m = positive m h in omega (arith, above, ap refusal_number e)
  by_verdict pass h n e = by_queue (ltb 256 (length (open_queue (left_of c)))) (is_light_opening (left_of c)) (length (open_queue (left_of c))) n e

  refused_by : (n : ℕ) → (open_of c lent).answer ≡ refused n → 0 < n
  unfolding open_of
  refused_by n e = by_verdict (open_verdict c lent) (open_named c lent) n e

  module _ (w : Words c.row) {back : Columns} {old new : StateNumbers} (t : OpenTold (open_of c lent) old 0 new back) where
    pub opened_held : IsOpen (open_row c) × Holds (open_row c) at_first (held_from (held_opened new back))
    opened_held = by (open_of c lent).answer refl t.number t.numbers
      where
        by : (a : Answer State) → (open_of c lent).answer ≡ a → 0 ≡ refusal_number a → new ≡ open_numbers a old → IsOpen (open_row c) × Holds (open_row c) at_first (held_from (held_opened new back))
        by (refused n) e number numbers = let above : 0 < n = refused_by n e in absurd (omega (arith, above, number))
        by (given s) e number numbers =
            let g : OpensRow (open_of c lent) (Ok (state_out s)) back = record { answer = ap given (state_back s) ∙ sym e; lent_is = t.lent_is } in
            let a = accepted c lent back (state_out s) g in
            let read : state_from new.words new.counts ≡ s = ap (λ (m : StateNumbers). state_from m.words m.counts) numbers ∙ state_again s in
            (is_open c lent back (state_out s) w a, subst (λ (x : State). Holds (open_row c) at_first (record { state = x; queue = back; taken = back })) (state_back s ∙ sym read) (held_first_lem c lent back (state_out s) w a))
