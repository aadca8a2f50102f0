-- A batch before its first tile: what 1 to 5 leave lets the tiles be worked, and where none is worked, or the first is refused, everything is as it was.
-- Assumes nothing.
use Rattle.refusals.specs.declared.Refusal.{Refusal}
use Rattle.std.specs.Prelude.{◌≡◌, ◌&&◌, ◌||◌, ◌-◌, ◌/◌, Result}
use Rattle.laws.proofs.Prelude.{refl, ap, sym, subst, ◌∙◌, Bool, true, false, not, cond, ℕ, suc}
use Rattle.laws.proofs.Prelude.{min, arith, not-false, ltb, ℤ, pos, length}
use Rattle.refusals.specs.Refusal.{Judgement, pass, refuse, unless, and_then, judgement_in}
use Rattle.refusals.proofs.Judging.{passed, or_left, or_right}
use Rattle.pixel_segment.specs.Field.{cpu}
use Rattle.segment_rows.specs.Rows.{Words, is_row}
use Rattle.queue_statements.specs.Queue.{is_queue}
use Rattle.cached_tile.specs.Kept.{tag_out_of_range}
use Rattle.row_statements.specs.Lent.{is_queue_short, is_lent_short, is_lent_table}
use Rattle.row_statements.specs.State.{state_in, is_stray, is_not_next, is_wrong_next}
use Rattle.row_statements.specs.Conditions.{first_five}
use Rattle.row_statements.specs.TileWork.{layers_verdict, says_for, args_verdict, work_lent, work_out}
use Rattle.row_statements.specs.InnerWork.{judged_by}
use Rattle.row_statements.specs.declared.RowState.{RowState}
use Rattle.row_statements.proofs.Works.{is_next}
use Rattle.batch_statements.specs.BatchLent.{BatchLent, kept_at, room_in, has_room}
use Rattle.batch_statements.specs.Batch.{BatchRow, BatchCall, BatchAt, BatchGiven, TurnGiven, next_refused, ended_at, batch_call, batch_start, batch_of, own_list, call_at, turn_by, turn_of, next_by, tiles_from, GivesBatch}
use Rattle.batch_statements.specs.declared.Batch.{Batch}
use Rattle.batch_statements.specs.declared.Room.{Room}
use Rattle.batch_steps.specs.InnerStanding.{starting, is_pass, goes_on, end_by, Ends}
use Rattle.batch_steps.specs.declared.Standing.{Standing}
use Rattle.tile_batch.specs.InnerTurns.{is_batch_short, batch_in, BatchRoom, Startable}
use Rattle.tile_batch.proofs.Going.{Goes, goes, turned, ended}

no_more : (b : Bool) → (b || false) ≡ b
no_more true = refl
no_more false = refl

-- where one of the first five lines refuses, the lines below say nothing
five_refuse : (a b d e f : Bool) (n : ℕ) (below : Judgement) → unless a 1 (unless b 2 (unless d 3 (unless e 4 (unless f 5 pass)))) ≡ refuse n → unless a 1 (unless b 2 (unless d 3 (unless e 4 (unless f 5 below)))) ≡ refuse n
five_refuse true b d e f n below h = h
five_refuse false true d e f n below h = h
five_refuse false false true e f n below h = h
five_refuse false false false true f n below h = h
five_refuse false false false false true n below h = h
five_refuse false false false false false n below h = absurd (let z : ◌≡◌ {A = ℕ} 0 1 = cc in omega arith)

module _ (state : RowState) (tile : ℤ) (tiles : ℕ) (c : BatchRow) (m : BatchLent) where
  abbrev pub called : BatchCall
  called = batch_call (state_in state) tile tiles c

  abbrev pub room : Room
  room = room_in c.keeps c.table.count m

  -- 1 to 5 of the first tile
  abbrev pub judged : Judgement
  judged = judged_by (is_batch_short c.table m.queue m.other) (state_in state) tile c.row c.table m.queue.ids

  abbrev pub standing : Result Unit Refusal → Standing
  standing v = record { state = state; worked = 0; used = 0; first = true; verdict = v }

  -- ---- a first tile that one of them refuses

  turn_is : {n : ℕ} → judged ≡ refuse n → turn_of c (batch_start called m) ≡ record { at = batch_start called m; verdict = refuse n }
  unfolding turn_of work_out judged_by args_verdict
  turn_is {n} e =
      let s = batch_start called m in
      let short = is_batch_short c.table m.queue m.other in
      let six = unless (tag_out_of_range (kept_at c.keeps m.kept 0)) 6 pass in
      let args : args_verdict (call_at c s) (work_lent m.other (own_list c)) ≡ refuse n =
      ap (λ (b : Bool). first_five b (is_wrong_next (state_in state) tile) state.tile_y c.row c.table state.left m.queue.ids six) (no_more short)
      ∙ five_refuse short (is_wrong_next (state_in state) tile) (not (is_row cpu (suc state.tile_y) c.row)) (not (is_lent_table c.table)) (not (is_queue state.left m.queue.ids)) n six e in
      ap (λ (j : Judgement). let g = work_out (and_then j (layers_verdict (call_at c s))) (says_for (call_at c s)) (state_in state) (kept_at c.keeps m.kept 0) (work_lent m.other (own_list c)) in turn_by c g.answer s g) args

  refused_first : {n : ℕ} → judged ≡ refuse n → Goes pass 0 0 state.next state.to tiles room → batch_of called m ≡ ended_at (batch_start called m) (next_refused n)
  unfolding batch_of
  refused_first e h =
      let s = batch_start called m in
      let some : tiles ≡ suc (tiles - 1) = let x = h.more in omega (arith, x) in
      ap (λ (k : ℕ). tiles_from c room k s) some
      ∙ turned c room s (tiles - 1) h.inside h.room
      ∙ ap (λ (g : TurnGiven). next_by c g.verdict s (tiles_from c room (tiles - 1) g.at)) (turn_is e)

  -- ---- where no tile is worked

  abbrev goes_by : Judgement → Bool
  goes_by v = is_pass v && ltb 0 tiles && ltb state.next state.to && has_room room 0 0

  ended_first : (go : Bool) → go ≡ goes_by pass → (v : Judgement) → v ≡ cond go judged pass → goes_by v ≡ false → batch_of called m ≡ ended_at (batch_start called m) (end_by v (state_in state) 0 tiles)
  unfolding batch_of
  ended_first go eg pass ev h = ended c room (batch_start called m) tiles tiles (omega arith) h
  ended_first true eg (refuse n) ev h = refused_first (sym ev) (goes pass 0 0 state.next state.to tiles room (sym eg))
  ended_first false eg (refuse n) ev h = absurd (let z : ◌≡◌ {A = ℕ} 0 1 = cc in omega arith)

  pub batch_ended : {go : Bool} (v : Result Unit Refusal) {r : Batch} → go ≡ goes_on (starting state) tiles room → judgement_in v ≡ cond go judged pass → goes_on (standing v) tiles room ≡ false → Ends (standing v) tiles r → GivesBatch (batch_of called m) r m
  batch_ended {go} v {r} eg ev h e =
      subst (λ (g : BatchGiven). GivesBatch g r m) (sym (ended_first go eg (judgement_in v) ev h))
      (record { state = ap state_in e.state; worked = e.worked; used = e.used; first = e.first; answer = e.answer; lent_is = refl })

  -- ---- where tiles are worked

  judged_passes : (go : Bool) (v : Judgement) → v ≡ cond go judged pass → go ≡ goes_by pass → goes_by v ≡ true → judged ≡ pass
  judged_passes true pass ev eg h = sym ev
  judged_passes false pass ev eg h = absurd (let z : ◌≡◌ {A = Bool} true false = sym h ∙ sym eg in let y : ◌≡◌ {A = ℕ} 0 1 = cc in omega arith)
  judged_passes go (refuse n) ev eg h = absurd (let z : ◌≡◌ {A = ℕ} 0 1 = cc in omega arith)

  pub passes : {go : Bool} (v : Result Unit Refusal) → go ≡ goes_on (starting state) tiles room → judgement_in v ≡ cond go judged pass → goes_on (standing v) tiles room ≡ true → judged ≡ pass
  passes {go} v eg ev h = judged_passes go (judgement_in v) ev eg h

  module _ (v : judged ≡ pass) where
    -- what each line of the judge tells
    record Lines : Type 0 where
      short : is_batch_short c.table m.queue m.other ≡ false
      wrong : (is_stray (state_in state) || is_not_next (state_in state) tile) ≡ false
      row : not (is_row cpu (suc state.tile_y) c.row) ≡ false
      table : not (is_lent_table c.table) ≡ false
      queue : not (is_queue state.left m.queue.ids) ≡ false

    lines : Lines
    unfolding judged_by
    lines =
        let q = not (is_queue state.left m.queue.ids) in
        let t = not (is_lent_table c.table) in
        let r = not (is_row cpu (suc state.tile_y) c.row) in
        let w = is_stray (state_in state) || is_not_next (state_in state) tile in
        let five = unless q 5 pass in
        let four = unless t 4 five in
        let three = unless r 3 four in
        let first = passed (is_batch_short c.table m.queue m.other) 1 (unless w 2 three) v in
        let second = passed w 2 three first.1 in
        let third = passed r 3 four second.1 in
        let fourth = passed t 4 five third.1 in
        record { short = first.0; wrong = second.0; row = third.0; table = fourth.0; queue = (passed q 5 pass fourth.1).0 }

    rooms_of : BatchRoom c.keeps c.table.count room m
    rooms_of = by c.keeps refl
      where
        by : (k : Bool) → c.keeps ≡ k → BatchRoom c.keeps c.table.count room m
        by true e =
            let t : room.tiles ≡ min (length m.kept / 8) (min (length m.told / 6) (length m.bottoms / 4)) = ap (λ (b : Bool). cond b (min (length m.kept / 8) (min (length m.told / 6) (length m.bottoms / 4))) (min (length m.told / 6) (length m.bottoms / 4))) e in
            record { kept = λ h. omega (arith, t); told = omega (arith, t); bottoms = omega (arith, t); planes_long = omega arith; painted_long = omega arith; needed = refl }
        by false e =
            let t : room.tiles ≡ min (length m.told / 6) (length m.bottoms / 4) = ap (λ (b : Bool). cond b (min (length m.kept / 8) (min (length m.told / 6) (length m.bottoms / 4))) (min (length m.told / 6) (length m.bottoms / 4))) e in
            record { kept = λ h. absurd (let z : ◌≡◌ {A = Bool} true false = sym h ∙ e in let y : ◌≡◌ {A = ℕ} 0 1 = cc in omega arith); told = omega (arith, t); bottoms = omega (arith, t); planes_long = omega arith; painted_long = omega arith; needed = refl }

    pub startable : Words c.row → Startable c state room m
    startable w =
        let q = is_queue_short m.queue in
        let o = is_queue_short m.other in
        let t = is_lent_short c.table in
        let l = lines in
        let two = or_left (q || o) t l.short in
        record {
          stands =
              record {
                is_tile = refl;
                in_state = or_left (is_stray (state_in state)) (is_not_next (state_in state) tile) l.wrong;
                words = w;
                ascends = not-false (is_row cpu (suc state.tile_y) c.row) l.row;
                in_table = not-false (is_lent_table c.table) l.table;
                table_long = or_right (q || o) t l.short;
                queue_room = or_left q o two;
                other_room = or_right q o two;
                in_queue = not-false (is_queue state.left m.queue.ids) l.queue;
              };
          room = rooms_of;
        }

    tile_is : pos state.next ≡ tile
    tile_is = sym (is_next (state_in state) tile (or_right (is_stray (state_in state)) (is_not_next (state_in state) tile) lines.wrong)).is_tile

    pub batch_passed : {r : Batch} {back : BatchLent} → GivesBatch (tiles_from c room tiles (batch_in (starting state) m)) r back → GivesBatch (batch_of called m) r back
    unfolding batch_of
    batch_passed {r} {back} g =
        let start : batch_in (starting state) m ≡ batch_start called m = ap (λ (t : ℤ). record { state = state_in state; tile = t; first = true; worked = 0; used = 0; lent = m }) tile_is in
        subst (λ (x : BatchGiven). GivesBatch x r back) (ap (λ (s : BatchAt). tiles_from c room tiles s) start) g
