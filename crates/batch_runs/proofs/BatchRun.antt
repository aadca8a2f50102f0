-- A batch in a run is a list of calls of that run, so that what it gives is what is due; and there is such a batch. Assumes nothing.
use Rattle.std.specs.Prelude.{◌≡◌, ◌||◌, ◌++◌, ◌+◌, ◌*◌, ◌/◌, ◌≤◌, ◌<◌, Option}
use Rattle.laws.proofs.Prelude.{refl, ap, sym, subst, ◌∙◌, true, false, List, [], ℕ, zero, suc, min, arith}
use Rattle.laws.proofs.Prelude.{eq-eqb, le-ltb, lt-ltb, le-leb, lt-leb, ltb, leb, Float, binary32, of_bits, pos, length, replicate, length-replicate}
use Rattle.laws.proofs.Prelude.{both}
use Rattle.refusals.specs.Refusal.{pass}
use Rattle.pixel_segment.specs.Field.{cpu}
use Rattle.segment_rows.specs.Rows.{is_row}
use Rattle.styling.specs.declared.Color.{Color}
use Rattle.queue_statements.specs.Queue.{is_queue}
use Rattle.row_statements.specs.Lent.{Columns, LentTable, is_queue_short, is_list_short, is_lent_short}
use Rattle.row_statements.specs.State.{State, is_stray, is_not_next}
use Rattle.row_statements.specs.TileWork.{work_lent, args_verdict}
use Rattle.row_statements.specs.Due.{OpenRow, Past}
use Rattle.row_statements.specs.Claim.{past_after}
use Rattle.row_statements.specs.Run.{open_row, Held, Event, Run}
use Rattle.row_statements.specs.InnerHolding.{IsOpen, Holds}
use Rattle.row_statements.proofs.WorkSteps.{not_stray}
use Rattle.row_statements.proofs.Run.{accepted, is_open, held_first_lem, step_right, run}
use Rattle.row_lines.specs.Driven.{empty_queue}
use Rattle.batch_statements.specs.BatchLent.{BatchLent, batch_lent, room_in, has_room}
use Rattle.batch_statements.specs.Batch.{BatchRow, BatchCall, batch_row, batch_call, batch_start, batch_of, own_list, call_at, tiles_from}
use Rattle.batch_statements.specs.declared.Room as room
use Rattle.batch_runs.specs.BatchClaim.{CalledIn, taken_by, IsRun, BatchClaim}
use Rattle.batch_runs.proofs.BatchTiles.{run_append, DrivenTo, driven}

-- ---- after any calls

pub record HeldBy (o : OpenRow) (h : Held) : Type 0 where
  pub past : Past
  pub holds : Holds o past h

run_held : {o : OpenRow} {p : Past} {h h' : Held} {es : List Event} → IsOpen o → Holds o p h → Run o h es h' → HeldBy o h'
run_held {p = p} is_open holds Run.none = record { past = p; holds = holds }
run_held {o = o} {p = p} is_open holds (Run.next {e = e} s rest) = run_held {p = past_after o e p} is_open (step_right is_open holds s).1 rest

module _ (o : OpenRow) (is_open : IsOpen o) (h : Held) (c : BatchCall) (m : BatchLent) (by : HeldBy o h) (called : CalledIn o h c m) where
  over_is : c.over ≡ batch_row o.row o.table c.over.keeps c.over.clear c.over.previous
  over_is = λ i. record { row = called.row i; table = called.table i; keeps = c.over.keeps; clear = c.over.clear; previous = c.over.previous }

  abbrev lent_room : room.Room
  lent_room = room_in c.over.keeps c.over.table.count m

  here : DrivenTo o c.over lent_room c.tiles h (batch_start c m) (batch_of c m)
  unfolding batch_of
  here =
      let count : lent_room.needed ≡ min 256 o.table.count = ap (λ (t : LentTable). min 256 t.count) called.table in
      subst (λ (x : BatchRow). DrivenTo o x lent_room c.tiles h (batch_start c m) (tiles_from x lent_room c.tiles (batch_start c m))) (sym over_is)
      (driven o is_open c.over.keeps c.over.clear c.over.previous lent_room c.tiles by.past.tiles by.past.clip h (batch_start c m) by.holds called.state called.queue (record { long = omega arith; needed = count }))

  pub is_run : IsRun o h c m
  is_run =
      let d = here in
      record {
        events = d.events;
        after = d.after;
        runs = d.runs;
        calls = d.calls;
        state = d.state;
        queue = d.queue;
        taken = took (batch_of c m).at.worked refl (d.taken (λ some. absurd (omega arith))) d.still;
      }
    where
      took : {after other : Columns} (worked : ℕ) → (batch_of c m).at.worked ≡ worked → (0 < (batch_of c m).at.worked → after ≡ other) → ((batch_of c m).at.worked ≡ 0 → after ≡ h.taken) → after ≡ taken_by worked h.taken other
      took zero e other same = same e
      took (suc k) e other same = other (omega (arith, e))

pub batch_run : BatchClaim
batch_run k lent back s es h c m w g r called =
    let a = accepted k lent back s g in
    let opened_row = is_open k lent back s w a in
    let goes = is_run (open_row k) opened_row h c m (run_held opened_row (held_first_lem k lent back s w a) r) called in
    record { is_run = goes; right = (run k lent back s (es ++ goes.events) goes.after w g (run_append r goes.runs)).1 }

-- ---- the claim is not empty: wherever a tile is left, any number of tiles can be asked for; there is room for all of them, and 1 to 6 do not refuse the first

module _ (o : OpenRow) (p : Past) (h : Held) (is_open : IsOpen o) (holds : Holds o p h) (inside : o.from + p.tiles < o.to) (tiles : ℕ) (clear : Color) (previous : Option Color) where
  abbrev zero_coverage : Float
  zero_coverage = of_bits binary32 0

  abbrev pub enough_lent : BatchLent
  enough_lent = batch_lent h.queue empty_queue [] (replicate (tiles * 6) 0) (replicate (tiles * 4) zero_coverage) (replicate (tiles * 65536) zero_coverage) (replicate (tiles * 512) 0)

  abbrev pub asked : BatchCall
  asked = batch_call h.state (pos (o.from + p.tiles)) tiles (batch_row o.row o.table false clear previous)

  pub callable : CalledIn o h asked enough_lent
  callable = record { state = refl; row = refl; table = refl; queue = refl }

  -- each tile uses 256 planes at most
  pub enough_room : (worked used : ℕ) → worked < tiles → used ≤ worked * 256 → has_room (room_in false o.table.count enough_lent) worked used ≡ true
  enough_room worked used more few =
      let told : length enough_lent.told ≡ tiles * 6 = length-replicate {A = ℕ} (tiles * 6) 0 in
      let bottoms : length enough_lent.bottoms ≡ tiles * 4 = length-replicate (tiles * 4) zero_coverage in
      let planes : length enough_lent.planes ≡ tiles * 65536 = length-replicate (tiles * 65536) zero_coverage in
      let words : length enough_lent.painted ≡ tiles * 512 = length-replicate {A = ℕ} (tiles * 512) 0 in
      let t = min (length enough_lent.told / 6) (length enough_lent.bottoms / 4) in
      let n = min (length enough_lent.planes / 256) (length enough_lent.painted / 2) in
      let u = used + min 256 o.table.count in
      both (ltb worked t) (leb u n) (lt-ltb worked t (omega (arith, told, bottoms, more))) (le-leb u n (omega (arith, planes, words, more, few)))

  pub left : leb h.state.to h.state.next ≡ false
  left = ap (λ (x : State). leb x.to x.next) holds.state ∙ lt-leb o.to (o.from + p.tiles) inside

  short_is : (is_queue_short h.queue || is_queue_short empty_queue || is_lent_short o.table || is_list_short (own_list asked.over)) ≡ false
  short_is = λ i. holds.queue.long i || is_queue_short empty_queue || is_open.table_long i || is_list_short (own_list asked.over)

  wrong_is : (is_stray h.state || is_not_next h.state (pos (o.from + p.tiles))) ≡ false
  wrong_is =
      let n = o.from + p.tiles in
      rw (holds.state, not_stray o p is_open.tile_y is_open.last holds.inside, lt-leb o.to n inside, le-ltb n 0 (omega arith), eq-eqb n n refl)

  pub first_passes : args_verdict (call_at asked.over (batch_start asked enough_lent)) (work_lent empty_queue (own_list asked.over)) ≡ pass
  unfolding args_verdict
  first_passes =
      let ordered : is_queue h.state.left h.queue.ids ≡ true = ap (λ (x : State). is_queue x.left h.queue.ids) holds.state ∙ holds.queue.ordered in
      let row : is_row cpu (suc h.state.tile_y) o.row ≡ true = ap (λ (x : State). is_row cpu (suc x.tile_y) o.row) holds.state ∙ is_open.in_order.is_row_lem in
      rw (short_is, wrong_is, row, is_open.in_table, ordered)
