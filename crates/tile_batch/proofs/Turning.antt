-- A tile of a batch: what stands after 1 to 5 lets its work pass without judging the row, the table and the carries again, none of its paintings is
-- refused, and the same stands after it. Assumes nothing.
use Rattle.std.specs.Prelude.{◌≡◌, ◌||◌, ◌∷◌, ◌+◌, ◌*◌, ◌≤◌, ◌<◌, Ok, Err}
use Rattle.laws.proofs.Prelude.{refl, ap, ap₂, sym, subst, ◌∙◌, Bool, true, false, cond, not, List, [], None, ℕ, suc}
use Rattle.laws.proofs.Prelude.{min, arith, le-ltb, lt-leb, eq-eqb, leb-false, leb, Float, ℤ, pos, length, take, sets, length-sets, refused}
use Rattle.laws.proofs.Prelude.{plus}
use Rattle.refusals.specs.Refusal.{Judgement, pass, refuse, unless, and_then, number_of}
use Rattle.refusals.specs.declared.Refusal.{Refusal}
use Rattle.refusals.proofs.Judging.{passed, both_passed, or_left}
use Rattle.pixel_segment.specs.Field.{cpu}
use Rattle.segment_rows.specs.Rows.{is_row}
use Rattle.segment_rows.specs.Search.{tile_part}
use Rattle.styling.specs.Ascending.{strictly_ascends}
use Rattle.styling.specs.declared.Layer.{Layer}
use Rattle.cached_tile.specs.Kept.{tag_out_of_range}
use Rattle.ffi_numbers.specs.Cached.{tile_bytes}
use Rattle.cached_tile.specs.declared.kept.Kept as kept
use Rattle.queue_statements.specs.Queue.{Carry, ids_in, is_queue}
use Rattle.queue_statements.proofs.Judging as queue-judging
use Rattle.queue_statements.proofs.Queues.{ids_queue}
use Rattle.tile_layers.specs.Listing.{incoming_of}
use Rattle.tile_layers.proofs.Ordering.{list_ascends}
use Rattle.layer_carrying.proofs.Handing.{handed_few, handed_wide}
use Rattle.row_carries.proofs.Handed.{handed_ascends}
use Rattle.pass_statements.specs.Decision.{TileDecision, decision_in}
use Rattle.row_statements.specs.Lent.{Columns, ListColumns, carries_in, is_list_short, layers_of}
use Rattle.row_statements.specs.State.{State, state_in, next_state, with_clip, is_stray, is_not_next, is_not_worked}
use Rattle.row_statements.specs.TileWork.{WorkLent, WorkGiven, TileAnswer, work_lent, listed_for, says_for, args_verdict, layers_verdict, tile_answer, work_out, work_answer, GivesWork}
use Rattle.row_statements.specs.InnerWork.{worked_by}
use Rattle.row_statements.specs.declared.TileDone.{TileDone}
use Rattle.row_statements.specs.declared.TileWorked.{TileWorked}
use Rattle.row_statements.specs.InnerHolding.{HoldsQueue}
use Rattle.row_statements.proofs.Holding.{holds_written}
use Rattle.row_statements.proofs.Works.{Listable, list_passed, args_passed, judged}
use Rattle.row_lines.specs.Shown.{shown_in}
use Rattle.shown_layers.specs.Counting.{ids_of}
use Rattle.row_lines.specs.Lines.{is_paint}
use Rattle.row_lines.specs.Calls.{shown_by}
use Rattle.row_lines.proofs.Accepted.{AllPass, shown_pass}
use Rattle.row_driver.specs.InnerSteps as driver
use Rattle.row_driver.proofs.Listed.{front, flags_long, Accepted, accepted, unmasked_front}
use Rattle.shown_layers.proofs.Tallying.{ids_long}
use Rattle.batch_statements.specs.BatchLent.{BatchLent, batch_lent, sided, kept_at, kept_over, tile_numbers, bottoms_over, mixed_of, WordsAt, words_at, mixes_from}
use Rattle.batch_statements.specs.Batch.{BatchRow, BatchAt, TurnGiven, PlanesAt, own_list, call_at, paints_past, planes_past, lent_past, tile_past, turn_by, turn_of, paints_from}
use Rattle.tile_batch.specs.InnerTurns.{batch_in, mix_past, BatchStands, NotesTile, same_flag, GivesTurn, GivesStanding}
use Rattle.batch_painting.specs.InnerShown.{WalkAt, walk_from, PlaneRoom}
use Rattle.tile_batch.proofs.Paintings.{planes_on, PaintsAre, paints_are, worked_right, walk_paints}
use Rattle.batch_painting.proofs.Steps.{walk_shown}
use Rattle.batch_steps.specs.declared.Standing.{Standing}
use Rattle.batch_statements.proofs.ShownFew.{shown_few}
use Rattle.batch_statements.proofs.ListedFew.{listed_few}

two_false : (b : Bool) → (b || false || false) ≡ b
two_false true = refl
two_false false = refl

-- the paintings of a tile that is painted or not
chosen_pass : (paints : Bool) (table : List Layer) (q : List Carry) (part ids : List ℕ) → AllPass table q part ids → AllPass table q part (cond paints ids [])
chosen_pass true table q part ids all = all
chosen_pass false table q part ids all = tt

chosen_few : (paints : Bool) (ids : List ℕ) → length (cond paints ids []) ≤ length ids
chosen_few true ids = omega arith
chosen_few false ids = omega arith

bottoms_long : (d : TileDecision) (i : ℕ) (old : List Float) → length (bottoms_over d i old) ≡ length old
bottoms_long TileDecision.none i old = refl
bottoms_long (TileDecision.solid bottom before) i old = length-sets old (i * 4) (bottom.r ∷ bottom.g ∷ bottom.b ∷ bottom.a ∷ [])
bottoms_long TileDecision.paint i old = refl

-- the words of mixed layers keep the length
mixes_long : (ids : List ℕ) (w : WordsAt) → length (mixes_from w ids).painted ≡ length w.painted
unfolding mixes_from
mixes_long [] w = refl
mixes_long (id ∷ ids) w = mixes_long ids (words_at (w.used + 1) (sets w.painted (w.used * 2) (id ∷ 0 ∷ []))) ∙ length-sets w.painted (w.used * 2) (id ∷ 0 ∷ [])

kept_long : (keeps : Bool) (bytes : List ℕ) (i : ℕ) (k : kept.Kept) → length (kept_over keeps bytes i k) ≡ length bytes
kept_long true bytes i k = length-sets bytes (i * 8) (tile_bytes k.tile)
kept_long false bytes i k = refl

alike_not : (b : Bool) → same_flag b (not b) ≡ false
alike_not true = refl
alike_not false = refl

alike_same : (b : Bool) → same_flag b b ≡ true
alike_same true = refl
alike_same false = refl

-- what a tile leaves as long as it was
pub record SameRoom (m n : BatchLent) : Type 0 where
  pub kept : length n.kept ≡ length m.kept
  pub told : length n.told ≡ length m.told
  pub bottoms : length n.bottoms ≡ length m.bottoms
  pub planes : length n.planes ≡ length m.planes
  pub painted : length n.painted ≡ length m.painted

module _ (c : BatchRow) (s : BatchAt) (stands : BatchStands c s) where
  -- 2 and 6
  abbrev pub own_judged : Judgement
  own_judged = unless (leb s.state.to s.state.next) 2 (unless (tag_out_of_range (kept_at c.keeps s.lent.kept s.worked)) 6 pass)

  -- where a tile is left, 6 alone
  pub own_tag : s.state.next < s.state.to → unless (tag_out_of_range (kept_at c.keeps s.lent.kept s.worked)) 6 pass ≡ own_judged
  own_tag h = rw (lt-leb s.state.to s.state.next h)

  not_next : is_not_next s.state s.tile ≡ leb s.state.to s.state.next
  not_next = rw (stands.is_tile, le-ltb s.state.next 0 (omega arith), eq-eqb s.state.next s.state.next refl) (two_false (leb s.state.to s.state.next))

  wrong_is : (is_stray s.state || is_not_next s.state s.tile) ≡ leb s.state.to s.state.next
  wrong_is = ap (λ (b : Bool). b || is_not_next s.state s.tile) stands.in_state ∙ not_next

  pub args_is : (list : ListColumns) → is_list_short list ≡ false → args_verdict (call_at c s) (work_lent s.lent.other list) ≡ own_judged
  unfolding args_verdict
  args_is list e = rw (stands.queue_room, stands.other_room, stands.table_long, e, wrong_is, stands.ascends, stands.in_table, stands.in_queue)

  -- by the verdict
  turn_with : Judgement → TurnGiven
  turn_with v = let g = work_out v (says_for (call_at c s)) s.state (kept_at c.keeps s.lent.kept s.worked) (work_lent s.lent.other (own_list c)) in turn_by c g.answer s g

  turn_by_lem : turn_of c s ≡ turn_with (and_then own_judged (layers_verdict (call_at c s)))
  unfolding turn_of turn_with
  turn_by_lem = ap (λ (j : Judgement). turn_with (and_then j (layers_verdict (call_at c s)))) (args_is (own_list c) refl)

  pub turn_refused : {n : ℕ} → and_then own_judged (layers_verdict (call_at c s)) ≡ refuse n → turn_of c s ≡ record { at = s; verdict = refuse n }
  unfolding turn_with work_out
  turn_refused e = turn_by_lem ∙ ap turn_with e

  -- what an accepted work gives
  abbrev pub done_with : WorkGiven
  done_with = work_out pass (says_for (call_at c s)) s.state (kept_at c.keeps s.lent.kept s.worked) (work_lent s.lent.other (own_list c))

  pub turn_passed : and_then own_judged (layers_verdict (call_at c s)) ≡ pass → turn_of c s ≡ record { at = tile_past c s (tile_answer (says_for (call_at c s))) done_with; verdict = pass }
  unfolding turn_with work_out
  turn_passed e = turn_by_lem ∙ ap turn_with e

  -- an accepted tile's verdict passes
  pub verdict_of : (turn_of c s).verdict ≡ pass → and_then own_judged (layers_verdict (call_at c s)) ≡ pass
  verdict_of e = by (and_then own_judged (layers_verdict (call_at c s))) refl
    where
      by : (v : Judgement) → and_then own_judged (layers_verdict (call_at c s)) ≡ v → v ≡ pass
      by pass h = refl
      by (refuse n) h = sym (ap (λ (g : TurnGiven). g.verdict) (turn_refused h)) ∙ e

  -- a refused tile's leaves everything
  pub refused_by_turn : {n : ℕ} → (turn_of c s).verdict ≡ refuse n → turn_of c s ≡ record { at = s; verdict = refuse n }
  refused_by_turn {n} e = by (and_then own_judged (layers_verdict (call_at c s))) refl
    where
      by : (v : Judgement) → and_then own_judged (layers_verdict (call_at c s)) ≡ v → turn_of c s ≡ record { at = s; verdict = refuse n }
      by pass h = absurd (let clash : pass ≡ refuse n = sym (ap (λ (g : TurnGiven). g.verdict) (turn_passed h)) ∙ e in let z : ◌≡◌ {A = ℕ} 0 1 = cc in omega arith)
      by (refuse k) h = turn_refused h ∙ ap (λ (j : Judgement). record { at = s; verdict = j }) (sym (ap (λ (g : TurnGiven). g.verdict) (turn_refused h)) ∙ e)

  abbrev pub carries_here : List Carry
  carries_here = carries_in s.state.left s.lent.queue

  abbrev pub part_here : List ℕ
  part_here = tile_part s.tile c.row

  -- its shown layers
  abbrev pub shown_here : List ℕ
  shown_here = shown_in (says_for (call_at c s)).outcome.skipped (says_for (call_at c s)).outcome.unmasked (ids_in (incoming_of (listed_for (call_at c s))))

  -- where neither 2 nor 6 applies, the work asks no more
  pub workable : own_judged ≡ pass → (list : ListColumns) → is_list_short list ≡ false → driver.Workable (call_at c s) (work_lent s.lent.other list)
  workable own list e =
      record {
        judged = judged (call_at c s) (work_lent s.lent.other list) stands.words (args_passed (call_at c s) (work_lent s.lent.other list) (args_is list e ∙ own));
        in_queue = stands.in_queue;
      }

  module _ (v : and_then own_judged (layers_verdict (call_at c s)) ≡ pass) where
    own_passed : own_judged ≡ pass
    own_passed = (both_passed own_judged (layers_verdict (call_at c s)) v).0

    pub inside : s.state.next < s.state.to
    inside = leb-false s.state.to s.state.next (passed _ _ _ own_passed).0

    listable : Listable (layers_of c.table) (listed_for (call_at c s))
    listable = list_passed (layers_of c.table) (listed_for (call_at c s)) (both_passed own_judged (layers_verdict (call_at c s)) v).1

    own_workable : driver.Workable (call_at c s) (work_lent s.lent.other (own_list c))
    own_workable = workable own_passed (own_list c) refl

    up : strictly_ascends (ids_in carries_here) ≡ true
    up =
        ap strictly_ascends (ids_queue s.state.left s.lent.queue.ids s.lent.queue.covers own_workable.judged.walks.long)
        ∙ (queue-judging.ordered s.state.left s.lent.queue.ids stands.in_queue).ascending

    all_pass : AllPass (layers_of c.table) carries_here part_here shown_here
    all_pass = shown_pass (layers_of c.table) carries_here part_here up own_workable.judged.walks.ordered listable (says_for (call_at c s)).outcome.skipped (says_for (call_at c s)).outcome.unmasked

    -- the list that the work leaves tells them
    shown_told : shown_by (tile_answer (says_for (call_at c s))) done_with.lent ≡ shown_here
    unfolding work_out
    shown_told =
        let says = says_for (call_at c s) in
        let ls = listed_for (call_at c s) in
        ap₂ (shown_in says.outcome.skipped)
        (front says.outcome.unmasked (own_list c).unmasked (length ls) (sym (flags_long (call_at c s) (work_lent s.lent.other (own_list c)) own_workable)))
        (front (ids_in (incoming_of ls)) (own_list c).ids (length ls) (sym (ids_long carries_here part_here)))

    -- no more than the table has records
    pub all_few : length (listed_for (call_at c s)) ≤ min 256 c.table.count
    all_few = listed_few c.table (listed_for (call_at c s)) stands.in_table (list_ascends carries_here part_here up own_workable.judged.walks.ordered) listable

    few : length shown_here ≤ min 256 c.table.count
    few =
        let says = says_for (call_at c s) in
        let h = shown_few says.outcome.skipped says.outcome.unmasked (ids_in (incoming_of (listed_for (call_at c s)))) in
        omega (arith, h, ids_long carries_here part_here, all_few)

    handed : HoldsQueue (says_for (call_at c s)).handed done_with.lent.queue
    unfolding work_out
    handed =
        let h = (says_for (call_at c s)).handed in
        holds_written h s.lent.other stands.other_room
        (omega (arith, listable.few, handed_few (layers_of c.table) (listed_for (call_at c s))))
        (handed_wide (layers_of c.table) (listed_for (call_at c s)))
        (handed_ascends (layers_of c.table) 0 _ (list_ascends _ _ up own_workable.judged.walks.ordered))

    module _ (room : PlaneRoom s.used (min 256 c.table.count) s.lent.planes s.lent.painted) where
      pub painted_here : PaintsAre c s stands inside (length (says_for (call_at c s)).handed) None s.used 0 s.lent.planes s.lent.painted (cond (is_paint (says_for (call_at c s)).outcome.decision) shown_here [])
      painted_here =
          let p = is_paint (says_for (call_at c s)).outcome.decision in
          let h = chosen_few p shown_here in
          paints_are c s stands inside (length (says_for (call_at c s)).handed) (cond p shown_here []) None s.used 0 s.lent.planes s.lent.painted
          (omega (arith, few, h, room.planes_long))
          (chosen_pass p (layers_of c.table) carries_here part_here shown_here all_pass)

      -- the planes that the definition tells, before layers are mixed
      planes_told : paints_past c s (tile_answer (says_for (call_at c s))) done_with ≡ paints_from c s.tile s.lent.queue (planes_on c s stands inside (length (says_for (call_at c s)).handed) None s.used s.lent.planes s.lent.painted) (cond (is_paint (says_for (call_at c s)).outcome.decision) shown_here [])
      unfolding work_out
      planes_told =
          ap (λ (ids : List ℕ). paints_from c s.tile s.lent.queue (planes_on c s stands inside (length (says_for (call_at c s)).handed) None s.used s.lent.planes s.lent.painted) (cond (is_paint (says_for (call_at c s)).outcome.decision) ids []))
          shown_told

      past : BatchAt
      past = tile_past c s (tile_answer (says_for (call_at c s))) done_with

      state_past : past.state ≡ with_clip (next_state s.state (length (says_for (call_at c s)).handed)) painted_here.clip_after
      unfolding past
      state_past = ap (λ (p : PlanesAt). p.state) planes_told ∙ painted_here.state_is

      stands_past : BatchStands c past
      unfolding past work_out
      stands_past =
          let base = next_state s.state (length (says_for (call_at c s)).handed) in
          let e = state_past in
          record {
            is_tile = ap (λ (t : ℤ). pos (plus t + 1)) stands.is_tile ∙ sym (ap (λ (x : State). pos x.next) e);
            in_state = ap is_stray e ∙ or_left (is_stray base) (is_not_worked base s.tile) (worked_right c s stands inside (length (says_for (call_at c s)).handed));
            words = stands.words;
            ascends = ap (λ (x : State). is_row cpu (suc x.tile_y) c.row) e ∙ stands.ascends;
            in_table = stands.in_table;
            table_long = stands.table_long;
            queue_room = handed.long;
            other_room = stands.queue_room;
            in_queue = ap (λ (x : State). is_queue x.left done_with.lent.queue.ids) e ∙ handed.ordered;
          }

      room_past : SameRoom s.lent past.lent
      unfolding past
      room_past =
          record {
            kept = kept_long c.keeps s.lent.kept s.worked done_with.kept;
            told = length-sets s.lent.told (s.worked * 6) (tile_numbers (tile_answer (says_for (call_at c s))) (length (shown_by (tile_answer (says_for (call_at c s))) done_with.lent)) done_with.state.left);
            bottoms = bottoms_long (tile_answer (says_for (call_at c s))).decision s.worked s.lent.bottoms;
            planes = ap (λ (p : PlanesAt). length p.planes) planes_told ∙ painted_here.planes_long;
            painted =
                mixes_long (mixed_of (tile_answer (says_for (call_at c s))).decision (shown_by (tile_answer (says_for (call_at c s))) done_with.lent)) (words_at (paints_past c s (tile_answer (says_for (call_at c s))) done_with).used (paints_past c s (tile_answer (says_for (call_at c s))) done_with).painted)
                ∙ ap (λ (p : PlanesAt). length p.painted) planes_told ∙ painted_here.words_long;
          }

      pub stands_next : BatchStands c (turn_of c s).at × SameRoom s.lent (turn_of c s).at.lent × ((turn_of c s).at.worked ≡ s.worked + 1) × ((turn_of c s).at.state.next ≡ s.state.next + 1)
      unfolding past
      stands_next =
          subst (λ (g : TurnGiven). BatchStands c g.at × SameRoom s.lent g.at.lent × (g.at.worked ≡ s.worked + 1) × (g.at.state.next ≡ s.state.next + 1)) (sym (turn_passed v))
          (stands_past, room_past, refl, ap (λ (x : State). x.next) state_past)

      -- ---- what the code leaves of an accepted tile

      module _ (b : Standing) (m : BatchLent) (is : s ≡ batch_in b m) (list : ListColumns) (list_long : is_list_short list ≡ false) {d : TileDone} {w : TileWorked} {back : WorkLent} (g : GivesWork (worked_by (call_at c s) (work_lent s.lent.other list)) w back) (e : w.answer ≡ Ok d) where
        ready : driver.Workable (call_at c s) (work_lent s.lent.other list)
        ready = workable own_passed list list_long

        told : Accepted (call_at c s) (work_lent s.lent.other list) ready d w.state back
        told = accepted (call_at c s) (work_lent s.lent.other list) ready e g

        done : GivesWork (work_out pass (says_for (call_at c s)) s.state (kept_at c.keeps s.lent.kept s.worked) (work_lent s.lent.other list)) w back
        done = subst (λ (j : Judgement). GivesWork (work_out j (says_for (call_at c s)) s.state (kept_at c.keeps s.lent.kept s.worked) (work_lent s.lent.other list)) w back) told.passes g

        state_is : state_in w.state ≡ next_state s.state (length (says_for (call_at c s)).handed)
        unfolding work_out
        state_is = done.state

        shown_is : shown_in d.skipped.0 (take d.listed back.list.unmasked) (ids_of carries_here part_here) ≡ shown_here
        shown_is =
            let us = unmasked_front (call_at c s) (work_lent s.lent.other list) ready told in
            λ i. shown_in (told.done i).skipped (us i) (ids_of carries_here part_here)

        abbrev pub walked : WalkAt
        walked =
            walk_from (is_paint (decision_in d.decision)) (layers_of c.table) carries_here part_here (record { at = record { state = state_in w.state; used = s.used; planes = s.lent.planes; painted = s.lent.painted }; shown = 0 })
            (shown_in d.skipped.0 (take d.listed back.list.unmasked) (ids_of carries_here part_here))

        walked_is : walked ≡ walk_from (is_paint (says_for (call_at c s)).outcome.decision) (layers_of c.table) carries_here part_here (record { at = planes_on c s stands inside (length (says_for (call_at c s)).handed) None s.used s.lent.planes s.lent.painted; shown = 0 }) shown_here
        walked_is = λ i. walk_from (is_paint (told.done i).decision) (layers_of c.table) carries_here part_here (record { at = record { state = state_is i; used = s.used; planes = s.lent.planes; painted = s.lent.painted }; shown = 0 }) (shown_is i)

        planes_are : walked.at ≡ paints_past c s (tile_answer (says_for (call_at c s))) done_with
        planes_are =
            ap (λ (x : WalkAt). x.at) walked_is
            ∙ walk_paints c s stands inside (length (says_for (call_at c s)).handed) (is_paint (says_for (call_at c s)).outcome.decision) shown_here None s.used s.lent.planes s.lent.painted painted_here
            ∙ sym planes_told

        count_is : walked.shown ≡ length (shown_by (tile_answer (says_for (call_at c s))) done_with.lent)
        count_is =
            let h = walk_shown (is_paint (says_for (call_at c s)).outcome.decision) (layers_of c.table) carries_here part_here shown_here (record { at = planes_on c s stands inside (length (says_for (call_at c s)).handed) None s.used s.lent.planes s.lent.painted; shown = 0 }) in
            ap (λ (x : WalkAt). x.shown) walked_is ∙ (omega (arith, h)) ∙ ap (λ (ids : List ℕ). length ids) (sym shown_told)

        -- the list that the code holds tells the same layers
        ids_front : take d.listed back.list.ids ≡ ids_in (incoming_of (listed_for (call_at c s)))
        unfolding work_out
        ids_front =
            let ls = listed_for (call_at c s) in
            ap (λ (x : WorkLent). take d.listed x.list.ids) done.lent_is
            ∙ front (ids_in (incoming_of ls)) list.ids d.listed (ap (λ (x : TileAnswer). x.listed) told.done ∙ sym (ids_long carries_here part_here))

        mixed_is : mix_past walked d back.list.ids back.list.unmasked
            ≡ mixes_from (words_at (paints_past c s (tile_answer (says_for (call_at c s))) done_with).used (paints_past c s (tile_answer (says_for (call_at c s))) done_with).painted) (mixed_of (tile_answer (says_for (call_at c s))).decision (shown_by (tile_answer (says_for (call_at c s))) done_with.lent))
        mixed_is =
            let us = unmasked_front (call_at c s) (work_lent s.lent.other list) ready told in
            let p = planes_are in
            (λ i. mixes_from (words_at (p i).used (p i).painted) (mixed_of (told.done i).decision (shown_in (told.done i).skipped (us i) (ids_front i))))
            ∙ ap (λ (ids : List ℕ). mixes_from (words_at (paints_past c s (tile_answer (says_for (call_at c s))) done_with).used (paints_past c s (tile_answer (says_for (call_at c s))) done_with).painted) (mixed_of (tile_answer (says_for (call_at c s))).decision ids)) (sym shown_told)

        pub turn_done : {r : Standing} {kept' told' : List ℕ} {bottoms' planes' : List Float} {painted' : List ℕ}
            → NotesTile c.keeps b w d walked (mix_past walked d back.list.ids back.list.unmasked) s.lent.kept s.lent.told s.lent.bottoms r kept' told' bottoms' planes' painted'
            → GivesTurn b.first (turn_of c s) r (batch_lent s.lent.queue back.queue kept' told' bottoms' planes' painted')
        unfolding work_out
        turn_done {r} {kept'} {told'} {bottoms'} {planes'} {painted'} n =
            let p = planes_are in
            let first : b.first ≡ s.first = sym (ap (λ (x : BatchAt). x.first) is) in
            let at : b.worked ≡ s.worked = sym (ap (λ (x : BatchAt). x.worked) is) in
            let kept_is = n.kept_is ∙ ap₂ (λ (k : ℕ) (x : kept.Kept). kept_over c.keeps s.lent.kept k x) at done.kept in
            let carried = ap (λ (x : State). x.left) state_is in
            let told_is = n.told_is ∙ (λ i. sets s.lent.told (at i * 6) (tile_numbers (told.done i) (count_is i) (carried i))) in
            let mixed = mixed_is in
            let bottoms_are = n.bottoms_are ∙ (λ i. bottoms_over (told.done i).decision (at i) s.lent.bottoms) in
            subst (λ (x : TurnGiven). GivesTurn b.first x r (batch_lent s.lent.queue back.queue kept' told' bottoms' planes' painted')) (sym (turn_passed v))
            (record {
              state = n.state ∙ ap (λ (x : PlanesAt). x.state) p;
              worked = n.worked ∙ ap (λ (k : ℕ). k + 1) at;
              used = n.used ∙ ap (λ (x : WordsAt). x.used) mixed;
              first_is = n.first ∙ ap not first;
              verdict = n.verdict;
              lent_is =
                  (λ i. record { queue = s.lent.queue; other = (done.lent_is i).queue; kept = kept_is i; told = told_is i; bottoms = bottoms_are i; planes = (n.planes_are ∙ ap (λ (x : PlanesAt). x.planes) p) i; painted = (n.painted_are ∙ ap (λ (x : WordsAt). x.painted) mixed) i })
                  ∙ sym (ap (λ (x : Bool). sided x (lent_past c s (tile_answer (says_for (call_at c s))) done_with (planes_past c s (tile_answer (says_for (call_at c s))) done_with))) (ap (λ (x : Bool). same_flag x (not s.first)) first ∙ alike_not s.first));
            })

-- ---- a tile that is refused leaves everything as it was

pub turn_left : (c : BatchRow) (s : BatchAt) (b r : Standing) (m : BatchLent) (k : Refusal) → s ≡ batch_in b m → turn_of c s ≡ record { at = s; verdict = refuse (number_of k) }
    → r ≡ record { state = b.state; worked = b.worked; used = b.used; first = b.first; verdict = Err k } → GivesTurn b.first (turn_of c s) r m
turn_left c s b r m k is e er =
    let g : GivesTurn b.first (record { at = batch_in b m; verdict = refuse (number_of k) }) (record { state = b.state; worked = b.worked; used = b.used; first = b.first; verdict = Err k }) m =
    record { state = refl; worked = refl; used = refl; first_is = refl; verdict = refl; lent_is = sym (ap (λ (x : Bool). sided x m) (alike_same b.first)) } in
    subst (λ (x : Standing). GivesTurn b.first (turn_of c s) x m) (sym er) (subst (λ (x : TurnGiven). GivesTurn b.first x (record { state = b.state; worked = b.worked; used = b.used; first = b.first; verdict = Err k }) m) (sym (e ∙ ap (λ (x : BatchAt). record { at = x; verdict = refuse (number_of k) }) is)) g)

module _ (c : BatchRow) (b : Standing) (m : BatchLent) (stands : BatchStands c (batch_in b m)) (own : own_judged c (batch_in b m) stands ≡ pass) (list : ListColumns) (list_long : is_list_short list ≡ false) {w : TileWorked} {back : WorkLent} (g : GivesWork (worked_by (call_at c (batch_in b m)) (work_lent m.other list)) w back) where
  -- an accepted work's verdict passes
  pub both_pass : {d : TileDone} → w.answer ≡ Ok d → and_then (own_judged c (batch_in b m) stands) (layers_verdict (call_at c (batch_in b m))) ≡ pass
  both_pass e =
      let t = accepted (call_at c (batch_in b m)) (work_lent m.other list) (workable c (batch_in b m) stands own list list_long) e g in
      ap (λ (j : Judgement). and_then j (layers_verdict (call_at c (batch_in b m)))) own ∙ t.passes

  -- a refused one leaves its queue
  refused_by : {k : Refusal} → w.answer ≡ Err k → (layers_verdict (call_at c (batch_in b m)) ≡ refuse (number_of k)) × (back.queue ≡ m.other)
  unfolding work_out
  refused_by {k} e = by (layers_verdict (call_at c (batch_in b m))) refl (sym (ap work_answer e) ∙ g.answer) g.lent_is
    where
      by : (j : Judgement) → layers_verdict (call_at c (batch_in b m)) ≡ j → refused (number_of k) ≡ (work_out j (says_for (call_at c (batch_in b m))) (state_in b.state) (kept_at c.keeps m.kept b.worked) (work_lent m.other list)).answer → back ≡ (work_out j (says_for (call_at c (batch_in b m))) (state_in b.state) (kept_at c.keeps m.kept b.worked) (work_lent m.other list)).lent → (j ≡ refuse (number_of k)) × (back.queue ≡ m.other)
      by (refuse n) ej ea el = (ap refuse (sym cc), ap (λ (x : WorkLent). x.queue) el)
      by pass ej ea el = absurd (let z : ◌≡◌ {A = ℕ} 0 1 = cc in omega arith)

  pub turn_told_refused : {k : Refusal} {r : Standing} → w.answer ≡ Err k
      → r ≡ record { state = b.state; worked = b.worked; used = b.used; first = b.first; verdict = Err k }
      → GivesTurn b.first (turn_of c (batch_in b m)) r (batch_lent m.queue back.queue m.kept m.told m.bottoms m.planes m.painted)
  turn_told_refused {k} {r} e er =
      let h = refused_by e in
      let v : and_then (own_judged c (batch_in b m) stands) (layers_verdict (call_at c (batch_in b m))) ≡ refuse (number_of k) = ap (λ (j : Judgement). and_then j (layers_verdict (call_at c (batch_in b m)))) own ∙ h.0 in
      subst (λ (q : Columns). GivesTurn b.first (turn_of c (batch_in b m)) r (batch_lent m.queue q m.kept m.told m.bottoms m.planes m.painted)) (sym h.1) (turn_left c (batch_in b m) b r m k refl (turn_refused c (batch_in b m) stands v) er)

-- ---- by the side that holds the carries

swapped : (x : Bool) (m l : BatchLent) → m ≡ sided (not x) l → sided false m ≡ sided x l
swapped true m l e = ap (sided false) e
swapped false m l e = ap (sided false) e

pub as_first : {g : TurnGiven} {r : Standing} {back : BatchLent} → GivesTurn true g r back → GivesStanding g r back
as_first t = record { state = t.state; worked = t.worked; used = t.used; first = t.first_is; verdict = t.verdict; lent_is = t.lent_is }

pub as_second : {g : TurnGiven} {r : Standing} {back : BatchLent} → GivesTurn false g r back → GivesStanding g r (sided false back)
as_second {g} {r} {back} t = record { state = t.state; worked = t.worked; used = t.used; first = t.first_is; verdict = t.verdict; lent_is = swapped g.at.first back g.at.lent t.lent_is }
