-- A tile work in a run: what it gives is what is due, and what the caller then holds is again the row's. Assumes nothing.
use Rattle.row_statements.specs.declared.TileDone.{TileDone}
use Rattle.refusals.specs.declared.Refusal.{Refusal}
use Rattle.std.specs.Prelude.{◌≡◌, ◌||◌, ◌+◌, ◌≤◌, Result, Ok, Err}
use Rattle.laws.proofs.Prelude.{refl, ap, ap₂, sym, subst, ◌∙◌, Bool, true, false, not, List, map, None, ℕ, suc, arith, le-ltb}
use Rattle.laws.proofs.Prelude.{leb-false, leb, eqb, ℤ, pos, length, take, drop, length-map, take_at, lt_z, refused, plus, over}
use Rattle.refusals.specs.Refusal.{Judgement, pass, refuse, unless, and_then}
use Rattle.refusals.proofs.Judging.{passed, or_left, or_right}
use Rattle.segment_rows.specs.Search.{tile_part}
use Rattle.queue_statements.specs.Queue.{Carry}
use Rattle.queue_statements.proofs.Columns.{are_wide}
use Rattle.cached_tile.specs.Kept.{tag_out_of_range, previous_count}
use Rattle.tile_layers.specs.Groups.{groups_of}
use Rattle.tile_layers.specs.Listing.{Listed, layers_in, incoming_of}
use Rattle.layer_carrying.specs.Carrying.{handed_on}
use Rattle.layer_carrying.proofs.Handing.{handed_few}
use Rattle.tile_layers.proofs.Wide.{list_wide}
use Rattle.pass_statements.specs.Item.{item_of}
use Rattle.pass_statements.proofs.Words.{outcome_long}
use Rattle.layer_workbench.specs.Work.{entry_of, outcome_by_entries, outcome_in, clear_unchanged}
use Rattle.layer_workbench.proofs.Entries.{entries_are}
use Rattle.row_carries.proofs.Carried.{queue_next, queue_ascends, queue_wide}
use Rattle.row_statements.specs.Lent.{Columns, carries_in, is_queue_short, queue_over, is_list_short, entries_in}
use Rattle.row_statements.specs.State.{State, next_state, state_in, is_stray, is_not_next}
use Rattle.row_statements.specs.TileWork.{WorkLent, WorkGiven, TileSays, listed_for, is_short_for, args_verdict, layers_verdict, list_verdict, work_verdict, says_for, work_out, work_of, work_answer, GivesWork}
use Rattle.row_statements.specs.Due.{OpenRow, Past, WorkChoice, table_on, queue_on, layers_on, state_on, is_not_due, work_due_verdict, says_on, work_due, past_work}
use Rattle.row_statements.specs.Run.{Held, SameCarries, work_on, held_after}
use Rattle.row_statements.specs.Claim.{RightWork}
use Rattle.row_statements.specs.InnerHolding.{HoldsQueue, IsOpen, Holds}
use Rattle.row_statements.specs.declared.TileWorked.{TileWorked}
use Rattle.row_statements.proofs.Works.{is_next, flags_room, list_passed}
use Rattle.row_statements.proofs.Holding.{holds_written, same_holds}

or-false : (b : Bool) → (b || false) ≡ b
or-false true = refl
or-false false = refl

-- 2: in a row that is open, no state is stray, and what the state says is what the calls before say
pub not_stray : (o : OpenRow) (p : Past) → o.tile_y ≤ 2046 → o.to ≤ 4095 → o.from + p.tiles ≤ o.to → is_stray (state_on o p) ≡ false
not_stray o p low few inside =
    rw (le-ltb 2046 o.tile_y low, le-ltb 4095 o.to few, le-ltb (o.from + p.tiles) o.from (omega arith), le-ltb o.to (o.from + p.tiles) inside)

-- the lines of the two judges, and what is due
joined : (short out tag : Bool) (v w : Judgement) → (out ≡ false → v ≡ w) → and_then (unless short 1 (unless out 2 (unless tag 6 pass))) v ≡ unless short 1 (unless out 2 (unless tag 6 w))
joined true out tag v w h = refl
joined false true tag v w h = refl
joined false false true v w h = refl
joined false false false v w h = h refl

module _ {o : OpenRow} {p : Past} {h : Held} (is_open : IsOpen o) (holds : Holds o p h) (c : WorkChoice) (same : SameCarries h.state.left h.queue c.queue) where
  -- the lent queue holds the row's carries
  pub lent_holds : HoldsQueue (queue_on o p.tiles) c.queue
  lent_holds = same_holds (queue_on o p.tiles) same (ap (λ (s : State). s.left) holds.state) holds.queue

  short_due : is_short_for (work_on o h c) c.lent ≡ (is_queue_short c.lent.queue || is_list_short c.lent.list)
  short_due = rw (lent_holds.long, is_open.table_long, or-false (is_queue_short c.lent.queue))

  tile_due : (is_stray h.state || is_not_next h.state c.tile) ≡ is_not_due o p.tiles c.tile
  tile_due = rw (holds.state, not_stray o p is_open.tile_y is_open.last holds.inside)

  pub args_due : args_verdict (work_on o h c) c.lent ≡ unless (is_queue_short c.lent.queue || is_list_short c.lent.list) 1 (unless (is_not_due o p.tiles c.tile) 2 (unless (tag_out_of_range c.kept) 6 pass))
  unfolding args_verdict
  args_due = rw (short_due, tile_due, holds.state, is_open.in_order.is_row_lem, is_open.in_table, lent_holds.ordered)

  -- the tile, once it is due
  pub due_tile : is_not_due o p.tiles c.tile ≡ false → c.tile ≡ pos (o.from + p.tiles)
  due_tile e = (is_next (state_on o p) c.tile e).is_tile

  pub layers_due : is_not_due o p.tiles c.tile ≡ false → listed_for (work_on o h c) ≡ layers_on o p.tiles
  layers_due e =
      ap₂ (λ (q : List Carry) (t : ℤ). layers_in q (tile_part t o.row))
      (ap (λ (s : State). carries_in s.left c.queue) holds.state ∙ lent_holds.reads)
      (due_tile e)

  verdict_due : work_verdict (work_on o h c) c.lent ≡ work_due_verdict o p.tiles c
  verdict_due =
      ap (λ (v : Judgement). and_then v (layers_verdict (work_on o h c))) args_due
      ∙ joined (is_queue_short c.lent.queue || is_list_short c.lent.list) (is_not_due o p.tiles c.tile) (tag_out_of_range c.kept) (layers_verdict (work_on o h c)) (list_verdict (table_on o) (layers_on o p.tiles))
      (λ e. ap (list_verdict (table_on o)) (layers_due e))

  -- what a verdict that passes tells
  record Accepted : Type 0 where
    room : is_queue_short c.lent.queue ≡ false
    list_room : is_list_short c.lent.list ≡ false
    due : is_not_due o p.tiles c.tile ≡ false
    layers : list_verdict (table_on o) (layers_on o p.tiles) ≡ pass

  accepted : work_due_verdict o p.tiles c ≡ pass → Accepted
  accepted e =
      let one = passed (is_queue_short c.lent.queue || is_list_short c.lent.list) 1 (unless (is_not_due o p.tiles c.tile) 2 (unless (tag_out_of_range c.kept) 6 (list_verdict (table_on o) (layers_on o p.tiles)))) e in
      let two = passed (is_not_due o p.tiles c.tile) 2 (unless (tag_out_of_range c.kept) 6 (list_verdict (table_on o) (layers_on o p.tiles))) one.1 in
      let three = passed (tag_out_of_range c.kept) 6 (list_verdict (table_on o) (layers_on o p.tiles)) two.1 in
      record { room = or_left (is_queue_short c.lent.queue) (is_list_short c.lent.list) one.0; list_room = or_right (is_queue_short c.lent.queue) (is_list_short c.lent.list) one.0; due = two.0; layers = three.1 }

  -- what the tile says
  says_due : is_not_due o p.tiles c.tile ≡ false → says_for (work_on o h c) ≡ says_on o p.tiles c
  says_due e =
      let out : List Listed → List Carry → TileSays = λ ls q. record { table = table_on o; layers = ls; outcome = outcome_in (table_on o) c.kept c.clear c.previous ls; handed = q } in
      ap (λ (ls : List Listed). out ls (handed_on (table_on o) ls)) (layers_due e)
      ∙ ap (out (layers_on o p.tiles)) (sym (queue_next (table_on o) o.row o.from p.tiles))

  -- by the verdict, what the contract gives is what is due
  given_due : (v : Judgement) → work_due_verdict o p.tiles c ≡ v → work_out v (says_for (work_on o h c)) h.state c.kept c.lent ≡ work_out v (says_on o p.tiles c) (state_on o p) c.kept c.lent
  unfolding work_out
  given_due (refuse n) e = ap (λ (s : State). record { answer = refused n; state = s; kept = c.kept; lent = c.lent }) holds.state
  given_due pass e =
      ap₂ (λ (t : TileSays) (s : State). work_out pass t s c.kept c.lent) (says_due (accepted e).due) holds.state

  pub work_due_lem : work_of (work_on o h c) c.lent ≡ work_due o p c
  work_due_lem =
      ap (λ (v : Judgement). work_out v (says_for (work_on o h c)) h.state c.kept c.lent) verdict_due
      ∙ given_due (work_due_verdict o p.tiles c) refl

  -- ---- once it is accepted

  module _ (e : work_due_verdict o p.tiles c ≡ pass) where
    -- the carries past the tile, written to the lent columns
    handed : HoldsQueue (queue_on o (suc p.tiles)) (queue_over (queue_on o (suc p.tiles)) c.lent.queue)
    handed =
        let t = accepted e in
        let few : length (handed_on (table_on o) (layers_on o p.tiles)) ≤ 256 = omega (arith, (list_passed (table_on o) (layers_on o p.tiles) t.layers).few, handed_few (table_on o) (layers_on o p.tiles)) in
        holds_written (queue_on o (suc p.tiles)) c.lent.queue t.room
        (rw (queue_next (table_on o) o.row o.from p.tiles) few)
        (queue_wide is_open.in_order (table_on o) o.from (suc p.tiles))
        (queue_ascends is_open.in_order (table_on o) o.from (suc p.tiles))

    -- what is written to the lent lists
    lent_due : (work_due o p c).lent ≡ (work_out pass (says_on o p.tiles c) (state_on o p) c.kept c.lent).lent
    lent_due = ap (λ (v : Judgement). (work_out v (says_on o p.tiles c) (state_on o p) c.kept c.lent).lent) e

    listed_wide : are_wide (incoming_of (layers_on o p.tiles)) ≡ true
    listed_wide =
        list_wide (queue_on o p.tiles) (groups_of (tile_part (pos (o.from + p.tiles)) o.row)) (queue_wide is_open.in_order (table_on o) o.from p.tiles)

    flags_long : length (says_on o p.tiles c).outcome.unmasked ≡ length (layers_on o p.tiles)
    unfolding outcome_by_entries
    flags_long =
        outcome_long c.clear (clear_unchanged c.previous c.clear) (previous_count c.kept) (map (item_of (table_on o)) (map (entry_of (table_on o)) (layers_on o p.tiles)))
        ∙ length-map (map (entry_of (table_on o)) (layers_on o p.tiles)) (item_of (table_on o))
        ∙ length-map (layers_on o p.tiles) (entry_of (table_on o))

    module _ {back : WorkLent} (el : back ≡ (work_due o p c).lent) where
      queue_back : carries_in (length (queue_on o (suc p.tiles))) back.queue ≡ queue_on o (suc p.tiles)
      unfolding work_out
      queue_back = ap (λ (b : WorkLent). carries_in (length (queue_on o (suc p.tiles))) b.queue) (el ∙ lent_due) ∙ handed.reads

      list_back : entries_in (length (layers_on o p.tiles)) back.list ≡ map (entry_of (table_on o)) (layers_on o p.tiles)
      unfolding work_out
      list_back =
          ap (λ (b : WorkLent). entries_in (length (layers_on o p.tiles)) b.list) (el ∙ lent_due)
          ∙ entries_are (table_on o) (layers_on o p.tiles) c.lent.list.ids c.lent.list.covers c.lent.list.flags listed_wide (list_passed (table_on o) (layers_on o p.tiles) (accepted e).layers).few (flags_room c.lent.list (accepted e).list_room)

      unmasked_back : take (length (layers_on o p.tiles)) back.list.unmasked ≡ (says_on o p.tiles c).outcome.unmasked
      unfolding work_out over
      unmasked_back =
          let us = (says_on o p.tiles c).outcome.unmasked in
          ap (λ (b : WorkLent). take (length (layers_on o p.tiles)) b.list.unmasked) (el ∙ lent_due)
          ∙ take_at us (drop (length us) c.lent.list.unmasked) (length (layers_on o p.tiles)) flags_long

  -- the state past the tile
  next_due : next_state (state_on o p) (length (queue_on o (suc p.tiles))) ≡ state_on o (past_work pass p)
  next_due =
      let next : o.from + p.tiles + 1 ≡ o.from + suc p.tiles = omega arith in
      ap (λ (t : ℕ). record { tile_y = o.tile_y; from = o.from; to = o.to; next = t; left = length (queue_on o (suc p.tiles)); taken = length (queue_on o p.tiles); clip = None }) next

  -- what the caller holds past the tile
  pub past_tile : {s : State} {k : Columns} → work_due_verdict o p.tiles c ≡ pass → s ≡ next_state (state_on o p) (length (queue_on o (suc p.tiles))) → k ≡ queue_over (queue_on o (suc p.tiles)) c.lent.queue → Holds o (past_work pass p) (record { state = s; queue = k; taken = c.queue })
  past_tile {s} {k} e es ek =
      let t = accepted e in
      let end = leb o.to (o.from + p.tiles) in
      let low = lt_z c.tile (pos 0) in
      let out = leb-false o.to (o.from + p.tiles) (or_left end low (or_left (end || low) (not (eqb (plus c.tile) (o.from + p.tiles))) t.due)) in
      record {
        state = es ∙ next_due;
        inside = omega (arith, out);
        queue = subst (HoldsQueue (queue_on o (suc p.tiles))) (sym ek) (handed e);
        taken_long = lent_holds.long;
        took = (lent_holds, (list_passed (table_on o) (layers_on o p.tiles) t.layers).known);
      }

  -- and after the call
  after_work : {s : State} {back : WorkLent} (ans : Result TileDone Refusal) (v : Judgement) → work_due_verdict o p.tiles c ≡ v
      → work_answer ans ≡ (work_out v (says_on o p.tiles c) (state_on o p) c.kept c.lent).answer
      → s ≡ (work_out v (says_on o p.tiles c) (state_on o p) c.kept c.lent).state
      → back ≡ (work_out v (says_on o p.tiles c) (state_on o p) c.kept c.lent).lent
      → Holds o (past_work v p) (held_after ans s h c.queue back)
  unfolding work_out
  after_work (Err k) (refuse n) e ea es el = record { state = es; inside = holds.inside; queue = holds.queue; taken_long = holds.taken_long; took = holds.took }
  after_work (Err k) pass e ea es el = absurd (let z : ◌≡◌ {A = ℕ} 0 1 = cc in omega arith)
  after_work (Ok d) (refuse n) e ea es el = absurd (let z : ◌≡◌ {A = ℕ} 0 1 = cc in omega arith)
  after_work (Ok d) pass e ea es el = past_tile e es (ap (λ (b : WorkLent). b.queue) el)

  -- what is right of it
  pub right_work : {r : TileWorked} {back : WorkLent} → GivesWork (work_of (work_on o h c) c.lent) r back
      → RightWork o p c r back × Holds o (past_work (work_due_verdict o p.tiles c) p) (held_after r.answer (state_in r.state) h c.queue back)
  right_work {r} {back} g =
      let d : GivesWork (work_due o p c) r back = subst (λ (out : WorkGiven). GivesWork out r back) work_due_lem g in (
        record {
          gives = d;
          queue_read = λ e. queue_back e d.lent_is;
          list_read = λ e. list_back e d.lent_is;
          unmasked_read = λ e. unmasked_back e d.lent_is;
        },
        after_work r.answer (work_due_verdict o p.tiles c) refl d.answer d.state d.lent_is,
      )
