-- An accepted work's list: each of its layers can be painted, since the table has it and number 9 does not apply; and the tally of the lent list is
-- the tile's. Assumes nothing.
use Rattle.std.specs.Prelude.{◌≡◌, ◌≤◌, ◌<◌, Ok, Err}
use Rattle.laws.proofs.Prelude.{refl, ap, sym, ◌∙◌, true, List, map, ⊎_elim, None, ℕ, arith, length, take, drop, length-map}
use Rattle.laws.proofs.Prelude.{refused, given, is_given, over, all_at, length_over}
use lib.Seq.{take-append_seam}
use Rattle.pixel_segment.specs.Field.{cpu, layer_id_of}
use Rattle.segment_rows.specs.Rows.{Ordered}
use Rattle.segment_rows.specs.Search.{tile_part}
use Rattle.styling.specs.Ascending.{strictly_ascends}
use Rattle.styling.specs.declared.Layer.{Layer}
use Rattle.layer_table.specs.Lookup.{lookup}
use Rattle.queue_statements.specs.Queue.{Carry, ids_in}
use Rattle.queue_statements.proofs.Judging as queue-judging
use Rattle.queue_statements.proofs.Queues.{ids_queue}
use Rattle.tile_layers.specs.Listing.{no_listed, layers_in, incoming_of}
use Rattle.layer_carrying.proofs.Handing.{handed_few}
use Rattle.pass_statements.specs.Item.{item_of}
use Rattle.pass_statements.proofs.Words.{outcome_long, skipped_within}
use Rattle.pass_statements.specs.Decision.{code_of, decision_in}
use Rattle.layer_workbench.specs.Work.{entry_of, outcome_by_entries, clear_unchanged}
use Rattle.cached_tile.specs.Kept.{previous_count}
use Rattle.refusals.specs.Refusal.{Judgement, pass, refuse, number_of}
use Rattle.refusals.specs.declared.Refusal.{Refusal}
use Rattle.row_statements.specs.Lent.{carries_in, layers_of}
use Rattle.row_statements.specs.State.{State, state_in}
use Rattle.row_statements.specs.TileWork.{WorkCall, WorkLent, TileAnswer, listed_for, says_for, layers_verdict, tile_answer_in, tile_answer, work_out, work_answer, GivesWork}
use Rattle.row_statements.specs.InnerWork.{worked_by}
use Rattle.row_statements.specs.declared.RowState.{RowState}
use Rattle.row_statements.specs.declared.TileDone.{TileDone}
use Rattle.row_statements.specs.declared.TileWorked.{TileWorked}
use Rattle.row_statements.proofs.Works.{Listable, list_passed}
use Rattle.row_statements.proofs.Paintings.{layer_passed}
use Rattle.row_lines.specs.Shown.{shown_in}
use Rattle.row_lines.specs.Lines.{is_paint}
use Rattle.row_lines.proofs.Accepted.{listed_pass}
use Rattle.listed_painting.specs.InnerWalk.{Painter, CanPaint, id_in}
use Rattle.shown_layers.specs.Counting.{sum_in, ids_of, at_start, tallied}
use Rattle.shown_layers.specs.InnerTally.{Walkable}
use Rattle.row_driver.specs.InnerSteps.{tally_at, line_at, Workable}
use Rattle.row_lines.specs.declared.Line.{Line}
use Rattle.shown_layers.specs.declared.Tally.{Tally}

-- ---- the layers of a list

module _ (table : List Layer) (q : List Carry) (part : List ℕ) (up : strictly_ascends (ids_in q) ≡ true) (ordered : Ordered (layer_id_of cpu) part) (l : Listable table (layers_in q part)) where
  can_paint : (i : ℕ) → i < length (layers_in q part) → CanPaint table q part i
  can_paint i h =
      record {
        listed = h;
        known = all_at (λ y. is_given (lookup table y.id)) (layers_in q part) l.known i no_listed h;
        light = (layer_passed table q part (id_in q part i) (listed_pass table q part up ordered l i h)).light;
      }

-- the front of a lent column
pub front {ℓ} : {A : Type ℓ} (ws old : List A) (n : ℕ) → n ≡ length ws → take n (over ws old) ≡ ws
unfolding over
front ws old n e = ap (λ (k : ℕ). take k (over ws old)) e ∙ take-append_seam ws (drop (length ws) old)

-- ---- a work that asks what `work_line` does

module _ (a : WorkCall) (lent : WorkLent) (ready : Workable a lent) where
  queue : List Carry
  queue = carries_in a.state.left a.queue

  part : List ℕ
  part = tile_part a.tile a.row

  ascends : strictly_ascends (ids_in queue) ≡ true
  unfolding queue
  ascends = ap strictly_ascends (ids_queue a.state.left a.queue.ids a.queue.covers ready.judged.walks.long) ∙ (queue-judging.ordered a.state.left a.queue.ids ready.in_queue).ascending

  pub painter : Painter a.state.left a.queue.ids a.queue.covers (tile_part a.tile a.row) a.table.words a.table.floats a.table.count
  painter =
      let j = ready.judged in
      record {
        queued = record { ids_long = j.walks.long; covers_long = omega (arith, j.covers_long); ascending = (queue-judging.ordered a.state.left a.queue.ids ready.in_queue).ascending };
        walks = j.walks;
        in_table = j.in_table;
      }

  -- what an accepted work says and leaves
  pub record Accepted (d : TileDone) (s : RowState) (back : WorkLent) : Type 0 where
    pub passes : layers_verdict a ≡ pass
    pub done : tile_answer_in d ≡ tile_answer (says_for a)
    pub left : s.left ≡ length (says_for a).handed
    pub no_clip : s.clip ≡ None
    pub list_unmasked : back.list.unmasked ≡ over (says_for a).outcome.unmasked lent.list.unmasked

  pub accepted : {w : TileWorked} {back : WorkLent} {d : TileDone} → w.answer ≡ Ok d → GivesWork (worked_by a lent) w back → Accepted d w.state back
  unfolding work_out
  accepted {w} {back} {d} e g = by (layers_verdict a) refl (sym (ap work_answer e) ∙ g.answer) g.state g.lent_is
    where
      by : (v : Judgement) → layers_verdict a ≡ v → given (tile_answer_in d) ≡ (work_out v (says_for a) a.state a.kept lent).answer → state_in w.state ≡ (work_out v (says_for a) a.state a.kept lent).state → back ≡ (work_out v (says_for a) a.state a.kept lent).lent → Accepted d w.state back
      by (refuse n) ev ea es el = absurd (let z : ◌≡◌ {A = ℕ} 0 1 = cc in omega arith)
      by pass ev ea es el =
          record {
            passes = ev;
            done = cc;
            left = ap (λ (x : State). x.left) es;
            no_clip = ap (λ (x : State). x.clip) es;
            list_unmasked = ap (λ (x : WorkLent). x.list.unmasked) el;
          }

  -- a refused one is not accepted
  pub line_refused : {w : TileWorked} {back : WorkLent} {k : Refusal} → w.answer ≡ Err k → GivesWork (worked_by a lent) w back → layers_verdict a ≡ pass → ⊥
  unfolding work_out
  line_refused {w} {back} {k} e g v =
      let same : refused (number_of k) ≡ (work_out pass (says_for a) a.state a.kept lent).answer = sym (ap work_answer e) ∙ g.answer ∙ ap (λ (x : Judgement). (work_out x (says_for a) a.state a.kept lent).answer) v in
      let z : ◌≡◌ {A = ℕ} 0 1 = cc in omega arith

  -- as many flags as layers
  pub flags_long : length (says_for a).outcome.unmasked ≡ length (listed_for a)
  unfolding outcome_by_entries
  flags_long =
      outcome_long a.clear (clear_unchanged a.previous a.clear) (previous_count a.kept) (map (item_of (layers_of a.table)) (map (entry_of (layers_of a.table)) (listed_for a)))
      ∙ length-map (map (entry_of (layers_of a.table)) (listed_for a)) (item_of (layers_of a.table)) ∙ length-map (listed_for a) (entry_of (layers_of a.table))

  -- the first layer that is not skipped is listed, or none is skipped
  skips : (says_for a).outcome.skipped ≤ length (listed_for a)
  unfolding outcome_by_entries
  skips =
      let items = map (item_of (layers_of a.table)) (map (entry_of (layers_of a.table)) (listed_for a)) in
      let long : length items ≡ length (listed_for a) = length-map (map (entry_of (layers_of a.table)) (listed_for a)) (item_of (layers_of a.table)) ∙ length-map (listed_for a) (entry_of (layers_of a.table)) in
      ⊎_elim (λ e. omega (arith, e)) (λ e. omega (arith, e, long))
      (skipped_within a.clear (clear_unchanged a.previous a.clear) (previous_count a.kept) items)

  module _ {d : TileDone} {s : RowState} {back : WorkLent} (t : Accepted d s back) where
    listable : Listable (layers_of a.table) (listed_for a)
    listable = list_passed (layers_of a.table) (listed_for a) t.passes

    pub count : d.listed ≡ length (listed_for a)
    count = ap (λ (x : TileAnswer). x.listed) t.done

    pub few : (d.listed ≤ 256) × (s.left ≤ 256)
    few = (omega (arith, count, listable.few), omega (arith, t.left, listable.few, handed_few (layers_of a.table) (listed_for a)))

    pub unmasked_front : take d.listed back.list.unmasked ≡ (says_for a).outcome.unmasked
    unmasked_front = ap (take d.listed) t.list_unmasked ∙ front (says_for a).outcome.unmasked lent.list.unmasked d.listed (count ∙ sym flags_long)

    pub walkable : Walkable (layers_of a.table) (carries_in a.state.left a.queue) (tile_part a.tile a.row) back.list.unmasked d.skipped.0 d.listed
    unfolding queue part
    walkable =
        let r = ready.judged.rooms in
        let flags : length back.list.unmasked ≡ length lent.list.unmasked = ap length t.list_unmasked ∙ length_over lent.list.unmasked (says_for a).outcome.unmasked (omega (arith, flags_long, listable.few, r.list_unmasked)) in
        let skipped : d.skipped.0 ≡ (says_for a).outcome.skipped = ap (λ (x : TileAnswer). x.skipped) t.done in
        record {
          few = few.0;
          all = count;
          within = omega (arith, skips, skipped, count);
          unmasked_long = omega (arith, few, flags, r.list_unmasked);
          each = λ i h. can_paint (layers_of a.table) queue part ascends ready.judged.walks.ordered listable i (omega (arith, h, count));
        }

    -- the line, from what the lent list sums up to
    pub line_done : (tally : Tally) {line : Line} → sum_in tally ≡ tallied (is_paint (decision_in d.decision)) (layers_of a.table) (carries_in a.state.left a.queue) (tile_part a.tile a.row) at_start (shown_in d.skipped.0 (take d.listed back.list.unmasked) (ids_of (carries_in a.state.left a.queue) (tile_part a.tile a.row)))
        → line ≡ record { decision = code_of (decision_in d.decision); listed = d.listed; shown = tally.shown; octets = tally.octets; carried = s.left } → line ≡ line_at a
    unfolding line_at
    line_done tally {line} e el =
        let same : sum_in tally ≡ tally_at a =
        e
        ∙ rw unmasked_front
        (ap (λ (x : TileAnswer). tallied (is_paint x.decision) (layers_of a.table) (carries_in a.state.left a.queue) (tile_part a.tile a.row) at_start (shown_in x.skipped (says_for a).outcome.unmasked (ids_in (incoming_of (listed_for a))))) t.done) in
        el
        ∙ (λ i.
        record {
          decision = code_of (t.done i).decision;
          listed = (t.done i).listed;
          shown = (same i).shown;
          octets = (same i).octets;
          carried = t.left i;
        })
