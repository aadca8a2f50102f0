-- A work is a listing and then a deciding from what it left: the law of specs/Succession. Assumes nothing.
use Rattle.std.specs.Prelude.{◌≡◌}
use Rattle.laws.proofs.Prelude.{refl, ap, sym, subst, ◌∙◌, Bool, true, false, not, List, ℕ, suc, arith, ltb, length, Answer, refused, given}
use Rattle.laws.proofs.Prelude.{clash}
use Rattle.laws.proofs.Bools.{not-true}
use Rattle.refusals.specs.Refusal.{Judgement, pass, refuse, unless, and_then}
use Rattle.refusals.proofs.Judging.{passed, or_left, or_right}
use Rattle.pixel_segment.specs.Field.{cpu}
use Rattle.segment_rows.specs.Rows.{Words, is_row}
use Rattle.segment_rows.specs.Search.{tile_part}
use Rattle.layer_table.proofs.Judging.{table_short}
use Rattle.styling.specs.Ascending.{strictly_ascends}
use Rattle.cached_tile.specs.Kept.{tag_out_of_range}
use Rattle.queue_statements.specs.Queue.{is_queue}
use Rattle.queue_statements.proofs.Judging as queue-judging
use Rattle.queue_statements.proofs.Queues.{ids_queue}
use Rattle.queue_statements.proofs.Columns.{are_wide}
use Rattle.tile_layers.specs.Groups.{groups_of}
use Rattle.tile_layers.specs.Listing.{Listed, incoming_of}
use Rattle.tile_layers.proofs.Ordering.{list_ascends}
use Rattle.tile_layers.proofs.Wide.{queue_wide, list_wide}
use Rattle.layer_carrying.specs.Carrying.{handed_on}
use Rattle.layer_workbench.specs.Work.{outcome_in}
use Rattle.row_statements.specs.Lent.{LentTable, carries_in, layers_of, is_lent_short, is_lent_table}
use Rattle.row_statements.specs.State.{is_wrong_next}
use Rattle.row_statements.specs.Conditions.{first_five}
use Rattle.row_statements.specs.TileWork.{WorkCall, WorkLent, WorkGiven, is_short_for, listed_for, args_verdict, layers_verdict, says_for, work_out}
use Rattle.row_statements.proofs.Works.{Passed, args_passed, judged, list_passed}
use Rattle.listing_statements.specs.Listing.{ListGiven, is_tile_list_short, listed_over, is_listing_short, list_call_verdict, listing_out}
use Rattle.listing_statements.specs.Deciding.{DecideGiven, deciding_verdict, deciding_out, deciding_of}
use Rattle.listing_statements.specs.Succession.{listing_part, lent_part, listing_first, deciding_part, decided_by, then_deciding, Succeeds, Succession}
use Rattle.listing_statements.specs.InnerLists.{Decidable, ListSays}
use Rattle.listing_statements.proofs.Lists.{listed_ids_lem, written, verdict_is, decided}

-- how many an answer says
abbrev told : Answer ℕ → ℕ
told (refused number) = 0
told (given n) = n

-- where six lines pass, the first five pass too, whatever less is short
fewer : (short less wrong : Bool) (tile_y : ℕ) (row : List ℕ) (table : LentTable) (n : ℕ) (ids : List ℕ) (six : Bool) → less ≡ false → first_five short wrong tile_y row table n ids (unless six 6 pass) ≡ pass → (first_five less wrong tile_y row table n ids pass ≡ pass) × (six ≡ false)
fewer short less wrong tile_y row table n ids six e h =
    let three = not (is_row cpu (suc tile_y) row) in
    let four = not (is_lent_table table) in
    let five = not (is_queue n ids) in
    let p1 = passed short 1 (unless wrong 2 (unless three 3 (unless four 4 (unless five 5 (unless six 6 pass))))) h in
    let p2 = passed wrong 2 (unless three 3 (unless four 4 (unless five 5 (unless six 6 pass)))) p1.1 in
    let p3 = passed three 3 (unless four 4 (unless five 5 (unless six 6 pass))) p2.1 in
    let p4 = passed four 4 (unless five 5 (unless six 6 pass)) p3.1 in
    let p5 = passed five 5 (unless six 6 pass) p4.1 in
    let p6 = passed six 6 pass p5.1 in
    (rw (e, p2.0, p3.0, p4.0, p5.0), p6.0)

module _ (c : WorkCall) (lent : WorkLent) (w : Words c.row) (e : args_verdict c lent ≡ pass) where
  args : Passed c lent
  args = args_passed c lent e

  abbrev ls : List Listed
  ls = listed_for c

  -- ---- 1 to 6

  table_room : is_lent_short c.table ≡ false
  table_room = not-true (is_lent_short c.table) (λ s. clash args.in_table (table_short c.table.words c.table.floats c.table.count s))

  list_room : is_tile_list_short (lent_part lent).list ≡ false
  list_room = or_left (is_tile_list_short (lent_part lent).list) (ltb (length lent.list.unmasked) 256) args.list_room

  mask_room : ltb (length lent.list.unmasked) 256 ≡ false
  mask_room = or_right (is_tile_list_short (lent_part lent).list) (ltb (length lent.list.unmasked) 256) args.list_room

  not_short : is_listing_short (listing_part c) (lent_part lent) ≡ false
  not_short = rw (args.queue_room, args.next_room, table_room, list_room)

  lines : (list_call_verdict (listing_part c) (lent_part lent) ≡ pass) × (tag_out_of_range c.kept ≡ false)
  unfolding args_verdict list_call_verdict
  lines =
      fewer (is_short_for c lent) (is_listing_short (listing_part c) (lent_part lent)) (is_wrong_next c.state c.tile) c.state.tile_y c.row c.table c.state.left c.queue.ids (tag_out_of_range c.kept) not_short e

  -- ---- the layers of the tile, where 7 to 9 pass

  wide : are_wide (incoming_of ls) ≡ true
  wide =
      list_wide (carries_in c.state.left c.queue) (groups_of (tile_part c.tile c.row))
      (queue_wide c.state.left c.queue.ids c.queue.covers (judged c lent w args).covers_long)

  module _ (v : layers_verdict c ≡ pass) where
    decidable : Decidable (layers_of c.table) ls
    decidable =
        let l = list_passed (layers_of c.table) ls v in
        let walks = (judged c lent w args).walks in
        let up = (queue-judging.ordered c.state.left c.queue.ids args.in_queue).ascending in
        let carried = ap strictly_ascends (ids_queue c.state.left c.queue.ids c.queue.covers walks.long) ∙ up in
        record {
          few = l.few;
          ascends = ap strictly_ascends (listed_ids_lem ls) ∙ list_ascends (carries_in c.state.left c.queue) (tile_part c.tile c.row) carried walks.ordered;
          known = l.known;
        }

    says : ListSays (layers_of c.table) ls (length ls) (listed_over (layers_of c.table) ls (lent_part lent).list)
    says = written (layers_of c.table) ls (lent_part lent).list list_room decidable.few wide

  -- ---- the two calls

  -- what the listing gives, by the verdict on the layers
  abbrev listing_by : Judgement → ListGiven
  listing_by v = listing_out v (layers_of c.table) ls (handed_on (layers_of c.table) ls) c.state (lent_part lent)

  first_is : listing_first c lent ≡ listing_by (layers_verdict c)
  first_is = ap (λ (v : Judgement). listing_by (and_then v (layers_verdict c))) lines.0

  -- and what follows it
  abbrev after : ListGiven → WorkGiven
  after g = then_deciding g.answer c g.state g.lent lent.list.unmasked

  abbrev Accepts : ListGiven → Type 0
  Accepts g = (n : ℕ) → g.answer ≡ given n → deciding_verdict (deciding_part c g.lent n) lent.list.unmasked ≡ pass

  by : (v : Judgement) → layers_verdict c ≡ v → (work_out v (says_for c) c.state c.kept lent ≡ after (listing_by v)) × Accepts (listing_by v)
  unfolding work_out listing_out deciding_out
  by (refuse k) ev = (refl, λ n h. absurd (let z : ◌≡◌ {A = ℕ} 0 1 = cc in omega arith))
  by pass ev =
      let back = (listing_by pass).lent in
      let here = deciding_part c back (length ls) in
      let passes : unless (ltb (length lent.list.unmasked) 256) 1 (unless (tag_out_of_range c.kept) 6 pass) ≡ pass = rw (mask_room, lines.1) in
      let d : deciding_of here lent.list.unmasked ≡ deciding_out pass (outcome_in (layers_of c.table) c.kept c.clear c.previous ls) (length ls) c.kept lent.list.unmasked =
      decided here lent.list.unmasked table_room args.in_table (decidable ev) (says ev)
      ∙ ap (λ (v : Judgement). deciding_out v (outcome_in (layers_of c.table) c.kept c.clear c.previous ls) (length ls) c.kept lent.list.unmasked) passes in (
        ap (λ (g : DecideGiven). decided_by g (length ls) (listing_by pass).state back) (sym d),
        λ n h.
            ap (λ (m : ℕ). deciding_verdict (deciding_part c back m) lent.list.unmasked) (sym (ap told h))
            ∙ verdict_is here lent.list.unmasked table_room args.in_table (decidable ev) (says ev)
            ∙ passes,
      )

  pub succeeds : Succeeds c lent
  succeeds =
      let u = by (layers_verdict c) refl in
      record {
        same =
            ap (λ (v : Judgement). work_out (and_then v (layers_verdict c)) (says_for c) c.state c.kept lent) e
            ∙ u.0
            ∙ ap after (sym first_is);
        accepted = subst Accepts (sym first_is) u.1;
      }

pub succession : Succession
succession c lent w e = succeeds c lent w e
