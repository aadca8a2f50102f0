-- Listing: what a passed verdict tells, and the operation put together from its parts. Assumes nothing.
use Rattle.std.specs.Prelude.{◌≡◌}
use Rattle.laws.proofs.Prelude.{refl, ap, ◌∙◌, Bool, List, ℕ, ℤ, length, given}
use Rattle.refusals.specs.Refusal.{Judgement, pass, refuse, number_of}
use Rattle.refusals.specs.declared.Refusal.{Refusal}
use Rattle.segment_rows.specs.Rows.{Words}
use Rattle.segment_rows.specs.Search.{tile_part}
use Rattle.tile_layers.specs.Listing.{layers_in, Lists}
use Rattle.layer_carrying.specs.Carrying.{handed_on, Hands}
use Rattle.row_statements.specs.Lent.{carries_in, layers_of}
use Rattle.row_statements.specs.State.{State, state_in, next_state}
use Rattle.row_statements.specs.InnerWork.{judged_by}
use Rattle.row_statements.specs.declared.RowState.{RowState}
use Rattle.row_statements.proofs.Works as works
use Rattle.listing_statements.specs.Listing.{ListCall, ListLent, is_listing_short, list_call_verdict, listed_by, listing_out, ListsTile}
use Rattle.listing_statements.specs.InnerListing.{refused_listing, done_listing, ListingJudged}
use Rattle.listing_statements.specs.declared.TileListed.{TileListed}
use Rattle.listing_statements.proofs.AsWork.{as_work, as_lent, args_same}

module _ (c : ListCall) (lent : ListLent) where
  -- ---- 1 to 5

  pub judged_call : judged_by (is_listing_short c lent) c.state c.tile c.row c.table c.queue.ids ≡ list_call_verdict c lent
  unfolding judged_by list_call_verdict
  judged_call = refl

  pub judged : Words c.row → list_call_verdict c lent ≡ pass → ListingJudged c lent
  judged w e =
      let j = works.judged (as_work c) (as_lent lent) w (works.args_passed (as_work c) (as_lent lent) (args_same c lent ∙ e)) in
      record {
        tile_natural = j.tile_natural;
        tile_low = j.tile_low;
        next_low = j.next_low;
        walks = j.walks;
        covers_long = j.covers_long;
        in_table = j.in_table;
        rooms =
            record {
              list_ids = j.rooms.list_ids;
              list_covers = j.rooms.list_covers;
              list_flags = j.rooms.list_flags;
              queue_ids = j.rooms.queue_ids;
              queue_covers = j.rooms.queue_covers;
            };
      }

  -- ---- the operation

  -- a refusal leaves everything as it was
  pub refused_by : {v : Judgement} {r : Refusal} {s : RowState} {t : TileListed} → v ≡ refuse (number_of r) → state_in s ≡ c.state → t ≡ refused_listing s r → ListsTile (listing_out v (layers_of c.table) (listed_by c) (handed_on (layers_of c.table) (listed_by c)) c.state lent) t lent
  unfolding listing_out
  refused_by {v} {r} {s} {t} e es h = rw (e, h) (record { answer = refl; state = es; lent_is = refl })

  -- an accepted listing leaves the list and the carries
  pub done_by : (s : RowState) {v : Judgement} {n left : ℕ} {t : TileListed} {queueIds : List ℕ} {queueCovers : List ℤ} {ids : List ℕ} {covers : List ℤ} {flags : List Bool} (part : List ℕ) → part ≡ tile_part c.tile c.row → v ≡ pass → state_in s ≡ c.state → t ≡ done_listing s n left
      → n ≡ length (listed_by c)
      → Lists (layers_of c.table) (layers_in (carries_in c.state.left c.queue) part) lent.list.ids lent.list.covers lent.list.flags ids covers flags
      → Hands (handed_on (layers_of c.table) (layers_in (carries_in c.state.left c.queue) part)) lent.queue.ids lent.queue.covers left queueIds queueCovers
      → ListsTile (listing_out v (layers_of c.table) (listed_by c) (handed_on (layers_of c.table) (listed_by c)) c.state lent) t (record { queue = record { ids = queueIds; covers = queueCovers }; list = record { ids = ids; covers = covers; flags = flags } })
  unfolding listing_out
  done_by s {v} {n} {left} {t} part found e es h many list₀ q₀ =
      let list = rw found at list₀ in
      let q = rw found at q₀ in
      rw (e, h)
      (record {
        answer = ap given many;
        state = ap (λ (x : State). next_state x left) es ∙ ap (next_state c.state) q.count;
        lent_is =
            λ i.
            record {
              queue = record { ids = q.ids_are i; covers = q.covers_are i };
              list = record { ids = list.ids_are i; covers = list.covers_are i; flags = list.flags_are i };
            };
      })
