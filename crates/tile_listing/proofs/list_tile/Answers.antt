-- `list_tile` meets its contract. Assumes nothing.
use Rattle.std.specs.Prelude.{◌≡◌}
use Rattle.laws.proofs.Prelude.{refl, sym, ap, ◌∙◌, to_z-of_z}
use Rattle.refusals.specs.Refusal.{Judgement, pass, judgement_in, and_then}
use Rattle.row_statements.specs.Lent.{columns, lent_table}
use Rattle.row_statements.specs.State.{state_in}
use Rattle.listing_statements.specs.Listing.{ListCall, ListLent, tile_list, list_call, list_lent, list_call_verdict, listed_verdict}
use Rattle.listing_statements.proofs.Listings.{judged_call, judged, refused_by}
use Rattle.tile_listing.proofs.list_tile.Goals as goal
use Rattle.tile_listing.proofs.list_tile.Goals.{Start}

-- what the function is called with, and what it is lent
abbrev called : Start → ListCall
called s =
    let a = s.args in
    list_call (state_in a.state) a.tile a.row.now (lent_table a.layers.now a.colors.now a.count) (columns a.ids.now a.covers.now)

abbrev lentTo : Start → ListLent
lentTo s =
    let a = s.args in
    list_lent (columns a.next_ids.now a.next_covers.now) (tile_list a.list_ids.now a.list_covers.now a.list_flags.now)

pub list_judged-requires : goal.list_judged-requires
list_judged-requires c =
    let s = (goal.at.list_judged-requires c).Start in
    let told : judgement_in c.judge_row.result ≡ list_call_verdict (called s) (lentTo s) = (rw (to_z-of_z c.ranges.tile, c.are_entries_short.ensures, c.is_short-3.ensures, c.is_short-2.ensures, c.is_short.ensures) at c.judge_row.ensures) ∙ judged_call (called s) (lentTo s) in
    let passes : list_call_verdict (called s) (lentTo s) ≡ pass = sym told ∙ ap judgement_in c.in-Ok.is in
    rw (to_z-of_z c.ranges.tile) (judged (called s) (lentTo s) (record { small = λ i. (c.type_inv.row i).fits }) passes)

pub returns-in-Err : goal.returns-in-Err
returns-in-Err c =
    let s = (goal.at.returns-in-Err c).Start in
    let told : judgement_in c.judge_row.result ≡ list_call_verdict (called s) (lentTo s) = (rw (to_z-of_z c.ranges.tile, c.are_entries_short.ensures, c.is_short-3.ensures, c.is_short-2.ensures, c.is_short.ensures) at c.judge_row.ensures) ∙ judged_call (called s) (lentTo s) in
    refused_by (called s) (lentTo s) (ap (λ (v : Judgement). and_then v (listed_verdict (called s))) (sym told ∙ ap judgement_in c.in-Err.is)) refl c.refuse.ensures

pub returns-in-Ok : goal.returns-in-Ok
returns-in-Ok c =
    let s = (goal.at.returns-in-Ok c).Start in
    let told : judgement_in c.judge_row.result ≡ list_call_verdict (called s) (lentTo s) = (rw (to_z-of_z c.ranges.tile, c.are_entries_short.ensures, c.is_short-3.ensures, c.is_short-2.ensures, c.is_short.ensures) at c.judge_row.ensures) ∙ judged_call (called s) (lentTo s) in
    let passes : list_call_verdict (called s) (lentTo s) ≡ pass = sym told ∙ ap judgement_in c.in-Ok.is in
    let given = rw (to_z-of_z c.ranges.tile) at c.list_judged.ensures in
    rw passes given
