-- `list_judged` meets its contract. Assumes nothing.
use Rattle.std.specs.Prelude.{◌≡◌}
use Rattle.laws.proofs.Prelude.{refl, sym, ap, ◌∙◌, arith, w16, SFits, to_z-of_z, sfits, whole}
use Rattle.segment_rows.specs.Search.{tile_part}
use Rattle.refusals.specs.Refusal.{judgement_in}
use Rattle.row_statements.specs.Lent.{columns, lent_table, layers_of}
use Rattle.row_statements.specs.State.{state_in}
use Rattle.row_statements.specs.InnerWork.{JudgesList}
use Rattle.row_statements.proofs.Works.{list_passed}
use Rattle.listing_statements.specs.Listing.{ListCall, ListLent, tile_list, list_call, list_lent, listed_by}
use Rattle.listing_statements.proofs.Listings.{refused_by, done_by}
use Rattle.tile_listing.proofs.list_judged.Goals as goal
use Rattle.tile_listing.proofs.list_judged.Goals.{Start}

-- what the function is called with, and what it is lent
abbrev called : Start → ListCall
called s =
    let a = s.args in
    list_call (state_in a.state) a.tile a.row.now (lent_table a.layers.now a.colors.now a.count) (columns a.ids.now a.covers.now)

abbrev lentTo : Start → ListLent
lentTo s =
    let a = s.args in
    list_lent (columns a.next_ids.now a.next_covers.now) (tile_list a.list_ids.now a.list_covers.now a.list_flags.now)

-- the tile is a number of 16 signed bits
tile_fits : (s : Start) → SFits w16 s.args.tile
tile_fits s = let z = s.args.tile in sfits w16 z (omega (arith, s.requires.tile_natural, s.requires.tile_low, whole z))

pub overflow_cast-tile : goal.overflow_cast-tile
overflow_cast-tile c = rw (to_z-of_z c.ranges.tile) (tile_fits (goal.at.overflow_cast-tile c).Start)

pub judge_list-judged-requires : goal.judge_list-judged-requires
judge_list-judged-requires c =
    let s = (goal.at.judge_list-judged-requires c).Start in
    let part : c.in_tile-part.result.now ≡ tile_part c.args.tile c.args.row.now = rw (to_z-of_z c.ranges.tile, to_z-of_z (tile_fits s)) at c.in_tile-part.ensures in
    rw part (c.requires.walks, c.requires.covers_long, c.requires.in_table)

pub write_tile-requires : goal.write_tile-requires
write_tile-requires c =
    let s = (goal.at.write_tile-requires c).Start in
    let part : c.in_tile-part.result.now ≡ tile_part c.args.tile c.args.row.now = rw (to_z-of_z c.ranges.tile, to_z-of_z (tile_fits s)) at c.in_tile-part.ensures in
    let told : JudgesList (layers_of (called s).table) (listed_by (called s)) c.judge_list-judged.result = rw part at c.judge_list-judged.ensures.judged in
    let few = (list_passed _ _ (sym told.verdict ∙ ap judgement_in c.in-Ok.is)).few in
    rw part (c.requires.walks, c.requires.covers_long, c.requires.in_table, c.requires.rooms, rw part at (c.judge_list-judged.ensures.carries (ap judgement_in c.in-Ok.is)), few, told.listed)

pub done-requires : goal.done-requires
done-requires c = c.requires.next_low

pub returns-in-Err : goal.returns-in-Err
returns-in-Err c =
    let s = (goal.at.returns-in-Err c).Start in
    let part : c.in_tile-part.result.now ≡ tile_part c.args.tile c.args.row.now = rw (to_z-of_z c.ranges.tile, to_z-of_z (tile_fits s)) at c.in_tile-part.ensures in
    let told : JudgesList (layers_of (called s).table) (listed_by (called s)) c.judge_list-judged.result = rw part at c.judge_list-judged.ensures.judged in
    refused_by (called s) (lentTo s) (sym told.verdict ∙ ap judgement_in c.in-Err.is) refl c.refuse.ensures

pub returns-in-Ok : goal.returns-in-Ok
returns-in-Ok c =
    let s = (goal.at.returns-in-Ok c).Start in
    let part : c.in_tile-part.result.now ≡ tile_part c.args.tile c.args.row.now = rw (to_z-of_z c.ranges.tile, to_z-of_z (tile_fits s)) at c.in_tile-part.ensures in
    let told : JudgesList (layers_of (called s).table) (listed_by (called s)) c.judge_list-judged.result = rw part at c.judge_list-judged.ensures.judged in
    let w = c.write_tile.ensures in
    done_by (called s) (lentTo s) c.args.state c.in_tile-part.result.now part (sym told.verdict ∙ ap judgement_in c.in-Ok.is) refl c.done.ensures
    told.listed w.list w.queue
