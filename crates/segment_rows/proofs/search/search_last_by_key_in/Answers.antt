-- `search::search_last_by_key_in` meets its contract: a case for each key. Assumes nothing.
use Rattle.laws.proofs.Prelude.{SFits, rules, to_z-of_z, w16}
use Rattle.segment_rows.proofs.search.search_last_by_key_in.Goals as goal

pub returns-in-TileY : goal.returns-in-TileY
returns-in-TileY c =
    let fits : SFits w16 c.in-TileY.tile_y = search rules in
    rw (c.in-TileY.is, c.search_last_by_tile_y_in.ensures, to_z-of_z fits)

pub returns-in-TileX : goal.returns-in-TileX
returns-in-TileX c =
    let fits : SFits w16 c.in-TileX.tile_x = search rules in
    rw (c.in-TileX.is, c.search_last_by_tile_x_in.ensures, to_z-of_z fits)

pub returns-in-TileXAtLeast : goal.returns-in-TileXAtLeast
returns-in-TileXAtLeast c =
    let fits : SFits w16 c.in-TileXAtLeast.start = search rules in
    rw (c.in-TileXAtLeast.is, c.search_last_by_tile_x_at_least_in.ensures, to_z-of_z fits)
