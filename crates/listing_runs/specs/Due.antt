-- What is due of a listing and of a deciding after an accepted opening, worked from the opening on, as row_statements/specs/Due has it of works and
-- paintings: by the row, the table, the row's tiles, which earlier calls were due to be accepted, and the caller's own choices. No answer, list, queue
-- or state that a call gave back is looked at.
use Rattle.std.specs.Prelude.{◌||◌, ◌-◌, Option}
use Rattle.laws.specs.Prelude.{Bool, List, ℕ, suc, ltb, ℤ, length, plus}
use Rattle.refusals.specs.Refusal.{Judgement, pass, unless}
use Rattle.styling.specs.declared.Color.{Color}
use Rattle.cached_tile.specs.Kept.{tag_out_of_range}
use Rattle.cached_tile.specs.declared.kept.Kept as kept
use Rattle.pass_statements.specs.Decide.{Outcome}
use Rattle.row_statements.specs.Lent.{Columns, is_queue_short}
use Rattle.row_statements.specs.TileWork.{list_verdict}
use Rattle.row_statements.specs.Due.{OpenRow, Past, table_on, queue_on, layers_on, state_on, is_not_due, outcome_on}
use Rattle.listing_statements.specs.Listing.{TileList, ListLent, ListGiven, is_tile_list_short, listing_out}
use Rattle.listing_statements.specs.Deciding.{DecideGiven, deciding_out}

-- ---- listing

-- what a caller chooses for a listing, beside the row and the table: `queue` is the memory that it keeps the row's carries in
pub record ListChoice : Type 0 where
  pub tile : ℤ
  pub queue : Columns
  pub lent : ListLent

-- the lowest refusal that applies. 3, 4 and 5 don't to the row, the table and the carries of an accepted opening
abbrev pub list_due_verdict : OpenRow → ℕ → ListChoice → Judgement
list_due_verdict o n c =
    unless (is_queue_short c.lent.queue || is_tile_list_short c.lent.list) 1
    (unless (is_not_due o n c.tile) 2
    (list_verdict (table_on o) (layers_on o n)))

abbrev pub list_due : OpenRow → Past → ListChoice → ListGiven
list_due o p c = listing_out (list_due_verdict o p.tiles c) (table_on o) (layers_on o p.tiles) (queue_on o (suc p.tiles)) (state_on o p) c.lent

-- ---- deciding

-- what a caller chooses for a deciding, beside the table: the tile whose list it names, the memory that it keeps that list in, and the mask column
pub record DecideChoice : Type 0 where
  pub tile : ℤ
  pub list : TileList
  pub kept : kept.Kept
  pub clear : Color
  pub previous : Option Color
  pub unmasked : List Bool

-- how many tiles of the row lie before the one that is named
abbrev pub nth_on : OpenRow → DecideChoice → ℕ
nth_on o c = plus c.tile - o.from

-- the lowest refusal that applies. 4, 5, 7 and 8 don't to the table of an accepted opening and a list of the row
abbrev pub decide_due_verdict : DecideChoice → Judgement
decide_due_verdict c = unless (ltb (length c.unmasked) 256) 1 (unless (tag_out_of_range c.kept) 6 pass)

-- what the passes make of the tile's layers, by the whole row
abbrev pub outcome_due : OpenRow → DecideChoice → Outcome
outcome_due o c = outcome_on o (nth_on o c) c.kept c.clear c.previous

abbrev pub decide_due : OpenRow → DecideChoice → DecideGiven
decide_due o c = deciding_out (decide_due_verdict c) (outcome_due o c) (length (layers_on o (nth_on o c))) c.kept c.unmasked
