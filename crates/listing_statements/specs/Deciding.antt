-- Deciding about a tile from a lent list as a public operation, by what the list says: ids, incoming covers, whether there are segments. Judged by 1 and
-- 4 to 8, the lowest that applies; a refusal says its number and leaves the cached tile and the mask column as they were. Else the decision, the skips
-- and the masks are those of the passes, and the cached tile is updated as by a work. There is no state, no row and no queue, and no list is
-- written. 9 is not judged: a cover is full or not whatever its bytes are. Stands for W-206's deciding call.
use Rattle.refusals.specs.declared.Refusal.{Refusal}
use Rattle.std.specs.Prelude.{◌≡◌, ◌||◌, Option, Result, Ok, Err}
use Rattle.laws.specs.Prelude.{Bool, not, List, ℕ, ltb, length, take, Answer, refused, given, is_given, all, over}
use Rattle.refusals.specs.Refusal.{Judgement, pass, refuse, unless, number_of}
use Rattle.styling.specs.Ascending.{strictly_ascends}
use Rattle.styling.specs.declared.Color.{Color}
use Rattle.styling.specs.declared.Layer.{Layer}
use Rattle.layer_table.specs.Lookup.{lookup}
use Rattle.cached_tile.specs.Kept.{tag_out_of_range}
use Rattle.cached_tile.specs.declared.kept.Kept as kept
use Rattle.pass_statements.specs.declared.Index.{Index}
use Rattle.pass_statements.specs.declared.decide.Decision.{Decision}
use Rattle.pass_statements.specs.Decision.{TileDecision, decision_in}
use Rattle.pass_statements.specs.Decide.{Outcome}
use Rattle.layer_workbench.specs.Work.{outcome_by_entries, kept_after}
use Rattle.row_statements.specs.Lent.{LentTable, layers_of, is_lent_short, is_lent_table}
use Rattle.listing_statements.specs.Listing.{TileList, entries_from, is_tile_list_short}
use Rattle.listing_statements.specs.declared.TileDecided.{TileDecided}

-- what a deciding is called with, beside the mask column that it may write: `count` entries of the list count
pub record DecideCall : Type 0 where
  pub list : TileList
  pub count : ℕ
  pub table : LentTable
  pub kept : kept.Kept
  pub clear : Color
  pub previous : Option Color

abbrev pub decide_call : TileList → ℕ → LentTable → kept.Kept → Color → Option Color → DecideCall
decide_call list count table k clear previous = record { list = list; count = count; table = table; kept = k; clear = clear; previous = previous }

-- ---- the verdict

-- 1: a list or a mask column below 256 entries, or a table shorter than its count
abbrev pub is_deciding_short : DecideCall → List Bool → Bool
is_deciding_short c unmasked = is_tile_list_short c.list || ltb (length unmasked) 256 || is_lent_short c.table

-- 8 does not apply: every one of the ids is in the table
abbrev pub are_in_table : List Layer → List ℕ → Bool
are_in_table table ids = all (λ id. is_given (lookup table id)) ids

-- the lowest of 1 and 4 to 8 that applies, `short` being the condition of 1: 5 asks that the n ids, as many as the column has, strictly ascend, and
-- 7 that there are at most 256
unfoldable pub lines_for : Bool → List ℕ → ℕ → LentTable → kept.Kept → Judgement
lines_for short ids n table k =
    unless short 1
    (unless (not (is_lent_table table)) 4
    (unless (not (strictly_ascends (take n ids))) 5
    (unless (tag_out_of_range k) 6
    (unless (ltb 256 n) 7
    (unless (not (are_in_table (layers_of table) (take n ids))) 8
    pass)))))

abbrev pub deciding_verdict : DecideCall → List Bool → Judgement
deciding_verdict c unmasked = lines_for (is_deciding_short c unmasked) c.list.ids c.count c.table c.kept

-- ---- what a deciding gives: its answer, the cached tile, and the mask column at exit

pub record DecideSays : Type 0 where
  pub decision : TileDecision
  pub skipped : ℕ

pub record DecideGiven : Type 0 where
  pub answer : Answer DecideSays
  pub kept : kept.Kept
  pub unmasked : List Bool

-- by the verdict and what the passes make of a list of n entries
unfoldable pub deciding_out : Judgement → Outcome → ℕ → kept.Kept → List Bool → DecideGiven
deciding_out (refuse number) o n k unmasked = record { answer = refused number; kept = k; unmasked = unmasked }
deciding_out pass o n k unmasked =
    record { answer = given (record { decision = o.decision; skipped = o.skipped }); kept = kept_after o k n; unmasked = over o.unmasked unmasked }

-- what the passes make of the list, by its entries
abbrev pub decided_outcome : DecideCall → Outcome
decided_outcome c = outcome_by_entries (layers_of c.table) c.kept c.clear c.previous (entries_from c.count c.list)

abbrev pub deciding_of : DecideCall → List Bool → DecideGiven
deciding_of c unmasked = deciding_out (deciding_verdict c unmasked) (decided_outcome c) c.count c.kept unmasked

-- ---- the promise

-- the cases of the code's answer
abbrev pub decide_answer : Result (Decision × Index) Refusal → Answer DecideSays
decide_answer (Err r) = refused (number_of r)
decide_answer (Ok (d, skipped)) = given (record { decision = decision_in d; skipped = skipped.0 })

pub record DecidesTile (g : DecideGiven) (r : TileDecided) (back : List Bool) : Type 0 where
  pub answer : decide_answer r.answer ≡ g.answer
  pub kept : r.kept ≡ g.kept
  pub unmasked_is : back ≡ g.unmasked
