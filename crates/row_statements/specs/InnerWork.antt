-- What the functions below the work on a tile ask and give.
use Rattle.std.specs.Prelude.{◌≡◌, ◌*◌, ◌≤◌, ◌+◌, None, Ok, Err}
use Rattle.laws.specs.Prelude.{Bool, List, ℕ, ℤ, length, plus, minus}
use Rattle.refusals.specs.Refusal.{Judgement, pass, unless, and_then, judgement_in}
use Rattle.refusals.specs.declared.Refusal.{Refusal}
use Rattle.segment_rows.specs.Search.{tile_part}
use Rattle.layer_table.specs.Table.{Table}
use Rattle.styling.specs.declared.Layer.{Layer}
use Rattle.cached_tile.specs.Kept.{tag_out_of_range}
use Rattle.cached_tile.specs.declared.kept.Kept as kept
use Rattle.tile_layers.specs.Listing.{Listed}
use Rattle.tile_layers.specs.InnerWalk.{Walks}
use Rattle.layer_workbench.specs.Work.{Rooms}
use Rattle.layer_workbench.specs.declared.Worked.{Worked}
use Rattle.row_statements.specs.Lent.{LentTable}
use Rattle.row_statements.specs.State.{State, is_wrong_next}
use Rattle.row_statements.specs.Conditions.{first_five}
use Rattle.row_statements.specs.TileWork.{WorkCall, WorkLent, WorkGiven, list_verdict, layers_verdict, says_for, work_out}
use Rattle.row_statements.specs.declared.ListJudged.{ListJudged}
use Rattle.row_statements.specs.declared.RowState.{RowState}
use Rattle.row_statements.specs.declared.TileWorked.{TileWorked}

-- 1 to 5 of a work or a listing, `short` being the condition of 1
unfoldable pub judged_by : Bool → State → ℤ → List ℕ → LentTable → List ℕ → Judgement
judged_by short s tile row table ids = first_five short (is_wrong_next s tile) s.tile_y row table s.left ids pass

-- and 6 of a work
abbrev pub judged_with : Bool → State → ℤ → List ℕ → LentTable → kept.Kept → List ℕ → Judgement
judged_with short s tile row table k ids = and_then (judged_by short s tile row table ids) (unless (tag_out_of_range k) 6 pass)

-- what is left of a work once 1 to 6 pass: judged by 7 to 9, and then done
abbrev pub worked_by : WorkCall → WorkLent → WorkGiven
worked_by c lent = work_out (layers_verdict c) (says_for c) c.state c.kept lent

pub record JudgesList (layers : List Layer) (ls : List Listed) (r : ListJudged) : Type 0 where
  pub verdict : judgement_in r.verdict ≡ list_verdict layers ls
  pub listed : r.listed ≡ length ls

abbrev pub refused_work : RowState → kept.Kept → Refusal → TileWorked
refused_work s k r = record { state = s; kept = k; answer = Err r }

abbrev pub done_work : RowState → Worked → TileWorked
done_work s w =
    record {
      state = record { tile_y = s.tile_y; from = s.from; to = s.to; next = s.next + 1; left = w.left; taken = s.left; clip = None };
      kept = w.kept;
      answer = Ok (record { decision = w.decision; listed = w.listed; skipped = w.skipped });
    }

-- what 1 to 6 leave: the tile is one of a row's, the queue and the tile's part ascend, the table is in order, and there is room
pub record WorkJudged (c : WorkCall) (lent : WorkLent) : Type 0 where
  pub tile_natural : minus c.tile ≡ 0
  pub tile_low : plus c.tile ≤ 4094
  pub next_low : c.state.next ≤ 4094
  pub walks : Walks c.state.left c.queue.ids (tile_part c.tile c.row)
  pub covers_long : 16 * c.state.left ≤ length c.queue.covers
  pub in_table : Table c.table.words c.table.floats c.table.count
  pub rooms : Rooms lent.list.ids lent.list.covers lent.list.flags lent.list.unmasked lent.queue.ids lent.queue.covers
