-- The work on a tile as a public operation: judged by 1 to 9, the lowest that applies; a refusal says its number and leaves the state, the cached
-- tile and every lent list as they were. Else the list, masks, skips, decision, cached tile and carries are those of `layer_workbench` for the
-- tile's part of the row, and the state is the next one. Stands for 'One tile' up to painting and for 'Turned down' at tile work.
use Rattle.refusals.specs.declared.Refusal.{Refusal}
use Rattle.std.specs.Prelude.{◌≡◌, ◌||◌, Option, Result, Ok, Err}
use Rattle.laws.specs.Prelude.{Bool, not, List, ℕ, ℤ, length, Answer, refused, given}
use Rattle.refusals.specs.Refusal.{Judgement, pass, refuse, unless, and_then, number_of}
use Rattle.segment_rows.specs.Search.{tile_part}
use Rattle.styling.specs.declared.Color.{Color}
use Rattle.styling.specs.declared.Layer.{Layer}
use Rattle.queue_statements.specs.Queue.{Carry}
use Rattle.cached_tile.specs.Kept.{tag_out_of_range}
use Rattle.cached_tile.specs.declared.kept.Kept as kept
use Rattle.tile_layers.specs.Listing.{Listed, layers_in, is_too_many, are_known, are_light}
use Rattle.layer_carrying.specs.Carrying.{handed_on}
use Rattle.pass_statements.specs.Decision.{TileDecision, decision_in}
use Rattle.pass_statements.specs.Decide.{Outcome}
use Rattle.layer_workbench.specs.Work.{outcome_in, kept_after}
use Rattle.row_statements.specs.Lent.{Columns, ListColumns, LentTable, carries_in, is_queue_short, queue_over, is_list_short, list_over, layers_of, is_lent_short}
use Rattle.row_statements.specs.State.{State, state_in, next_state, is_wrong_next}
use Rattle.row_statements.specs.Conditions.{first_five}
use Rattle.row_statements.specs.declared.TileDone.{TileDone}
use Rattle.row_statements.specs.declared.TileWorked.{TileWorked}

-- what a work is called with: `queue` is the one that comes in
pub record WorkCall : Type 0 where
  pub state : State
  pub tile : ℤ
  pub row : List ℕ
  pub table : LentTable
  pub kept : kept.Kept
  pub clear : Color
  pub previous : Option Color
  pub queue : Columns

abbrev pub work_call : State → ℤ → List ℕ → LentTable → kept.Kept → Color → Option Color → Columns → WorkCall
work_call state tile row table k clear previous queue =
    record { state = state; tile = tile; row = row; table = table; kept = k; clear = clear; previous = previous; queue = queue }

-- what it may write: the queue handed on, and the tile's list
pub record WorkLent : Type 0 where
  pub queue : Columns
  pub list : ListColumns

abbrev pub work_lent : Columns → ListColumns → WorkLent
work_lent queue list = record { queue = queue; list = list }

-- ---- the verdict

-- 1: a lent queue or list below 256 entries, or a table shorter than its count
abbrev pub is_short_for : WorkCall → WorkLent → Bool
is_short_for c lent = is_queue_short c.queue || is_queue_short lent.queue || is_lent_short c.table || is_list_short lent.list

-- the lowest of 1 to 6 that applies
unfoldable pub args_verdict : WorkCall → WorkLent → Judgement
args_verdict c lent =
    first_five (is_short_for c lent) (is_wrong_next c.state c.tile) c.state.tile_y c.row c.table c.state.left c.queue.ids
    (unless (tag_out_of_range c.kept) 6
    pass)

-- the lowest of 7, 8 and 9 that applies to the layers of the tile
unfoldable pub list_verdict : List Layer → List Listed → Judgement
list_verdict table ls =
    unless (is_too_many ls) 7
    (unless (not (are_known table ls)) 8
    (unless (not (are_light ls)) 9
    pass))

-- the layers of the tile
abbrev pub listed_for : WorkCall → List Listed
listed_for c = layers_in (carries_in c.state.left c.queue) (tile_part c.tile c.row)

abbrev pub layers_verdict : WorkCall → Judgement
layers_verdict c = list_verdict (layers_of c.table) (listed_for c)

abbrev pub work_verdict : WorkCall → WorkLent → Judgement
work_verdict c lent = and_then (args_verdict c lent) (layers_verdict c)

-- ---- what a tile says: the table it goes by, its layers, what the passes make of them, and the carries past it

pub record TileSays : Type 0 where
  pub table : List Layer
  pub layers : List Listed
  pub outcome : Outcome
  pub handed : List Carry

abbrev pub says_for : WorkCall → TileSays
says_for c =
    record {
      table = layers_of c.table;
      layers = listed_for c;
      outcome = outcome_in (layers_of c.table) c.kept c.clear c.previous (listed_for c);
      handed = handed_on (layers_of c.table) (listed_for c);
    }

-- ---- what a work gives: its answer, the state, the cached tile, and the lent lists at exit

-- the answer of an accepted work: the decision, how many layers are listed, and how many of them are skipped
pub record TileAnswer : Type 0 where
  pub decision : TileDecision
  pub listed : ℕ
  pub skipped : ℕ

pub record WorkGiven : Type 0 where
  pub answer : Answer TileAnswer
  pub state : State
  pub kept : kept.Kept
  pub lent : WorkLent

abbrev pub tile_answer : TileSays → TileAnswer
tile_answer t = record { decision = t.outcome.decision; listed = length t.layers; skipped = t.outcome.skipped }

abbrev pub written_by : TileSays → WorkLent → WorkLent
written_by t lent = record { queue = queue_over t.handed lent.queue; list = list_over t.table t.layers t.outcome.unmasked lent.list }

-- by the verdict and what the tile says
unfoldable pub work_out : Judgement → TileSays → State → kept.Kept → WorkLent → WorkGiven
work_out (refuse number) t s k lent = record { answer = refused number; state = s; kept = k; lent = lent }
work_out pass t s k lent =
    record { answer = given (tile_answer t); state = next_state s (length t.handed); kept = kept_after t.outcome k (length t.layers); lent = written_by t lent }

abbrev pub work_of : WorkCall → WorkLent → WorkGiven
work_of c lent = work_out (work_verdict c lent) (says_for c) c.state c.kept lent

-- ---- the promise

-- the cases of the code's answer
abbrev pub tile_answer_in : TileDone → TileAnswer
tile_answer_in d = record { decision = decision_in d.decision; listed = d.listed; skipped = d.skipped.0 }

abbrev pub work_answer : Result TileDone Refusal → Answer TileAnswer
work_answer (Err r) = refused (number_of r)
work_answer (Ok d) = given (tile_answer_in d)

pub record GivesWork (g : WorkGiven) (r : TileWorked) (back : WorkLent) : Type 0 where
  pub answer : work_answer r.answer ≡ g.answer
  pub state : state_in r.state ≡ g.state
  pub kept : r.kept ≡ g.kept
  pub lent_is : back ≡ g.lent
