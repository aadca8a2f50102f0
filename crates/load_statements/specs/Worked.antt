-- How the row of a load is worked after its opening. Stands for document 02, W-204: 'rows whose covers grow too large end with 9 in the row program';
-- and no row of a load ends with another number.
use Rattle.std.specs.Prelude.{◌≡◌, ◌||◌, ◌⊎◌, ◌<◌}
use Rattle.laws.specs.Prelude.{Bool, true, false, not, Some, None, ℕ, pos, length}
use Rattle.refusals.specs.Refusal.{pass, unless}
use Rattle.cached_tile.specs.Kept.{tag_out_of_range}
use Rattle.tile_layers.specs.Listing.{are_light}
use Rattle.row_statements.specs.Lent.{is_queue_short, is_list_short}
use Rattle.row_statements.specs.TileWork.{list_verdict}
use Rattle.row_statements.specs.Due.{OpenRow, table_on, layers_on, WorkChoice, is_not_due, work_due_verdict}
use Rattle.row_statements.specs.Run.{open_row}
use Rattle.row_lines.specs.Driven.{Driving, row_driving}
use Rattle.job_text_statements.specs.Job.{render}
use Rattle.row_answer.specs.Answer.{driving_text, answer_text}
use Rattle.load_statements.specs.declared.Asked.{Asked}
use Rattle.load_statements.specs.Load.{load_of}
use Rattle.load_statements.specs.Opened.{opening_of}

-- the row that the opening opens, and what the row program works out of it
abbrev pub row_of : Asked → OpenRow
row_of a = open_row (opening_of a)

abbrev pub load_driving : Asked → Driving
load_driving a = row_driving (opening_of a) (pos a.tiles)

-- 9 does not apply to the tile n: no layer's covers grow too large
abbrev pub is_light_at : Asked → ℕ → Bool
is_light_at a n = are_light (layers_on (row_of a) n)

-- all tiles are worked
pub record WorkedWhole (a : Asked) (d : Driving) : Type 0 where
  pub refusal : d.refusal ≡ None
  pub lines : length d.lines ≡ a.tiles
  pub light : (n : ℕ) → n < a.tiles → is_light_at a n ≡ true

-- the tiles before the first whose covers grow too large are
pub record EndedBy9 (a : Asked) (d : Driving) : Type 0 where
  pub refusal : d.refusal ≡ Some 9
  pub before : length d.lines < a.tiles
  pub light : (n : ℕ) → n < length d.lines → is_light_at a n ≡ true
  pub heavy : is_light_at a (length d.lines) ≡ false

pub record LoadWorked (a : Asked) : Type 0 where
  -- 7 and 8 never apply to a tile
  pub judged : (n : ℕ) → list_verdict (table_on (row_of a)) (layers_on (row_of a) n) ≡ unless (not (is_light_at a n)) 9 pass
  -- and so 9 alone turns down a work, in any run of calls, that lends enough, is of the tile that is due, and has a cached tag of 0 to 3
  pub due : (n : ℕ) (c : WorkChoice) → (is_queue_short c.lent.queue || is_list_short c.lent.list) ≡ false → is_not_due (row_of a) n c.tile ≡ false
      → tag_out_of_range c.kept ≡ false → work_due_verdict (row_of a) n c ≡ unless (not (is_light_at a n)) 9 pass
  -- what the row program prints for its text
  pub printed : answer_text (render (load_of a)) ≡ driving_text 0 (load_driving a)
  pub ends : WorkedWhole a (load_driving a) ⊎ EndedBy9 a (load_driving a)
