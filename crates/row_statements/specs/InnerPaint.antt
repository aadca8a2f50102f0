-- What the functions below the painting of a layer give.
use Rattle.std.specs.Prelude.{◌||◌, Ok}
use Rattle.laws.specs.Prelude.{Bool, List, ℕ, ltb, Float, length, Option}
use Rattle.row_statements.specs.Lent.{Columns, LentTable, is_queue_short, is_lent_short}
use Rattle.row_statements.specs.declared.Painted.{Painted}
use Rattle.row_statements.specs.declared.RowState.{RowState}

-- 1, by what is lent
abbrev pub is_short_with : LentTable → Columns → List Float → Bool
is_short_with table queue plane = is_queue_short queue || is_lent_short table || ltb (length plane) 256

-- the state with the clip that painting left, and the mark
abbrev pub painted_layer : RowState → Option ℕ → ℕ → Painted
painted_layer s clip mark =
    record {
      state = record { tile_y = s.tile_y; from = s.from; to = s.to; next = s.next; left = s.left; taken = s.taken; clip = clip };
      answer = Ok mark;
    }
