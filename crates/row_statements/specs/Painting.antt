-- Painting a layer as a public operation (`paint_layer` of the Rust): judged by 1 to 5, then by 8 and 9 for the painted layer; then the painting of
-- `painter` in the tile's part of the row, from the queue that the tile took in, and the state with the clip after it. Stands for 'One tile' from
-- painting on, and for 'Turned down' at painting.
use Rattle.refusals.specs.declared.Refusal.{Refusal}
use Rattle.std.specs.Prelude.{◌≡◌, ◌||◌, Result, Ok, Err}
use Rattle.laws.specs.Prelude.{Bool, false, not, List, Option, ℕ, ltb, Float, ℤ, length, Answer, refused, given, is_given, over}
use Rattle.refusals.specs.Refusal.{Judgement, pass, refuse, unless, and_then, number_of, given_or_refused}
use Rattle.segment_rows.specs.Search.{tile_part}
use Rattle.layer_table.specs.Lookup.{lookup}
use Rattle.styling.specs.declared.FillRule.TheVariants.{NonZero}
use Rattle.styling.specs.declared.Func.TheVariants.{Clip}
use Rattle.styling.specs.declared.Layer.{Layer}
use Rattle.queue_statements.specs.Queue.{Carry}
use Rattle.painter.specs.Clip.{clip_after}
use Rattle.painter.specs.Painting.{mark_in, plane_in, is_light_in}
use Rattle.row_statements.specs.Lent.{Columns, LentTable, carries_in, is_queue_short, layers_of, is_lent_short}
use Rattle.row_statements.specs.State.{State, state_in, with_clip, is_wrong_worked}
use Rattle.row_statements.specs.Conditions.{first_five}
use Rattle.row_statements.specs.declared.Painted.{Painted}

-- what a painting is called with, beside the plane that it may write: `queue` is the one that the tile took in
pub record PaintCall : Type 0 where
  pub state : State
  pub tile : ℤ
  pub layer : ℕ
  pub row : List ℕ
  pub table : LentTable
  pub queue : Columns

abbrev pub paint_call : State → ℤ → ℕ → List ℕ → LentTable → Columns → PaintCall
paint_call state tile layer row table queue = record { state = state; tile = tile; layer = layer; row = row; table = table; queue = queue }

-- ---- the verdict

-- 1: a queue or a plane of fewer than 256 entries, or a table shorter than its count
abbrev pub is_paint_short : PaintCall → List Float → Bool
is_paint_short c plane = is_queue_short c.queue || is_lent_short c.table || ltb (length plane) 256

-- the lowest of 1 to 5 that applies
unfoldable pub call_verdict : PaintCall → List Float → Judgement
call_verdict c plane =
    first_five (is_paint_short c plane) (is_wrong_worked c.state c.tile) c.state.tile_y c.row c.table c.state.taken c.queue.ids pass

-- 8 and 9, of the painted layer: the table lacks it, or its covers in the tile grow too large
abbrev pub layer_verdict : List Layer → List Carry → List ℕ → ℕ → Judgement
layer_verdict table carries part id =
    unless (not (is_given (lookup table id))) 8
    (unless (not (is_light_in carries part id)) 9
    pass)

-- the carries that the tile took in, and its part of the row
abbrev pub taken_for : PaintCall → List Carry
taken_for c = carries_in c.state.taken c.queue

abbrev pub part_for : PaintCall → List ℕ
part_for c = tile_part c.tile c.row

abbrev pub own_verdict : PaintCall → Judgement
own_verdict c = layer_verdict (layers_of c.table) (taken_for c) (part_for c) c.layer

abbrev pub paint_verdict : PaintCall → List Float → Judgement
paint_verdict c plane = and_then (call_verdict c plane) (own_verdict c)

-- ---- what a layer of the tile says: its coverages, its mark, and the painter's clip after it

pub record PaintSays : Type 0 where
  pub plane : List Float
  pub mark : ℕ
  pub clip : Option ℕ

-- the record of the layer. Refusal 8 keeps out one that the table lacks
abbrev pub layer_from : Answer Layer → ℕ → Layer
layer_from (refused n) id = record { id = id; props = record { fill_rule = NonZero; func = Clip 0 }; is_unchanged = false }
layer_from (given l) id = l

abbrev pub layer_in : List Layer → ℕ → Layer
layer_in table id = layer_from (lookup table id) id

abbrev pub paint_says : List Layer → List Carry → List ℕ → ℕ → Option ℕ → PaintSays
paint_says table carries part id clip =
    record {
      plane = plane_in carries part id (layer_in table id);
      mark = mark_in table carries part id (layer_in table id) clip;
      clip = clip_after (layer_in table id).props.func id clip;
    }

-- ---- what a painting gives: its answer, the state, and the lent plane at exit

pub record PaintGiven : Type 0 where
  pub answer : Answer ℕ
  pub state : State
  pub plane : List Float

-- by the verdict and what the layer says: the coverages stand over what the plane held
unfoldable pub paint_out : Judgement → PaintSays → State → List Float → PaintGiven
paint_out (refuse number) t s plane = record { answer = refused number; state = s; plane = plane }
paint_out pass t s plane = record { answer = given t.mark; state = with_clip s t.clip; plane = over t.plane plane }

abbrev pub paint_of : PaintCall → List Float → PaintGiven
paint_of c plane = paint_out (paint_verdict c plane) (paint_says (layers_of c.table) (taken_for c) (part_for c) c.layer c.state.clip) c.state plane

-- ---- the promise

pub record PaintsLayer (g : PaintGiven) (r : Painted) (back : List Float) : Type 0 where
  pub answer : given_or_refused r.answer ≡ g.answer
  pub state : state_in r.state ≡ g.state
  pub plane : back ≡ g.plane
