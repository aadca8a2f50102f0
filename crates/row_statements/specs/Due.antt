-- What is due of each call after an accepted opening, worked from the opening on: by the row, the table, the row's tiles, which earlier calls were
-- due to be accepted, and the caller's own choices. No answer, no queue and no state that a call gave back is looked at. The claim of specs/Claim
-- compares every call with these definitions. Stands for 'what it compares with is worked by this document from the opening on'.
use Rattle.std.specs.Prelude.{◌||◌, ◌+◌, ◌-◌}
use Rattle.laws.specs.Prelude.{Bool, not, List, Option, None, ℕ, zero, suc, ltb, leb, eqb, Float, ℤ, pos, length, lt_z, plus}
use Rattle.refusals.specs.Refusal.{Judgement, pass, refuse, unless}
use Rattle.pixel_segment.specs.Field.{cpu}
use Rattle.segment_rows.specs.Search.{tile_part}
use Rattle.styling.specs.declared.Color.{Color}
use Rattle.styling.specs.declared.Func.{Func}
use Rattle.styling.specs.declared.Layer.{Layer}
use Rattle.cover_statements.specs.WholeRow.{row_plane}
use Rattle.queue_statements.specs.Queue.{Carry}
use Rattle.cached_tile.specs.Kept.{tag_out_of_range}
use Rattle.cached_tile.specs.declared.kept.Kept as kept
use Rattle.layer_carrying.specs.Carrying.{rule_in}
use Rattle.tile_layers.specs.Listing.{Listed}
use Rattle.pass_statements.specs.Decide.{Outcome}
use Rattle.pass_statements.specs.Rules.{needs_clip}
use Rattle.layer_workbench.specs.Work.{outcome_in}
use Rattle.row_carries.specs.Carries.{queue_after, layers_at}
use Rattle.row_carries.specs.Covering.{items_at}
use Rattle.painter.specs.Clip.{alive_at, clip_after}
use Rattle.painter.specs.Painting.{mark_for}
use Rattle.row_statements.specs.Lent.{Columns, LentTable, is_queue_short, is_list_short, layers_of}
use Rattle.row_statements.specs.State.{State}
use Rattle.row_statements.specs.TileWork.{WorkLent, WorkGiven, TileSays, list_verdict, work_out}
use Rattle.row_statements.specs.Painting.{PaintGiven, PaintSays, layer_verdict, layer_in, paint_out}

-- ---- the row

-- a row that is open: what its opening was called with, but for the lent queue
pub record OpenRow : Type 0 where
  pub tile_y : ℕ
  pub from : ℕ
  pub to : ℕ
  pub row : List ℕ
  pub table : LentTable

abbrev pub table_on : OpenRow → List Layer
table_on o = layers_of o.table

-- the carries before the tile from + n, and the tile's layers
abbrev pub queue_on : OpenRow → ℕ → List Carry
queue_on o n = queue_after (table_on o) o.row o.from n

abbrev pub layers_on : OpenRow → ℕ → List Listed
layers_on o n = layers_at (table_on o) o.row o.from n

-- ---- the calls so far: how many tiles are worked, and the painter's clip

pub record Past : Type 0 where
  pub tiles : ℕ
  pub clip : Option ℕ

-- no tile is worked, and the painter has no clip
abbrev pub at_first : Past
at_first = record { tiles = 0; clip = None }

-- how many carries the last of n tiles took in
abbrev pub taken_on : OpenRow → ℕ → ℕ
taken_on o zero = 0
taken_on o (suc n) = length (queue_on o n)

abbrev pub state_on : OpenRow → Past → State
state_on o p =
    record { tile_y = o.tile_y; from = o.from; to = o.to; next = o.from + p.tiles; left = length (queue_on o p.tiles); taken = taken_on o p.tiles; clip = p.clip }

-- ---- tile work

-- what a caller chooses for a work, beside the row and the table: `queue` is the memory that it keeps the row's carries in
pub record WorkChoice : Type 0 where
  pub tile : ℤ
  pub kept : kept.Kept
  pub clear : Color
  pub previous : Option Color
  pub queue : Columns
  pub lent : WorkLent

-- 2: the tile is not the one after the n that are worked, or that one is past the end
abbrev pub is_not_due : OpenRow → ℕ → ℤ → Bool
is_not_due o n tile = leb o.to (o.from + n) || lt_z tile (pos 0) || not (eqb (plus tile) (o.from + n))

-- the lowest refusal that applies. 3, 4 and 5 don't to the row, the table and the carries of an accepted opening
abbrev pub work_due_verdict : OpenRow → ℕ → WorkChoice → Judgement
work_due_verdict o n c =
    unless (is_queue_short c.lent.queue || is_list_short c.lent.list) 1
    (unless (is_not_due o n c.tile) 2
    (unless (tag_out_of_range c.kept) 6
    (list_verdict (table_on o) (layers_on o n))))

-- what the tile from + n says: its layers, decision, masks and skips, and the carries past it
abbrev pub outcome_on : OpenRow → ℕ → kept.Kept → Color → Option Color → Outcome
outcome_on o n k clear previous = outcome_in (table_on o) k clear previous (layers_on o n)

abbrev pub says_on : OpenRow → ℕ → WorkChoice → TileSays
says_on o n c = record { table = table_on o; layers = layers_on o n; outcome = outcome_on o n c.kept c.clear c.previous; handed = queue_on o (suc n) }

abbrev pub work_due : OpenRow → Past → WorkChoice → WorkGiven
work_due o p c = work_out (work_due_verdict o p.tiles c) (says_on o p.tiles c) (state_on o p) c.kept c.lent

-- an accepted work ends a tile, and with it the painter's clip
abbrev pub past_work : Judgement → Past → Past
past_work (refuse number) p = p
past_work pass p = record { tiles = suc p.tiles; clip = None }

-- ---- painting

pub record PaintChoice : Type 0 where
  pub tile : ℤ
  pub layer : ℕ
  pub queue : Columns
  pub plane : List Float

-- 2: the tile is not the last of the n that are worked
abbrev pub is_not_last : OpenRow → ℕ → ℤ → Bool
is_not_last o n tile = eqb n 0 || lt_z tile (pos 0) || not (eqb (plus tile + 1) (o.from + n))

-- the lowest refusal that applies; 8 and 9 are judged for the painted layer
abbrev pub paint_due_verdict : OpenRow → ℕ → PaintChoice → Judgement
paint_due_verdict o n c =
    unless (ltb (length c.plane) 256) 1
    (unless (is_not_last o n c.tile) 2
    (layer_verdict (table_on o) (queue_on o (n - 1)) (tile_part (pos (o.from + (n - 1))) o.row) c.layer))

abbrev pub func_on : OpenRow → ℕ → Func
func_on o id = (layer_in (table_on o) id).props.func

-- the layer's 256 coverages in the tile from + n, by working from the whole row. The stored number of a tile is its own plus 1
abbrev pub plane_on : OpenRow → ℕ → ℕ → List Float
plane_on o n id = row_plane cpu 16 (rule_in (table_on o) id) (suc (o.from + n)) id o.row

-- its mark there, with the painter's clip before it
abbrev pub mark_on : OpenRow → ℕ → ℕ → Option ℕ → ℕ
mark_on o n id clip =
    mark_for (func_on o id) (needs_clip (items_at (table_on o) o.row o.from n) (func_on o id) id) (alive_at clip id) (plane_on o n id)

-- what the layer says in the tile from + n
abbrev pub paint_on : OpenRow → ℕ → ℕ → Option ℕ → PaintSays
paint_on o n id clip = record { plane = plane_on o n id; mark = mark_on o n id clip; clip = clip_after (func_on o id) id clip }

abbrev pub paint_due : OpenRow → Past → PaintChoice → PaintGiven
paint_due o p c = paint_out (paint_due_verdict o p.tiles c) (paint_on o (p.tiles - 1) c.layer p.clip) (state_on o p) c.plane

-- an accepted painting leaves a clip
abbrev pub past_paint : Judgement → OpenRow → ℕ → Past → Past
past_paint (refuse number) o id p = p
past_paint pass o id p = record { tiles = p.tiles; clip = clip_after (func_on o id) id p.clip }
