-- A range of tiles of one layer's row in one call: the succession of the tiles' own calls (specs/WorkLayer), each of which lends the next plane of 64
-- numbers. It is refused only where the first tile's own call would be, by that number, and all is then as it was. Else it is accepted, and tells how
-- many tiles were worked, and why it ended: all that were asked for are worked; the row has no further tile; no plane is left; or the next tile's own
-- call would be refused, with the number. To ask for more tiles than the row has is no fault; a range that asks for none is accepted.
use Rattle.std.specs.Prelude.{◌≡◌, ◌*◌, ◌/◌}
use Rattle.laws.specs.Prelude.{Bool, cond, List, ℕ, zero, suc, leb, eqb, Float, ℤ, pos, length, take, drop, sets}
use Rattle.refusals.specs.Refusal.{Judgement, pass, refuse, judgement_in, number_of}
use Rattle.layer_row_gpu.specs.LayerState.{LayerState, layer_state_in}
use Rattle.layer_row_gpu.specs.WorkLayer.{work_layer_verdict, layer_choice, LayerGiven, work_layer_of}
use Rattle.layer_row_gpu.specs.declared.tiles.Ended.{Ended}
use Rattle.layer_row_gpu.specs.declared.tiles.Ended.TheVariants as ended
use Rattle.layer_row_gpu.specs.declared.tiles.WorkedTiles.{WorkedTiles}

-- the k-th of the lent planes
abbrev pub plane_at : ℕ → List Float → List Float
plane_at k planes = take 64 (drop (k * 64) planes)

-- why a range ended
pub data TilesEnd : Type 0 where
  asked : TilesEnd
  row_end : TilesEnd
  no_room : TilesEnd
  refused : (number : ℕ) → TilesEnd

-- the cases of the code's answer
abbrev pub tiles_end_in : Ended → TilesEnd
tiles_end_in ended.Asked = asked
tiles_end_in ended.RowEnd = row_end
tiles_end_in ended.NoRoom = no_room
tiles_end_in (ended.Refused r) = refused (number_of r)

-- ---- whether the next tile is worked, where another is asked for: not past the row's end, not without a plane, and not where its own call is refused

pub data NextTile : Type 0 where
  works : NextTile
  ends : (e : TilesEnd) → NextTile

abbrev pub next_by : Judgement → NextTile
next_by pass = NextTile.works
next_by (refuse number) = NextTile.ends (refused number)

abbrev pub next_tile : Bool → Bool → Judgement → NextTile
next_tile isPastEnd is_full own = cond isPastEnd (NextTile.ends row_end) (cond is_full (NextTile.ends no_room) (next_by own))

-- ---- tile after tile

pub record TilesGiven : Type 0 where
  pub answer : Judgement
  pub worked : ℕ
  pub ended : TilesEnd
  pub state : LayerState
  pub planes : List Float

abbrev pub tiles_by : NextTile → ℕ → LayerState → List Float → TilesGiven → TilesGiven
tiles_by NextTile.works k s planes rest = rest
tiles_by (NextTile.ends e) k s planes rest = record { answer = pass; worked = k; ended = e; state = s; planes = planes }

-- the own call of the next tile
abbrev pub own_call : List ℕ → ℕ → LayerState → List Float → LayerGiven
own_call row k s planes = work_layer_of s (layer_choice (pos s.next) row (plane_at k planes))

-- `left` tiles still asked for, k worked
unfoldable pub tiles_from : List ℕ → ℕ → ℕ → LayerState → List Float → TilesGiven
tiles_from row zero k s planes = record { answer = pass; worked = k; ended = asked; state = s; planes = planes }
tiles_from row (suc left) k s planes =
    let own = own_call row k s planes in
    tiles_by (next_tile (leb s.to s.next) (leb (length planes / 64) k) own.answer) k s planes
    (tiles_from row left (suc k) own.state (sets planes (k * 64) own.plane))

-- ---- the operation

-- what a caller chooses: the first tile, how many, and the row and the planes that it lends
pub record TilesChoice : Type 0 where
  pub tile : ℤ
  pub tiles : ℕ
  pub row : List ℕ
  pub planes : List Float

abbrev pub tiles_choice : ℤ → ℕ → List ℕ → List Float → TilesChoice
tiles_choice tile tiles row planes = record { tile = tile; tiles = tiles; row = row; planes = planes }

abbrev pub tiles_verdict : LayerState → TilesChoice → Judgement
tiles_verdict s choice = cond (eqb choice.tiles 0) pass (work_layer_verdict s choice.tile choice.row choice.planes)

abbrev pub tiles_given_by : Judgement → LayerState → TilesChoice → TilesGiven
tiles_given_by (refuse number) s choice = record { answer = refuse number; worked = 0; ended = refused number; state = s; planes = choice.planes }
tiles_given_by pass s choice = tiles_from choice.row choice.tiles 0 s choice.planes

abbrev pub work_tiles_of : LayerState → TilesChoice → TilesGiven
work_tiles_of s choice = tiles_given_by (tiles_verdict s choice) s choice

-- its promise
pub record WorksTiles (g : TilesGiven) (r : WorkedTiles) (back : List Float) : Type 0 where
  pub answer : judgement_in r.answer ≡ g.answer
  pub worked_is : r.worked ≡ g.worked
  pub ended_is : tiles_end_in r.ended ≡ g.ended
  pub state_is : layer_state_in r.state ≡ g.state
  pub planes_are : back ≡ g.planes
