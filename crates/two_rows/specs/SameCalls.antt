-- Calls of two runs that are the same but for the memory that is lent: kind by kind, the same tile, layer, cached tile and clear colours, and room for
-- both or for neither. Refused calls are included. Stands for W-210's 'by the same calls, with the same layer table, cached tiles and clear colours, and
-- each list decided as listed'.
use Rattle.std.specs.Prelude.{◌≡◌, ◌||◌, ◌∷◌}
use Rattle.laws.specs.Prelude.{Bool, List, [], ltb, Float, length}
use Rattle.row_statements.specs.Lent.{is_queue_short, is_list_short}
use Rattle.row_statements.specs.TileWork.{WorkCall, WorkLent}
use Rattle.row_statements.specs.Painting.{PaintCall}
use Rattle.row_statements.specs.Due.{WorkChoice, PaintChoice}
use Rattle.row_statements.specs.Run.{Event}
use Rattle.row_statements.specs.declared.TileWorked.{TileWorked}
use Rattle.row_statements.specs.declared.Painted.{Painted}
use Rattle.listing_statements.specs.Listing.{ListCall, ListLent, is_tile_list_short}
use Rattle.listing_statements.specs.Deciding.{DecideCall}
use Rattle.listing_statements.specs.declared.TileListed.{TileListed}
use Rattle.listing_statements.specs.declared.TileDecided.{TileDecided}
use Rattle.listing_runs.specs.Due.{ListChoice, DecideChoice}
use Rattle.listing_runs.specs.Run.{RowCall}

pub record AlikeWorks (c c' : WorkChoice) : Type 0 where
  pub tile : c.tile ≡ c'.tile
  pub kept : c.kept ≡ c'.kept
  pub clear : c.clear ≡ c'.clear
  pub previous : c.previous ≡ c'.previous
  pub room : (is_queue_short c.lent.queue || is_list_short c.lent.list) ≡ (is_queue_short c'.lent.queue || is_list_short c'.lent.list)

pub record AlikePaints (c c' : PaintChoice) : Type 0 where
  pub tile : c.tile ≡ c'.tile
  pub layer : c.layer ≡ c'.layer
  pub room : ltb (length c.plane) 256 ≡ ltb (length c'.plane) 256

pub record AlikeLists (c c' : ListChoice) : Type 0 where
  pub tile : c.tile ≡ c'.tile
  pub room : (is_queue_short c.lent.queue || is_tile_list_short c.lent.list) ≡ (is_queue_short c'.lent.queue || is_tile_list_short c'.lent.list)

-- each decides the list of the tile that it names, as its own run listed it
pub record AlikeDecides (c c' : DecideChoice) : Type 0 where
  pub tile : c.tile ≡ c'.tile
  pub kept : c.kept ≡ c'.kept
  pub clear : c.clear ≡ c'.clear
  pub previous : c.previous ≡ c'.previous
  pub room : ltb (length c.unmasked) 256 ≡ ltb (length c'.unmasked) 256

-- of calls with another row, table, queue or list nothing is asked
pub data AlikeCall : RowCall → RowCall → Type 0 where
  work : {c c' : WorkChoice} {r r' : TileWorked} {back back' : WorkLent} → AlikeWorks c c' → AlikeCall (RowCall.row (Event.work c r back)) (RowCall.row (Event.work c' r' back'))
  paint : {c c' : PaintChoice} {r r' : Painted} {back back' : List Float} → AlikePaints c c' → AlikeCall (RowCall.row (Event.paint c r back)) (RowCall.row (Event.paint c' r' back'))
  list : {c c' : ListChoice} {r r' : TileListed} {back back' : ListLent} → AlikeLists c c' → AlikeCall (RowCall.list c r back) (RowCall.list c' r' back')
  decide : {c c' : DecideChoice} {r r' : TileDecided} {back back' : List Bool} → AlikeDecides c c' → AlikeCall (RowCall.decide c r back) (RowCall.decide c' r' back')
  other_work : {a a' : WorkCall} {lent lent' : WorkLent} {r r' : TileWorked} {back back' : WorkLent} → AlikeCall (RowCall.row (Event.other_work a lent r back)) (RowCall.row (Event.other_work a' lent' r' back'))
  other_paint : {a a' : PaintCall} {plane plane' : List Float} {r r' : Painted} {back back' : List Float} → AlikeCall (RowCall.row (Event.other_paint a plane r back)) (RowCall.row (Event.other_paint a' plane' r' back'))
  other_list : {a a' : ListCall} {lent lent' : ListLent} {r r' : TileListed} {back back' : ListLent} → AlikeCall (RowCall.other_list a lent r back) (RowCall.other_list a' lent' r' back')
  other_decide : {a a' : DecideCall} {masks masks' : List Bool} {r r' : TileDecided} {back back' : List Bool} → AlikeCall (RowCall.other_decide a masks r back) (RowCall.other_decide a' masks' r' back')

pub data AlikeCalls : List RowCall → List RowCall → Type 0 where
  none : AlikeCalls [] []
  next : {e e' : RowCall} {es es' : List RowCall} → AlikeCall e e' → AlikeCalls es es' → AlikeCalls (e ∷ es) (e' ∷ es')
