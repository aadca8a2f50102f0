-- W-214: two rows that agree on one layer's segments and its fill rule, and may differ in all else, say the same of that layer.
use Rattle.std.specs.Prelude.{◌≡◌, ◌∷◌, ◌%◌, ◌^◌, Ok}
use Rattle.laws.specs.Prelude.{Bool, cond, List, [], map, Option, Some, None, ℕ, eqb, Float, ℤ, take, given, filter, count_by}
use Rattle.refusals.specs.Refusal.{given_or_refused}
use Rattle.pixel_segment.specs.Field.{cpu, shift_of, layer_id_of}
use Rattle.segment_rows.specs.Rows.{Words}
use Rattle.queue_statements.specs.Queue.{Carry}
use Rattle.layer_carrying.specs.Carrying.{rule_in}
use Rattle.pass_statements.specs.Entry.{Entry}
use Rattle.layer_workbench.specs.Work.{entry_of}
use Rattle.row_statements.specs.Lent.{Columns, carries_in, entries_in}
use Rattle.row_statements.specs.State.{State, state_in}
use Rattle.row_statements.specs.Opening.{OpenCall, open_of, OpensRow}
use Rattle.row_statements.specs.TileWork.{WorkLent, TileAnswer, work_answer}
use Rattle.row_statements.specs.Due.{OpenRow, Past, at_first, WorkChoice, PaintChoice, table_on, queue_on, layers_on, plane_on}
use Rattle.row_statements.specs.Run.{open_row, held_first, Event}
use Rattle.row_statements.specs.declared.RowState.{RowState}
use Rattle.row_statements.specs.declared.TileWorked.{TileWorked}
use Rattle.row_statements.specs.declared.Painted.{Painted}
use Rattle.listing_statements.specs.Listing.{ListLent, entries_from}
use Rattle.listing_statements.specs.declared.TileListed.{TileListed}
use Rattle.listing_runs.specs.Due.{ListChoice}
use Rattle.listing_runs.specs.Run.{HeldAll, held_with, RowCall, RowCalls}
use Rattle.listing_runs.specs.Claim.{past_call}

-- a word without its tile y: the two rows may be different tile rows
abbrev pub below_tile_y : ℕ → ℕ
below_tile_y w = w % 2 ^ shift_of cpu 0

-- the layer's segments, so
abbrev pub layer_segments : ℕ → List ℕ → List ℕ
layer_segments id row = map below_tile_y (filter (λ w. eqb (layer_id_of cpu w) id) row)

-- the two rows begin at one tile and agree on the layer: its segments, each as often, and its fill rule. A layer that a table lacks counts as
-- NonZero
pub record AgreeOn (id : ℕ) (o o' : OpenRow) : Type 0 where
  pub first : o.from ≡ o'.from
  pub segments : (v : ℕ) → count_by (eqb v) (layer_segments id o.row) ≡ count_by (eqb v) (layer_segments id o'.row)
  pub rule : rule_in (table_on o) id ≡ rule_in (table_on o') id

-- ---- what a list and a queue say of a layer: nothing, or what is compared of it

-- of a list's entry: whether the layer is changed is its own table's word, and no part of it
pub record Presence : Type 0 where
  pub id : ℕ
  pub cover : List ℤ
  pub segments : Bool

abbrev pub presence_of : Entry → Presence
presence_of e = record { id = e.id; cover = e.cover; segments = e.segments }

unfoldable pub entry_in : List Entry → ℕ → Option Presence
entry_in [] id = None
entry_in (e ∷ es) id = cond (eqb e.id id) (Some (presence_of e)) (entry_in es id)

unfoldable pub carry_in : List Carry → ℕ → Option Carry
carry_in [] id = None
carry_in (c ∷ q) id = cond (eqb c.id id) (Some c) (carry_in q id)

-- ---- tile from + n: the layer's carry before it, its entry in the list, its coverages
pub record SameLayer (id : ℕ) (o o' : OpenRow) (n : ℕ) : Type 0 where
  pub carry : carry_in (queue_on o n) id ≡ carry_in (queue_on o' n) id
  pub entry : entry_in (map (entry_of (table_on o)) (layers_on o n)) id ≡ entry_in (map (entry_of (table_on o')) (layers_on o' n)) id
  pub plane : plane_on o n id ≡ plane_on o' n id

-- ---- along two runs of listings, decidings, works and paintings

-- a call of a run, with what the calls before it tell
pub data MadeCall (o : OpenRow) : Past → List RowCall → Past → RowCall → Type 0 where
  here : {p : Past} {e : RowCall} {es : List RowCall} → MadeCall o p (e ∷ es) p e
  later : {p q : Past} {e f : RowCall} {es : List RowCall} → MadeCall o (past_call o e p) es q f → MadeCall o p (e ∷ es) q f

-- a tile's list and the carries past it, read back from what an accepted work or an accepted listing answered and left
pub record TileResult : Type 0 where
  pub entries : List Entry
  pub carries : List Carry

pub data ResultOf : RowCall → TileResult → Type 0 where
  work : {c : WorkChoice} {r : TileWorked} {back : WorkLent} {t : TileAnswer} →
      work_answer r.answer ≡ given t →
      ResultOf (RowCall.row (Event.work c r back))
      (record { entries = entries_in t.listed back.list; carries = carries_in (state_in r.state).left back.queue })
  list : {c : ListChoice} {r : TileListed} {back : ListLent} {n : ℕ} →
      given_or_refused r.answer ≡ given n →
      ResultOf (RowCall.list c r back)
      (record { entries = entries_from n back.list; carries = carries_in (state_in r.state).left back.queue })

-- what two of them say of the layer: whether and how it is listed, and the carry handed on
pub record SameTile (id : ℕ) (t t' : TileResult) : Type 0 where
  pub entry : entry_in t.entries id ≡ entry_in t'.entries id
  pub carry : carry_in t.carries id ≡ carry_in t'.carries id

-- of two runs after accepted openings: the carry that each opens with; every tile that both work or list; and the 256 coverages of the layer wherever
-- both paint it. Only the calls that are compared need be accepted
pub record Apart (id : ℕ) (o o' : OpenRow) (s s' : State) (opened opened' : Columns) (es es' : List RowCall) : Type 0 where
  pub opening : carry_in (carries_in s.left opened) id ≡ carry_in (carries_in s'.left opened') id
  pub tile : {p p' : Past} {e e' : RowCall} {t t' : TileResult} →
      MadeCall o at_first es p e →
      MadeCall o' at_first es' p' e' →
      p.tiles ≡ p'.tiles →
      ResultOf e t →
      ResultOf e' t' →
      SameTile id t t'
  pub paint : {p p' : Past} {c c' : PaintChoice} {r r' : Painted} {back back' : List Float} {mark mark' : ℕ} →
      MadeCall o at_first es p (RowCall.row (Event.paint c r back)) →
      MadeCall o' at_first es' p' (RowCall.row (Event.paint c' r' back')) →
      p.tiles ≡ p'.tiles →
      c.layer ≡ id →
      c'.layer ≡ id →
      given_or_refused r.answer ≡ given mark →
      given_or_refused r'.answer ≡ given mark' →
      take 256 back ≡ take 256 back'

-- the claim: whatever else differs
abbrev pub LayersApart : Type 0
LayersApart =
    (id : ℕ) (c c' : OpenCall) (lent lent' back back' : Columns) (s s' : RowState) (es es' : List RowCall) (h h' : HeldAll) →
    Words c.row →
    Words c'.row →
    OpensRow (open_of c lent) (Ok s) back →
    OpensRow (open_of c' lent') (Ok s') back' →
    AgreeOn id (open_row c) (open_row c') →
    RowCalls (open_row c) (held_with (held_first s back) []) es h →
    RowCalls (open_row c') (held_with (held_first s' back') []) es' h' →
    Apart id (open_row c) (open_row c') (state_in s) (state_in s') back back' es es'
