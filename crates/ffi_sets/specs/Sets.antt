-- A kept set of segments as numbers in lent memory: the layer and the tile that it is of, which its beginning alone writes and each edit reads; its
-- carry, its loads and how many slots are held; the slots and d. Every content is a set's: of a layer or a tile that no segment has, each edit is
-- refused by 3. Stands for W-207, for callers that know no struct.
use Rattle.std.specs.Prelude.{◌≡◌, ◌∷◌}
use Rattle.laws.specs.Prelude.{List, [], ℕ, ℤ, pos, get_or}
use Rattle.refusals.specs.Refusal.{Judgement, pass, refuse}
use Rattle.segment_set_statements.specs.Set.{SetState, state, Beginning, begin_verdict, begin_of, take_verdict, take_of, let_verdict, let_of}
use Rattle.segment_set_statements.specs.declared.SegmentSet.{SegmentSet}
use Rattle.ffi_numbers.specs.Numbers.{judged_number}

-- ---- the numbers

-- the layer; tile x and tile y
pub record SetPlace : Type 0 where
  pub layer : ℕ
  pub tile : List ℤ

abbrev pub set_place : ℕ → List ℤ → SetPlace
set_place layer tile = record { layer = layer; tile = tile }

pub record SetNumbers : Type 0 where
  pub carry : List ℤ
  pub loads : List ℕ
  pub count : ℕ

abbrev pub set_numbers : List ℤ → List ℕ → ℕ → SetNumbers
set_numbers carry loads count = record { carry = carry; loads = loads; count = count }

-- the set of such numbers
abbrev pub set_from : SetPlace → SetNumbers → SegmentSet
set_from p n =
    record {
      layer_id = p.layer;
      tile_x = get_or p.tile 0 (pos 0);
      tile_y = get_or p.tile 1 (pos 0);
      carry = record { covers = n.carry };
      loads = n.loads;
      count = n.count;
    }

-- the layer and tile after a beginning, and the other numbers after any edit: those of the set; a refusal leaves every one as it was
abbrev pub placed_by : Judgement → SegmentSet → SetPlace → SetPlace
placed_by pass s old = set_place s.layer_id (s.tile_x ∷ s.tile_y ∷ [])
placed_by (refuse number) s old = old

abbrev pub edited_numbers : Judgement → SegmentSet → SetNumbers → SetNumbers
edited_numbers pass s old = set_numbers s.carry.covers s.loads s.count
edited_numbers (refuse number) s old = old

-- ---- all that is lent

pub record SetLent : Type 0 where
  pub place : SetPlace
  pub numbers : SetNumbers
  pub slots : List ℕ
  pub areas : List ℤ

abbrev pub set_lent : SetPlace → SetNumbers → List ℕ → List ℤ → SetLent
set_lent p n slots areas = record { place = p; numbers = n; slots = slots; areas = areas }

-- what a caller holds in such memory
abbrev pub state_from : SetLent → SetState
state_from k = state (set_from k.place k.numbers) k.slots k.areas

-- ---- all that the calls give and leave

-- an edit leaves the layer and the tile as they were
pub record EditTold (verdict : Judgement) (after : SetState) (old : SetLent) (r : ℕ) (new : SetLent) : Type 0 where
  pub number : r ≡ judged_number verdict
  pub lent_is : new ≡ set_lent old.place (edited_numbers verdict after.set old.numbers) after.slots after.areas

abbrev pub TakeTold : SetLent → ℕ → ℕ → SetLent → Type 0
TakeTold old w r new = EditTold (take_verdict (state_from old) w) (take_of (state_from old) w) old r new

abbrev pub LetTold : SetLent → ℕ → ℕ → SetLent → Type 0
LetTold old w r new = EditTold (let_verdict (state_from old) w) (let_of (state_from old) w) old r new

-- what a beginning leaves, by its verdict
abbrev pub begun_lent : Judgement → SetState → SetLent → SetLent
begun_lent verdict after old =
    set_lent (placed_by verdict after.set old.place) (edited_numbers verdict after.set old.numbers) after.slots after.areas

pub record BeginTold (b : Beginning) (old : SetLent) (r : ℕ) (new : SetLent) : Type 0 where
  pub number : r ≡ judged_number (begin_verdict b old.slots old.areas)
  pub lent_is : new ≡ begun_lent (begin_verdict b old.slots old.areas) (begin_of b old.slots old.areas) old
