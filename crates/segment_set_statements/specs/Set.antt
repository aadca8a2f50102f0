-- A kept set of segments and its three operations: begun from a part and an incoming cover, a segment taken in, one equal segment let out. Stands
-- for W-207 and for its refusals: 1 where the lent d has fewer than 256 numbers, 3 for a segment of another layer or tile, 9 for absolute covers
-- above 127 in a pixel row, 12 for a segment that is not held, 13 where all lent slots are held. A refusal leaves set and lists as they were.
use Rattle.std.specs.Prelude.{◌≡◌, ◌&&◌, ◌∷◌, ◌+◌, ◌-◌, ◌+ℤ◌, ◌-ℤ◌}
use Rattle.laws.specs.Prelude.{Bool, cond, not, List, [], ℕ, suc, eqb, leb, ltb, ℤ, pos, nat_abs, length, get_or}
use Rattle.laws.specs.Prelude.{take, set, replicate, tabulate, over, all, any}
use Rattle.refusals.specs.Refusal.{Judgement, pass, refuse, judgement_in, unless}
use Rattle.pixel_segment.specs.Field.{cpu, layer_id_of, tile_x_of, tile_y_of, tile_of, local_y_of}
use Rattle.pixel_segment.specs.Order.{is_eq, compareℤ}
use Rattle.cover_statements.specs.Area.{areas_of}
use Rattle.cover_statements.specs.Carry.{abs_cover, load_in, is_light, carry_of}
use Rattle.cover_statements.specs.Cover.{cover_at, no_cover}
use Rattle.segment_set_statements.specs.Effect.{areas_after, carry_after, loads_after}
use Rattle.segment_set_statements.specs.declared.SegmentSet.{SegmentSet}
use Rattle.segment_set_statements.specs.declared.Edited.{Edited}

-- what a caller holds between calls: the set, the lent slots and the lent d
pub record SetState : Type 0 where
  pub set : SegmentSet
  pub slots : List ℕ
  pub areas : List ℤ

abbrev pub state : SegmentSet → List ℕ → List ℤ → SetState
state s slots areas = record { set = s; slots = slots; areas = areas }

-- the held words: the first slots, as many as are counted
unfoldable pub held_of : SetState → List ℕ
held_of s = take s.set.count s.slots

-- segment w is of a layer and a tile
abbrev pub is_of : ℕ → ℤ → ℤ → ℕ → Bool
is_of layer tile_x tile_y w =
    eqb (layer_id_of cpu w) layer && is_eq (compareℤ (tile_of (tile_x_of cpu w)) tile_x) && is_eq (compareℤ (tile_of (tile_y_of cpu w)) tile_y)

abbrev pub is_here : SegmentSet → ℕ → Bool
is_here s w = is_of s.layer_id s.tile_x s.tile_y w

-- each pixel row's absolute incoming cover with the absolute covers of its segments: what number 9 judges
unfoldable pub loads_from : List ℕ → ℕ → List ℤ → List ℕ → List ℕ
loads_from ws n covers part = tabulate n (λ y. nat_abs (cover_at covers y) + load_in ws y part)

-- ---- beginning

-- what a set is begun with; the part may be empty
pub record Beginning : Type 0 where
  pub layer : ℕ
  pub tile_x : ℤ
  pub tile_y : ℤ
  pub incoming : List ℤ
  pub part : List ℕ

abbrev pub beginning : ℕ → ℤ → ℤ → List ℤ → List ℕ → Beginning
beginning layer tile_x tile_y incoming part = record { layer = layer; tile_x = tile_x; tile_y = tile_y; incoming = incoming; part = part }

unfoldable pub begin_verdict : Beginning → List ℕ → List ℤ → Judgement
begin_verdict b slots areas =
    unless (ltb (length areas) 256) 1
    (unless (not (all (is_of b.layer b.tile_x b.tile_y) b.part)) 3
    (unless (not (is_light cpu 16 b.incoming b.part)) 9
    (unless (ltb (length slots) (length b.part)) 13
    pass)))

-- a fresh working of the part: its words in the slots, its d, its carry and its loads
abbrev pub fresh_set : Beginning → SegmentSet
fresh_set b =
    record {
      layer_id = b.layer;
      tile_x = b.tile_x;
      tile_y = b.tile_y;
      carry = record { covers = carry_of cpu 16 b.incoming b.part };
      loads = loads_from cpu 16 b.incoming b.part;
      count = length b.part;
    }

abbrev pub fresh_state : Beginning → List ℕ → List ℤ → SetState
fresh_state b slots areas =
    state (fresh_set b) (over b.part slots) (over (areas_of cpu 16 (cover_at b.incoming) b.part) areas)

-- a set of nothing: what a refused beginning gives
abbrev pub nothing : SegmentSet
nothing =
    record {
      layer_id = 0;
      tile_x = pos 0;
      tile_y = pos 0;
      carry = record { covers = no_cover 16 };
      loads = replicate 16 0;
      count = 0;
    }

-- ---- taking in

unfoldable pub take_verdict : SetState → ℕ → Judgement
take_verdict s w =
    unless (ltb (length s.areas) 256) 1
    (unless (not (is_here s.set w)) 3
    (unless (ltb 127 (get_or s.set.loads (local_y_of cpu w) 0 + abs_cover cpu w)) 9
    (unless (leb (length s.slots) s.set.count) 13
    pass)))

-- a set whose carry and loads are changed by a segment, with another count
abbrev pub set_changed : (ℤ → ℤ → ℤ) → (ℕ → ℕ → ℕ) → ℕ → ℕ → SegmentSet → SegmentSet
set_changed op opℕ w count s =
    record {
      layer_id = s.layer_id;
      tile_x = s.tile_x;
      tile_y = s.tile_y;
      carry = record { covers = carry_after op cpu w s.carry.covers };
      loads = loads_after opℕ cpu w s.loads;
      count = count;
    }

-- the word stands in the next slot
abbrev pub taken_in : SetState → ℕ → SetState
taken_in s w =
    state (set_changed ◌+ℤ◌ ◌+◌ w (s.set.count + 1) s.set) (set s.slots s.set.count w) (areas_after ◌+ℤ◌ cpu 16 w s.areas)

-- ---- letting out

abbrev pub is_word_held : ℕ → List ℕ → Bool
is_word_held w held = any (λ v. eqb v w) held

-- the place of the first word that is w; the length where there is none
unfoldable pub held_place : ℕ → List ℕ → ℕ
held_place w [] = 0
held_place w (v ∷ vs) = cond (eqb v w) 0 (suc (held_place w vs))

unfoldable pub let_verdict : SetState → ℕ → Judgement
let_verdict s w =
    unless (ltb (length s.areas) 256) 1
    (unless (not (is_here s.set w)) 3
    (unless (not (is_word_held w (held_of s))) 12
    pass))

-- the last held word is put in its place, so the held slots are again the first ones
abbrev pub let_out : SetState → ℕ → SetState
let_out s w =
    let last = length (held_of s) - 1 in
    state (set_changed ◌-ℤ◌ ◌-◌ w last s.set) (set s.slots (held_place w (held_of s)) (get_or s.slots last 0)) (areas_after ◌-ℤ◌ cpu 16 w s.areas)

-- ---- the promise

-- by the verdict: the state after, or the one that a refusal leaves
abbrev pub settled : Judgement → SetState → SetState → SetState
settled pass after before = after
settled (refuse number) after before = before

abbrev pub begin_of : Beginning → List ℕ → List ℤ → SetState
begin_of b slots areas = settled (begin_verdict b slots areas) (fresh_state b slots areas) (state nothing slots areas)

abbrev pub take_of : SetState → ℕ → SetState
take_of s w = settled (take_verdict s w) (taken_in s w) s

abbrev pub let_of : SetState → ℕ → SetState
let_of s w = settled (let_verdict s w) (let_out s w) s

-- what an operation answers, and what it leaves of set and lists
pub record Gives (verdict : Judgement) (after : SetState) (r : Edited) (slots : List ℕ) (areas : List ℤ) : Type 0 where
  pub answer : judgement_in r.verdict ≡ verdict
  pub leaves : state r.set slots areas ≡ after
