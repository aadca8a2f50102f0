-- Kept sets of segments. Stands for W-207: after any edits all of the set equals a fresh working of its held words.
use Rattle.std.specs.Prelude.{◌∷◌, ◌≡◌, ◌+◌, ◌<◌, ◌*◌, ◌/◌, ◌%◌, ◌≤◌, ◌+ℤ◌}
use Rattle.laws.specs.Prelude.{List, cond, false, ℕ, ℤ, pos, nat_abs, length, take}
use Rattle.segment_set_statements.specs.Set.{Beginning, SetState, held_of, take_verdict, let_out, taken_in, loads_from, begin_verdict, fresh_state, beginning}
use Rattle.segment_set_statements.specs.Edits.{Edits, take_all}
use Rattle.segment_set_statements.specs.Alike.{OrderLaw}
use Rattle.segment_set_statements.specs.Kept.{Holds, Kept, Undone, SameWords}
use Rattle.cover_statements.specs.Area.{doubled_area, areas_of}
use Rattle.segment_set_statements.specs.Effect.{effect_of, is_reached, areas_after, carry_after}
use Rattle.cover_statements.specs.Carry.{cover_in, in_row, load_in, abs_cover, carry_of}
use Rattle.pixel_segment.specs.Field.{cover_of, local_y_of}
use Rattle.cover_statements.specs.Cover.{cover_at}
use Rattle.refusals.specs.Refusal.{pass}
use Rattle.ffi_sets.specs.Sets.{SetLent, begun_lent, BeginTold, TakeTold, LetTold}

-- a number and memory that an edit tells and leaves
pub record EditMade (Told : ℕ → SetLent → Type 0) : Type 0 where
  pub number : ℕ
  pub new : SetLent
  pub told : Told number new

pub record SegmentSets : Type 0 where
  -- W-207: after any edits, refused ones included, and however often other slots are lent, all of the set equals a fresh working of its held words,
  -- and it is of the layer and tile that it was begun for
  pub kept : {b : Beginning} {ins outs : List ℕ} {s : SetState} → Edits b ins outs s → Holds b ins outs s
  -- a segment is judged as a beginning with it and the held words would be
  pub taken_as_begun : {incoming : List ℤ} {s : SetState} → Kept incoming s → (w : ℕ) →
      take_verdict s w ≡ begin_verdict (beginning s.set.layer_id s.set.tile_x s.set.tile_y incoming (w ∷ held_of s)) s.slots s.areas
  -- |d| is at most 8,001, so nothing is wrapped
  pub small : {incoming : List ℤ} {s : SetState} → Kept incoming s → (k : ℕ) → k < length (take 256 s.areas) →
      nat_abs (cover_at (take 256 s.areas) k) ≤ 8001
  -- one segment more
  pub effect_more : (ws : List ℕ) (w : ℕ) (part : List ℕ) → (incoming : ℕ → ℤ) (c y : ℕ) →
      doubled_area ws incoming (w ∷ part) c y ≡ doubled_area ws incoming part c y +ℤ effect_of ws w c y
  pub cover_more : (ws : List ℕ) (w : ℕ) (part : List ℕ) → (y : ℕ) →
      cover_in ws y (w ∷ part) ≡ cover_in ws y part +ℤ cond (in_row ws y w) (cover_of ws w) (pos 0)
  pub load_more : (ws : List ℕ) (w : ℕ) (part : List ℕ) → (y : ℕ) → load_in ws y (w ∷ part) ≡ load_in ws y part + cond (in_row ws y w) (abs_cover ws w) 0
  -- only the segment's pixel row, from its column rightward, and that row's carry may differ, on every content
  pub framed_areas : (op : ℤ → ℤ → ℤ) (ws : List ℕ) (n w : ℕ) → (areas : List ℤ) (k : ℕ) → (k < 16 * n → is_reached ws w (k / n) (k % n) ≡ false) →
      cover_at (areas_after op ws n w areas) k ≡ cover_at areas k
  pub framed_carry : (op : ℤ → ℤ → ℤ) (ws : List ℕ) (n w : ℕ) → (carry : List ℤ) (y : ℕ) → (y ≡ local_y_of ws w → ⊥) →
      cover_at (carry_after op ws w carry) y ≡ cover_at carry y
  -- a segment taken in and let out leaves d, carry and loads as they were
  pub undone : {incoming : List ℤ} {s : SetState} → Kept incoming s → (w : ℕ) → take_verdict s w ≡ pass → Undone s (let_out (taken_in s w) w)
  -- order carries no meaning, nor does it for the verdicts
  pub order_law : OrderLaw
  pub same_areas : (ws : List ℕ) {xs ys : List ℕ} (s : SameWords xs ys) → (n : ℕ) (incoming : ℕ → ℤ) →
      areas_of ws n incoming xs ≡ areas_of ws n incoming ys
  pub same_carry : (ws : List ℕ) {xs ys : List ℕ} (s : SameWords xs ys) → (n : ℕ) (covers : List ℤ) → carry_of ws n covers xs ≡ carry_of ws n covers ys
  pub same_loads : (ws : List ℕ) {xs ys : List ℕ} (s : SameWords xs ys) → (n : ℕ) (covers : List ℤ) →
      loads_from ws n covers xs ≡ loads_from ws n covers ys
  -- beginning with a part is beginning with none and taking its words in
  pub begun_each : (b : Beginning) (slots : List ℕ) (areas : List ℤ) → begin_verdict b slots areas ≡ pass →
      take_all (fresh_state (beginning b.layer b.tile_x b.tile_y b.incoming (take 0 b.part)) slots areas)
      b.part ≡ fresh_state b slots areas

-- The premises of calls by numbers (ffi_sets/specs/SetCalls) are met: a beginning that passes tells 0, and of every memory and every word there is an
-- edit either way.
pub record SetCallsExist : Type 0 where
  pub begins : (b : Beginning) (old : SetLent) → begin_verdict b old.slots old.areas ≡ pass →
      BeginTold b old 0 (begun_lent pass (fresh_state b old.slots old.areas) old)
  pub takes : (k : SetLent) (w : ℕ) → EditMade (λ r new. TakeTold k w r new)
  pub lets : (k : SetLent) (w : ℕ) → EditMade (λ r new. LetTold k w r new)
