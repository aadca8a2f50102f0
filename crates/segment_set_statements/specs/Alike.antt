-- Order within a set carries no meaning for its verdicts either. Stands for W-207: of two kept sets with the same words, each as often, and as many
-- slots, each edit is answered alike, and both are alike again after it. proofs/Alikes proves it.
use Rattle.std.specs.Prelude.{◌≡◌}
use Rattle.laws.specs.Prelude.{List, ℕ, ℤ, length}
use Rattle.segment_set_statements.specs.Set.{SetState, held_of, take_verdict, take_of, let_verdict, let_of}
use Rattle.segment_set_statements.specs.Kept.{Kept, SameWords}

-- two kept sets of one layer, tile and incoming cover
pub record Alike (incoming : List ℤ) (s t : SetState) : Type 0 where
  pub one : Kept incoming s
  pub other : Kept incoming t
  pub layer : s.set.layer_id ≡ t.set.layer_id
  pub tile_x : s.set.tile_x ≡ t.set.tile_x
  pub tile_y : s.set.tile_y ≡ t.set.tile_y
  pub words : SameWords (held_of s) (held_of t)
  pub slots : length s.slots ≡ length t.slots

pub record AnsweredAlike (incoming : List ℤ) (s t : SetState) : Type 0 where
  pub taking : (w : ℕ) → take_verdict s w ≡ take_verdict t w
  pub letting : (w : ℕ) → let_verdict s w ≡ let_verdict t w
  pub taken : (w : ℕ) → Alike incoming (take_of s w) (take_of t w)
  pub let_out_step : (w : ℕ) → Alike incoming (let_of s w) (let_of t w)

abbrev pub OrderLaw : Type 0
OrderLaw = (incoming : List ℤ) (s t : SetState) → Alike incoming s t → AnsweredAlike incoming s t
