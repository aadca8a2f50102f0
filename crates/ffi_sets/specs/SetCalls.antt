-- Demand 3 for callers of a kept set's exports: a beginning that tells 0 and any list of edits after it, refused ones included, told by numbers and
-- lent memory alone. The premise of each call is the export's own contract, at the memory that the call before it left; between calls other slots
-- may be lent, longer ones say. Stands for W-207. proofs/Calls proves it.
use Rattle.std.specs.Prelude.{◌≡◌, ◌∷◌}
use Rattle.laws.specs.Prelude.{not, List, [], ℕ, zero, suc, ℤ}
use Rattle.refusals.specs.Refusal.{Judgement, pass, unless}
use Rattle.segment_set_statements.specs.Set.{held_of, is_of, is_word_held, Beginning, beginning, begin_verdict}
use Rattle.segment_set_statements.specs.Kept.{Holds}
use Rattle.segment_set_statements.specs.Edits.{Edits, Relent}
use Rattle.ffi_numbers.specs.Numbers.{judged_number}
use Rattle.ffi_sets.specs.Sets.{set_place, SetPlace, SetLent, set_lent, state_from, BeginTold, TakeTold, LetTold}

-- the words accepted, by the number that a call told: 0 says that it is accepted
abbrev pub accepted_by : ℕ → ℕ → List ℕ → List ℕ
accepted_by zero w ws = w ∷ ws
accepted_by (suc n) w ws = ws

-- calls: the words taken in, the part's too, those let out, and the memory after them
pub data SetCalls (b : Beginning) : List ℕ → List ℕ → SetLent → Type 0 where
  begun : (old : SetLent) {new : SetLent} →
      BeginTold b old 0 new →
      SetCalls b b.part [] new
  taken : {ins outs : List ℕ} {k : SetLent} (w : ℕ) {r : ℕ} {new : SetLent} →
      SetCalls b ins outs k →
      TakeTold k w r new →
      SetCalls b (accepted_by r w ins) outs new
  let_out_step : {ins outs : List ℕ} {k : SetLent} (w : ℕ) {r : ℕ} {new : SetLent} →
      SetCalls b ins outs k →
      LetTold k w r new →
      SetCalls b ins (accepted_by r w outs) new
  relent : {ins outs : List ℕ} {k : SetLent} (slots : List ℕ) (areas : List ℤ) →
      SetCalls b ins outs k →
      Relent (state_from k) slots areas →
      SetCalls b ins outs (set_lent k.place k.numbers slots areas)

-- the layer and the tile of a beginning
abbrev pub place_of : Beginning → SetPlace
place_of b = set_place b.layer (b.tile_x ∷ b.tile_y ∷ [])

-- what is due of the next edit, by the beginning and the held words: a word is judged as a beginning with it and them would be; and of letting out
abbrev pub take_due : Beginning → SetLent → ℕ → Judgement
take_due b k w = begin_verdict (beginning b.layer b.tile_x b.tile_y b.incoming (w ∷ held_of (state_from k))) k.slots k.areas

abbrev pub let_due : Beginning → SetLent → ℕ → Judgement
let_due b k w =
    unless (not (is_of b.layer b.tile_x b.tile_y w)) 3
    (unless (not (is_word_held w (held_of (state_from k)))) 12
    pass)

-- the memory after any calls is that of the same edits (segment_set_statements/specs/Edits), so it holds a fresh working of its held words; it is of
-- the beginning's layer and tile still; and the next call tells what is due
pub record RightSet (b : Beginning) (ins outs : List ℕ) (k : SetLent) : Type 0 where
  pub edits : Edits b ins outs (state_from k)
  pub holds : Holds b ins outs (state_from k)
  pub place_is : k.place ≡ place_of b
  pub taking : (w r : ℕ) (new : SetLent) → TakeTold k w r new → r ≡ judged_number (take_due b k w)
  pub letting : (w r : ℕ) (new : SetLent) → LetTold k w r new → r ≡ judged_number (let_due b k w)

abbrev pub SetCallsClaim : Type 0
SetCallsClaim = (b : Beginning) (ins outs : List ℕ) (k : SetLent) → SetCalls b ins outs k → RightSet b ins outs k
