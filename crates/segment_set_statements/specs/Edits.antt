-- Any list of edits after an accepted beginning, refused ones included. The premise of each edit is the operation's own contract, at what the caller
-- holds; between edits the caller may lend other slots, longer ones say, or another d. `ins` are the words of the part and those taken in since,
-- `outs` those let out, each as often as it was accepted.
use Rattle.std.specs.Prelude.{◌≡◌, ◌∷◌}
use Rattle.laws.specs.Prelude.{List, [], ℕ, ℤ, take}
use Rattle.refusals.specs.Refusal.{Judgement, pass, refuse}
use Rattle.segment_set_statements.specs.Set.{SetState, state, held_of, Beginning, Gives, begin_verdict, begin_of, take_verdict, take_of, let_verdict, let_of}
use Rattle.segment_set_statements.specs.Kept.{SameWords}
use Rattle.segment_set_statements.specs.declared.Edited.{Edited}

-- the words accepted, with one more where a verdict passes
abbrev pub accepted : Judgement → ℕ → List ℕ → List ℕ
accepted pass w ws = w ∷ ws
accepted (refuse number) w ws = ws

-- slots and d lent in place of those before: the same words, in any order, in as many of the first slots; the same 256 numbers of d
pub record Relent (s : SetState) (slots : List ℕ) (areas : List ℤ) : Type 0 where
  pub words : SameWords (take s.set.count slots) (held_of s)
  pub areas_are : take 256 areas ≡ take 256 s.areas

pub data Edits (b : Beginning) : List ℕ → List ℕ → SetState → Type 0 where
  begun : (lentSlots : List ℕ) (lentAreas : List ℤ) {slots : List ℕ} {areas : List ℤ} {r : Edited} →
      begin_verdict b lentSlots lentAreas ≡ pass →
      Gives (begin_verdict b lentSlots lentAreas) (begin_of b lentSlots lentAreas) r slots areas →
      Edits b b.part [] (state r.set slots areas)
  taken : {ins outs : List ℕ} {s : SetState} (w : ℕ) {slots : List ℕ} {areas : List ℤ} {r : Edited} →
      Edits b ins outs s →
      Gives (take_verdict s w) (take_of s w) r slots areas →
      Edits b (accepted (take_verdict s w) w ins) outs (state r.set slots areas)
  let_out_step : {ins outs : List ℕ} {s : SetState} (w : ℕ) {slots : List ℕ} {areas : List ℤ} {r : Edited} →
      Edits b ins outs s →
      Gives (let_verdict s w) (let_of s w) r slots areas →
      Edits b ins (accepted (let_verdict s w) w outs) (state r.set slots areas)
  relent : {ins outs : List ℕ} {s : SetState} (slots : List ℕ) (areas : List ℤ) →
      Edits b ins outs s →
      Relent s slots areas →
      Edits b ins outs (state s.set slots areas)

-- words taken in, one after the other
abbrev pub take_all : SetState → List ℕ → SetState
take_all s [] = s
take_all s (w ∷ ws) = take_all (take_of s w) ws
