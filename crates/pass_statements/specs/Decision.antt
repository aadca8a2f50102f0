-- The decision about a tile, as the scope tells it: 0 none; 1 solid, with the bottom colour and how many shown layers (0 or 1) lie before those to
-- mix above it; 2 paint. Promises about a decision are promises about this type.
use Rattle.laws.specs.Prelude.{ℕ}
use Rattle.styling.specs.declared.Color.{Color}
use Rattle.pass_statements.specs.declared.decide.Decision.{Decision}
use Rattle.pass_statements.specs.declared.decide.Decision.TheVariants.{None, Solid, Paint}

pub data TileDecision : Type 0 where
  none : TileDecision
  solid : (bottom : Color) (before : ℕ) → TileDecision
  paint : TileDecision

-- its number
abbrev pub code_of : TileDecision → ℕ
code_of none = 0
code_of (solid bottom before) = 1
code_of paint = 2

-- the cases of the code's answer
abbrev pub decision_in : Decision → TileDecision
decision_in None = none
decision_in (Solid bottom before) = solid bottom before
decision_in Paint = paint
