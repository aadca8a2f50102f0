-- The numbers of the refusals, as the table of the scope ('Turned down') has them and as requests add to it, and what a judge says: pass, or the
-- lowest number that applies.
-- Definitions of verdicts are written in the table's numbers; the names stand in the code alone.
use Rattle.laws.specs.Prelude.{Bool, cond, ℕ, Answer, given, refused}
use Rattle.refusals.specs.declared.Refusal.{Refusal}
use Rattle.refusals.specs.declared.Refusal.TheVariants.{Room, Tile, Row, Table, Queue, Tag, Layers, Missing, Covers, Fields, NotHeld, Slots, Bounds, Revisions}
use Rattle.std.specs.Prelude.{Result, Ok, Err}

abbrev pub number_of : Refusal → ℕ
number_of Room = 1
number_of Tile = 2
number_of Row = 3
number_of Table = 4
number_of Queue = 5
number_of Tag = 6
number_of Layers = 7
number_of Missing = 8
number_of Covers = 9
number_of Fields = 11
number_of NotHeld = 12
number_of Slots = 13
number_of Bounds = 14
number_of Revisions = 15

-- what a judge says
pub data Judgement : Type 0 where
  pass : Judgement
  refuse : (number : ℕ) → Judgement

-- a judge of the code passes what it is given, or answers the refusal
abbrev pub judgement_in : Result Unit Refusal → Judgement
judgement_in (Ok _) = pass
judgement_in (Err r) = refuse (number_of r)

-- a line of a judge's table: where the condition applies, it is refused by the number; else the lines below decide
abbrev pub unless : Bool → ℕ → Judgement → Judgement
unless condition number below = cond condition (refuse number) below

-- the lines of a second judge, where those of the first pass
abbrev pub and_then : Judgement → Judgement → Judgement
and_then pass below = below
and_then (refuse number) below = refuse number

-- what the code answers, in the numbers of the table
abbrev pub given_or_refused : {A : Type 0} → Result A Refusal → Answer A
given_or_refused (Ok a) = given a
given_or_refused (Err r) = refused (number_of r)
