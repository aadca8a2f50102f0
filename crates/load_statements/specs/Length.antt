-- How long the line is that asks for a load, and the text that answers it. The load program reads one byte more than the longest line has, which is
-- enough to tell a longer input, and has room for every answer.
use Rattle.std.specs.Prelude.{◌≡◌, ◌≤◌}
use Rattle.laws.specs.Prelude.{List, ℕ, suc, length, take}
use Rattle.load_statements.specs.declared.Asked.{Asked}
use Rattle.load_statements.specs.Input.{Asks}
use Rattle.load_statements.specs.Answer.{load_answer_text}

-- numbers of ten, four and three digits, two spaces and LF
abbrev pub line_room : ℕ
line_room = 20

abbrev pub LinesShort : Type 0
LinesShort = (text : List ℕ) (a : Asked) → Asks text a → length text ≤ line_room

-- the first 21 bytes of an input decide its answer
abbrev pub input_room : ℕ
input_room = suc line_room

abbrev pub FrontDecides : Type 0
FrontDecides = (text : List ℕ) → load_answer_text (take input_room text) ≡ load_answer_text text

-- the names and lines of the three blocks: 18 and 14 bytes, 45 and 8 × 18, 33 and 512 × 22
abbrev pub answer_room : ℕ
answer_room = 11518

abbrev pub AnswersFit : Type 0
AnswersFit = (text : List ℕ) → length (load_answer_text text) ≤ answer_room
