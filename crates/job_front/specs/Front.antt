-- How much of an input the programs read that take a job: one byte more than 'a job of at most 65,536 bytes' of document 01 has. It is enough to
-- tell a longer text, which is malformed.
use Rattle.std.specs.Prelude.{◌≡◌}
use Rattle.laws.specs.Prelude.{List, ℕ, take}
use Rattle.job_text_statements.specs.Parse.{parse}

abbrev pub input_room : ℕ
input_room = 65537

abbrev pub FrontDecides : Type 0
FrontDecides = (text : List ℕ) → parse (take input_room text) ≡ parse text
