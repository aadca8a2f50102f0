-- What the inner printers promise: a line as its five words say it, and the text of the lines that a driver told. row_text/proofs/Telling has
-- that this is the text of row_answer/specs/Answer.
use Rattle.std.specs.Prelude.{◌++◌, ◌+◌, ◌*◌, ◌≤◌}
use Rattle.laws.specs.Prelude.{List, [], ℕ, zero, suc, length, get_or}
use Rattle.row_lines.specs.Driven.{LinesWritten}
use Rattle.row_lines.specs.declared.Line.{Line}
use Rattle.report.specs.Text.{tile_names}
use Rattle.report.specs.declared.TileLine.{TileLine}
use Rattle.row_answer.specs.Answer.{op_of, tile_line_text, last_text, answer_room}

-- line i
abbrev pub line_in : List ℕ → ℕ → Line
line_in told i =
    record {
      decision = get_or told (i * 5) 0;
      listed = get_or told (i * 5 + 1) 0;
      shown = get_or told (i * 5 + 2) 0;
      octets = get_or told (i * 5 + 3) 0;
      carried = get_or told (i * 5 + 4) 0;
    }

-- as it is printed
abbrev pub tile_in : List ℕ → ℕ → ℕ → TileLine
tile_in told i tile =
    record {
      tile = tile;
      op = op_of (line_in told i).decision;
      listed = (line_in told i).listed;
      shown = (line_in told i).shown;
      octets = (line_in told i).octets;
      carried = (line_in told i).carried;
    }

-- the first n lines
unfoldable pub told_lines : List ℕ → ℕ → ℕ → List ℕ
told_lines told first zero = []
told_lines told first (suc n) = told_lines told first n ++ tile_line_text (first + n) (line_in told n)

unfoldable pub told_text : List ℕ → ℕ → LinesWritten → List ℕ
told_text told first t = tile_names ++ told_lines told first t.written ++ last_text t.refusal

-- what printing n lines asks
pub record Lines (told : List ℕ) (first n : ℕ) (out : List ℕ) (at : ℕ) : Type 0 where
  pub written : n * 5 ≤ length told
  pub low : first + n ≤ 4294967295
  pub room : at + n * 61 ≤ length out

-- what printing all of them asks
pub record Tells (told : List ℕ) (first : ℕ) (t : LinesWritten) (out : List ℕ) : Type 0 where
  pub written : t.written * 5 ≤ length told
  pub few : t.written ≤ 4095
  pub low : first ≤ 2147483647
  pub room : answer_room ≤ length out
