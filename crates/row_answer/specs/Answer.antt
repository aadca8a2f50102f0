-- The whole text that the row program prints for a job text. Stands for 'A refusal prints `refused` and its number as the last line, after the
-- names and the tiles already worked; number 10 prints only that.'
use Rattle.std.specs.Prelude.{◌∷◌, ◌++◌}
use Rattle.laws.specs.Prelude.{cond, List, [], Option, Some, None, ℕ, suc, eqb, Float, length, plus}
use Rattle.row_statements.specs.Lent.{lent_table}
use Rattle.row_statements.specs.Opening.{open_call}
use Rattle.row_lines.specs.Driven.{Driving, row_driving}
use Rattle.row_lines.specs.declared.Line.{Line}
use Rattle.job_text_statements.specs.Job.{Job}
use Rattle.job_text_statements.specs.Parse.{parse}
use Rattle.job_text_statements.specs.declared.Head.{Head}
use Rattle.job_statements.specs.Table.{table_words, table_colors}
use Rattle.job_statements.specs.Row.{row_words}
use Rattle.report.specs.Text.{tile_names, tile_text, refusal_text}
use Rattle.report.specs.declared.Op.{Op}
use Rattle.report.specs.declared.Op.TheVariants as decision

-- ---- the lines of a driven row

-- the decision by its number in a line
abbrev pub op_of : ℕ → Op
op_of code = cond (eqb code 0) decision.None (cond (eqb code 1) decision.Solid decision.Paint)

abbrev pub tile_line_text : ℕ → Line → List ℕ
tile_line_text tile l =
    tile_text (record { tile = tile; op = op_of l.decision; listed = l.listed; shown = l.shown; octets = l.octets; carried = l.carried })

-- one after another, the first that of the given tile
unfoldable pub tile_lines_text : ℕ → List Line → List ℕ
tile_lines_text tile [] = []
tile_lines_text tile (l ∷ ls) = tile_line_text tile l ++ tile_lines_text (suc tile) ls

abbrev pub last_text : Option ℕ → List ℕ
last_text None = []
last_text (Some number) = refusal_text number

unfoldable pub driving_text : ℕ → Driving → List ℕ
driving_text first d = tile_names ++ tile_lines_text first d.lines ++ last_text d.refusal

-- ---- the answer to a text

-- a row driven by the numbers of block 1, with a table of so many layers
abbrev pub head_driving : Head → List ℕ → List ℕ → List Float → ℕ → Driving
head_driving h row words floats count = row_driving (open_call h.row h.from h.to row (lent_table words floats count)) h.tiles

unfoldable pub job_driving : Job → Driving
job_driving j = head_driving j.head (row_words j.head.row j.segments) (table_words j.layers) (table_colors j.layers) (length j.layers)

abbrev pub answer_by : Option Job → List ℕ
answer_by None = refusal_text 10
answer_by (Some j) = driving_text (plus j.head.from) (job_driving j)

unfoldable pub answer_text : List ℕ → List ℕ
answer_text text = answer_by (parse text)

-- room for every answer: 36 bytes of names, 4,095 lines of at most 61 bytes, and 19 of a refusal
abbrev pub answer_room : ℕ
answer_room = 249850
