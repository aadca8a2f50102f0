-- Loads that can be made again. Stands for W-204: the line that asks is read exactly as it prints and has at most 20 bytes, so that the first 21 bytes of an
-- input decide; every load is read back and its row ascends; and no row of a load is refused but by 9. With the first draws and texts, worked.
use Rattle.std.specs.Prelude.{◌≡◌, ◌∷◌, ◌≤◌, ◌<◌}
use Rattle.laws.specs.Prelude.{Bool, true, false, not, List, [], Some, None, ℕ, suc, tabulate, all}
use Rattle.lines.specs.Bytes.{bytes}
use Rattle.lines.specs.Text.{lines_text}
use Rattle.job_text_statements.specs.Job.{segment_values}
use Rattle.load_statements.specs.Draw.{draw_at}
use Rattle.load_statements.specs.declared.Asked.{Asked}
use Rattle.load_statements.specs.Load.{asked, slot_of, load_segment}
use Rattle.load_statements.specs.Input.{AskedInRange, Asks, ask}
use Rattle.load_statements.specs.Length.{LinesShort, FrontDecides, AnswersFit}
use Rattle.load_statements.specs.Made.{LoadMade}
use Rattle.job_front.specs.Front as job

-- the lines of a load's segments
abbrev segments : Asked → List ℕ
segments a = lines_text (tabulate a.count (λ k. segment_values (load_segment a k)))

-- whether a line asks for a load; the lines at the ends of the ranges, and lines that ask for none
abbrev pub is_asked : List ℕ → Bool
is_asked s = elim (ask s) [ Some a ↦ true | None ↦ false ]

abbrev pub good : List (List ℕ)
good = bytes "0 1 1\n" ∷ bytes "4294967295 4095 512\n" ∷ []

abbrev pub bad : List (List ℕ)
bad =
    []
    ∷ bytes "\n"
    ∷ bytes "0 1 1"
    ∷ bytes "0 1 1\r\n"
    ∷ bytes "0 1 1\n\n"
    ∷ bytes "0 1 1\n0 1 1\n"
    ∷ bytes " 0 1 1\n"
    ∷ bytes "0  1 1\n"
    ∷ bytes "0 1 1 \n"
    ∷ bytes "0 1\n"
    ∷ bytes "0 1 1 1\n"
    ∷ bytes "00 1 1\n"
    ∷ bytes "+1 1 1\n"
    ∷ bytes "-0 1 1\n"
    ∷ bytes "-1 1 1\n"
    ∷ bytes "4294967296 1 1\n"
    ∷ bytes "10000000000 1 1\n"
    ∷ bytes "0 0 1\n"
    ∷ bytes "0 4096 1\n"
    ∷ bytes "0 1 0\n"
    ∷ bytes "0 1 513\n"
    ∷ []

pub record Loads : Type 0 where
  -- the first eight draws of seed 0
  pub draws : tabulate 8 (λ i. draw_at 0 (suc i)) ≡ 15470 ∷ 18256 ∷ 53708 ∷ 43769 ∷ 25170 ∷ 40750 ∷ 22526 ∷ 41945 ∷ []
  pub four : segments (asked 0 4 4) ≡ bytes "0 0 14 0 1 17 -5\n1 0 2 14 1 20 -14\n2 0 13 0 1 8 9\n3 0 3 6 1 13 -8\n"
  pub five : segments (asked 1 2 5) ≡ bytes "0 0 8 8 1 13 12\n0 3 0 8 1 20 2\n0 6 8 5 1 12 10\n1 1 7 1 1 27 13\n1 4 3 14 1 20 -2\n"
  pub greatest_seed : segments (asked 4294967295 1 3) ≡ bytes "0 0 5 7 1 24 11\n0 2 5 4 1 17 3\n0 5 2 11 1 5 9\n"
  -- the line that asks
  pub ask_complete : (text : List ℕ) (a : Asked) → Asks text a → ask text ≡ Some a
  pub ask_sound : (text : List ℕ) (a : Asked) → ask text ≡ Some a → Asks text a
  pub passes : all is_asked good ≡ true
  pub turned_down : all (λ s. not (is_asked s)) bad ≡ true
  pub lines_short : LinesShort
  pub front_decides : FrontDecides
  pub answers_fit : AnswersFit
  -- a job's text is decided by its first 65,537 bytes
  pub job_front_decides : job.FrontDecides
  -- segments are made in the order of their slots
  pub slots_ascend : (tiles n j k : ℕ) → 0 < n → j ≤ k → slot_of tiles n j ≤ slot_of tiles n k
  -- what holds of every load: it is read back, its row ascends, its opening is accepted, and its tiles are refused by 9 alone
  pub made : (a : Asked) → AskedInRange a → LoadMade a
