-- Draws, lines and a text, computed: document 02's first draw of seed 0 and those after it, loads of few segments, and lines at the edges.
-- Assumes nothing.
use Rattle.std.specs.Prelude.{◌≡◌, ◌∷◌}
use Rattle.laws.proofs.Prelude.{refl, Bool, true, false, not, List, [], Some, None, ℕ, suc, tabulate, all}
use Rattle.decimal.specs.Decimal.{decimal, decimal_in}
use Rattle.decimal.specs.Parse.{parseℕ, more_digits}
use Rattle.lines.specs.Bytes.{bytes}
use Rattle.lines.specs.Text.{line_text, lines_text, block_text}
use Rattle.job_text_statements.specs.Text.{blocks_text}
use Rattle.job_text_statements.specs.Job.{segment_values, render}
use Rattle.load_statements.specs.Draw.{next, state_after, draw_at}
use Rattle.load_statements.specs.declared.Asked.{Asked}
use Rattle.load_statements.specs.Load.{asked, load_layer, slot_of, segment_from, load_segment, load_of}
use Rattle.load_statements.specs.Input.{parse_field, ask}
use Rattle.load_statements.specs.Answer.{load_answer_text}

pub draws : tabulate 8 (λ i. draw_at 0 (suc i)) ≡ 15470 ∷ 18256 ∷ 53708 ∷ 43769 ∷ 25170 ∷ 40750 ∷ 22526 ∷ 41945 ∷ []
unfolding state_after next
draws = refl

-- the lines of a load's segments
abbrev segments : Asked → List ℕ
segments a = lines_text (tabulate a.count (λ k. segment_values (load_segment a k)))

pub four : segments (asked 0 4 4) ≡ bytes "0 0 14 0 1 17 -5\n1 0 2 14 1 20 -14\n2 0 13 0 1 8 9\n3 0 3 6 1 13 -8\n"
unfolding lines_text line_text decimal decimal_in segment_from slot_of state_after next
four = refl

pub five : segments (asked 1 2 5) ≡ bytes "0 0 8 8 1 13 12\n0 3 0 8 1 20 2\n0 6 8 5 1 12 10\n1 1 7 1 1 27 13\n1 4 3 14 1 20 -2\n"
unfolding lines_text line_text decimal decimal_in segment_from slot_of state_after next
five = refl

pub greatest_seed : segments (asked 4294967295 1 3) ≡ bytes "0 0 5 7 1 24 11\n0 2 5 4 1 17 3\n0 5 2 11 1 5 9\n"
unfolding lines_text line_text decimal decimal_in segment_from slot_of state_after next
greatest_seed = refl

pub one : load_answer_text (bytes "0 1 1\n") ≡ bytes "row tiles from to\n0 1 0 1\nlayer rule clip span clipped fill mode alpha\n0 0 0 0 0 0 0 256\n1 0 0 0 0 0 0 256\n2 0 0 0 0 0 0 256\n3 0 0 0 0 0 0 256\n4 0 0 0 0 0 0 256\n5 0 0 0 0 0 0 256\n6 0 0 0 0 0 0 256\n7 0 0 0 0 0 0 256\ntile_x layer x y rows mult cover\n0 0 14 0 1 17 -5\n"
unfolding load_answer_text ask parse_field parseℕ more_digits render load_of blocks_text block_text lines_text line_text decimal decimal_in load_layer segment_from slot_of state_after next
one = refl

-- ---- lines at the edges, and lines that ask for no load

pub is_asked : List ℕ → Bool
is_asked s = elim (ask s) [ Some a ↦ true | None ↦ false ]

pub good : List (List ℕ)
good = bytes "0 1 1\n" ∷ bytes "4294967295 4095 512\n" ∷ []

pub passes : all is_asked good ≡ true
unfolding good is_asked ask parse_field parseℕ more_digits
passes = refl

pub bad : List (List ℕ)
bad =
    []
    ∷ bytes "\n"
    ∷ bytes "0 1 1"
    ∷ bytes "0 1 1\r\n"
    ∷ bytes "0 1 1\n\n"
    ∷ bytes "0 1 1\n0 1 1\n"
    ∷ bytes " 0 1 1\n"
    ∷ bytes "0  1 1\n"
    ∷ bytes "0 1 1 \n"
    ∷ bytes "0 1\n"
    ∷ bytes "0 1 1 1\n"
    ∷ bytes "00 1 1\n"
    ∷ bytes "+1 1 1\n"
    ∷ bytes "-0 1 1\n"
    ∷ bytes "-1 1 1\n"
    ∷ bytes "4294967296 1 1\n"
    ∷ bytes "10000000000 1 1\n"
    ∷ bytes "0 0 1\n"
    ∷ bytes "0 4096 1\n"
    ∷ bytes "0 1 0\n"
    ∷ bytes "0 1 513\n"
    ∷ []

pub turned_down : all (λ s. not (is_asked s)) bad ≡ true
unfolding bad is_asked ask parse_field parseℕ more_digits
turned_down = refl
