-- What reading leaves of a few lines, as numbers: P1 and P2 as lines of a text, row numbers that refusal 2 later turns down, a negative layer
-- id, and alphas.
-- Assumes nothing.
use Rattle.std.specs.Prelude.{◌≡◌, ◌∷◌}
use Rattle.laws.proofs.Prelude.{refl, List, [], flatten, odd, of_bits, binary32, pos, negsuc}
use Rattle.job_lines.specs.declared.segment.SegmentLine.{SegmentLine}
use Rattle.job_text_statements.specs.Parse.{layer_line_of, segment_of}
use Rattle.job_statements.specs.Table.{alpha_of, table_words}
use Rattle.job_statements.specs.Row.{segment_word, row_tile, row_words}

-- `2 5 3 4 2 32 16` and `2 5 3 4 1 32 -1`
abbrev lines : List SegmentLine
lines =
    segment_of (pos 2 ∷ pos 5 ∷ pos 3 ∷ pos 4 ∷ pos 2 ∷ pos 32 ∷ pos 16 ∷ [])
    ∷ segment_of (pos 2 ∷ pos 5 ∷ pos 3 ∷ pos 4 ∷ pos 1 ∷ pos 32 ∷ negsuc 0 ∷ [])
    ∷ []

pub words : row_words (pos 0) lines ≡ 0x0020060000534810 ∷ 0x0020060000535810 ∷ 0x002006000053483F ∷ []
unfolding row_words flatten segment_word row_tile
words = refl

-- rows -1 and 2,046 stand in the words; -7, -2, 2,047, 32,767 and 32,768 are words of row -1
pub lowest : row_words (negsuc 0) lines ≡ 0x0000060000534810 ∷ 0x0000060000535810 ∷ 0x000006000053483F ∷ []
unfolding row_words flatten segment_word row_tile
lowest = refl

pub highest : row_words (pos 2046) lines ≡ 0xFFE0060000534810 ∷ 0xFFE0060000535810 ∷ 0xFFE006000053483F ∷ []
unfolding row_words flatten segment_word row_tile
highest = refl

pub far_below : row_words (negsuc 6) lines ≡ row_words (negsuc 0) lines
unfolding row_words flatten segment_word row_tile
far_below = refl

pub below : row_words (negsuc 1) lines ≡ row_words (negsuc 0) lines
unfolding row_words flatten segment_word row_tile
below = refl

pub above : row_words (pos 2047) lines ≡ row_words (negsuc 0) lines
unfolding row_words flatten segment_word row_tile
above = refl

pub last_tile : row_words (pos 32767) lines ≡ row_words (negsuc 0) lines
unfolding row_words flatten segment_word row_tile
last_tile = refl

pub past_it : row_words (pos 32768) lines ≡ row_words (negsuc 0) lines
unfolding row_words flatten segment_word row_tile
past_it = refl

-- `-1 0 1 7 0 0 0 0`: a negative id is its 32-bit pattern
pub negative_id : table_words (layer_line_of (negsuc 0 ∷ pos 0 ∷ pos 1 ∷ pos 7 ∷ pos 0 ∷ pos 0 ∷ pos 0 ∷ pos 0 ∷ []) ∷ []) ≡ 4294967295 ∷ 0 ∷ 1 ∷ 7 ∷ 0 ∷ 0 ∷ 0 ∷ 0 ∷ []
unfolding table_words flatten
negative_id = refl

-- alpha 256 is 1, 128 is 0.5, 1 is 1/256 and 0 is 0
pub one : alpha_of 256 ≡ of_bits binary32 0x3F800000
unfolding alpha_of odd of_bits
one = refl

pub half : alpha_of 128 ≡ of_bits binary32 0x3F000000
unfolding alpha_of odd of_bits
half = refl

pub least : alpha_of 1 ≡ of_bits binary32 0x3B800000
unfolding alpha_of odd of_bits
least = refl

pub nothing : alpha_of 0 ≡ of_bits binary32 0
unfolding alpha_of odd of_bits
nothing = refl
