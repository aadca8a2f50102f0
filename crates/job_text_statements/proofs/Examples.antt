-- Document 01's job, as the text that it prints and as what is read of it; and the edges of the rules, tried on short texts.
-- Assumes nothing.
use Rattle.std.specs.Prelude.{◌≡◌, ◌∷◌, ◌++◌}
use Rattle.laws.proofs.Prelude.{refl, Bool, true, false, not, List, [], Some, None, ℕ, zero, suc, pos, negsuc, is_within, all}
use Prim.Native.String.{String}
use Rattle.decimal.specs.Decimal.{decimal, decimal_in}
use Rattle.decimal.specs.Parse.{parseℤ, parseℕ, more_digits}
use Rattle.lines.specs.Bytes.{bytes}
use Rattle.lines.specs.Text.{line_text, lines_text, block_text}
use Rattle.lines.specs.Parse.{strip_prefix, parse_line, parse_lines, parse_block}
use Rattle.job_text_statements.specs.Text.{blocks_text, layer_names, segment_names}
use Rattle.pixel_segment.specs.Pack.{is_packable}
use Rattle.job_lines.specs.Rules.{layer_rule, segment_rule, segment_count}
use Rattle.job_text_statements.specs.Job.{Job, render, is_allowed}
use Rattle.job_text_statements.specs.Parse.{head_of, layer_line_of, segment_of, parse_blocks, parse}

abbrev example : Job
example = record {
  head = head_of (pos 0 ∷ pos 4 ∷ pos 0 ∷ pos 4 ∷ []);
  layers = layer_line_of (pos 1 ∷ pos 0 ∷ pos 0 ∷ pos 0 ∷ pos 0 ∷ pos 0 ∷ pos 0 ∷ pos 256 ∷ []) ∷ [];
  segments =
      segment_of (pos 0 ∷ pos 1 ∷ pos 0 ∷ pos 0 ∷ pos 16 ∷ pos 32 ∷ pos 16 ∷ [])
      ∷ segment_of (pos 2 ∷ pos 1 ∷ pos 8 ∷ pos 0 ∷ pos 16 ∷ pos 32 ∷ negsuc 15 ∷ [])
      ∷ [];
}

pub printed : render example ≡ bytes "row tiles from to\n0 4 0 4\nlayer rule clip span clipped fill mode alpha\n1 0 0 0 0 0 0 256\ntile_x layer x y rows mult cover\n0 1 0 0 16 32 16\n2 1 8 0 16 32 -16\n"
unfolding render blocks_text block_text lines_text line_text decimal decimal_in
printed = refl

pub is_read : List ℕ → Bool
is_read s = elim (parse s) [ Some j ↦ true | None ↦ false ]

-- the text with the layers and the segments given
pub job : String → String → List ℕ
job layers segments = bytes "row tiles from to\n0 4 0 4\n" ++ (layer_names ++ (bytes layers ++ (segment_names ++ bytes segments)))

pub read : parse (job "1 0 0 0 0 0 0 256\n" "0 1 0 0 16 32 16\n2 1 8 0 16 32 -16\n") ≡ Some example
unfolding job parse parse_blocks parse_block strip_prefix parse_lines parse_line parseℤ parseℕ more_digits is_allowed layer_rule segment_rule is_packable is_within segment_count
read = refl

-- codes and ids of layers are not judged here, nor is the order of layers and segments; every field at its ends
pub good : List (List ℕ)
good =
    job "" ""
    ∷ job "-1 -7 2 9999999 3 4 16 256\n-1 0 0 0 -2 0 0 0\n" ""
    ∷ job "9 1 1 -5 0 0 0 0\n" "7 7 1 1 1 1 1\n-1 6 0 0 16 0 -32\n4094 2097151 15 15 1 63 31\n"
    ∷ bytes "row tiles from to\n-9999999 0 9999999 -1\nlayer rule clip span clipped fill mode alpha\ntile_x layer x y rows mult cover\n"
    ∷ []

pub accepted : all is_read good ≡ true
unfolding good job is_read parse parse_blocks parse_block strip_prefix parse_lines parse_line parseℤ parseℕ more_digits is_allowed layer_rule segment_rule is_packable is_within segment_count
accepted = refl

-- ---- the counts: 64 layers, 512 lines and 2,048 segments pass, and one more doesn't

pub times : ℕ → List ℕ → List ℕ
times zero s = []
times (suc n) s = s ++ times n s

-- n layers, m lines of one segment, k lines of sixteen
pub counts : ℕ → ℕ → ℕ → List ℕ
counts n m k =
    bytes "row tiles from to\n0 4 0 4\n"
    ++ (layer_names ++ (times n (bytes "1 0 0 0 0 0 0 256\n") ++ (segment_names ++ (times m (bytes "0 1 0 0 1 32 16\n") ++ times k (bytes "0 1 0 0 16 32 16\n")))))

pub most : all is_read (counts 64 0 0 ∷ counts 0 512 0 ∷ counts 0 0 128 ∷ counts 64 410 102 ∷ []) ≡ true
unfolding counts times is_read parse parse_blocks parse_block strip_prefix parse_lines parse_line parseℤ parseℕ more_digits is_allowed layer_rule segment_rule is_packable is_within segment_count
most = refl

pub too_many : all (λ s. not (is_read s)) (counts 65 0 0 ∷ counts 0 513 0 ∷ counts 0 1 128 ∷ []) ≡ true
unfolding counts times is_read parse parse_blocks parse_block strip_prefix parse_lines parse_line parseℤ parseℕ more_digits is_allowed layer_rule segment_rule is_packable is_within segment_count
too_many = refl

-- ---- one broken rule each

pub bad : List (List ℕ)
bad =
    []
    ∷ bytes "row tile\n"
    ∷ bytes "row tiles from to\nlayer rule clip span clipped fill mode alpha\ntile_x layer x y rows mult cover\n"
    ∷ bytes "row tiles from to\n0 4 0 4\n0 4 0 4\nlayer rule clip span clipped fill mode alpha\ntile_x layer x y rows mult cover\n"
    ∷ bytes "row tiles from to\n0 4 0 10000000\nlayer rule clip span clipped fill mode alpha\ntile_x layer x y rows mult cover\n"
    ∷ job "" "0 1 0 0 16 32 16"
    ∷ job "" "0 1 0 0 16 32 16 \n"
    ∷ job "" "0 1 0 0 16  32 16\n"
    ∷ job "" "0 1 0 0 16 32\n"
    ∷ job "" "0 1 0 0 16 32 16\n\n"
    ∷ job "" "0 1 0 0 16 32 -0\n"
    ∷ job "" "0 1 0 0 16 32 016\n"
    ∷ job "" "0 1 0 0 16 32 +16\n"
    ∷ job "1 0 0 0 0 0 0 257\n" ""
    ∷ job "1 0 0 0 0 0 0 -1\n" ""
    ∷ job "1 0 0 1 0 0 0 256\n" ""
    ∷ job "1 0 1 0 1 0 0 0\n" ""
    ∷ job "1 0 1 0 0 1 0 0\n" ""
    ∷ job "1 0 1 0 0 0 1 0\n" ""
    ∷ job "1 0 1 0 0 0 0 1\n" ""
    ∷ job "" "-2 1 0 0 16 32 16\n"
    ∷ job "" "4095 1 0 0 16 32 16\n"
    ∷ job "" "0 -1 0 0 16 32 16\n"
    ∷ job "" "0 2097152 0 0 16 32 16\n"
    ∷ job "" "0 1 16 0 16 32 16\n"
    ∷ job "" "0 1 0 16 1 32 16\n"
    ∷ job "" "0 1 0 0 0 32 16\n"
    ∷ job "" "0 1 0 0 17 32 16\n"
    ∷ job "" "0 1 0 15 2 32 16\n"
    ∷ job "" "0 1 0 0 16 64 16\n"
    ∷ job "" "0 1 0 0 16 32 32\n"
    ∷ job "" "0 1 0 0 16 32 -33\n"
    ∷ []

pub malformed : all (λ s. not (is_read s)) bad ≡ true
unfolding bad job is_read parse parse_blocks parse_block strip_prefix parse_lines parse_line parseℤ parseℕ more_digits is_allowed layer_rule segment_rule is_packable is_within segment_count
malformed = refl
