-- The form of a job text, as a printer writes it. Stands for 'three blocks, each a line of names, then lines of values', for 'block 1 has one
-- value line, 2 has 0 to 64, 3 has 0 to 512', for 'at most 65,536 bytes' and 'a number above seven digits'.
use Rattle.std.specs.Prelude.{◌≡◌, ◌++◌, ◌≤◌}
use Rattle.laws.specs.Prelude.{List, ℕ, ℤ, length}
use Rattle.lines.specs.Bytes.{bytes}
use Rattle.lines.specs.Text.{block_text, AllFields}

-- the values of the three blocks, line by line
pub record Blocks : Type 0 where
  pub head : List (List ℤ)
  pub layers : List (List ℤ)
  pub segments : List (List ℤ)

abbrev pub head_names : List ℕ
head_names = bytes "row tiles from to\n"

abbrev pub layer_names : List ℕ
layer_names = bytes "layer rule clip span clipped fill mode alpha\n"

abbrev pub segment_names : List ℕ
segment_names = bytes "tile_x layer x y rows mult cover\n"

unfoldable pub blocks_text : Blocks → List ℕ
blocks_text b = block_text head_names b.head ++ (block_text layer_names b.layers ++ block_text segment_names b.segments)

-- one line of 4, at most 64 of 8 and at most 512 of 7 numbers, each of at most seven digits, in at most 65,536 bytes
pub record Formed (b : Blocks) : Type 0 where
  pub one_head : length b.head ≡ 1
  pub head : AllFields 4 b.head
  pub few_layers : length b.layers ≤ 64
  pub layers : AllFields 8 b.layers
  pub few_lines : length b.segments ≤ 512
  pub segments : AllFields 7 b.segments
  pub size : length (blocks_text b) ≤ 65536
