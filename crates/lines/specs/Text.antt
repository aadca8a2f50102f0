-- Lines of whole numbers as text, as a printer writes them. Stands for 'three blocks, each a line of names, then lines of values in that
-- order, fields parted by one space, lines ended by LF'.
use Rattle.std.specs.Prelude.{◌≡◌, ◌∷◌, ◌++◌}
use Rattle.laws.specs.Prelude.{List, [], ℕ, ℤ, length}
use Rattle.decimal.specs.Decimal.{decimalℤ, Short}

-- what ends a field, by the fields after it in its line
abbrev pub field_end : List ℤ → ℕ
field_end [] = 10
field_end (v ∷ vs) = 32

unfoldable pub line_text : List ℤ → List ℕ
line_text [] = []
line_text (v ∷ vs) = decimalℤ v ++ (field_end vs ∷ line_text vs)

unfoldable pub lines_text : List (List ℤ) → List ℕ
lines_text [] = []
lines_text (l ∷ ls) = line_text l ++ lines_text ls

-- a block: a line of names, and then lines
unfoldable pub block_text : List ℕ → List (List ℤ) → List ℕ
block_text names ls = names ++ lines_text ls

-- every number has at most seven digits
abbrev pub AllShort : List ℤ → Type 0
AllShort [] = Unit
AllShort (v ∷ vs) = Short v × AllShort vs

-- a line of k fields
pub record Fields (k : ℕ) (vs : List ℤ) : Type 0 where
  pub count : length vs ≡ k
  pub short : AllShort vs

abbrev pub AllFields : ℕ → List (List ℤ) → Type 0
AllFields k [] = Unit
AllFields k (l ∷ ls) = Fields k l × AllFields k ls
