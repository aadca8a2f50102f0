-- What the readers of lines promise.
use Rattle.std.specs.Prelude.{◌≡◌, ◌≤◌}
use Rattle.laws.specs.Prelude.{List, flatten, Option, Some, None, ℕ, ℤ, length, drop, sets}
use Rattle.lines.specs.Parse.{ParsedLines, strip_prefix, parse_line}

-- an answer as the text that it leaves
abbrev pub text_left : List ℕ → Option ℕ → Option (List ℕ)
text_left s (Some i) = Some (drop i s)
text_left s None = None

abbrev pub reached : Option ℕ → ℕ
reached (Some i) = i
reached None = 0

pub record PrefixRead (prefix s : List ℕ) (at : ℕ) (r : Option ℕ) : Type 0 where
  pub answer : text_left s r ≡ strip_prefix prefix (drop at s)
  pub within : reached r ≤ length s

-- the numbers of the line, up to where its form is broken, stand from place o on, and the other entries are as they were
pub record LineRead (k : ℕ) (s : List ℕ) (at : ℕ) (out : List ℤ) (o : ℕ) (r : Option ℕ) (out' : List ℤ) : Type 0 where
  pub answer : text_left s r ≡ (parse_line k (drop at s)).rest
  pub within : reached r ≤ length s
  pub stored : out' ≡ sets out o (parse_line k (drop at s)).numbers

abbrev pub block_of : List ℕ → Option (ℕ × ℕ) → Option (List ℕ)
block_of s (Some (n, i)) = Some (drop i s)
block_of s None = None

abbrev pub passed : Option (ℕ × ℕ) → ℕ
passed (Some (n, i)) = i
passed None = 0

abbrev pub Counts : Option (ℕ × ℕ) → ℕ → Type 0
Counts (Some (n, i)) c = n ≡ c
Counts None c = Unit

-- the lines that are to be read, stored one after another from the front on; the other entries are as they were
pub record LinesRead (q : ParsedLines) (s : List ℕ) (out : List ℤ) (r : Option (ℕ × ℕ)) (out' : List ℤ) : Type 0 where
  pub answer : block_of s r ≡ q.rest
  pub within : passed r ≤ length s
  pub count : Counts r (length q.lines)
  pub stored : out' ≡ sets out 0 (flatten q.lines)
