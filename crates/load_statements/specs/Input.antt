-- The line that asks for a load. Stands for document 02, W-204: 'a seed, a number of tiles 1 to 4,095 and a number of segments n, 1 to 512, on
-- one line of standard input in that order', 'three whole numbers in these ranges in document 01's text form, the seed having up to ten digits':
-- what three such numbers print to. `ask` reads it; proofs/Asking says what this is: the inverse of `line_text` on these lines.
use Rattle.std.specs.Prelude.{◌≡◌, ◌&&◌, ◌∷◌, ◌^◌, ◌≤◌, ◌<◌}
use Rattle.laws.specs.Prelude.{cond, List, [], Option, Some, None, ℕ, ltb, eqb, pos}
use Rattle.decimal.specs.Parse.{Parsed, parsed, failed, parseℕ}
use Rattle.lines.specs.Text.{line_text}
use Rattle.load_statements.specs.declared.Asked.{Asked}
use Rattle.load_statements.specs.Load.{asked}

pub record AskedInRange (a : Asked) : Type 0 where
  pub seed : a.seed < 2 ^ 32
  pub tiles : (1 ≤ a.tiles) × (a.tiles ≤ 4095)
  pub count : (1 ≤ a.count) × (a.count ≤ 512)

-- the text is the line that asks for a load
pub record Asks (text : List ℕ) (a : Asked) : Type 0 where
  pub range : AskedInRange a
  pub printed : text ≡ line_text (pos a.seed ∷ pos a.tiles ∷ pos a.count ∷ [])

-- ---- reading

-- after a number: the byte that ends its field
abbrev pub line_ended : ℕ → Parsed ℕ → Parsed ℕ
line_ended end failed = failed
line_ended end (parsed n []) = failed
line_ended end (parsed n (b ∷ t)) = cond (eqb b end) (parsed n t) failed

-- a number below `limit` and the byte that ends its field
unfoldable pub parse_field : ℕ → ℕ → List ℕ → Parsed ℕ
parse_field limit end s = line_ended end (parseℕ limit s)

-- after each field: nothing stands behind the last, and neither tiles nor segments are 0
abbrev pub after_count : ℕ → ℕ → Parsed ℕ → Option Asked
after_count seed tiles failed = None
after_count seed tiles (parsed count []) = cond (ltb 0 tiles && ltb 0 count) (Some (asked seed tiles count)) None
after_count seed tiles (parsed count (b ∷ t)) = None

abbrev pub after_tiles : ℕ → Parsed ℕ → Option Asked
after_tiles seed failed = None
after_tiles seed (parsed tiles t) = after_count seed tiles (parse_field 513 10 t)

abbrev pub after_seed : Parsed ℕ → Option Asked
after_seed failed = None
after_seed (parsed seed t) = after_tiles seed (parse_field 4096 32 t)

-- two fields that end with a space, and one that ends with LF
unfoldable pub ask : List ℕ → Option Asked
ask s = after_seed (parse_field (2 ^ 32) 32 s)
