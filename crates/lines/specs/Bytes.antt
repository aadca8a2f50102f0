-- A quoted text as its bytes; only texts of ASCII are written so.
use Rattle.laws.specs.Prelude.{List, ℕ}
use Rattle.std.specs.Prelude.{[] as []ᴸ, ◌∷◌ as ◌∷ᴸ◌}
use Prim.Native.String.{String, [], ◌∷◌}
use Prim.Native.Char.{code}

abbrev pub bytes : String → List ℕ
bytes [] = []ᴸ
bytes (c ∷ s) = ◌∷ᴸ◌ (code c) (bytes s)
