-- A line with a number below 0, as it is printed.
-- Assumes nothing.
use Rattle.std.specs.Prelude.{◌≡◌, ◌∷◌}
use Rattle.laws.proofs.Prelude.{refl, [], pos, negsuc}
use Rattle.decimal.specs.Decimal.{decimal, decimal_in}
use Rattle.lines.specs.Bytes.{bytes}
use Rattle.lines.specs.Text.{line_text}

pub line : line_text (pos 0 ∷ negsuc 15 ∷ pos 4094 ∷ []) ≡ bytes "0 -16 4094\n"
unfolding line_text decimal decimal_in
line = refl
