-- Document 01's printed lines.
-- Assumes nothing.
use Rattle.std.specs.Prelude.{◌≡◌, ◌++◌}
use Rattle.laws.proofs.Prelude.{refl, List, ℕ}
use Rattle.decimal.specs.Decimal.{decimal, decimal_in}
use Rattle.lines.specs.Bytes.{bytes}
use Rattle.report.specs.declared.Op.{Op}
use Rattle.report.specs.declared.Op.TheVariants.{None, Solid, Paint}
use Rattle.report.specs.Text.{tile_names, tile_text, refusal_text}

abbrev line : ℕ → Op → ℕ → ℕ → ℕ → ℕ → List ℕ
line tile op listed shown octets carried =
    tile_text (record { tile = tile; op = op; listed = listed; shown = shown; octets = octets; carried = carried })

pub printed : tile_names ++ line 0 Paint 1 1 32 1 ++ line 1 Solid 1 1 0 1 ++ line 2 Paint 1 1 16 0 ++ line 3 Solid 0 0 0 0
    ≡ bytes "tile op listed shown octets carried\n0 paint 1 1 32 1\n1 solid 1 1 0 1\n2 paint 1 1 16 0\n3 solid 0 0 0 0\n"
unfolding tile_text decimal decimal_in
printed = refl

pub kept : line 4094 None 256 0 0 256 ≡ bytes "4094 none 256 0 0 256\n"
unfolding tile_text decimal decimal_in
kept = refl

pub refusal : refusal_text 10 ≡ bytes "refused 10\n"
unfolding refusal_text decimal decimal_in
refusal = refl
