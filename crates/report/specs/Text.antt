-- The lines that the row program prints. Stands for the fields 'tile, decision, layers listed, layers neither masked nor skipped, used octets
-- summed over the draws, carries handed on', and for 'a refusal prints `refused` and its number'. Every line ends with LF.
use Rattle.std.specs.Prelude.{◌∷◌, ◌++◌}
use Rattle.laws.specs.Prelude.{List, [], ℕ}
use Rattle.decimal.specs.Decimal.{decimal}
use Rattle.lines.specs.Bytes.{bytes}
use Rattle.report.specs.declared.Op.{Op}
use Rattle.report.specs.declared.Op.TheVariants.{None, Solid, Paint}
use Rattle.report.specs.declared.TileLine.{TileLine}

abbrev pub tile_names : List ℕ
tile_names = bytes "tile op listed shown octets carried\n"

-- a decision's word, with the space after it
abbrev pub op_field : Op → List ℕ
op_field None = bytes "none "
op_field Solid = bytes "solid "
op_field Paint = bytes "paint "

-- a number and the byte that ends its field: a space, or LF
abbrev pub number_field : ℕ → ℕ → List ℕ
number_field n end = decimal n ++ (end ∷ [])

unfoldable pub tile_text : TileLine → List ℕ
tile_text t =
    number_field t.tile 32 ++ op_field t.op ++ number_field t.listed 32 ++ number_field t.shown 32 ++ number_field t.octets 32 ++ number_field t.carried 10

unfoldable pub refusal_text : ℕ → List ℕ
refusal_text number = bytes "refused " ++ number_field number 10
