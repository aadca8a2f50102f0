-- One record of the layer table: its eight words, which of them are in range, and the layer that they say.
-- Stands for 'layer records say rule, draw or clip, clip span 0 to 2,097,151, clipped, fill, blend mode, colour, and unchanged'. A draw's
-- span plays no part, nor do a clip's words for clipped, fill and blend mode and its colour, nor the colour of a fill that is not solid.
use Rattle.std.specs.Prelude.{◌&&◌}
use Rattle.laws.specs.Prelude.{Bool, cond, ℕ, leb, eqb}
use Rattle.styling.specs.declared.Color.{Color}
use Rattle.styling.specs.declared.Func.{Func}
use Rattle.styling.specs.declared.Func.TheVariants.{Draw, Clip}
use Rattle.styling.specs.declared.Layer.{Layer}
use Rattle.layer_table.specs.declared.Words.{Words}
use Rattle.styling.specs.Codes.{rule_of, fill_of, mode_of}

-- the largest layer id, and the longest span
abbrev pub layer_limit : ℕ
layer_limit = 2097151

-- what refusal 4 asks of one record: id, span and every code in range
abbrev pub in_range : Words → Bool
in_range w =
    leb w.id layer_limit && leb w.rule 1 && leb w.func 1 && leb w.span layer_limit && leb w.clipped 1 && leb w.fill 2 && leb w.mode 15 && leb w.unchanged 1

abbrev pub func_of : Words → Color → Func
func_of w c =
    cond (eqb w.func 0)
    (Draw (record { is_clipped = eqb w.clipped 1; fill = fill_of w.fill c; blend_mode = mode_of w.mode }))
    (Clip w.span)

abbrev pub layer_of : Words → Color → Layer
layer_of w c =
    record {
      id = w.id;
      props = record { fill_rule = rule_of w.rule; func = func_of w c };
      is_unchanged = eqb w.unchanged 1;
    }
