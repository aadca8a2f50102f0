-- When two colours are the same. Stands for 'a colour is four binary32 numbers, red, green, blue and alpha, compared by ==, so NaN equals
-- nothing and both zeros agree': `eq` is the == of IEEE 754.
use Rattle.std.specs.Prelude.{◌&&◌}
use Rattle.laws.specs.Prelude.{Bool, eq}
use Rattle.styling.specs.declared.Color.{Color}

abbrev pub same_color : Color → Color → Bool
same_color c d = eq c.r d.r && eq c.g d.g && eq c.b d.b && eq c.a d.a
