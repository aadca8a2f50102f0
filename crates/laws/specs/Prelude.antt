-- The names that most definitions begin with: the library's and ours. A file names those that it takes.
pub use Rattle.std.specs.Prelude.{Bool, ◌&&◌, ◌||◌, cond, false, not, true, List, [], ◌++◌, ◌∷◌, map, ◌⊎◌, ◌≡◌, ◌%◌, ◌*◌, ◌+◌, ◌-◌, ◌/◌, ◌<◌, ◌^◌, ◌≤◌, max, min, suc, zero, ℕ, eqb, leb, ltb, Float, ◌*ℤ◌, ◌+ℤ◌, ◌-ℤ◌, nat_abs, negsuc, neg_ℤ, pos, ℤ, drop, get_or, length, replicate, set, take}
pub use Rattle.std.specs.Bool.{beq as Bool·beq}
unfoldable pub use mathlib.Core.List.{flatten}
pub use Rattle.std.specs.Prelude.{Option, None, Some}
pub use Rattle.std.specs.Int.Bits.{bit_and}
unfoldable pub use Rattle.std.specs.Int.Count.{ones}
pub use Rattle.std.specs.Float.{binary32, fin, inf, nan}
unfoldable pub use Rattle.std.specs.Float.Ieee.{eq, fits, lt, mul, odd, of_bits, of_int}
pub use Rattle.std.specs.Float.Ieee.Exact.{HasValue}
pub use Rattle.std.proofs.Math.IntN.{sub_ℕ}
pub use Rattle.std.proofs.Math.Seq.{paste}
pub use Rattle.std.proofs.lemmas.List.Edits.{sets}
pub use Rattle.std.specs.Int.Signed.{le_z, lt_z}
pub use mir.Val.{bool_byte}
pub use Rattle.laws.specs.Answer.{Answer, given, is_given, refused}
pub use Rattle.laws.specs.Integer.{AtMost, minus, modℤ, plus}
unfoldable pub use Rattle.laws.specs.Integer.{is_within}
pub use Rattle.laws.specs.Lists.{all, any, every, filter, tabulate}
unfoldable pub use Rattle.laws.specs.Lists.{over}
pub use Rattle.laws.specs.Sum.{count_by, sumℕ, sumℤ}
