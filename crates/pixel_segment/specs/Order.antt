-- The order of segments. Stands for 'order compares only the upper 44 bits: tile y, tile x, layer'. How two keys compare is a number,
-- the rank of the first: 0 below the second, 1 equal to it, 2 above it.
use Rattle.std.specs.declared.cmp.Ordering.{Ordering}
use Rattle.std.specs.declared.cmp.Ordering.TheVariants.{Less, Equal, Greater}
use Rattle.std.specs.Prelude.{◌/◌, ◌^◌}
use Rattle.laws.specs.Prelude.{Bool, true, false, cond, List, ℕ, zero, suc, ltb, ℤ, lt_z}
use Rattle.pixel_segment.specs.Field.{shift_of}

-- the bits that order compares: the fields down to the layer id
abbrev pub order_key : List ℕ → ℕ → ℕ
order_key ws w = w / 2 ^ shift_of ws 2

-- the rank that an answer of the code stands for
abbrev pub rank : Ordering → ℕ
rank Less = 0
rank Equal = 1
rank Greater = 2

-- what a rank tells
abbrev pub is_lt : ℕ → Bool
is_lt zero = true
is_lt (suc r) = false

abbrev pub is_eq : ℕ → Bool
is_eq zero = false
is_eq (suc zero) = true
is_eq (suc (suc r)) = false

abbrev pub is_gt : ℕ → Bool
is_gt zero = false
is_gt (suc zero) = false
is_gt (suc (suc r)) = true

-- how a number compares with another
abbrev pub compare_of : ℕ → ℕ → ℕ
compare_of a b = cond (ltb a b) 0 (cond (ltb b a) 2 1)

abbrev pub compareℤ : ℤ → ℤ → ℕ
compareℤ a b = cond (lt_z a b) 0 (cond (lt_z b a) 2 1)

-- false before true
abbrev pub compare_bool : Bool → Bool → ℕ
compare_bool false false = 1
compare_bool false true = 0
compare_bool true false = 2
compare_bool true true = 1

-- the first rank, unless it says equal: then the next
abbrev pub then_by : ℕ → ℕ → ℕ
then_by r s = cond (is_eq r) s r
