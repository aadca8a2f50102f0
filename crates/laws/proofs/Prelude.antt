-- The names that most proofs begin with: those of the definitions, and the laws. Assumes nothing.
pub use Rattle.std.specs.Prelude.{◌%◌, ◌&&◌, ◌*◌, ◌*ℤ◌, ◌++◌, ◌+◌, ◌+ℤ◌, ◌-◌, ◌-ℤ◌, ◌/◌, ◌<◌, ◌^◌, ◌||◌, ◌∷◌, ◌≡◌, ◌≤◌, ◌⊎◌}
pub use Rattle.laws.specs.Prelude.{Answer, AtMost, Bool, Bool·beq, Float, HasValue, List, Option, []}
pub use Rattle.laws.specs.Prelude.{all, any, binary32, bit_and, bool_byte, cond, count_by}
pub use Rattle.laws.specs.Prelude.{drop, eqb, every, false, filter, fin, get_or, given, inf, is_given, le_z, leb, length, lt_z, ltb, map, max, min}
pub use Rattle.laws.specs.Prelude.{minus, modℤ, nan, nat_abs, negsuc, neg_ℤ, None, not, paste, plus, pos, refused, replicate, set, sets, Some}
pub use Rattle.laws.specs.Prelude.{sub_ℕ, suc, sumℕ, sumℤ, tabulate, take, true, zero, ℕ, ℤ}
unfoldable pub use Rattle.laws.specs.Prelude.{eq, fits, flatten, is_within, lt, mul, odd, of_bits, of_int, ones, over}
pub use mathlib.Core.Bool.{and_assoc, and-false, and-true, false≢true}
pub use mathlib.Core.List.{append_assoc, append-nil}
pub use mathlib.Core.Logic.{inl, inr, ⊎_elim, ⊎_map}
pub use mathlib.Core.Path.{◌∙◌, ap, ap₂, fun_ext, refl, subst, subst₂, sym}
pub use native.Mathlib.Decide.{dec_lt}
pub use native.Mathlib.Nat.{add_assoc, add-suc, add-zero, div-add-mod', div-eq_of_lt, div-lt_iff_lt-mul, div-one, eq-or-lt_of_le, le_of_suc-le-suc}
pub use native.Mathlib.Nat.{lt_of_lt_of_le, mod-eq_of_lt, mod-lt, mul-le-mul, mul-le-mul_left, mul-le-mul_right, not-suc-le-zero, suc-add, zero-add}
pub use native.Mathlib.Numerals.{add-one}
pub use native.Mathlib.Omega.{arith}
pub use lib.Arith.{digits_div, digits_lt, digits_mod}
pub use lib.Dec.{T, lit<, lit≤}
pub use lib.IntN.{+ℤ_assoc, +ℤ_idl, +ℤ_idr}
pub use lib.ListN.{get_or-append as List·getD-append, get_or-map as List·getD-map, drop_of_length-le, get_or-replicate, length-append, length-drop, length-map, length-replicate}
pub use lib.ListN.{length-set, length-take, take-append-drop}
pub use lib.Pow.{pow-add, pow_mono, pow_pos}
pub use lib.Seq.{drop_at, drop-cons, drop-drop, ext_get_or, get_or-append-add, get_or-drop, get_or-set_other, get_or-set_same, get_or-take, length-sets}
pub use lib.Seq.{length-take-le, sets-eq, take-add, take_all, take_at, take-suc}
pub use lib.Signed.{mag, non_neg}
pub use borrow.Author.Rules.{rules, sfits_of}
pub use borrow.Author.Tests.{eq-eqb, eqb-false, eqb-true, le-leb, le-ltb, leb-false, leb-true, lt-leb, lt-ltb, ltb-false, ltb-true, ne_eqb, not-false}
pub use borrow.Author.Tests.{not-true}
pub use mir.Facts.{sfits_widen, to_z-of_z, to_z_pos}
pub use mir.Syntax.{named, ty_array, w16, w32, w64, w8}
pub use mir.Val.{Fits, SFits, Val, of_z, to_z, vint, vptr}
pub use Rattle.laws.proofs.Bools.{both, clash, either, left, not_left, not_right, right, same}
pub use Rattle.laws.proofs.Drops.{all_again, all_end, cons_lt, cons_rest, map_at, map_drop, nil_le}
pub use Rattle.laws.proofs.Every.{all_at, all_intro, every_at, every_intro}
pub use Rattle.laws.proofs.Filtered.{all_kept, filter_all, filter_ext, filter_none, filter_twice}
pub use Rattle.laws.proofs.Keyed.{add_one, entry_one}
pub use Rattle.laws.proofs.Machine.{Within, kept, sfits, small, unsigned, within}
pub use Rattle.laws.proofs.Maps.{all_map, filter_map}
pub use Rattle.laws.proofs.Mod.{lifted, remainder, unique}
pub use Rattle.laws.proofs.Orders.{eq_or_ne, le_or_lt}
pub use Rattle.laws.proofs.Parts.{Sum, abs_times, added, difference, equal, le_true, lt_false, lt_true, taken, times, true_le, whole}
pub use Rattle.laws.proofs.Ranges.{is_within_lem}
pub use Rattle.laws.proofs.Rows.{filled, filled_all, filled_more, get_d_tabulate, is_tabulate, length_filled, length_over, length_tabulate}
pub use Rattle.laws.proofs.Sums.{abs_add, abs_cond, sum_append, sum_end, sum_ext, sum_filter, sum_step, sumℕ_same, sumℤ_same}
pub use Rattle.laws.specs.Sum.{sum_by}
