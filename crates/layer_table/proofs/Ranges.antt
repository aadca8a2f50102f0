-- The bounds that a record in range has, and those of the layer that it says. Assumes nothing.
use Rattle.std.specs.Prelude.{◌≡◌, ◌&&◌, ◌≤◌, ◌<◌}
use Rattle.laws.proofs.Prelude.{refl, Bool, true, false, cond, List, ℕ, zero, suc, arith, leb-true, leb, eqb, Float, eq, of_bits}
use Rattle.laws.proofs.Prelude.{binary32, left, right}
use lib.Dec.{eqb-suc-zero}
use Rattle.styling.specs.declared.Color.{Color}
use Rattle.styling.specs.declared.Style.{Style}
use Rattle.styling.specs.declared.Func.TheVariants.{Draw, Clip}
use Rattle.layer_table.specs.declared.Words.{Words}
use Rattle.styling.specs.Codes.{fill_of, mode_code, mode_of}
use Rattle.styling.specs.Style.{fill_color, has_alpha_one, is_opaque}
use Rattle.layer_table.specs.Record.{layer_limit, in_range, func_of}
use Rattle.styling.proofs.Coded.{mode_code_lem}
use Rattle.layer_table.specs.Table.{id_at, words_at, layer_at, Table}

pub record InRange (w : Words) : Type 0 where
  pub id_le : w.id ≤ 2097151
  pub rule_le : w.rule ≤ 1
  pub func_le : w.func ≤ 1
  pub span_le : w.span ≤ 2097151
  pub clipped_le : w.clipped ≤ 1
  pub fill_le : w.fill ≤ 2
  pub mode_le : w.mode ≤ 15
  pub unchanged_le : w.unchanged ≤ 1

-- eight tests that hold together
module _ (a b c d e f g h : Bool) (all : (a && b && c && d && e && f && g && h) ≡ true) where
  seven : (a && b && c && d && e && f && g) ≡ true
  seven = left (a && b && c && d && e && f && g) h all

  six : (a && b && c && d && e && f) ≡ true
  six = left (a && b && c && d && e && f) g seven

  five : (a && b && c && d && e) ≡ true
  five = left (a && b && c && d && e) f six

  four : (a && b && c && d) ≡ true
  four = left (a && b && c && d) e five

  three : (a && b && c) ≡ true
  three = left (a && b && c) d four

  eight : (a ≡ true) × (b ≡ true) × (c ≡ true) × (d ≡ true) × (e ≡ true) × (f ≡ true) × (g ≡ true) × (h ≡ true)
  eight = (
    left a b (left (a && b) c three),
    right a b (left (a && b) c three),
    right (a && b) c three,
    right (a && b && c) d four,
    right (a && b && c && d) e five,
    right (a && b && c && d && e) f six,
    right (a && b && c && d && e && f) g seven,
    right (a && b && c && d && e && f && g) h all,
  )

pub in_range_lem : (w : Words) → in_range w ≡ true → InRange w
in_range_lem w t =
    let all = eight (leb w.id layer_limit) (leb w.rule 1) (leb w.func 1) (leb w.span layer_limit) (leb w.clipped 1) (leb w.fill 2) (leb w.mode 15) (leb w.unchanged 1) t in
    record {
      id_le = leb-true w.id layer_limit all.0;
      rule_le = leb-true w.rule 1 all.1;
      func_le = leb-true w.func 1 all.2;
      span_le = leb-true w.span layer_limit all.3;
      clipped_le = leb-true w.clipped 1 all.4;
      fill_le = leb-true w.fill 2 all.5;
      mode_le = leb-true w.mode 15 all.6;
      unchanged_le = leb-true w.unchanged 1 all.7;
    }

-- ---- of a table that passes: ids and spans, whose sum fits 32 bits

module _ {words : List ℕ} {floats : List Float} {count : ℕ} (table : Table words floats count) where
  pub id_le : {i : ℕ} → i < count → id_at words i ≤ 2097151
  id_le {i} h = (in_range_lem (words_at words i) (table.in_range_lem i h)).id_le

  pub span_le : {i n : ℕ} → i < count → (layer_at words floats i).props.func ≡ Clip n → n ≤ 2097151
  unfolding layer_at
  span_le {i} {n} h e = by _ (eqb (words_at words i).func 0) e
    where
      by : (s : Style) (t : Bool) → cond t (Draw s) (Clip (words_at words i).span) ≡ Clip n → n ≤ 2097151
      by s true q = let clash : ◌≡◌ {A = ℕ} 0 1 = cc in absurd (omega arith)
      by s false q = let same : (words_at words i).span ≡ n = cc in omega (arith, same, (in_range_lem (words_at words i) (table.in_range_lem i h)).span_le)

-- ---- opaque, by the words: a draw with fill 0, blend mode 0 and alpha 1

opaque_fill : (n : ℕ) (c : Color) → has_alpha_one (fill_color (fill_of n c)) ≡ (eqb n 0 && eq c.a (of_bits binary32 0x3F800000))
opaque_fill zero c = refl
opaque_fill (suc zero) c = refl
opaque_fill (suc (suc zero)) c = refl
opaque_fill (suc (suc (suc n))) c = rw (eqb-suc-zero (suc (suc n))) refl

pub opaque_words : (w : Words) (c : Color) → in_range w ≡ true → is_opaque (func_of w c) ≡ (eqb w.func 0 && (eqb w.fill 0 && eq c.a (of_bits binary32 0x3F800000) && eqb w.mode 0))
opaque_words w c h = by (eqb w.func 0)
  where
    mode_is : mode_code (mode_of w.mode) ≡ w.mode
    mode_is = mode_code_lem w.mode (omega (arith, (in_range_lem w h).mode_le))

    by : (t : Bool) → is_opaque (cond t (Draw (record { is_clipped = eqb w.clipped 1; fill = fill_of w.fill c; blend_mode = mode_of w.mode })) (Clip w.span)) ≡ (t && (eqb w.fill 0 && eq c.a (of_bits binary32 0x3F800000) && eqb w.mode 0))
    by true = rw (opaque_fill w.fill c, mode_is) refl
    by false = refl
