-- What is summed over a layer's segments depends on no tile y. Assumes nothing.
use Rattle.std.specs.Prelude.{◌≡◌, ◌&&◌, ◌∷◌, ◌%◌, ◌/◌, ◌^◌, ◌*ℤ◌}
use Rattle.laws.proofs.Prelude.{refl, ap, ap₂, sym, ◌∙◌, Bool, true, false, cond, List, [], map, ℕ, arith, eqb, ℤ}
use Rattle.laws.proofs.Prelude.{pos, filter, sum_by, sum_ext, sum_filter}
use Rattle.pixel_segment.specs.Field.{cpu, tile_x_of, layer_id_of, local_x_of, local_y_of, multiplier_of, signed_of, cover_of, double_area_of}
use Rattle.two_rows.specs.Apart.{below_tile_y, layer_segments}

-- ---- the fields below tile y

pub tile_x_below : (w : ℕ) → tile_x_of cpu (below_tile_y w) ≡ tile_x_of cpu w
tile_x_below w = omega arith

pub local_x_below : (w : ℕ) → local_x_of cpu (below_tile_y w) ≡ local_x_of cpu w
local_x_below w = omega arith

pub local_y_below : (w : ℕ) → local_y_of cpu (below_tile_y w) ≡ local_y_of cpu w
local_y_below w = omega arith

multiplier_below : (w : ℕ) → multiplier_of cpu (below_tile_y w) ≡ multiplier_of cpu w
multiplier_below w = omega arith

pub cover_below : (w : ℕ) → cover_of cpu (below_tile_y w) ≡ cover_of cpu w
unfolding cover_of
cover_below w = let e : below_tile_y w / 2 ^ 0 % 2 ^ 6 ≡ w / 2 ^ 0 % 2 ^ 6 = omega arith in ap (signed_of 6) e

pub area_below : (w : ℕ) → double_area_of cpu (below_tile_y w) ≡ double_area_of cpu w
unfolding double_area_of
area_below w = ap₂ (λ (m : ℕ) (c : ℤ). pos m *ℤ c) (multiplier_below w) (cover_below w)

-- ---- sums over them

module _ {A : Type 0} (add : A → A → A) (z : A) where
  sum_map : (p : ℕ → Bool) (f : ℕ → A) (g : ℕ → ℕ) (xs : List ℕ) → ((w : ℕ) → p (g w) ≡ p w) → ((w : ℕ) → f (g w) ≡ f w) → sum_by add z p f (map g xs) ≡ sum_by add z p f xs
  sum_map p f g [] hp hf = refl
  sum_map p f g (x ∷ xs) hp hf = ap₂ add (ap₂ (λ (t : Bool) (a : A). cond t a z) (hp x) (hf x)) (sum_map p f g xs hp hf)

  -- what is summed over a part of the layer's segments, by a test that comes before
  module _ (idl : (a : A) → add z a ≡ a) where
    and_swap : (a b c : Bool) → (a && b && c) ≡ (b && (a && c))
    and_swap true true c = refl
    and_swap true false c = refl
    and_swap false true c = refl
    and_swap false false c = refl

    pub layer_sum : (on p : ℕ → Bool) (f : ℕ → A) (id : ℕ) (row : List ℕ) → ((w : ℕ) → on (below_tile_y w) ≡ on w) → ((w : ℕ) → p (below_tile_y w) ≡ p w) → ((w : ℕ) → f (below_tile_y w) ≡ f w)
        → sum_by add z p f (filter (λ w. on w && eqb (layer_id_of cpu w) id) row) ≡ sum_by add z (λ w. on w && p w) f (layer_segments id row)
    layer_sum on p f id row ho hp hf =
        sym (sum_filter add z idl (λ w. on w && eqb (layer_id_of cpu w) id) p f row)
        ∙ sum_ext add z (λ w. on w && eqb (layer_id_of cpu w) id && p w) (λ w. eqb (layer_id_of cpu w) id && (on w && p w)) f f row (λ w. ap (λ (t : Bool). cond t (f w) z) (and_swap (on w) (eqb (layer_id_of cpu w) id) (p w)))
        ∙ sum_filter add z idl (λ w. eqb (layer_id_of cpu w) id) (λ w. on w && p w) f row
        ∙ sym (sum_map (λ w. on w && p w) f below_tile_y (filter (λ w. eqb (layer_id_of cpu w) id) row) (λ w. ap₂ ◌&&◌ (ho w) (hp w)) hf)
