-- The sums of one layer in a part with other layers: those of its own segments. Assumes nothing.
use Rattle.std.specs.Prelude.{◌≡◌, ◌&&◌, ◌+◌, ◌≤◌, ◌<◌, ◌+ℤ◌}
use Rattle.laws.proofs.Prelude.{refl, ap, ◌∙◌, fun_ext, Bool, true, false, cond, List, ℕ, min, zero-add, eqb, ℤ, pos}
use Rattle.laws.proofs.Prelude.{nat_abs, +ℤ_idl, get_or, replicate, tabulate, sumℤ, sumℕ, sum_ext, sum_filter}
use Rattle.pixel_segment.specs.Field.{gpu, layer_id_of, local_y_of, cover_of}
use Rattle.cover_statements.specs.Carry.{in_row, abs_cover, cover_in, load_in, is_light, carry_of}
use Rattle.cover_statements.specs.Cover.{cover_at, no_cover}
use Rattle.cover_statements.specs.InnerLoad.{loads_of, all_light}
use Rattle.cover_statements.proofs.Carries.{light}
use Rattle.cover_statements.proofs.Loads.{loads_judge}
use Rattle.layer_row_gpu.specs.InnerCovers.{layer_within, cover_within}

chosen : (a b : Bool) (z : ℤ) → cond b (cond a z (pos 0)) (pos 0) ≡ cond (a && b) z (pos 0)
chosen true b z = refl
chosen false true z = refl
chosen false false z = refl

chosen_abs : (a b : Bool) (z : ℤ) → cond b (nat_abs (cond a z (pos 0))) 0 ≡ cond (a && b) (nat_abs z) 0
chosen_abs true b z = refl
chosen_abs false true z = refl
chosen_abs false false z = refl

module _ (layer : ℕ) (part : List ℕ) where
  pub cover_within_lem : (y : ℕ) → sumℤ (λ w. eqb (local_y_of gpu w) y) (cover_within layer) part ≡ cover_in gpu y (layer_within layer part)
  cover_within_lem y =
      sum_ext ◌+ℤ◌ (pos 0) (in_row gpu y) (λ w. eqb (layer_id_of gpu w) layer && in_row gpu y w) (cover_within layer) (cover_of gpu) part
      (λ w. chosen (eqb (layer_id_of gpu w) layer) (in_row gpu y w) (cover_of gpu w))
      ∙ sum_filter ◌+ℤ◌ (pos 0) +ℤ_idl (λ w. eqb (layer_id_of gpu w) layer) (in_row gpu y) (cover_of gpu) part

  pub load_within : (y : ℕ) → sumℕ (λ w. eqb (local_y_of gpu w) y) (λ w. nat_abs (cover_within layer w)) part ≡ load_in gpu y (layer_within layer part)
  load_within y =
      sum_ext ◌+◌ 0 (in_row gpu y) (λ w. eqb (layer_id_of gpu w) layer && in_row gpu y w) (λ w. nat_abs (cover_within layer w)) (abs_cover gpu) part
      (λ w. chosen_abs (eqb (layer_id_of gpu w) layer) (in_row gpu y w) (cover_of gpu w))
      ∙ sum_filter ◌+◌ 0 zero-add (λ w. eqb (layer_id_of gpu w) layer) (in_row gpu y) (abs_cover gpu) part

  -- the loads, row by row
  pub loads_within : tabulate 4 (λ y. min (get_or (replicate 4 0) y 0 + sumℕ (λ w. eqb (local_y_of gpu w) y) (λ w. nat_abs (cover_within layer w)) part) 128) ≡ loads_of gpu 4 (replicate 4 0) (layer_within layer part)
  unfolding loads_of
  loads_within = ap (tabulate 4) (fun_ext (λ y. ap (λ (n : ℕ). min (get_or (replicate 4 0) y 0 + n) 128) (load_within y)))

  -- and the covers
  pub covers_within : tabulate 4 (λ y. cover_at (replicate 4 (pos 0)) y +ℤ sumℤ (λ w. eqb (local_y_of gpu w) y) (cover_within layer) part) ≡ carry_of gpu 4 (no_cover 4) (layer_within layer part)
  unfolding carry_of no_cover
  covers_within = ap (tabulate 4) (fun_ext (λ y. ap (λ (z : ℤ). cover_at (replicate 4 (pos 0)) y +ℤ z) (cover_within_lem y)))

  -- number 9 by the loads
  pub judge_within : all_light (loads_of gpu 4 (replicate 4 0) (layer_within layer part)) ≡ is_light gpu 4 (no_cover 4) (layer_within layer part)
  unfolding no_cover
  judge_within = loads_judge gpu 4 (replicate 4 (pos 0)) (layer_within layer part)

  -- where it does not apply, the loads are within 127
  pub within_light : is_light gpu 4 (no_cover 4) (layer_within layer part) ≡ true → (y : ℕ) → y < 4
      → nat_abs (cover_at (replicate 4 (pos 0)) y) + sumℕ (λ w. eqb (local_y_of gpu w) y) (λ w. nat_abs (cover_within layer w)) part ≤ 127
  unfolding no_cover
  within_light e y h = rw (load_within y) ((light e).at y h)
