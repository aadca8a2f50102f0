-- One segment more and one less: what `areas_after`, `carry_after` and `loads_after` make of a fresh working is the fresh working of the list with the
-- segment added, or without it, wherever it stands. Number 9 keeps every number within its width, so nothing is wrapped. Assumes nothing.
use Rattle.std.specs.Prelude.{◌≡◌, ◌∷◌, ◌+◌, ◌-◌, ◌/◌, ◌%◌, ◌≤◌, ◌<◌, ◌+ℤ◌, ◌-ℤ◌}
use Rattle.laws.proofs.Prelude.{refl, sym, ap, ◌∙◌, Bool, true, false, cond, List, ⊎_elim, ℕ, arith, eq-eqb}
use Rattle.laws.proofs.Prelude.{ne_eqb, le-leb, ℤ, pos, nat_abs, +ℤ_idr, +ℤ_assoc, get_or, take, set, length-set, get_or-take}
use Rattle.laws.proofs.Prelude.{get_or-set_same, get_or-set_other, tabulate, over, every_intro, eq_or_ne, is_tabulate, length_tabulate, get_d_tabulate}
use lib.IntN.{+ℤ-neg_ℤ_cancel}
use Rattle.pixel_segment.specs.Field.{cpu, local_y_of, cover_of}
use Rattle.cover_statements.specs.Area.{doubled_area, areas_of}
use Rattle.cover_statements.specs.Carry.{in_row, abs_cover, cover_in, load_in, light_at, is_light, carry_of}
use Rattle.cover_statements.specs.Cover.{cover_at}
use Rattle.cover_statements.proofs.Areas.{area_bound}
use Rattle.cover_statements.proofs.Carries.{light, carry_at_lem, carry_small}
use Rattle.cover_statements.proofs.Planes.{areas_at}
use Rattle.segment_set_statements.specs.Effect.{wrap, effect_of, is_reached, area_after, areas_after, carry_after, loads_after}
use Rattle.segment_set_statements.specs.Set.{loads_from}
use Rattle.segment_set_statements.specs.Kept.{SameWords}
use Rattle.segment_set_statements.proofs.Effects.{effect_missed, effect_more, cover_more, load_more}
use Rattle.segment_set_statements.proofs.Lists.{tabulate_ext}
use Rattle.segment_set_statements.proofs.Sames.{same_area, same_cover, same_load}
use Rattle.segment_set_statements.proofs.Wrapping.{wrap_16, wrap_8}

-- a list given by its elements, with one of them set
set_tabulate : {A : Type 0} (n : ℕ) (f g : ℕ → A) (y : ℕ) (v d : A) → y < n → v ≡ g y → ((i : ℕ) → (i ≡ y → ⊥) → f i ≡ g i) → set (tabulate n f) y v ≡ tabulate n g
set_tabulate {A = A} n f g y v d h e other =
    is_tabulate n g d (set (tabulate n f) y v) (length-set (tabulate n f) y v ∙ length_tabulate n f)
    (λ i l.
    ⊎_elim
    (λ (q : i ≡ y).
    rw q (get_or-set_same (tabulate n f) y v d (omega (arith, length_tabulate n f)) ∙ e))
    (λ (q : i ≡ y → ⊥).
    get_or-set_other (tabulate n f) y i v d q ∙ get_d_tabulate n f d i l ∙ other i q)
    (eq_or_ne i y))

-- the row of a segment
row_low : (w : ℕ) → local_y_of cpu w < 16
row_low w = omega arith

own_row : (w : ℕ) {A : Type 0} (a b : A) → cond (in_row cpu (local_y_of cpu w) w) a b ≡ a
own_row w a b = rw (eq-eqb (local_y_of cpu w) (local_y_of cpu w) refl)

other_row : (w y : ℕ) {A : Type 0} (a b : A) → (y ≡ local_y_of cpu w → ⊥) → cond (in_row cpu y w) a b ≡ b
other_row w y a b n = rw (ne_eqb (local_y_of cpu w) y (λ e. n (sym e)))

-- d in the front of a lent list
front : (incoming : List ℤ) (held : List ℕ) (areas : List ℤ) → take 256 areas ≡ areas_of cpu 16 (cover_at incoming) held → (k : ℕ) → k < 256 → cover_at areas k ≡ doubled_area cpu (cover_at incoming) held (k / 16) (k % 16)
front incoming held areas e k h =
    sym (get_or-take 256 areas k (pos 0) h)
    ∙ ap (λ (l : List ℤ). cover_at l k) e
    ∙ areas_at cpu 16 (cover_at incoming) held k h

-- the carry and the loads with one row set
set_carry : (incoming : List ℤ) (w : ℕ) (xs ys : List ℕ) (v : ℤ) → v ≡ cover_at incoming (local_y_of cpu w) +ℤ cover_in cpu (local_y_of cpu w) ys → ((y : ℕ) → (y ≡ local_y_of cpu w → ⊥) → cover_at incoming y +ℤ cover_in cpu y xs ≡ cover_at incoming y +ℤ cover_in cpu y ys) → set (carry_of cpu 16 incoming xs) (local_y_of cpu w) v ≡ carry_of cpu 16 incoming ys
unfolding carry_of
set_carry incoming w xs ys v e other =
    set_tabulate 16 (λ y. cover_at incoming y +ℤ cover_in cpu y xs) (λ y. cover_at incoming y +ℤ cover_in cpu y ys) (local_y_of cpu w) v (pos 0) (row_low w) e other

set_loads : (incoming : List ℤ) (w : ℕ) (xs ys : List ℕ) (v : ℕ) → v ≡ nat_abs (cover_at incoming (local_y_of cpu w)) + load_in cpu (local_y_of cpu w) ys → ((y : ℕ) → (y ≡ local_y_of cpu w → ⊥) → load_in cpu y xs ≡ load_in cpu y ys) → set (loads_from cpu 16 incoming xs) (local_y_of cpu w) v ≡ loads_from cpu 16 incoming ys
unfolding loads_from
set_loads incoming w xs ys v e other =
    set_tabulate 16 (λ y. nat_abs (cover_at incoming y) + load_in cpu y xs) (λ y. nat_abs (cover_at incoming y) + load_in cpu y ys) (local_y_of cpu w) v 0 (row_low w) e
    (λ y n. ap (λ (l : ℕ). nat_abs (cover_at incoming y) + l) (other y n))

pub loads_at : (incoming : List ℤ) (part : List ℕ) (y : ℕ) → y < 16 → get_or (loads_from cpu 16 incoming part) y 0 ≡ nat_abs (cover_at incoming y) + load_in cpu y part
unfolding loads_from
loads_at incoming part y h = get_d_tabulate 16 (λ r. nat_abs (cover_at incoming r) + load_in cpu r part) 0 y h

-- a row's cover, where number 9 does not apply; and when it does not
small_carry : (incoming : List ℤ) (part : List ℕ) → is_light cpu 16 incoming part ≡ true → (y : ℕ) → y < 16 → nat_abs (cover_at incoming y +ℤ cover_in cpu y part) < 128
small_carry incoming part l y h = rw (← carry_at_lem cpu 16 incoming part y h) (omega (arith, carry_small (light l) y h))

pub is_light_lem : (incoming : List ℤ) (part : List ℕ) → ((y : ℕ) → y < 16 → nat_abs (cover_at incoming y) + load_in cpu y part ≤ 127) → is_light cpu 16 incoming part ≡ true
unfolding is_light
is_light_lem incoming part h =
    every_intro 16 (light_at cpu incoming part) (λ y q. le-leb (nat_abs (cover_at incoming y) + load_in cpu y part) 127 (h y q))

-- it applies to no other order of the words
pub same_light : (incoming : List ℤ) {xs ys : List ℕ} → SameWords xs ys → is_light cpu 16 incoming xs ≡ true → is_light cpu 16 incoming ys ≡ true
same_light incoming {xs} {ys} s l = is_light_lem incoming ys (λ y q. omega (arith, (light l).at y q, same_load cpu s y))

-- ---- ys are the words of xs and w

module _ (incoming : List ℤ) (w : ℕ) {xs ys : List ℕ} (s : SameWords ys (w ∷ xs)) where
  area_more : (c y : ℕ) → doubled_area cpu (cover_at incoming) ys c y ≡ doubled_area cpu (cover_at incoming) xs c y +ℤ effect_of cpu w c y
  area_more c y = same_area cpu s (cover_at incoming) c y ∙ effect_more cpu w xs (cover_at incoming) c y

  carry_more : (y : ℕ) → cover_at incoming y +ℤ cover_in cpu y ys ≡ cover_at incoming y +ℤ cover_in cpu y xs +ℤ cond (in_row cpu y w) (cover_of cpu w) (pos 0)
  carry_more y =
      ap (λ (z : ℤ). cover_at incoming y +ℤ z) (same_cover cpu s y ∙ cover_more cpu w xs y)
      ∙ sym (+ℤ_assoc (cover_at incoming y) (cover_in cpu y xs) (cond (in_row cpu y w) (cover_of cpu w) (pos 0)))

  load_is : (y : ℕ) → load_in cpu y ys ≡ load_in cpu y xs + cond (in_row cpu y w) (abs_cover cpu w) 0
  load_is y = same_load cpu s y ∙ load_more cpu w xs y

  -- what a row that is not the segment's has
  other_cover : (y : ℕ) → (y ≡ local_y_of cpu w → ⊥) → cover_at incoming y +ℤ cover_in cpu y xs ≡ cover_at incoming y +ℤ cover_in cpu y ys
  other_cover y n =
      sym
      (carry_more y
      ∙ ap (λ (z : ℤ). cover_at incoming y +ℤ cover_in cpu y xs +ℤ z) (other_row w y (cover_of cpu w) (pos 0) n)
      ∙ +ℤ_idr (cover_at incoming y +ℤ cover_in cpu y xs))

  other_load : (y : ℕ) → (y ≡ local_y_of cpu w → ⊥) → load_in cpu y xs ≡ load_in cpu y ys
  other_load y n = omega (arith, load_is y, other_row w y (abs_cover cpu w) 0 n)

  -- what the segment's row has
  own_cover : cover_at incoming (local_y_of cpu w) +ℤ cover_in cpu (local_y_of cpu w) xs +ℤ cover_of cpu w ≡ cover_at incoming (local_y_of cpu w) +ℤ cover_in cpu (local_y_of cpu w) ys
  own_cover =
      let y = local_y_of cpu w in
      sym (carry_more y ∙ ap (λ (z : ℤ). cover_at incoming y +ℤ cover_in cpu y xs +ℤ z) (own_row w (cover_of cpu w) (pos 0)))

  pub own_load : load_in cpu (local_y_of cpu w) ys ≡ load_in cpu (local_y_of cpu w) xs + abs_cover cpu w
  own_load = omega (arith, load_is (local_y_of cpu w), own_row w (abs_cover cpu w) 0)

  -- taken in, where number 9 does not apply to ys
  module _ (l : is_light cpu 16 incoming ys ≡ true) where
    pub areas_taken : (areas : List ℤ) → take 256 areas ≡ areas_of cpu 16 (cover_at incoming) xs → areas_after ◌+ℤ◌ cpu 16 w areas ≡ over (areas_of cpu 16 (cover_at incoming) ys) areas
    unfolding areas_after areas_of
    areas_taken areas e =
        ap (λ (r : List ℤ). over r areas)
        (tabulate_ext 256 (λ k. area_after ◌+ℤ◌ cpu w (k / 16) (k % 16) (cover_at areas k)) (λ k. doubled_area cpu (cover_at incoming) ys (k / 16) (k % 16))
        (λ k h.
        ap (area_after ◌+ℤ◌ cpu w (k / 16) (k % 16)) (front incoming xs areas e k h)
        ∙ by (k / 16) (k % 16) (omega arith) (is_reached cpu w (k / 16) (k % 16)) refl))
      where
        by : (c y : ℕ) → y < 16 → (t : Bool) → is_reached cpu w c y ≡ t → cond t (wrap 16 (doubled_area cpu (cover_at incoming) xs c y +ℤ effect_of cpu w c y)) (doubled_area cpu (cover_at incoming) xs c y) ≡ doubled_area cpu (cover_at incoming) ys c y
        by c y h true q =
            ap (wrap 16) (sym (area_more c y))
            ∙ wrap_16 (doubled_area cpu (cover_at incoming) ys c y) (omega (arith, area_bound cpu refl (cover_at incoming) ys c y ((light l).at y h)))
        by c y h false q =
            sym (area_more c y ∙ ap (λ (z : ℤ). doubled_area cpu (cover_at incoming) xs c y +ℤ z) (effect_missed cpu w c y q) ∙ +ℤ_idr (doubled_area cpu (cover_at incoming) xs c y))

    pub carry_taken : carry_after ◌+ℤ◌ cpu w (carry_of cpu 16 incoming xs) ≡ carry_of cpu 16 incoming ys
    unfolding carry_after
    carry_taken =
        let y = local_y_of cpu w in
        set_carry incoming w xs ys (wrap 8 (cover_at (carry_of cpu 16 incoming xs) y +ℤ cover_of cpu w))
        (ap (λ (z : ℤ). wrap 8 (z +ℤ cover_of cpu w)) (carry_at_lem cpu 16 incoming xs y (row_low w))
        ∙ ap (wrap 8) own_cover
        ∙ wrap_8 (cover_at incoming y +ℤ cover_in cpu y ys) (small_carry incoming ys l y (row_low w)))
        other_cover

  -- let out, where number 9 does not apply to ys
  module _ (l : is_light cpu 16 incoming xs ≡ true) where
    pub areas_let : (areas : List ℤ) → take 256 areas ≡ areas_of cpu 16 (cover_at incoming) ys → areas_after ◌-ℤ◌ cpu 16 w areas ≡ over (areas_of cpu 16 (cover_at incoming) xs) areas
    unfolding areas_after areas_of
    areas_let areas e =
        ap (λ (r : List ℤ). over r areas)
        (tabulate_ext 256 (λ k. area_after ◌-ℤ◌ cpu w (k / 16) (k % 16) (cover_at areas k)) (λ k. doubled_area cpu (cover_at incoming) xs (k / 16) (k % 16))
        (λ k h.
        ap (area_after ◌-ℤ◌ cpu w (k / 16) (k % 16)) (front incoming ys areas e k h)
        ∙ by (k / 16) (k % 16) (omega arith) (is_reached cpu w (k / 16) (k % 16)) refl))
      where
        by : (c y : ℕ) → y < 16 → (t : Bool) → is_reached cpu w c y ≡ t → cond t (wrap 16 (doubled_area cpu (cover_at incoming) ys c y -ℤ effect_of cpu w c y)) (doubled_area cpu (cover_at incoming) ys c y) ≡ doubled_area cpu (cover_at incoming) xs c y
        by c y h true q =
            let d = doubled_area cpu (cover_at incoming) xs c y in
            ap (λ (z : ℤ). wrap 16 (z -ℤ effect_of cpu w c y)) (area_more c y)
            ∙ ap (wrap 16) (+ℤ-neg_ℤ_cancel d (effect_of cpu w c y))
            ∙ wrap_16 d (omega (arith, area_bound cpu refl (cover_at incoming) xs c y ((light l).at y h)))
        by c y h false q =
            area_more c y ∙ ap (λ (z : ℤ). doubled_area cpu (cover_at incoming) xs c y +ℤ z) (effect_missed cpu w c y q) ∙ +ℤ_idr (doubled_area cpu (cover_at incoming) xs c y)

    pub carry_let : carry_after ◌-ℤ◌ cpu w (carry_of cpu 16 incoming ys) ≡ carry_of cpu 16 incoming xs
    unfolding carry_after
    carry_let =
        let y = local_y_of cpu w in
        set_carry incoming w ys xs (wrap 8 (cover_at (carry_of cpu 16 incoming ys) y -ℤ cover_of cpu w))
        (ap (λ (z : ℤ). wrap 8 (z -ℤ cover_of cpu w)) (carry_at_lem cpu 16 incoming ys y (row_low w) ∙ sym own_cover)
        ∙ ap (wrap 8) (+ℤ-neg_ℤ_cancel (cover_at incoming y +ℤ cover_in cpu y xs) (cover_of cpu w))
        ∙ wrap_8 (cover_at incoming y +ℤ cover_in cpu y xs) (small_carry incoming xs l y (row_low w)))
        (λ i n. sym (other_cover i n))

  -- the loads, either way
  pub loads_taken : loads_after ◌+◌ cpu w (loads_from cpu 16 incoming xs) ≡ loads_from cpu 16 incoming ys
  unfolding loads_after
  loads_taken =
      let y = local_y_of cpu w in
      set_loads incoming w xs ys (get_or (loads_from cpu 16 incoming xs) y 0 + abs_cover cpu w)
      (omega (arith, loads_at incoming xs y (row_low w), own_load)) other_load

  pub loads_let : loads_after ◌-◌ cpu w (loads_from cpu 16 incoming ys) ≡ loads_from cpu 16 incoming xs
  unfolding loads_after
  loads_let =
      let y = local_y_of cpu w in
      set_loads incoming w ys xs (get_or (loads_from cpu 16 incoming ys) y 0 - abs_cover cpu w)
      (omega (arith, loads_at incoming ys y (row_low w), own_load)) (λ i n. sym (other_load i n))

  -- number 9: where the row's load stays within 127 it does not apply to ys, and it applies to no fewer
  pub light_taken : is_light cpu 16 incoming xs ≡ true → get_or (loads_from cpu 16 incoming xs) (local_y_of cpu w) 0 + abs_cover cpu w ≤ 127 → is_light cpu 16 incoming ys ≡ true
  light_taken l h =
      is_light_lem incoming ys
      (λ y q.
      ⊎_elim
      (λ (e : y ≡ local_y_of cpu w). rw e (omega (arith, loads_at incoming xs (local_y_of cpu w) (row_low w), own_load)))
      (λ (n : y ≡ local_y_of cpu w → ⊥). omega (arith, (light l).at y q, other_load y n))
      (eq_or_ne y (local_y_of cpu w)))

  pub light_let : is_light cpu 16 incoming ys ≡ true → is_light cpu 16 incoming xs ≡ true
  light_let l = is_light_lem incoming xs (λ y q. omega (arith, (light l).at y q, load_is y))
