-- The colours to mix, as the loop over the layers from the first that is not skipped goes: what it has found, with what is left, gives what the whole list gives.
-- Assumes nothing.
use Rattle.std.specs.Prelude.{◌≡◌, ◌&&◌, ◌∷◌, ◌+◌, ◌-◌, ◌≤◌, ◌<◌}
use Rattle.laws.proofs.Prelude.{refl, sym, ap, ap₂, ◌∙◌, Bool, true, false, cond, and-true, and_assoc, List, [], ℕ, zero, suc}
use Rattle.laws.proofs.Prelude.{add-zero, zero-add, add-suc, suc-add, add-one, arith, le-leb, lt-leb, leb, length, get_or, drop}
use Rattle.laws.proofs.Prelude.{drop_of_length-le, drop-cons, all}
use lib.Seq.{drop-nil}
use Rattle.styling.specs.Style.{solid_color}
use Rattle.pass_statements.specs.declared.item.Item.{Item}
use Rattle.pass_statements.specs.Covered.{item_at}
use Rattle.pass_statements.specs.Decide.{shown_from, shown_of, has_color, are_solid}

-- ---- the shown layers, from a place on

-- no layer below the first that is not skipped is shown
skips : (skipped k i : ℕ) (xs : List Item) (ss : List Bool) → i + k ≤ skipped → shown_from i skipped xs ss ≡ shown_from (i + k) skipped (drop k xs) (drop k ss)
unfolding shown_from
skips skipped zero i xs ss h = ap (λ (j : ℕ). shown_from j skipped xs ss) (sym (add-zero i))
skips skipped (suc k) i [] ss h = refl
skips skipped (suc k) i (x ∷ xs) [] h = none (drop k xs)
  where
    none : (ys : List Item) → [] ≡ shown_from (i + suc k) skipped ys []
    none [] = refl
    none (y ∷ ys) = refl
skips skipped (suc k) i (x ∷ xs) (s ∷ ss) h =
    past s
    ∙ skips skipped k (suc i) xs ss (omega (arith, add-suc i k, suc-add i k))
    ∙ ap (λ (j : ℕ). shown_from j skipped (drop k xs) (drop k ss)) (suc-add i k ∙ sym (add-suc i k))
  where
    past : (s : Bool) → shown_from i skipped (x ∷ xs) (s ∷ ss) ≡ shown_from (suc i) skipped xs ss
    past true = rw (lt-leb skipped i (omega (arith, add-suc i k)))
    past false = refl

-- a shown layer, and one that is masked off
abbrev rest : List Item → List Bool → ℕ → ℕ → List Item
rest items unmasked skipped i = shown_from i skipped (drop i items) (drop i unmasked)

module _ (items : List Item) (unmasked : List Bool) (skipped i : ℕ) (p : i < length items) (q : i < length unmasked) where
  rest_by : rest items unmasked skipped i ≡ cond (get_or unmasked i false && leb skipped i) (item_at items i ∷ rest items unmasked skipped (suc i)) (rest items unmasked skipped (suc i))
  unfolding shown_from
  rest_by = ap₂ (shown_from i skipped) (drop-cons items i _ p) (drop-cons unmasked i false q)

  rest_unmasked : skipped ≤ i → get_or unmasked i false ≡ true → rest items unmasked skipped i ≡ item_at items i ∷ rest items unmasked skipped (suc i)
  rest_unmasked h e = rest_by ∙ rw (e, le-leb skipped i h)

  rest_masked : get_or unmasked i false ≡ false → rest items unmasked skipped i ≡ rest items unmasked skipped (suc i)
  rest_masked e = rest_by ∙ rw e

-- ---- the loop

pub record Mixing (items : List Item) (unmasked : List Bool) (skipped below : ℕ) (ok : Bool) (left i : ℕ) : Type 0 where
  pub from : skipped ≤ i
  pub same : (ok && are_solid left (rest items unmasked skipped i)) ≡ are_solid below (shown_of skipped items unmasked)

module _ {items : List Item} {unmasked : List Bool} {skipped below : ℕ} where
  pub mix_start : Mixing items unmasked skipped below true below skipped
  mix_start =
      record {
        from = omega arith;
        same = ap (are_solid below) (sym (skips skipped skipped 0 items unmasked (omega arith) ∙ ap (λ (j : ℕ). shown_from j skipped (drop skipped items) (drop skipped unmasked)) (zero-add skipped)));
      }

  module _ {n : ℕ} {ok : Bool} {left i : ℕ} (v : Mixing items unmasked skipped below ok left i) (e : length items ≡ n) (l : n ≤ length unmasked) (p : i < n) where
    next : {ok' : Bool} {left' : ℕ} → (ok' && are_solid left' (rest items unmasked skipped (suc i))) ≡ (ok && are_solid left (rest items unmasked skipped i)) → Mixing items unmasked skipped below ok' left' (i + 1)
    next h = record { from = omega (arith, v.from); same = rw add-one (h ∙ v.same) }

    pub mix_masked : get_or unmasked i false ≡ false → Mixing items unmasked skipped below ok left (i + 1)
    mix_masked h = next (ap (λ (xs : List Item). ok && are_solid left xs) (sym (rest_masked items unmasked skipped i (omega arith) (omega arith) h)))

    module _ (h : get_or unmasked i false ≡ true) where
      here : rest items unmasked skipped i ≡ item_at items i ∷ rest items unmasked skipped (suc i)
      here = rest_unmasked items unmasked skipped i (omega arith) (omega arith) v.from h

      pub mix_below : (left ≡ 0 → ⊥) → Mixing items unmasked skipped below ok (left - 1) (i + 1)
      mix_below z =
          let more : left ≡ suc (left - 1) = omega arith in
          next
          (sym
          (ap (λ (xs : List Item). ok && are_solid left xs) here
          ∙ ap (λ (k : ℕ). ok && are_solid k (item_at items i ∷ rest items unmasked skipped (suc i))) more))

      pub mix_look : {t : Bool} → left ≡ 0 → t ≡ has_color (solid_color (item_at items i).func) → Mixing items unmasked skipped below (ok && t) left (i + 1)
      mix_look {t} z q =
          next (rw (q, z) (and_assoc ok (has_color (solid_color (item_at items i).func)) (are_solid 0 (rest items unmasked skipped (suc i)))
          ∙ ap (λ (xs : List Item). ok && are_solid 0 xs) (sym here)))

  pub mix_end : {n : ℕ} {ok : Bool} {left i : ℕ} → Mixing items unmasked skipped below ok left i → length items ≡ n → n ≤ i → ok ≡ are_solid below (shown_of skipped items unmasked)
  unfolding shown_from
  mix_end {ok = ok} {left = left} {i = i} v e h =
      sym (and-true ok)
      ∙ ap (λ (xs : List Item). ok && all (λ x. has_color (solid_color x.func)) xs) (sym (drop-nil left))
      ∙ ap (λ (xs : List Item). ok && are_solid left (shown_from i skipped xs (drop i unmasked))) (sym (drop_of_length-le items {i = i} (omega arith)))
      ∙ v.same
