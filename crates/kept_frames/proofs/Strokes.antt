-- The painter's way through the shown layers, turn by turn, and what holds of each shown layer. Assumes nothing.
use Rattle.std.specs.Prelude.{◌≡◌, ◌&&◌, ◌∷◌, ◌+◌, ◌≤◌, ◌<◌}
use Rattle.laws.proofs.Prelude.{refl, ap, ◌∙◌, Bool, true, false, cond, List, [], map, Option, ℕ, suc, arith, leb-true}
use Rattle.laws.proofs.Prelude.{leb, length, get_or, left, right}
use Rattle.pass_statements.specs.Covered.{item_at}
use Rattle.pass_statements.specs.Decide.{shown_from}
use Rattle.pass_statements.specs.Rules.{needs_clip}
use Rattle.pass_statements.specs.declared.item.Item.{Item}
use Rattle.painter.specs.Clip.{alive_at, clip_after, lacks_clip}
use Rattle.kept_frames.specs.Picture.{unflagged, Stroke, mask_for, mask_after, strokes_from}

-- ---- turns

abbrev pub stroke_of : List Item → Option ℕ → Option ℕ → Item → Stroke
stroke_of items clip mask x =
    let needs = needs_clip items x.func x.id in
    let alive = alive_at clip x.id in
    record { layer = unflagged x; needs = needs; lacks = lacks_clip needs alive; mask = mask_for needs alive mask }

module _ (items : List Item) (clip mask : Option ℕ) where
  pub strokes_end : strokes_from items clip mask [] ≡ []
  unfolding strokes_from
  strokes_end = refl

  pub strokes_next : (x : Item) (xs : List Item)
      → strokes_from items clip mask (x ∷ xs)
      ≡ stroke_of items clip mask x ∷ strokes_from items (clip_after x.func x.id clip) (mask_after x.func x.id mask) xs
  unfolding strokes_from
  strokes_next x xs = refl

-- what rests on a stroke's layer and need alone rests on neither clip nor mask
pub record Plainly : Type 0 where
  pub layer : Item
  pub needs : Bool

abbrev pub plainly : Stroke → Plainly
plainly s = record { layer = s.layer; needs = s.needs }

abbrev pub plainly_in : List Item → Item → Plainly
plainly_in items x = record { layer = unflagged x; needs = needs_clip items x.func x.id }

pub strokes_plainly : (items xs : List Item) (clip mask : Option ℕ) → map plainly (strokes_from items clip mask xs) ≡ map (plainly_in items) xs
strokes_plainly items [] clip mask = ap (map plainly) (strokes_end items clip mask)
strokes_plainly items (x ∷ xs) clip mask =
    ap (map plainly) (strokes_next items clip mask x xs)
    ∙ ap (λ (l : List Plainly). plainly_in items x ∷ l) (strokes_plainly items xs (clip_after x.func x.id clip) (mask_after x.func x.id mask))

-- ---- the shown layers, by their places

abbrev pub Each : (Item → Type 0) → List Item → Type 0
Each P [] = Unit {0}
Each P (x ∷ xs) = P x × Each P xs

module _ (P : Item → Type 0) (skipped : ℕ) where
  shown_from_lem : (xs : List Item) (ss : List Bool) (k : ℕ)
      → ((i : ℕ) → i < length xs → get_or ss i false ≡ true → skipped ≤ i + k → P (item_at xs i))
      → Each P (shown_from k skipped xs ss)
  unfolding shown_from
  shown_from_lem [] ss k h = tt
  shown_from_lem (x ∷ xs) [] k h = tt
  shown_from_lem (x ∷ xs) (s ∷ ss) k h =
      by (s && leb skipped k) refl (shown_from_lem xs ss (suc k) (λ i l m q. h (suc i) (omega (arith, l)) m (omega (arith, q))))
    where
      by : (t : Bool) → (s && leb skipped k) ≡ t → Each P (shown_from (suc k) skipped xs ss)
          → Each P (cond t (x ∷ shown_from (suc k) skipped xs ss) (shown_from (suc k) skipped xs ss))
      by true e r = (h 0 (omega arith) (left s (leb skipped k) e) (omega (arith, leb-true skipped k (right s (leb skipped k) e))), r)
      by false e r = r

  pub each_shown : (xs : List Item) (ss : List Bool)
      → ((i : ℕ) → i < length xs → get_or ss i false ≡ true → skipped ≤ i → P (item_at xs i))
      → Each P (shown_from 0 skipped xs ss)
  each_shown xs ss h = shown_from_lem xs ss 0 (λ i l m q. h i l m (omega (arith, q)))
