-- How `mark_unchanged` may find the layers whose words differ, in one walk over both rows: words that are the same are passed on both sides; else the layer
-- of the word that comes first in the order of rows is changed, and that word is passed. That no other layer differs holds of any two lists; that the walk
-- meets no layer whose words are the same, of lists that don't descend.
use Rattle.std.specs.Prelude.{◌≡◌, ◌∷◌}
use Rattle.laws.specs.Prelude.{Bool, true, false, cond, List, [], map, ℕ, eqb, ltb, any}
use Rattle.pixel_segment.specs.Field.{cpu, layer_id_of}
use Rattle.pixel_segment.specs.Order.{order_key}
use Rattle.segment_rows.specs.Rows.{ascends}
use Rattle.kept_rows.specs.Since.{layer_words}

unfoldable pub differing : List ℕ → List ℕ → List ℕ
differing [] ys = map (layer_id_of cpu) ys
differing (x ∷ xs) [] = map (layer_id_of cpu) (x ∷ xs)
differing (x ∷ xs) (y ∷ ys) =
    cond (eqb x y) (differing xs ys)
    (cond (ltb (order_key cpu x) (order_key cpu y)) (layer_id_of cpu x ∷ differing xs (y ∷ ys))
    (cond (ltb (order_key cpu y) (order_key cpu x)) (layer_id_of cpu y ∷ differing (x ∷ xs) ys) (layer_id_of cpu x ∷ layer_id_of cpu y ∷ differing xs ys)))

abbrev pub is_differing : List ℕ → List ℕ → ℕ → Bool
is_differing xs ys id = any (eqb id) (differing xs ys)

-- who is not met has the same words in both rows
abbrev pub WalkSound : Type 0
WalkSound = (xs ys : List ℕ) (id : ℕ) → is_differing xs ys id ≡ false → layer_words id xs ≡ layer_words id ys

-- and who has is not met
abbrev pub WalkExact : Type 0
WalkExact =
    (xs ys : List ℕ) (id : ℕ) → ascends (order_key cpu) xs ≡ true → ascends (order_key cpu) ys ≡ true →
    layer_words id xs ≡ layer_words id ys → is_differing xs ys id ≡ false
