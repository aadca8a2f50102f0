-- The keep rule: the count that a tile keeps stays only where the clear colour has the bits that it had at the tile's last accepted work, and the layers
-- that are shown today, draws and clips, are those of then, by their ids, and each needs a clip now as it did then. So of a tile's last work nothing but
-- that is to be remembered. With the rule every *none* is right, and no rule that is right allows more (specs/Right).
use Rattle.std.specs.Prelude.{◌&&◌, ◌∷◌}
use Rattle.laws.specs.Prelude.{Bool, true, false, Bool·beq, List, [], map, ℕ, eqb, Float, nan, inf, fin, ℤ, pos, negsuc}
use Rattle.styling.specs.declared.Color.{Color}
use Rattle.pass_statements.specs.declared.item.Item.{Item}
use Rattle.kept_frames.specs.Picture.{Stroke, picture_of}

-- ---- the shown layers

-- what is remembered of a shown layer
pub record Shown : Type 0 where
  pub id : ℕ
  pub needs : Bool

abbrev pub shown_by : Stroke → Shown
shown_by s = record { id = s.layer.id; needs = s.needs }

abbrev pub same_shown : Shown → Shown → Bool
same_shown a b = eqb a.id b.id && Bool·beq a.needs b.needs

abbrev pub all_same : List Shown → List Shown → Bool
all_same [] [] = true
all_same [] (b ∷ ys) = false
all_same (a ∷ xs) [] = false
all_same (a ∷ xs) (b ∷ ys) = same_shown a b && all_same xs ys

-- of two lists
abbrev pub layers_alike : List Item → List Item → Bool
layers_alike before now = all_same (map shown_by (picture_of before)) (map shown_by (picture_of now))

-- ---- the clear colour: by its bits, so that 0 is not -0 and a NaN is itself. Of NaNs the definitions know one; a caller who compares all 32 bits drops
-- the count for another NaN too, which is always right

abbrev pub same_int : ℤ → ℤ → Bool
same_int (pos m) (pos n) = eqb m n
same_int (pos m) (negsuc n) = false
same_int (negsuc m) (pos n) = false
same_int (negsuc m) (negsuc n) = eqb m n

abbrev pub same_float : Float → Float → Bool
same_float nan nan = true
same_float nan (inf t) = false
same_float nan (fin t n f) = false
same_float (inf s) nan = false
same_float (inf s) (inf t) = Bool·beq s t
same_float (inf s) (fin t n f) = false
same_float (fin s m e) nan = false
same_float (fin s m e) (inf t) = false
same_float (fin s m e) (fin t n f) = Bool·beq s t && (eqb m n && same_int e f)

abbrev pub same_bits : Color → Color → Bool
same_bits c d = same_float c.r d.r && (same_float c.g d.g && (same_float c.b d.b && same_float c.a d.a))

-- ---- the rule, of the clear colours and the lists of two works

abbrev pub may_keep_count : Color → Color → List Item → List Item → Bool
may_keep_count clear clear' before now = same_bits clear clear' && layers_alike before now
