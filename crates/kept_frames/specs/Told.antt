-- Flags that are truthful since the tile's last accepted work: a layer that is listed as unchanged stood in the list of that work, with the same
-- record, and as full. 'Since the last frame' is less: specs/Wrong has what comes of it.
use Rattle.std.specs.Prelude.{◌≡◌, ◌∷◌, ◌⊎◌}
use Rattle.laws.specs.Prelude.{true, List, []}
use Rattle.pass_statements.specs.declared.item.Item.{Item}
use Rattle.kept_frames.specs.Picture.{unflagged}

-- x was listed, the same but for its flag
abbrev pub WasListed : Item → List Item → Type 0
WasListed x [] = ⊥
WasListed x (y ∷ ys) = (unflagged y ≡ unflagged x) ⊎ WasListed x ys

abbrev pub Told : List Item → List Item → Type 0
Told before [] = Unit {0}
Told before (x ∷ xs) = (x.unchanged ≡ true → WasListed x before) × Told before xs
