-- A tile's part of a row, grouped by layer: the segments of one layer stand together, since the part ascends.
use Rattle.std.specs.Prelude.{◌∷◌}
use Rattle.laws.specs.Prelude.{cond, List, [], ℕ, eqb}
use Rattle.pixel_segment.specs.Field.{cpu, layer_id_of}

-- a layer and its segments
pub record Group : Type 0 where
  pub id : ℕ
  pub own : List ℕ

abbrev pub single : ℕ → Group
single w = record { id = layer_id_of cpu w; own = w ∷ [] }

-- one more segment in front: it joins the first group where that is its layer's
abbrev pub join_to : ℕ → List Group → List Group
join_to w [] = single w ∷ []
join_to w (g ∷ gs) = cond (eqb (layer_id_of cpu w) g.id) (record { id = g.id; own = w ∷ g.own } ∷ gs) (single w ∷ (g ∷ gs))

unfoldable pub groups_of : List ℕ → List Group
groups_of [] = []
groups_of (w ∷ ws) = join_to w (groups_of ws)
