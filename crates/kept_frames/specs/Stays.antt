-- What `keep_count` compares: whoever is in the one list is in the other still, and as the same kind of layer. Asked of the shown layers, and then the other
-- way, it is the keep rule's comparison (specs/Right, `TwiceAlike`). Asked once, of all that are listed, it is not enough (specs/Wrong, `KeptOtherwise`).
use Rattle.std.specs.Prelude.{◌&&◌}
use Rattle.laws.specs.Prelude.{Bool, cond, List, map, ℕ, eqb, all, any}
use Rattle.styling.specs.declared.Func.{Func}
use Rattle.styling.specs.declared.Func.TheVariants.{Draw, Clip}
use Rattle.pass_statements.specs.declared.item.Item.{Item}

-- what it asks of a listed layer
pub record Member : Type 0 where
  pub id : ℕ
  pub kind : ℕ

-- 0 a draw that is not clipped, 1 a clip, 2 a clipped draw
abbrev pub kind_of : Func → ℕ
kind_of (Clip span) = 1
kind_of (Draw style) = cond style.is_clipped 2 0

abbrev pub member_of : Item → Member
member_of x = record { id = x.id; kind = kind_of x.func }

abbrev pub same_member : Member → Member → Bool
same_member m n = eqb m.id n.id && eqb m.kind n.kind

-- m is listed still
abbrev pub is_still : List Member → Member → Bool
is_still now m = any (same_member m) now

abbrev pub stays : List Member → List Member → Bool
stays before now = all (is_still now) before

-- of two lists
abbrev pub list_stays : List Item → List Item → Bool
list_stays before now = stays (map member_of before) (map member_of now)
