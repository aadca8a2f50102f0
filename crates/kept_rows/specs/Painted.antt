-- What a caller reads who paints the shown layers: in a run as demand 3 has it, after a tile's work, by one accepted call for each layer of a list and in
-- its order. Every mark and every plane is that of `paint_on`, from the clip that the painting before it left: the way that `paintings_from` goes.
use Rattle.std.specs.Prelude.{◌≡◌, ◌∷◌}
use Rattle.laws.specs.Prelude.{List, [], Option, ℕ, suc, Float, given, over}
use Rattle.refusals.specs.Refusal.{given_or_refused}
use Rattle.pass_statements.specs.declared.item.Item.{Item}
use Rattle.row_statements.specs.Painting.{PaintSays}
use Rattle.row_statements.specs.Due.{OpenRow, Past, PaintChoice, paint_on}
use Rattle.row_statements.specs.Run.{Event}
use Rattle.row_statements.specs.Claim.{past_after, AllRight}
use Rattle.row_statements.specs.declared.Painted.{Painted}

-- the layers are painted one after the other, each accepted
pub data Paints (o : OpenRow) : Past → List Item → List Event → Type 0 where
  none : {p : Past} → Paints o p [] []
  next : {p : Past} {x : Item} {xs : List Item} {c : PaintChoice} {r : Painted} {back : List Float} {mark : ℕ} {es : List Event} →
      c.layer ≡ x.id →
      given_or_refused r.answer ≡ given mark →
      Paints o (past_after o (Event.paint c r back) p) xs es →
      Paints o p (x ∷ xs) (Event.paint c r back ∷ es)

-- what the layers say of tile from + n, from a clip
unfoldable pub says_from : OpenRow → ℕ → Option ℕ → List Item → List PaintSays
says_from o n clip [] = []
says_from o n clip (x ∷ xs) = paint_on o n x.id clip ∷ says_from o n (paint_on o n x.id clip).clip xs

-- the calls say so: the mark that is answered, and the plane as it is left
pub data ReadAs : List Event → List PaintSays → Type 0 where
  none : ReadAs [] []
  next : {c : PaintChoice} {r : Painted} {back : List Float} {s : PaintSays} {es : List Event} {ss : List PaintSays} →
      given_or_refused r.answer ≡ given s.mark →
      back ≡ over s.plane c.plane →
      ReadAs es ss →
      ReadAs (Event.paint c r back ∷ es) (s ∷ ss)

abbrev pub PaintingsRead : Type 0
PaintingsRead =
    (o : OpenRow) (n : ℕ) (p : Past) (xs : List Item) (es : List Event) → p.tiles ≡ suc n → AllRight o p es → Paints o p xs es →
    ReadAs es (says_from o n p.clip xs)
