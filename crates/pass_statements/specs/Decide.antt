-- The decision about a tile (`optimization_passes`): none, solid with the bottom colour and how many shown layers (0 or 1) lie before those to
-- mix above it, or paint; which layers are masked off, and how many are skipped. A layer that is neither is shown; a skipped one, masked off or
-- not, is passed over as covered.
use Rattle.std.specs.Prelude.{◌≡◌, ◌&&◌, ◌∷◌}
use Rattle.laws.specs.Prelude.{Bool, true, false, cond, List, [], Option, Some, ℕ, suc, leb, length, drop, replicate, all, over}
use Rattle.std.specs.declared.option.Option.TheVariants as option
use Rattle.styling.specs.declared.Color.{Color}
use Rattle.styling.specs.Style.{solid_color}
use Rattle.pass_statements.specs.declared.item.Item.{Item}
use Rattle.pass_statements.specs.declared.covered.InterestingCover.{InterestingCover}
use Rattle.pass_statements.specs.declared.covered.InterestingCover.TheVariants.{Absent, Opaque, Incomplete}
use Rattle.pass_statements.specs.declared.covered.Covered.{Covered}
use Rattle.pass_statements.specs.declared.decide.Decision.TheVariants.{None, Paint}
use Rattle.pass_statements.specs.declared.decide.Decided.{Decided}
use Rattle.pass_statements.specs.declared.decide.Bottom.{Bottom}
use Rattle.pass_statements.specs.declared.decide.Bottom.TheVariants.{Settled, Under}
use Rattle.pass_statements.specs.Decision.{TileDecision, none, solid, paint, decision_in}
use Rattle.pass_statements.specs.Unchanged.{is_kept, were_removed}
use Rattle.pass_statements.specs.Clips.{marks_of}
use Rattle.pass_statements.specs.Covered.{covered_of}

-- the layers that are shown: neither skipped nor masked off, ascending. i is the place of the first
unfoldable pub shown_from : ℕ → ℕ → List Item → List Bool → List Item
shown_from i skipped [] unmasked = []
shown_from i skipped (x ∷ xs) [] = []
shown_from i skipped (x ∷ xs) (s ∷ ss) = cond (s && leb skipped i) (x ∷ shown_from (suc i) skipped xs ss) (shown_from (suc i) skipped xs ss)

abbrev pub shown_of : ℕ → List Item → List Bool → List Item
shown_of skipped items unmasked = shown_from 0 skipped items unmasked

abbrev pub has_color : Option Color → Bool
has_color (Some c) = true
has_color option.None = false

-- the layers after the first `below` shown ones all have a colour of their own to mix
abbrev pub are_solid : ℕ → List Item → Bool
are_solid below shown = all (λ x. has_color (solid_color x.func)) (drop below shown)

-- by the first cover that tells: opaque and unchanged, nothing is drawn; opaque, its colour is the bottom and the layer itself is not mixed;
-- none, the clear colour is; incomplete, the tile is painted
abbrev pub decision_by : InterestingCover → Bool → Color → List Item → TileDecision
decision_by Incomplete unchanged clear shown = paint
decision_by (Opaque color) unchanged clear shown = cond unchanged none (cond (are_solid 1 shown) (solid color 1) paint)
decision_by Absent unchanged clear shown = cond (are_solid 0 shown) (solid clear 0) paint

-- the three columns of the answer: the decision, which layers are not masked off, how many are skipped
pub record Outcome : Type 0 where
  pub decision : TileDecision
  pub unmasked : List Bool
  pub skipped : ℕ

-- the second and the third pass
abbrev pub passed_of : Color → Bool → List Item → Outcome
passed_of clear removed items =
    let marks = marks_of items in
    let found = covered_of items marks.unmasked marks.unclipped removed in
    record {
      decision = decision_by found.first found.unchanged clear (shown_of found.skipped.0 items marks.unmasked);
      unmasked = marks.unmasked;
      skipped = found.skipped.0;
    }

-- all three: a kept tile has nothing masked off and nothing skipped
unfoldable pub outcome_of : Color → Bool → Option ℕ → List Item → Outcome
outcome_of clear clear_unchanged count items =
    cond (is_kept clear_unchanged count items)
    (record { decision = none; unmasked = replicate (length items) true; skipped = 0 })
    (passed_of clear (were_removed count (length items)) items)

-- what deciding promises: the answer, and the lent column of layers that are not masked off
pub record Deciding (o : Outcome) (old : List Bool) (r : Decided) (unmasked : List Bool) : Type 0 where
  pub decision : decision_in r.decision ≡ o.decision
  pub skipped : r.skipped.0 ≡ o.skipped
  pub column : unmasked ≡ over o.unmasked old

-- ---- what the inner functions give

abbrev pub bottom_of : InterestingCover → Bool → Color → Bottom
bottom_of Incomplete unchanged clear = Settled Paint
bottom_of (Opaque color) unchanged clear = cond unchanged (Settled None) (Under color 1)
bottom_of Absent unchanged clear = Under clear 0

abbrev pub mixed_of : Bottom → List Item → TileDecision
mixed_of (Settled decision) shown = decision_in decision
mixed_of (Under color below) shown = cond (are_solid below shown) (solid color below) paint

-- from what the third pass found
pub record DecidedBy (found : Covered) (clear : Color) (items : List Item) (unmasked : List Bool) (r : Decided) : Type 0 where
  pub decision : decision_in r.decision ≡ decision_by found.first found.unchanged clear (shown_of found.skipped.0 items unmasked)
  pub skipped : r.skipped ≡ found.skipped
