-- When *none* is right: the tile, drawn afresh, would be drawn by the same decision and the same paintings as when it was last drawn, under a clear colour of
-- the same bits. So it is wherever the count was kept by the rule of specs/Alike, and no wider rule is right.
use Rattle.std.specs.Prelude.{◌≡◌, ◌&&◌, ◌∷◌, ◌⊎◌, None}
use Rattle.laws.specs.Prelude.{Bool, true, false, cond, List, [], map, Option, Some, ℕ, length}
use Rattle.std.specs.declared.option.Option.TheVariants as option
use Rattle.styling.specs.declared.Color.{Color}
use Rattle.pass_statements.specs.Decide.{shown_of, passed_of, outcome_of}
use Rattle.pass_statements.specs.Decision.{none}
use Rattle.pass_statements.specs.Rules.{is_ascending}
use Rattle.pass_statements.specs.Unchanged.{is_kept}
use Rattle.pass_statements.specs.declared.item.Item.{Item}
use Rattle.kept_frames.specs.Picture.{unflagged, shown_afresh, Stroke, picture_of, decision_afresh, drawn_afresh}
use Rattle.kept_frames.specs.Told.{Told}
use Rattle.kept_frames.specs.Alike.{Shown, shown_by, layers_alike, same_bits, may_keep_count}
use Rattle.kept_frames.specs.Stays.{Member, stays}

-- the list of a tile's last accepted work and today's: in order, with truthful flags
pub record Frames (before now : List Item) : Type 0 where
  pub up_before : is_ascending before ≡ true
  pub up_now : is_ascending now ≡ true
  pub told : Told before now

-- ---- how a tile is drawn afresh is how a work draws it, with its count or without

-- a work that the first pass does not keep has the same shown layers, and decides *none* or the same
pub record ByWork (clear : Color) (clear_unchanged : Bool) (count : Option ℕ) (items : List Item) : Type 0 where
  pub shown : let o = outcome_of clear clear_unchanged count items in shown_of o.skipped items o.unmasked ≡ shown_afresh items
  pub decision : let o = outcome_of clear clear_unchanged count items in (o.decision ≡ none) ⊎ (o.decision ≡ decision_afresh clear items)

abbrev pub WorkedAfresh : Type 0
WorkedAfresh =
    (clear : Color) (clear_unchanged : Bool) (count : Option ℕ) (items : List Item) → is_kept clear_unchanged count items ≡ false →
    ByWork clear clear_unchanged count items

-- flags play no part in the paintings; and the decision rests on the paintings and the clear colour alone
abbrev pub FlagsNoPart : Type 0
FlagsNoPart = (items : List Item) → picture_of (map unflagged items) ≡ picture_of items

abbrev pub DecisionByPicture : Type 0
DecisionByPicture =
    (clear : Color) (items items' : List Item) → is_ascending items ≡ true → is_ascending items' ≡ true → picture_of items ≡ picture_of items' →
    decision_afresh clear items ≡ decision_afresh clear items'

-- ---- when it is the same

-- an id that is listed as unchanged; and so are those of the layers of a picture, and of the clips that cut them
abbrev pub ListedUnchanged : List Item → ℕ → Type 0
ListedUnchanged [] id = ⊥
ListedUnchanged (x ∷ xs) id = ((x.id ≡ id) × (x.unchanged ≡ true)) ⊎ ListedUnchanged xs id

abbrev pub MaskUnchanged : List Item → Option ℕ → Type 0
MaskUnchanged now option.None = Unit {0}
MaskUnchanged now (Some id) = ListedUnchanged now id

abbrev pub StrokesUnchanged : List Item → List Stroke → Type 0
StrokesUnchanged now [] = Unit {0}
StrokesUnchanged now (s ∷ ss) = (ListedUnchanged now s.layer.id × MaskUnchanged now s.mask) × StrokesUnchanged now ss

-- the tile would be drawn afresh as it was: by the same decision and the same paintings, under the same clear colour; and every layer that is painted is
-- listed as unchanged, so that its coverages are those of then
pub record ShowsSame (clear clear' : Color) (before now : List Item) : Type 0 where
  pub drawn : drawn_afresh clear before ≡ drawn_afresh clear' now
  pub unchanged : StrokesUnchanged now (picture_of now)

-- by the first pass, with the count of the last work and the bits of its clear colour: the very list
abbrev pub FirstPassRight : Type 0
FirstPassRight =
    (clear clear' : Color) (clear_unchanged : Bool) (before now : List Item) → Frames before now → same_bits clear clear' ≡ true →
    is_kept clear_unchanged (Some (length before)) now ≡ true →
    (map unflagged before ≡ map unflagged now) × ShowsSame clear clear' before now

-- by the full-cover pass, whatever clips did
abbrev pub FullCoverRight : Type 0
FullCoverRight =
    (clear clear' : Color) (removed : Bool) (before now : List Item) → Frames before now → may_keep_count clear clear' before now ≡ true →
    (passed_of clear' removed now).decision ≡ none → ShowsSame clear clear' before now

-- ---- the count that a rule lets a tile keep: that of the last work, or none

abbrev pub count_by : Bool → List Item → Option ℕ
count_by may before = cond may (Some (length before)) None

-- a rule, of the clear colours and the lists of two works, is right where every *none* under it is
abbrev pub RightRule : (Color → Color → List Item → List Item → Bool) → Type 0
RightRule rule =
    (clear clear' : Color) (clear_unchanged : Bool) (before now : List Item) → Frames before now →
    (outcome_of clear' clear_unchanged (count_by (rule clear clear' before now) before) now).decision ≡ none →
    ShowsSame clear clear' before now

-- the keep rule is, whatever previous clear colour a work was given
abbrev pub NoneRight : Type 0
NoneRight = RightRule may_keep_count

-- where the tile would be drawn alike it allows the count
abbrev pub AlikeExact : Type 0
AlikeExact = (clear clear' : Color) (before now : List Item) → drawn_afresh clear before ≡ drawn_afresh clear' now → may_keep_count clear clear' before now ≡ true

-- so it is the widest: where the count would give *none*, no right rule allows more
abbrev pub Widest : Type 0
Widest =
    (rule : Color → Color → List Item → List Item → Bool) → RightRule rule →
    (clear clear' : Color) (clear_unchanged : Bool) (before now : List Item) → Frames before now →
    (outcome_of clear' clear_unchanged (Some (length before)) now).decision ≡ none →
    rule clear clear' before now ≡ true → may_keep_count clear clear' before now ≡ true

-- and without a count no tile is decided *none*
abbrev pub UncountedDrawn : Type 0
UncountedDrawn = (clear : Color) (clear_unchanged : Bool) (now : List Item) → (outcome_of clear clear_unchanged None now).decision ≡ none → ⊥

-- ---- when the layers need not be looked at. By the first pass they are alike; and any other decision but *none* is that without a count
pub record RuleAtNone (clear : Color) (clear_unchanged : Bool) (before now : List Item) : Type 0 where
  pub first : is_kept clear_unchanged (Some (length before)) now ≡ true → layers_alike before now ≡ true
  pub other : (is_kept clear_unchanged (Some (length before)) now ≡ false) →
      let counted = outcome_of clear clear_unchanged (Some (length before)) now in
      (counted.decision ≡ none) ⊎ (counted ≡ outcome_of clear clear_unchanged None now)

abbrev pub RuleOnlyAtNone : Type 0
RuleOnlyAtNone = (clear : Color) (clear_unchanged : Bool) (before now : List Item) → Frames before now → RuleAtNone clear clear_unchanged before now

-- ---- the layers compared by `keep_count`, asked twice: a shown layer as a member, of kind 2 where it needs a clip and 0 where not
abbrev pub shown_member : Shown → Member
shown_member s = record { id = s.id; kind = cond s.needs 2 0 }

abbrev pub shown_members : List Item → List Member
shown_members items = map shown_member (map shown_by (picture_of items))

abbrev pub TwiceAlike : Type 0
TwiceAlike =
    (before now : List Item) → is_ascending before ≡ true → is_ascending now ≡ true →
    (stays (shown_members before) (shown_members now) && stays (shown_members now) (shown_members before)) ≡ layers_alike before now
