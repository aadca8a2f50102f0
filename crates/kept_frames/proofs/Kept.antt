-- *None* by the first pass: with truthful flags and the count of the last work, the list is that of the last work. Assumes nothing.
use Rattle.std.specs.Prelude.{◌≡◌, ◌&&◌, ◌∷◌, Some}
use Rattle.laws.proofs.Prelude.{sym, ap, ◌∙◌, Bool, true, false, not, cond, List, [], map, Option, None, ℕ, eqb-true, eqb}
use Rattle.laws.proofs.Prelude.{length, left, right, all_at}
use Rattle.styling.specs.declared.Color.{Color}
use Rattle.styling.specs.declared.Func.{Func}
use Rattle.styling.specs.declared.Func.TheVariants.{Draw, Clip}
use Rattle.pass_statements.specs.Clips.{marks_of}
use Rattle.pass_statements.specs.Rules.{needs_clip}
use Rattle.pass_statements.specs.Unchanged.{all_unchanged, is_kept}
use Rattle.pass_statements.specs.declared.item.Item.{Item}
use Rattle.painter.specs.Clip.{alive_at, clip_after, has_no_clip}
use Rattle.kept_frames.specs.Picture.{unflagged, shown_afresh, mask_after, strokes_from, picture_of, decision_afresh, drawn_afresh}
use Rattle.kept_frames.specs.Told.{Told}
use Rattle.kept_frames.specs.Alike.{same_bits}
use Rattle.kept_frames.specs.Right.{Frames, FirstPassRight, ListedUnchanged, MaskUnchanged, StrokesUnchanged}
use Rattle.kept_frames.proofs.Within.{listed_at, Within, same}
use Rattle.kept_frames.proofs.Strokes.{strokes_end, strokes_next, Each, each_shown}
use Rattle.kept_frames.proofs.Afresh.{flags_no_part}
use Rattle.kept_frames.proofs.ByPicture.{decision_by_picture}
use Rattle.kept_frames.proofs.Bits.{same_bits_lem}

-- where every listed layer is unchanged, truthful flags put all of them in the list before
pub told_all : (before now : List Item) → Told before now → all_unchanged now ≡ true → Within before now
told_all before [] t h = tt
told_all before (x ∷ xs) (f, t) h = (f (left x.unchanged (all_unchanged xs) h), told_all before xs t (right x.unchanged (all_unchanged xs) h))

-- and so every stroke is of unchanged layers
mask_unchanged : (now : List Item) (t : Bool) (mask : Option ℕ) → MaskUnchanged now mask → MaskUnchanged now (cond t mask None)
mask_unchanged now true mask m = m
mask_unchanged now false mask m = tt

mask_next : (now : List Item) (f : Func) (id : ℕ) (mask : Option ℕ) → ListedUnchanged now id → MaskUnchanged now mask → MaskUnchanged now (mask_after f id mask)
mask_next now (Clip span) id mask u m = u
mask_next now (Draw style) id mask u m = m

pub strokes_unchanged : (now xs : List Item) (clip mask : Option ℕ) → Each (λ x. ListedUnchanged now x.id) xs → MaskUnchanged now mask
    → StrokesUnchanged now (strokes_from now clip mask xs)
strokes_unchanged now [] clip mask u m = rw (strokes_end now clip mask) tt
strokes_unchanged now (x ∷ xs) clip mask (u, us) m =
    rw (strokes_next now clip mask x xs) (
      (u, mask_unchanged now (needs_clip now x.func x.id && not (has_no_clip (alive_at clip x.id))) mask m),
      strokes_unchanged now xs (clip_after x.func x.id clip) (mask_after x.func x.id mask) us (mask_next now x.func x.id mask u m),
    )

all_unchanged_lem : (now : List Item) → all_unchanged now ≡ true → StrokesUnchanged now (picture_of now)
all_unchanged_lem now h =
    strokes_unchanged now (shown_afresh now) None None
    (each_shown (λ x. ListedUnchanged now x.id) _ now (marks_of now).unmasked
    (λ i l m q. listed_at now i l (all_at (λ (x : Item). x.unchanged) now h i _ l)))
    tt

-- the first pass keeps a tile only with the very list of the last work, whose count was kept
pub kept_list : (clear_unchanged : Bool) (before now : List Item) → Frames before now → is_kept clear_unchanged (Some (length before)) now ≡ true
    → (map unflagged before ≡ map unflagged now) × (all_unchanged now ≡ true)
kept_list clear_unchanged before now f k =
    let counts = eqb (length before) (length now) in
    let rest = right clear_unchanged (counts && all_unchanged now) k in
    let every_one = right counts (all_unchanged now) rest in
    let long = eqb-true (length before) (length now) (left counts (all_unchanged now) rest) in
    (same before now 0 f.up_now 0 f.up_before (told_all before now f.told every_one) (sym long), every_one)

pub same_picture : (before now : List Item) → map unflagged before ≡ map unflagged now → picture_of before ≡ picture_of now
same_picture before now e = sym (flags_no_part before) ∙ ap picture_of e ∙ flags_no_part now

-- where the paintings are the same, so is how the tile is drawn
pub same_drawn : (clear clear' : Color) (before now : List Item) → Frames before now → same_bits clear clear' ≡ true → picture_of before ≡ picture_of now
    → drawn_afresh clear before ≡ drawn_afresh clear' now
same_drawn clear clear' before now f b e =
    let colour = same_bits_lem clear clear' b in
    let decision = decision_by_picture clear before now f.up_before f.up_now e ∙ ap (λ (c : Color). decision_afresh c now) colour in
    λ i. record { clear = colour i; decision = decision i; strokes = e i }

pub first_pass_right : FirstPassRight
first_pass_right clear clear' clear_unchanged before now f b k =
    let lists = kept_list clear_unchanged before now f k in (
      lists.0,
      record { drawn = same_drawn clear clear' before now f b (same_picture before now lists.0); unchanged = all_unchanged_lem now lists.1 },
    )
