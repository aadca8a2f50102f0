-- A tile that the full-cover pass keeps: every shown layer is unchanged and needs no clip. So where the shown layers are alike, the paintings are those of
-- the last work. Assumes nothing.
use Rattle.std.specs.Prelude.{◌≡◌, ◌&&◌, ◌||◌, ◌∷◌, ◌≤◌, ◌<◌}
use Rattle.laws.proofs.Prelude.{refl, sym, ap, ap₂, ◌∙◌, Bool, true, false, not, Bool·beq, List, [], map}
use Rattle.laws.proofs.Prelude.{Option, None, ℕ, arith, eqb-true, eq-eqb, eqb, length, both, left, right, not_right, clash}
use Rattle.styling.specs.declared.Color.{Color}
use Rattle.styling.specs.Style.{is_clipped_of}
use Rattle.pass_statements.specs.Clips.{marks_of}
use Rattle.pass_statements.specs.Covered.{item_at, start_of, covered_of}
use Rattle.pass_statements.specs.Decide.{passed_of}
use Rattle.pass_statements.specs.Decision as decision
use Rattle.pass_statements.specs.Rules.{needs_clip, is_ascending, is_unmasked, is_free}
use Rattle.pass_statements.specs.declared.item.Item.{Item}
use Rattle.pass_statements.proofs.Covering.{hidden_skipped}
use Rattle.painter.specs.Clip.{alive_at, clip_after, has_no_clip, lacks_clip}
use Rattle.kept_frames.specs.Picture.{unflagged, shown_afresh, Stroke, mask_for, mask_after, strokes_from, picture_of, Drawn}
use Rattle.kept_frames.specs.Told.{WasListed}
use Rattle.kept_frames.specs.Alike.{shown_by, same_shown, all_same, layers_alike, same_bits}
use Rattle.kept_frames.specs.Right.{Frames, ListedUnchanged, FullCoverRight, AlikeExact}
use Rattle.kept_frames.proofs.Within.{was_at, told_at, listed_at, unique}
use Rattle.kept_frames.proofs.Strokes.{stroke_of, strokes_end, strokes_next, Each, each_shown}
use Rattle.kept_frames.proofs.ByPicture.{needs_at}
use Rattle.kept_frames.proofs.Floor.{none_found, Floor, floor}
use Rattle.kept_frames.proofs.Bits.{same_bool, bool_self, bits_same}
use Rattle.kept_frames.proofs.Kept.{strokes_unchanged, same_drawn}

-- ---- layers that need no clip

pub record Plain (before now : List Item) (x : Item) : Type 0 where
  pub free : needs_clip now x.func x.id ≡ false
  pub was : WasListed x before
  pub listed : ListedUnchanged now x.id

abbrev plain_stroke : Item → Stroke
plain_stroke x = record { layer = unflagged x; needs = false; lacks = false; mask = None }

no_mask : (needs : Bool) (alive mask : Option ℕ) → needs ≡ false → mask_for needs alive mask ≡ None
no_mask needs alive mask e = rw e refl

no_lack : (needs : Bool) (alive : Option ℕ) → needs ≡ false → lacks_clip needs alive ≡ false
no_lack needs alive e = not_right (has_no_clip alive) needs e

plain_stroke_lem : (items : List Item) (clip mask : Option ℕ) (y x : Item) → needs_clip items y.func y.id ≡ false → unflagged y ≡ unflagged x
    → stroke_of items clip mask y ≡ plain_stroke x
plain_stroke_lem items clip mask y x e same =
    let hollow = no_mask (needs_clip items y.func y.id) (alive_at clip y.id) mask e in
    let whole = no_lack (needs_clip items y.func y.id) (alive_at clip y.id) e in
    λ i. record { layer = same i; needs = e i; lacks = whole i; mask = hollow i }

module _ (before now : List Item) where
  plain_strokes : (xs : List Item) (clip mask : Option ℕ) → Each (Plain before now) xs → strokes_from now clip mask xs ≡ map plain_stroke xs
  plain_strokes [] clip mask p = strokes_end now clip mask
  plain_strokes (x ∷ xs) clip mask (p, ps) =
      strokes_next now clip mask x xs
      ∙ ap₂ (λ (s : Stroke) (ss : List Stroke). s ∷ ss) (plain_stroke_lem now clip mask x x p.free refl)
      (plain_strokes xs (clip_after x.func x.id clip) (mask_after x.func x.id mask) ps)

  -- ---- the same layers, none of which needs a clip

  abbrev Same : List Stroke → List Stroke → Bool
  Same a b = all_same (map shown_by a) (map shown_by b)

  same_strokes : is_ascending before ≡ true → (ys xs : List Item) (c m : Option ℕ) → Each (λ y. WasListed y before) ys → Each (Plain before now) xs
      → Same (strokes_from before c m ys) (map plain_stroke xs) ≡ true → strokes_from before c m ys ≡ map plain_stroke xs
  same_strokes up [] [] c m w p e = strokes_end before c m
  same_strokes up [] (x ∷ xs) c m w p e = absurd (clash e (ap (λ (a : List Stroke). Same a (map plain_stroke (x ∷ xs))) (strokes_end before c m)))
  same_strokes up (y ∷ ys) [] c m w p e = absurd (clash e (ap (λ (a : List Stroke). Same a []) (strokes_next before c m y ys)))
  same_strokes up (y ∷ ys) (x ∷ xs) c m (w, ws) (p, ps) e =
      let rest = strokes_from before (clip_after y.func y.id c) (mask_after y.func y.id m) ys in
      let s = stroke_of before c m y in
      let here = same_shown (shown_by s) (shown_by (plain_stroke x)) in
      let q : (here && Same rest (map plain_stroke xs)) ≡ true =
      ap (λ (a : List Stroke). Same a (map plain_stroke (x ∷ xs))) (sym (strokes_next before c m y ys)) ∙ e in
      let one = left here (Same rest (map plain_stroke xs)) q in
      let ids = eqb-true y.id x.id (left (eqb y.id x.id) (Bool·beq s.needs false) one) in
      let needs = same_bool s.needs false (right (eqb y.id x.id) (Bool·beq s.needs false) one) in
      strokes_next before c m y ys
      ∙ ap₂ (λ (z : Stroke) (zs : List Stroke). z ∷ zs)
      (plain_stroke_lem before c m y x needs (unique before 0 up y x ids w p.was))
      (same_strokes up ys xs (clip_after y.func y.id c) (mask_after y.func y.id m) ws ps (right here (Same rest (map plain_stroke xs)) q))

-- ---- the shown layers from the floor up

whole_free : (a b : Bool) → (a || not b) ≡ false → a ≡ false
whole_free true b e = e
whole_free false b e = refl

module _ (before now : List Item) (fr : Frames before now) (f : Floor now (marks_of now).unmasked (marks_of now).unclipped (length now)) where
  abbrev skipped : ℕ
  skipped = (covered_of now (marks_of now).unmasked (marks_of now).unclipped true).skipped.0

  low : f.place ≤ skipped
  low =
      hidden_skipped now (marks_of now).unmasked (marks_of now).unclipped (length now) (start_of now true) f.place
      (record { listed = f.listed; is_unmasked = f.is_unmasked; hides_all = f.hides_all })

  plain_at : (i : ℕ) → i < length now → is_unmasked now i ≡ true → skipped ≤ i → Plain before now (item_at now i)
  plain_at i l m q =
      let x = item_at now i in
      let high : f.place ≤ i = omega (arith, low, q) in
      let unchanged = f.unchanged i high l m in
      record {
        free = sym (needs_at now fr.up_now i l) ∙ whole_free (is_clipped_of x.func && not (is_free now i)) x.full (f.whole i high l m);
        was = told_at before now fr.told i l unchanged;
        listed = listed_at now i l unchanged;
      }

  all_plain : Each (Plain before now) (shown_afresh now)
  all_plain = each_shown (Plain before now) skipped now (marks_of now).unmasked plain_at

-- ---- the claims

all_listed : (before : List Item) → Each (λ y. WasListed y before) (shown_afresh before)
all_listed before = each_shown (λ y. WasListed y before) _ before (marks_of before).unmasked (λ i l m q. was_at before i l)

listed_each : (before now xs : List Item) → Each (Plain before now) xs → Each (λ x. ListedUnchanged now x.id) xs
listed_each before now [] p = tt
listed_each before now (x ∷ xs) (p, ps) = (p.listed, listed_each before now xs ps)

none_floor : (clear : Color) (removed : Bool) (now : List Item) → (passed_of clear removed now).decision ≡ decision.none
    → Floor now (marks_of now).unmasked (marks_of now).unclipped (length now)
none_floor clear removed now e =
    let marks = marks_of now in
    let b = none_found clear removed now e in
    floor now marks.unmasked marks.unclipped (length now) (start_of now removed) b.color refl b.is_opaque b.is_unchanged

pub full_cover_right : FullCoverRight
full_cover_right clear clear' removed before now fr a e =
    let shown = shown_afresh now in
    let plain = all_plain before now fr (none_floor clear' removed now e) in
    let new = plain_strokes before now shown None None plain in
    let old = same_strokes before now fr.up_before (shown_afresh before) shown None None (all_listed before) plain
    (ap (λ (s : List Stroke). Same before now (picture_of before) s) (sym new) ∙ right (same_bits clear clear') (layers_alike before now) a) in
    record {
      drawn = same_drawn clear clear' before now fr (left (same_bits clear clear') (layers_alike before now) a) (old ∙ sym new);
      unchanged = strokes_unchanged now shown None None (listed_each before now shown plain) tt;
    }

-- ---- where the paintings are the same the layers are alike

same_self : (s : List Stroke) → all_same (map shown_by s) (map shown_by s) ≡ true
same_self [] = refl
same_self (s ∷ ss) =
    both (same_shown (shown_by s) (shown_by s)) (all_same (map shown_by ss) (map shown_by ss))
    (both (eqb s.layer.id s.layer.id) (Bool·beq s.needs s.needs) (eq-eqb s.layer.id s.layer.id refl) (bool_self s.needs))
    (same_self ss)

pub picture_alike : (before now : List Item) → picture_of before ≡ picture_of now → layers_alike before now ≡ true
picture_alike before now e = ap (λ (s : List Stroke). all_same (map shown_by (picture_of before)) (map shown_by s)) (sym e) ∙ same_self (picture_of before)

pub alike_exact : AlikeExact
alike_exact clear clear' before now e =
    both (same_bits clear clear') (layers_alike before now) (bits_same clear clear' (ap (λ (d : Drawn). d.clear) e))
    (picture_alike before now (ap (λ (d : Drawn). d.strokes) e))
