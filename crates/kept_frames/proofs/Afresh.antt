-- The shown layers of a work that draws the tile, and with them the picture, rest neither on flags nor on whether layers were removed. Assumes nothing.
use Rattle.std.specs.Prelude.{◌≡◌, ◌&&◌, ◌∷◌}
use Rattle.laws.proofs.Prelude.{refl, sym, ap, ◌∙◌, Bool, true, false, cond, List, [], map, Option, None, ℕ, zero}
use Rattle.laws.proofs.Prelude.{suc, leb, length, get_or, replicate, length-map}
use Rattle.pass_statements.specs.declared.clips.ActiveClip.{ActiveClip}
use Rattle.pass_statements.specs.Clips.{step_of, clips_from, marks_of}
use Rattle.pass_statements.specs.Covered.{hides, look_at, item_at, covered_from, start_of, covered_of}
use Rattle.pass_statements.specs.Decide.{shown_from, shown_of}
use Rattle.pass_statements.specs.declared.item.Item.{Item}
use Rattle.pass_statements.specs.declared.covered.Covered.{Covered}
use Rattle.pass_statements.proofs.Covering.{look_past, look_on, look_last}
use Rattle.painter.specs.Clip.{clip_after}
use Rattle.kept_frames.specs.Picture.{unflagged, shown_afresh, mask_after, strokes_from}
use Rattle.kept_frames.specs.Right.{FlagsNoPart}
use Rattle.kept_frames.proofs.Latest.{needs_flags}

-- ---- how many are skipped

abbrev pub skips : List Item → List Bool → List Bool → ℕ → Covered → ℕ
skips items unmasked unclipped n found = (covered_from items unmasked unclipped n found).skipped.0

-- by what each layer hides alone
module _ (items items' : List Item) (unmasked unclipped : List Bool) (same : (i : ℕ) (free : Bool) → hides (item_at items i) free ≡ hides (item_at items' i) free) where
  same_skips : (n : ℕ) (f g : Covered) → f.skipped ≡ g.skipped → skips items unmasked unclipped n f ≡ skips items' unmasked unclipped n g
  unfolding covered_from
  same_skips zero f g e = ap (λ k. k.0) e
  same_skips (suc i) f g e =
      by (get_or unmasked i false) refl (hides (item_at items i) (get_or unclipped i false)) refl (same_skips i f g e) (λ u v q. same_skips i u v q)
    where
      free : Bool
      free = get_or unclipped i false

      by : (a : Bool) → get_or unmasked i false ≡ a → (b : Bool) → hides (item_at items i) (get_or unclipped i false) ≡ b
          → skips items unmasked unclipped i f ≡ skips items' unmasked unclipped i g
          → ((u v : Covered) → u.skipped ≡ v.skipped → skips items unmasked unclipped i u ≡ skips items' unmasked unclipped i v)
          → skips items unmasked unclipped (suc i) f ≡ skips items' unmasked unclipped (suc i) g
      by false w b h r on =
          ap (λ (c : Covered). c.skipped.0) (look_past items unmasked unclipped i f w) ∙ r ∙ sym
          (ap (λ (c : Covered). c.skipped.0) (look_past items' unmasked unclipped i g w))
      by true w false h r on =
          ap (λ (c : Covered). c.skipped.0) (look_on items unmasked unclipped i f w h)
          ∙ on (look_at (item_at items i) (get_or unclipped i false) i f) (look_at (item_at items' i) (get_or unclipped i false) i g)
          (rw (h, sym (same i (get_or unclipped i false)) ∙ h) e)
          ∙ sym (ap (λ (c : Covered). c.skipped.0) (look_on items' unmasked unclipped i g w (sym (same i (get_or unclipped i false)) ∙ h)))
      by true w true h r on =
          ap (λ (c : Covered). c.skipped.0) (look_last items unmasked unclipped i f w h)
          ∙ (rw (h, sym (same i (get_or unclipped i false)) ∙ h) refl)
          ∙ sym (ap (λ (c : Covered). c.skipped.0) (look_last items' unmasked unclipped i g w (sym (same i (get_or unclipped i false)) ∙ h)))

-- whether layers were removed plays no part
pub removed_no_part : (items : List Item) (unmasked unclipped : List Bool) (removed : Bool)
    → (covered_of items unmasked unclipped removed).skipped.0 ≡ (covered_of items unmasked unclipped true).skipped.0
removed_no_part items unmasked unclipped removed =
    same_skips items items unmasked unclipped (λ i free. refl) (length items) (start_of items removed) (start_of items true) refl

-- ---- flags

marks_flags : (xs : List Item) (i : ℕ) (cur : Option ActiveClip) (s u : List Bool) → clips_from (map unflagged xs) i cur s u ≡ clips_from xs i cur s u
unfolding clips_from step_of
marks_flags [] i cur s u = refl
marks_flags (x ∷ xs) i cur s u = marks_flags xs (suc i) _ _ _

same_marks : (items : List Item) → marks_of (map unflagged items) ≡ marks_of items
same_marks items =
    ap (λ (n : ℕ). clips_from (map unflagged items) 0 None (replicate n true) (replicate n false)) (length-map items unflagged)
    ∙ marks_flags items 0 None (replicate (length items) true) (replicate (length items) false)

same_hides : (items : List Item) (i : ℕ) (free : Bool) → hides (item_at (map unflagged items) i) free ≡ hides (item_at items i) free
same_hides [] i free = refl
same_hides (x ∷ xs) zero free = refl
same_hides (x ∷ xs) (suc i) free = same_hides xs i free

shown_flags : (i skipped : ℕ) (xs : List Item) (ss : List Bool) → shown_from i skipped (map unflagged xs) ss ≡ map unflagged (shown_from i skipped xs ss)
unfolding shown_from
shown_flags i skipped [] ss = refl
shown_flags i skipped (x ∷ xs) [] = refl
shown_flags i skipped (x ∷ xs) (s ∷ ss) = by (s && leb skipped i) (shown_flags (suc i) skipped xs ss)
  where
    by : (t : Bool) → shown_from (suc i) skipped (map unflagged xs) ss ≡ map unflagged (shown_from (suc i) skipped xs ss)
        → cond t (unflagged x ∷ shown_from (suc i) skipped (map unflagged xs) ss) (shown_from (suc i) skipped (map unflagged xs) ss)
        ≡ map unflagged (cond t (x ∷ shown_from (suc i) skipped xs ss) (shown_from (suc i) skipped xs ss))
    by true r = ap (λ (l : List Item). unflagged x ∷ l) r
    by false r = r

afresh_flags : (items : List Item) → shown_afresh (map unflagged items) ≡ map unflagged (shown_afresh items)
afresh_flags items =
    let us = (marks_of items).unmasked in
    let cs = (marks_of items).unclipped in
    let skip = same_skips (map unflagged items) items us cs (same_hides items) in
    ap (λ m. shown_of (covered_of (map unflagged items) m.unmasked m.unclipped true).skipped.0 (map unflagged items) m.unmasked) (same_marks items)
    ∙ ap (λ (n : ℕ). shown_of n (map unflagged items) us)
    (ap (λ (n : ℕ). skips (map unflagged items) us cs n (start_of (map unflagged items) true)) (length-map items unflagged)
    ∙ skip (length items) (start_of (map unflagged items) true) (start_of items true) refl)
    ∙ shown_flags 0 (covered_of items us cs true).skipped.0 items us

strokes_flags : (items : List Item) (xs : List Item) (clip mask : Option ℕ)
    → strokes_from (map unflagged items) clip mask (map unflagged xs) ≡ strokes_from items clip mask xs
unfolding strokes_from
strokes_flags items [] clip mask = refl
strokes_flags items (x ∷ xs) clip mask =
    rw (needs_flags items x.func x.id, strokes_flags items xs (clip_after x.func x.id clip) (mask_after x.func x.id mask)) refl

pub flags_no_part : FlagsNoPart
flags_no_part items = ap (strokes_from (map unflagged items) None None) (afresh_flags items) ∙ strokes_flags items (shown_afresh items) None None
