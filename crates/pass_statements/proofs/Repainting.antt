-- W-208 in laws: a listed clip that is changed never leaves a tile as it is; the mark of a clip counts, masked off or not, and that of a draw that
-- is masked off plays no part; marks are the list's own, whatever the table says. Assumes nothing.
use Rattle.std.specs.Prelude.{◌≡◌, ◌&&◌, ◌||◌, ◌∷◌, ◌<◌, Option, None, Some}
use Rattle.laws.proofs.Prelude.{refl, sym, ap, ◌∙◌, Bool, true, false, not, and-true, List, [], map, ℕ, zero, suc}
use Rattle.laws.proofs.Prelude.{le_of_suc-le-suc, not-suc-le-zero, arith, eqb, length, get_or, length-set, length-map, get_or-set_same, get_or-set_other}
use Rattle.laws.proofs.Prelude.{Answer, given, refused, clash, not_left, not_right}
use Rattle.pass_statements.specs.declared.clips.ActiveClip.{ActiveClip}
use Rattle.styling.specs.declared.Color.{Color}
use Rattle.styling.specs.declared.Layer.{Layer}
use Rattle.layer_table.specs.Lookup.{lookup}
use Rattle.pass_statements.specs.declared.item.Item.{Item}
use Rattle.pass_statements.specs.declared.covered.Covered.{Covered}
use Rattle.pass_statements.specs.declared.covered.InterestingCover.{InterestingCover}
use Rattle.pass_statements.specs.declared.covered.InterestingCover.TheVariants.{Absent, Opaque, Incomplete}
use Rattle.pass_statements.specs.Entry.{Entry}
use Rattle.pass_statements.specs.Item.{item_of, item_from, items_of}
use Rattle.pass_statements.specs.Unchanged.{all_unchanged, is_kept, were_removed}
use Rattle.pass_statements.specs.Clips.{is_clip, step_of, clips_from, marks_of}
use Rattle.pass_statements.specs.Covered.{hides, look_at, item_at, covered_from, is_clip_unchanged, are_clips_unchanged, start_of, covered_of}
use Rattle.pass_statements.specs.Decision.{none, code_of}
use Rattle.pass_statements.specs.Decide.{shown_of, are_solid, decision_by, passed_of, outcome_of}
use Rattle.pass_statements.specs.Rules.{is_unmasked, DrawAt, ClipAt, ChangedClipAt, remarked, with_mark}
use Rattle.pass_statements.proofs.Covering.{look_past, look_on, look_last}
use Rattle.pass_statements.proofs.Outcomes.{outcome_passed}
use Rattle.pass_statements.proofs.Words.{masked_passed}

-- ---- a mark is the entry's own

-- whatever the table says of the layer, and also where it lacks it
pub mark_read : (table : List Layer) (e : Entry) → (item_of table e).unchanged ≡ not e.changed
mark_read table e = by (lookup table e.id)
  where
    by : (a : Answer Layer) → (item_from a e).unchanged ≡ not e.changed
    by (refused n) = refl
    by (given l) = refl

-- an entry whose mark is not set is no changed clip; one whose mark is set is one where it is a clip
module _ (table : List Layer) (e : Entry) where
  pub unmarked : e.changed ≡ false → true ≡ is_clip_unchanged (item_of table e)
  unmarked m = by (is_clip (item_of table e).func) (item_of table e).unchanged (mark_read table e ∙ ap not m)
    where
      by : (c u : Bool) → u ≡ true → true ≡ (not c || u)
      by true u q = sym q
      by false u q = refl

  pub marked_draws : {c : Bool} → e.changed ≡ true → c ≡ is_clip (item_of table e).func → not c ≡ is_clip_unchanged (item_of table e)
  marked_draws {c} m q = ap not q ∙ by (is_clip (item_of table e).func) (item_of table e).unchanged (mark_read table e ∙ ap not m)
    where
      by : (c u : Bool) → u ≡ false → not c ≡ (not c || u)
      by true u r = sym r
      by false u r = refl

-- ---- a changed clip

clip_at : (items : List Item) (i : ℕ) → i < length items → is_clip (item_at items i).func ≡ true → (item_at items i).unchanged ≡ false → are_clips_unchanged items ≡ false
clip_at [] i h c m = absurd (not-suc-le-zero h)
clip_at (x ∷ xs) zero h c m = rw (c, m)
clip_at (x ∷ xs) (suc i) h c m = not_right (is_clip_unchanged x) (are_clips_unchanged xs) (clip_at xs i (le_of_suc-le-suc h) c m)

-- the first pass keeps no such tile
not_all : (items : List Item) → are_clips_unchanged items ≡ false → all_unchanged items ≡ false
not_all [] e = e
not_all (x ∷ xs) e = by (not_all xs) x.unchanged refl (is_clip x.func) refl
  where
    by : (are_clips_unchanged xs ≡ false → all_unchanged xs ≡ false) → (u : Bool) → x.unchanged ≡ u → (c : Bool) → is_clip x.func ≡ c → (u && all_unchanged xs) ≡ false
    by go false q c p = refl
    by go true q true p = go (rw (q, p) at e)
    by go true q false p = go (rw (q, p) at e)

pub not_kept : (unchanged : Bool) (previous : Option ℕ) (items : List Item) → are_clips_unchanged items ≡ false → is_kept unchanged previous items ≡ false
not_kept unchanged None items e = refl
not_kept unchanged (Some n) items e =
    not_right unchanged (eqb n (length items) && all_unchanged items) (not_right (eqb n (length items)) (all_unchanged items) (not_all items e))

-- what counts as changed stays so in the third pass
stays_changed : (items : List Item) (s u : List Bool) (n : ℕ) (found : Covered) → found.unchanged ≡ false → (covered_from items s u n found).unchanged ≡ false
unfolding covered_from
stays_changed items s u zero found e = e
stays_changed items s u (suc i) found e =
    by (stays_changed items s u i) (get_or s i false) refl (hides (item_at items i) (get_or u i false)) refl
  where
    seen : Covered
    seen = look_at (item_at items i) (get_or u i false) i found

    changed : seen.unchanged ≡ false
    changed = not_left found.unchanged (item_at items i).unchanged e

    by : ((f : Covered) → f.unchanged ≡ false → (covered_from items s u i f).unchanged ≡ false)
        → (a : Bool) → get_or s i false ≡ a → (b : Bool) → hides (item_at items i) (get_or u i false) ≡ b → (covered_from items s u (suc i) found).unchanged ≡ false
    by go false p b q = ap (λ (f : Covered). f.unchanged) (look_past items s u i found p) ∙ go found e
    by go true p false q = ap (λ (f : Covered). f.unchanged) (look_on items s u i found p q) ∙ go seen changed
    by go true p true q = ap (λ (f : Covered). f.unchanged) (look_last items s u i found p q) ∙ changed

not_none : (first : InterestingCover) (u : Bool) (clear : Color) (shown : List Item) → u ≡ false → decision_by first u clear shown ≡ none → ⊥
not_none Incomplete u clear shown e q = let clash : ◌≡◌ {A = ℕ} 2 0 = ap code_of q in omega (arith, clash)
not_none (Opaque color) u clear shown e q = by (are_solid 1 shown) refl (rw e at q)
  where
    by : (t : Bool) → are_solid 1 shown ≡ t → decision_by (Opaque color) false clear shown ≡ none → ⊥
    by true p r = let clash : ◌≡◌ {A = ℕ} 1 0 = ap code_of (rw p at r) in omega (arith, clash)
    by false p r = let clash : ◌≡◌ {A = ℕ} 2 0 = ap code_of (rw p at r) in omega (arith, clash)
not_none Absent u clear shown e q = by (are_solid 0 shown) refl q
  where
    by : (t : Bool) → are_solid 0 shown ≡ t → decision_by Absent u clear shown ≡ none → ⊥
    by true p r = let clash : ◌≡◌ {A = ℕ} 1 0 = ap code_of (rw p at r) in omega (arith, clash)
    by false p r = let clash : ◌≡◌ {A = ℕ} 2 0 = ap code_of (rw p at r) in omega (arith, clash)

module _ (clear : Color) (items : List Item) (changed : are_clips_unchanged items ≡ false) where
  pub passed_repaints : (removed : Bool) → (passed_of clear removed items).decision ≡ none → ⊥
  passed_repaints removed q =
      let s = (marks_of items).unmasked in
      let u = (marks_of items).unclipped in
      let found = covered_of items s u removed in
      not_none found.first found.unchanged clear (shown_of found.skipped.0 items s)
      (stays_changed items s u (length items) (start_of items removed) (not_right (not removed) (are_clips_unchanged items) changed)) q

  pub outcome_repaints : (unchanged : Bool) (previous : Option ℕ) → (outcome_of clear unchanged previous items).decision ≡ none → ⊥
  outcome_repaints unchanged previous q =
      let is = outcome_passed clear unchanged previous items (not_kept unchanged previous items changed) in
      passed_repaints (were_removed previous (length items)) (rw is at q)

-- 'The full-cover pass counts a tile as changed when any listed clip layer is changed, masked off or not': a list with a clip whose mark is set is
-- never left as it is, whatever the table, the kept count and the clear colours say
pub changed_clip_repaints : (table : List Layer) (entries : List Entry) {i : ℕ} → ChangedClipAt table entries i
    → (clear : Color) (unchanged : Bool) (previous : Option ℕ) → (outcome_of clear unchanged previous (items_of table entries)).decision ≡ none → ⊥
changed_clip_repaints table entries {i} c clear unchanged previous =
    outcome_repaints clear (items_of table entries)
    (clip_at (items_of table entries) i (rw (length-map entries (item_of table)) c.listed) c.clips (marked entries i c.listed c.marked)) unchanged previous
  where
    marked : (es : List Entry) (k : ℕ) → k < length es → get_or (map (λ e. e.changed) es) k false ≡ true → (item_at (items_of table es) k).unchanged ≡ false
    marked [] k h m = absurd (not-suc-le-zero h)
    marked (e ∷ es) zero h m = mark_read table e ∙ ap not m
    marked (e ∷ es) (suc k) h m = marked es k (le_of_suc-le-suc h) m

-- ---- what a mark does

-- the second pass reads none
marks_from : (items : List Item) (i : ℕ) (changed : Bool) (j : ℕ) (cur : Option ActiveClip) (s u : List Bool) → clips_from (with_mark items i changed) j cur s u ≡ clips_from items j cur s u
unfolding clips_from step_of
marks_from [] i changed j cur s u = refl
marks_from (x ∷ xs) zero changed j cur s u = refl
marks_from (x ∷ xs) (suc i) changed j cur s u = marks_from xs i changed (suc j) _ _ _

module _ (items : List Item) (i : ℕ) (changed : Bool) where
  pub same_marks : marks_of (with_mark items i changed) ≡ marks_of items
  same_marks = rw (length-set items i (remarked (item_at items i) changed)) (marks_from items i changed 0 None _ _)

  other : (k : ℕ) → (k ≡ i → ⊥) → item_at (with_mark items i changed) k ≡ item_at items k
  other k h = get_or-set_other items i k _ _ h

  -- that of a draw that is masked off plays no part in both passes
  pub draw_mark : (clear : Color) (removed : Bool) → DrawAt items i → is_unmasked items i ≡ false → passed_of clear removed (with_mark items i changed) ≡ passed_of clear removed items
  draw_mark clear removed d m =
      sym
      (masked_passed items (with_mark items i changed) clear removed (sym same_marks)
      (record {
        same_length = sym (length-set items i _);
        same_layer = λ k e. sym (other k (λ q. clash e (ap (λ (p : ℕ). get_or (marks_of items).unmasked p false) q ∙ m)));
        same_clips = sym (clips_same items i d.draws);
      }))
    where
      clips_same : (xs : List Item) (k : ℕ) → is_clip (item_at xs k).func ≡ false → are_clips_unchanged (with_mark xs k changed) ≡ are_clips_unchanged xs
      clips_same [] k e = refl
      clips_same (x ∷ xs) zero e = rw e
      clips_same (x ∷ xs) (suc k) e = ap (λ (t : Bool). is_clip_unchanged x && t) (clips_same xs k e)

-- that of a clip does, masked off or not
pub clip_mark : (items : List Item) {i : ℕ} → ClipAt items i → (clear : Color) (unchanged : Bool) (previous : Option ℕ)
    → (outcome_of clear unchanged previous (with_mark items i true)).decision ≡ none → ⊥
clip_mark items {i} c clear unchanged previous =
    outcome_repaints clear (with_mark items i true) (clip_at (with_mark items i true) i (rw (length-set items i (remarked (item_at items i) true)) c.listed) (rw here c.clips) (rw here)) unchanged previous
  where
    here : item_at (with_mark items i true) i ≡ remarked (item_at items i) true
    here = get_or-set_same items i _ _ c.listed

-- where no listed clip is changed, the third pass is the Rust's
pub unmarked_clips : (items : List Item) (s u : List Bool) (removed : Bool) → are_clips_unchanged items ≡ true
    → covered_of items s u removed ≡ covered_from items s u (length items) (record { first = Absent; unchanged = not removed; skipped = record { 0 = 0 } })
unmarked_clips items s u removed e = rw (e, and-true (not removed))
