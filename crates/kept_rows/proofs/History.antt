-- The theorem over frames: what stands of a tile is right after each of them. Assumes nothing.
use Rattle.std.specs.Prelude.{◌≡◌, ◌+◌, ◌%◌, ◌^◌, ◌≤◌, Option}
use Rattle.laws.proofs.Prelude.{refl, sym, ap, ◌∙◌, Bool, true, false, List, ⊎_elim, Some, ℕ, arith, length, either}
use Rattle.cached_tile.specs.Tile.{empty_tile, layer_count_of, keep_count, drop_count, drop_color}
use Rattle.cached_tile.specs.Kept.{previous_count, counted}
use Rattle.cached_tile.specs.declared.CachedTile.{CachedTile}
use Rattle.cached_tile.specs.declared.kept.Kept as kept
use Rattle.cached_tile.proofs.Counts.{count_kept, count_left, count_dropped}
use Rattle.pass_statements.specs.Decide.{Outcome, outcome_of}
use Rattle.pass_statements.specs.Decision.{TileDecision, none, solid, paint}
use Rattle.pass_statements.specs.declared.item.Item.{Item}
use Rattle.pass_statements.specs.Unchanged.{is_kept}
use Rattle.pass_statements.proofs.Outcomes.{outcome_kept}
use Rattle.layer_workbench.specs.Work.{clear_unchanged, outcome_by_entries, kept_by}
use Rattle.row_statements.specs.Due.{layers_on}
use Rattle.row_statements.specs.InnerHolding.{IsOpen}
use Rattle.kept_frames.specs.Display.{Display, KeepsShown}
use Rattle.kept_frames.specs.Right.{count_by, ShowsSame}
use Rattle.kept_frames.proofs.Changed.{worked_afresh}
use Rattle.kept_frames.proofs.None.{none_right, uncounted_drawn}
use Rattle.kept_frames.proofs.Settled.{solid_right, first_shown}
use Rattle.kept_frames.proofs.Tags.{count_uncolored}
use Rattle.kept_rows.specs.Shown.{WorkedTile, items_for, SameShown}
use Rattle.kept_rows.specs.History.{AcceptedWork, open_on, worked_of, Standing, Drawing, drawn_at, lent_tile, kept_if, may_keep_tile, Frame, History, IsRight}
use Rattle.kept_rows.specs.History.{FirstDrawn, FramesRight, WorkShows}
use Rattle.kept_rows.proofs.Along.{told_along}
use Rattle.kept_rows.proofs.Works.{row_open, said, decided_by, items_long}
use Rattle.kept_rows.proofs.Shown.{same_shown_lem}

-- ---- the cached tile through a work and what the caller draws

abbrev tile_by : TileDecision → CachedTile → CachedTile
tile_by none k = k
tile_by (solid bottom before) k = k
tile_by paint k = drop_color k

tile_by_lem : (d : TileDecision) (k : CachedTile) (n : ℕ) → (kept_by d (counted (lent_tile k) n)).tile ≡ tile_by d (keep_count k n)
tile_by_lem none k n = refl
tile_by_lem (solid bottom before) k n = refl
tile_by_lem paint k n = refl

-- the count is that of the work, and a colour is kept only where it is displayed
pub record Stands (k : CachedTile) (d : Display) (n : ℕ) : Type 0 where
  pub shows : KeepsShown k d
  pub count : layer_count_of k ≡ Some n

after : {c : TileDecision} {t k : CachedTile} {d d' : Display} {n : ℕ} → Drawing c t d k d' → (b : CachedTile) → t ≡ tile_by c b → Stands b d n → Stands k d' n
after Drawing.leaves b e s = rw e s
after {d = d} (Drawing.settles bytes) b e s =
    rw e (record { shows = (solid_right b d s.shows).settled bytes; count = count_left b s.shows.tag bytes ∙ s.count })
after {d = d} (Drawing.paints drawn) b e s =
    rw e (record { shows = (solid_right b d s.shows).paint drawn; count = count_uncolored b s.shows.tag ∙ s.count })

-- 24 bits hold the count of a list
whole : (n : ℕ) → n ≤ 256 → n % 2 ^ 24 ≡ n
whole n h = omega (arith, h)

counted_stands : (b : CachedTile) (d : Display) (n : ℕ) → n ≤ 256 → KeepsShown b d → Stands (keep_count b n) d n
counted_stands b d n h s = record { shows = (solid_right b d s).none n; count = count_kept b s.tag n ∙ ap Some (whole n h) }

module _ (a : AcceptedWork) (b : CachedTile) (e : a.done.before ≡ lent_tile b) where
  abbrev long : ℕ
  long = length (items_for (worked_of a))

  tile_is : a.done.after.tile ≡ tile_by a.done.decision (keep_count b long)
  tile_is =
      ap (λ (k : kept.Kept). k.tile) (said a).kept_is
      ∙ ap (λ (k : kept.Kept). (kept_by a.done.decision (counted k (length (layers_on (open_on a) a.done.place)))).tile) e
      ∙ tile_by_lem a.done.decision b (length (layers_on (open_on a) a.done.place))
      ∙ ap (λ (n : ℕ). tile_by a.done.decision (keep_count b n)) (sym (items_long a))

  long_few : long ≤ 256
  long_few = omega (arith, items_long a, (said a).few)

  work_stands : {k : CachedTile} {d d' : Display} → KeepsShown b d → Drawing a.done.decision a.done.after.tile d k d' → Stands k d' long
  work_stands {k} {d} {d'} s g = after g (keep_count b long) tile_is (counted_stands b d long long_few s)

  -- the decision, by the count of the tile
  abbrev clear_same : Bool
  clear_same = clear_unchanged a.done.previous a.done.clear

  decided : a.done.decision ≡ (outcome_of a.done.clear clear_same (layer_count_of b) (items_for (worked_of a))).decision
  decided =
      decided_by a
      ∙ ap (λ (k : kept.Kept). (outcome_of a.done.clear clear_same (previous_count k) (items_for (worked_of a))).decision) e

pub first_drawn : FirstDrawn
first_drawn a e h =
    uncounted_drawn a.done.clear (clear_unchanged a.done.previous a.done.clear) (items_for (worked_of a)) (sym (decided a empty_tile e) ∙ h)

-- ---- the count by a rule

kept_shows : (may : Bool) (k : CachedTile) (d : Display) → KeepsShown k d → KeepsShown (kept_if may k) d
kept_shows true k d s = s
kept_shows false k d s = (solid_right k d s).uncounted

kept_count : (may : Bool) (before : List Item) (k : CachedTile) (d : Display) → Stands k d (length before)
    → (layer_count_of (kept_if may k)) ≡ count_by may before
kept_count true before k d s = s.count
kept_count false before k d s = count_dropped k s.shows.tag

-- ---- through frames

pub record Holding (k : CachedTile) (d : Display) (drawn last : WorkedTile) (t : ℕ) : Type 0 where
  pub row_is : IsOpen last.row
  pub tile_is : last.row.from + last.place ≡ t
  pub stands : Stands k d (length (items_for last))
  pub same : SameShown drawn last

abbrev pub Held : ℕ → Standing → Type 0
Held t Standing.unworked = Unit {0}
Held t (Standing.worked k d drawn last) = Holding k d drawn last t

by_decision : (c : TileDecision) (drawn now : WorkedTile) → (c ≡ none → SameShown drawn now) → SameShown (drawn_at c drawn now) now
by_decision none drawn now h = h refl
by_decision (solid bottom before) drawn now h = refl
by_decision paint drawn now h = refl

frame_held : {t : ℕ} {s s' : Standing} → Frame t s s' → Held t s → Held t s'
frame_held Frame.leaves h = h
frame_held Frame.forgets h = tt
frame_held (Frame.first {d = d} a e k g) h =
    record { row_is = row_open a; tile_is = e; stands = work_stands a empty_tile k (first_shown d) g; same = refl }
frame_held {t} (Frame.again {k = k} {d = d} {drawn = drawn} {last = last} a e told q g) h =
    let now = worked_of a in
    let may = may_keep_tile last now in
    let b = kept_if may k in
    let same = clear_unchanged a.done.previous a.done.clear in
    let along = told_along h.row_is (row_open a) told.flags last.place now.place (h.tile_is ∙ sym e) in
    let right : a.done.decision ≡ none → ShowsSame last.clear now.clear (items_for last) (items_for now) =
    λ z. none_right last.clear now.clear same (items_for last) (items_for now) along.frames
    (ap (λ (n : Option ℕ). (outcome_of a.done.clear same n (items_for now)).decision) (sym (kept_count may (items_for last) k d h.stands)) ∙ sym
    (decided a b q) ∙ z) in
    record {
      row_is = row_open a;
      tile_is = e;
      stands = work_stands a b q (kept_shows may k d h.stands.shows) g;
      same = by_decision a.done.decision drawn now (λ z. same_shown_lem last now along told.contents drawn h.same (right z));
    }
frame_held {t} (Frame.anew {k = k} {d = d} {drawn = drawn} {last = last} a e q g) h =
    let now = worked_of a in
    let drawn_now : a.done.decision ≡ none → ⊥ = λ z. uncounted_drawn a.done.clear (clear_unchanged a.done.previous a.done.clear) (items_for now)
    (ap (λ (n : Option ℕ). (outcome_of a.done.clear (clear_unchanged a.done.previous a.done.clear) n (items_for now)).decision)
    (sym (count_dropped k h.stands.shows.tag)) ∙ sym (decided a (drop_count k) q) ∙ z) in
    record {
      row_is = row_open a;
      tile_is = e;
      stands = work_stands a (drop_count k) q (solid_right k d h.stands.shows).uncounted g;
      same = by_decision a.done.decision drawn now (λ z. absurd (drawn_now z));
    }
frame_held {t} (Frame.draws {k = k} {d = d} {drawn = drawn} may a e q n g) h =
    record {
      row_is = row_open a;
      tile_is = e;
      stands = work_stands a (kept_if may k) q (kept_shows may k d h.stands.shows) g;
      same = by_decision a.done.decision drawn (worked_of a) (λ z. absurd (n z));
    }

pub held : {t : ℕ} {s : Standing} → History t s → Held t s
held History.begins = tt
held (History.next h f) = frame_held f (held h)

right_of : (t : ℕ) (s : Standing) → Held t s → IsRight s
right_of t Standing.unworked h = tt
right_of t (Standing.worked k d drawn last) h = (h.same, λ bytes e. (solid_right k d h.stands.shows).keep bytes e)

pub frames_right : FramesRight
frames_right t s h = right_of t s (held h)

-- ---- what a work that draws shows

pub work_shows : WorkShows
unfolding outcome_by_entries
work_shows a drawn =
    let same = clear_unchanged a.done.previous a.done.clear in
    let count = (previous_count a.done.before) in
    let items = items_for (worked_of a) in
    let afresh = worked_afresh a.done.clear same count items
    (⊎_elim
    (λ k. absurd (drawn (decided_by a ∙ ap (λ (o : Outcome). o.decision) (outcome_kept a.done.clear same count items k))))
    (λ k. k)
    (either (is_kept same count items))) in
    record {
      decision = decided_by a ∙ ⊎_elim (λ z. absurd (drawn (decided_by a ∙ z))) (λ z. z) afresh.decision;
      shown = afresh.shown;
    }
