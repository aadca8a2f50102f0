-- Frames of a row with nothing told are frames by the protocol. Assumes nothing.
use Rattle.std.specs.Prelude.{◌≡◌, ◌&&◌, ◌∷◌, ◌⊎◌, ◌+◌, ◌-◌, ◌<◌}
use Rattle.laws.proofs.Prelude.{refl, sym, ap, subst, ◌∙◌, Bool, true, false, false≢true, List, [], inl, inr, ⊎_elim, ℕ}
use Rattle.laws.proofs.Prelude.{zero, suc, arith, eqb-true, leb-true, ltb-true, eqb, leb, ltb, get_or, both, left, right, clash}
use Rattle.laws.proofs.Bools.{not-true}
use Rattle.cached_tile.specs.Tile.{empty_tile}
use Rattle.cached_tile.specs.declared.CachedTile.{CachedTile}
use Rattle.pass_statements.specs.Decision.{TileDecision, none, solid, paint}
use Rattle.row_statements.specs.Lent.{is_lent_table}
use Rattle.row_statements.specs.Due.{OpenRow}
use Rattle.row_statements.specs.InnerHolding.{IsOpen}
use Rattle.kept_frames.specs.Display.{Display}
use Rattle.kept_rows.specs.Along.{RowTold, ContentsTold}
use Rattle.kept_rows.specs.Shown.{WorkedTile}
use Rattle.kept_rows.specs.Since.{marked}
use Rattle.kept_rows.specs.History.{AcceptedWork, open_on, tile_number, worked_of, Standing, Drawing, drawn_at}
use Rattle.kept_rows.specs.History.{lent_tile, kept_if, may_keep_tile, Frame, History}
use Rattle.kept_rows.specs.Frames.{RowHistory, RowFramesRight}
use Rattle.kept_rows.specs.Frames.{LastRow, worked_count, is_decided, is_within, last_tile, may_stay, last_by, tile_in, Displays, drawn_in, RowFrame}
use Rattle.kept_rows.proofs.Since.{marked_told}
use Rattle.kept_rows.proofs.Works.{row_open}
use Rattle.kept_rows.proofs.History.{Holding, held, frames_right}

-- where the tile counts as worked in the last row, its last work is that one
abbrev Agrees : ℕ → LastRow → Standing → Type 0
Agrees t l Standing.unworked = Unit {0}
Agrees t l (Standing.worked k d drawn last) = is_within l t ≡ true → last ≡ last_tile l t

pub record Followed (t : ℕ) (l : LastRow) (s : Standing) : Type 0 where
  pub history : History t s
  pub agrees : Agrees t l s

-- ---- pieces

outside : (s : Standing) (t : ℕ) (l : LastRow) → is_within l t ≡ false → Agrees t l s
outside Standing.unworked t l e = tt
outside (Standing.worked k d drawn last) t l e = λ h. absurd (clash h e)

-- who counts as worked was decided
counted_decided : (decided : List Bool) (i : ℕ) → i < worked_count decided → get_or decided i false ≡ true
unfolding worked_count
counted_decided [] i h = absurd (omega (arith, h))
counted_decided (true ∷ ds) zero h = refl
counted_decided (true ∷ ds) (suc i) h = counted_decided ds i (omega (arith, h))
counted_decided (false ∷ ds) i h = absurd (omega (arith, h))

undecided_outside : (l : LastRow) (t : ℕ) (decided : List Bool) → l.worked ≡ worked_count decided → is_decided l.row.from decided t ≡ false
    → is_within l t ≡ false
undecided_outside l t decided e n =
    not-true (is_within l t)
    (λ h.
    let reached = leb l.row.from t in
    let past = ltb t (l.row.from + l.worked) in
    let low = leb-true l.row.from t (left reached past h) in
    let high = ltb-true t (l.row.from + l.worked) (right reached past h) in
    clash (both reached (get_or decided (t - l.row.from) false) (left reached past h)
    (counted_decided decided (t - l.row.from) (omega (arith, low, high, e)))) n)

-- the work of today is the last one now
now_last : (t : ℕ) (a : AcceptedWork) (decided : List Bool) → tile_number a ≡ t → worked_of a ≡ last_tile (last_by a decided) t
now_last t a decided e =
    let place : a.done.place ≡ t - (open_on a).from = omega (arith, e) in
    λ i. record { row = open_on a; revisions = a.revisions; place = place i; clear = a.done.clear }

-- ---- a frame

module _ (t : ℕ) (l : LastRow) (today : OpenRow) (a : AcceptedWork) (e : tile_number a ≡ t) (row : open_on a ≡ marked l.row l.revisions today a.revisions) where
  abbrev here : Bool
  here = eqb l.row.from (open_on a).from && is_within l t

  told : IsOpen l.row → here ≡ true → RowTold l.row (open_on a) × ContentsTold l.row l.revisions (open_on a) a.revisions
  told is h =
      let from = eqb-true l.row.from (open_on a).from (left (eqb l.row.from (open_on a).from) (is_within l t) h) in
      subst (λ (o : OpenRow). RowTold l.row o × ContentsTold l.row l.revisions o a.revisions) (sym row)
      (marked_told l.row today l.revisions a.revisions is.in_table (ap (λ (o : OpenRow). is_lent_table o.table) (sym row) ∙ (row_open a).in_table)
      (from ∙ ap (λ (o : OpenRow). o.from) row))

  again : {k k' : CachedTile} {d d' : Display} {drawn last : WorkedTile} → Holding k d drawn last t → last ≡ last_tile l t → here ≡ true
      → may_keep_tile (last_tile l t) (worked_of a) ≡ true
      → a.done.before ≡ lent_tile k
      → Drawing a.done.decision a.done.after.tile d k' d'
      → Frame t (Standing.worked k d drawn last) (Standing.worked k' d' (drawn_at a.done.decision drawn (worked_of a)) (worked_of a))
  again {k} {k'} {d} {d'} {drawn} {last} h same stood like q g =
      let is : IsOpen l.row = subst IsOpen (ap (λ (w : WorkedTile). w.row) same) h.row_is in
      let shown : may_keep_tile last (worked_of a) ≡ true = ap (λ (w : WorkedTile). may_keep_tile w (worked_of a)) same ∙ like in
      let since = told is stood in
      Frame.again a e
      (record {
        flags = subst (λ (w : WorkedTile). RowTold w.row (open_on a)) (sym same) since.0;
        contents = subst (λ (w : WorkedTile). ContentsTold w.row w.revisions (open_on a) a.revisions) (sym same) since.1;
      })
      (q ∙ ap (λ (b : Bool). lent_tile (kept_if b k)) (sym shown))
      g

abbrev none_of : TileDecision → Bool
none_of none = true
none_of (solid bottom before) = false
none_of paint = false

-- the first work on a tile draws it
drawn_first : (c : TileDecision) (now : WorkedTile) → drawn_at c now now ≡ now
drawn_first none now = refl
drawn_first (solid bottom before) now = refl
drawn_first paint now = refl

first_worked : (t : ℕ) (a : AcceptedWork) (e : tile_number a ≡ t)
    → (may : Bool) → a.done.before ≡ lent_tile (kept_if may empty_tile) → {k : CachedTile} {d d' : Display}
    → Drawing a.done.decision a.done.after.tile d k d'
    → Frame t Standing.unworked (Standing.worked k d' (drawn_at a.done.decision (worked_of a) (worked_of a)) (worked_of a))
first_worked t a e may q {k} {d} {d'} g =
    subst (λ (w : WorkedTile). Frame t Standing.unworked (Standing.worked k d' w (worked_of a))) (sym (drawn_first a.done.decision (worked_of a)))
    (Frame.first {d = d} a e (q ∙ ap lent_tile (empty may)) g)
  where
    empty : (b : Bool) → kept_if b empty_tile ≡ empty_tile
    empty true = refl
    empty false = refl

is_none : (c : TileDecision) → (c ≡ none) ⊎ (c ≡ none → ⊥)
is_none none = inl refl
is_none (solid bottom before) = inr (λ e. false≢true (ap none_of e))
is_none paint = inr (λ e. false≢true (ap none_of e))

worked_again : (t : ℕ) (l : LastRow) (today : OpenRow) (a : AcceptedWork) (e : tile_number a ≡ t)
    → open_on a ≡ marked l.row l.revisions today a.revisions
    → {k k' : CachedTile} {d d' : Display} {drawn last : WorkedTile} → Followed t l (Standing.worked k d drawn last)
    → (may : Bool) → (may ≡ true → a.done.decision ≡ none → may_stay l t a ≡ true) → a.done.before ≡ lent_tile (kept_if may k)
    → Drawing a.done.decision a.done.after.tile d k' d'
    → Frame t (Standing.worked k d drawn last) (Standing.worked k' d' (drawn_at a.done.decision drawn (worked_of a)) (worked_of a))
worked_again t l today a e row f false rule q g = Frame.anew a e q g
worked_again t l today a e row f true rule q g =
    ⊎_elim
    (λ z.
    let from = eqb l.row.from (open_on a).from in
    let like = may_keep_tile (last_tile l t) (worked_of a) in
    let stood = left (from && is_within l t) like (rule refl z) in
    again t l today a e row (held f.history) (f.agrees (right from (is_within l t) stood)) stood (right (from && is_within l t) like (rule refl z)) q g)
    (λ n. Frame.draws true a e q n g)
    (is_none a.done.decision)

followed : (t : ℕ) {l l' : LastRow} {s s' : Standing} → RowFrame t l s l' s' → Followed t l s → Followed t l' s'
followed t {l} {l'} {s} (RowFrame.passes decided e out) f = record { history = f.history; agrees = outside s t l' (undecided_outside l' t decided e out) }
followed t (RowFrame.forgets) f = record { history = History.next f.history Frame.forgets; agrees = tt }
followed t {l} {l'} {s} (RowFrame.works {k = k} {d = d} {d' = d'} may today a decided e row rule q shows g) f = by s q shows f
  where
    by : (z : Standing) → a.done.before ≡ lent_tile (kept_if may (tile_in z)) → Displays z d → Followed t l z
        → Followed t (last_by a decided) (Standing.worked k d' (drawn_at a.done.decision (drawn_in z (worked_of a)) (worked_of a)) (worked_of a))
    by Standing.unworked b x f =
        record { history = History.next f.history (first_worked t a e may b g); agrees = λ h. now_last t a decided e }
    by (Standing.worked k₀ d₀ drawn last) b x f =
        record {
          history =
              History.next f.history
              (worked_again t l today a e row f may rule b (subst (λ (z : Display). Drawing a.done.decision a.done.after.tile z k d') (sym x) g));
          agrees = λ h. now_last t a decided e;
        }

all_followed : {t : ℕ} {l : LastRow} {s : Standing} → RowHistory t l s → Followed t l s
all_followed RowHistory.begins = record { history = History.begins; agrees = tt }
all_followed {t} (RowHistory.next h f) = followed t f (all_followed h)

pub row_frames_right : RowFramesRight
row_frames_right t l s h = frames_right t s (all_followed h).history
