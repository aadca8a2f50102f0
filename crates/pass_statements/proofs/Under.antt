-- The second pass by the rule: while ascending ids are passed, the current clip is the latest listed one, unless its span has ended.
-- Assumes nothing.
use Rattle.std.specs.Prelude.{◌≡◌, ◌&&◌, ◌||◌, ◌∷◌, ◌+◌, ◌≤◌, ◌<◌}
use Rattle.laws.proofs.Prelude.{refl, sym, ap, ◌∙◌, Bool, true, false, cond, not, false≢true, List, [], map, Option, Some, None}
use Rattle.laws.proofs.Prelude.{ℕ, zero, suc, not-suc-le-zero, le_of_suc-le-suc, add-suc, suc-add, arith, lt-ltb, le-ltb, le-leb}
use Rattle.laws.proofs.Prelude.{lt-leb, leb, length, get_or, set, length-set, length-map, List·getD-map}
use Rattle.styling.specs.Ascending.{strictly_ascends_from}
use Rattle.styling.specs.Style.{is_clipped_of}
use Rattle.styling.proofs.Ascents.{ascends_head, ascends_tail, ascends_low}
use Rattle.pass_statements.specs.declared.item.Item.{Item}
use Rattle.pass_statements.specs.declared.clips.ActiveClip.{ActiveClip}
use Rattle.pass_statements.specs.Clips.{is_clip, step_of, unmasked_after, clips_from}
use Rattle.pass_statements.specs.Covered.{item_at}
use Rattle.pass_statements.specs.Rules.{latest_clip, last_reached, is_under, is_freed}
use Rattle.pass_statements.proofs.Turns.{kept, Turn, opens, bare, past, within, turn}
use Rattle.pass_statements.proofs.Clipping.{Below, below_up, behind, length_after}
use Rattle.pass_statements.proofs.Marks.{below_apart, after_other, unmasked_draw, unclipped_own}

-- ---- the latest clip

-- a layer that is not below the id is passed by, and one that is below it counts if it is a clip
pub latest_skip : (x : Item) (xs : List Item) (id : ℕ) (found : Option Item) → id ≤ x.id → latest_clip (x ∷ xs) id found ≡ latest_clip xs id found
unfolding latest_clip
latest_skip x xs id found h = rw (le-ltb x.id id h) (by (is_clip x.func))
  where
    by : (t : Bool) → latest_clip xs id (cond (t && false) (Some x) found) ≡ latest_clip xs id found
    by true = refl
    by false = refl

pub latest_past : (x : Item) (xs : List Item) (id : ℕ) (found : Option Item) → x.id < id → latest_clip (x ∷ xs) id found ≡ latest_clip xs id (cond (is_clip x.func) (Some x) found)
unfolding latest_clip
latest_past x xs id found h = rw (lt-ltb x.id id h) (by (is_clip x.func))
  where
    by : (t : Bool) → latest_clip xs id (cond (t && true) (Some x) found) ≡ latest_clip xs id (cond t (Some x) found)
    by true = refl
    by false = refl

abbrev pub id_of : Item → ℕ
id_of x = x.id

latest_stop : (low : ℕ) (xs : List Item) (id : ℕ) (found : Option Item) → strictly_ascends_from low (map id_of xs) ≡ true → id ≤ low → latest_clip xs id found ≡ found
unfolding latest_clip
latest_stop low [] id found a h = refl
latest_stop low (x ∷ xs) id found a h =
    let head : low ≤ x.id = ascends_head low x.id (map id_of xs) a in
    latest_skip x xs id found (omega arith)
    ∙ latest_stop (suc x.id) xs id found (ascends_tail low x.id (map id_of xs) a) (omega arith)

-- nothing is listed below the least id
pub low_at : (low : ℕ) (xs : List Item) (p : ℕ) → strictly_ascends_from low (map id_of xs) ≡ true → p < length xs → low ≤ (item_at xs p).id
low_at low xs p a h =
    let id : get_or (map id_of xs) p 0 ≡ (item_at xs p).id = List·getD-map id_of xs p _ in
    omega (arith, id, ascends_low low (map id_of xs) a p (rw length-map h))

-- what was found before a layer is its latest clip
pub latest_own : (low : ℕ) (x : Item) (xs : List Item) (found : Option Item) → strictly_ascends_from low (map id_of (x ∷ xs)) ≡ true → latest_clip (x ∷ xs) x.id found ≡ found
latest_own low x xs found a =
    latest_skip x xs x.id found (omega arith)
    ∙ latest_stop (suc x.id) xs x.id found (ascends_tail low x.id (map id_of xs) a) (omega arith)

-- ---- the current clip and the latest one, for ids from low on

abbrev pub Agree : Option ActiveClip → Option Item → ℕ → Type 0
Agree None None low = 0 ≤ low
Agree None (Some c) low = last_reached c.id c.func < low
Agree (Some k) None low = ⊥
Agree (Some k) (Some c) low = (k.last ≡ last_reached c.id c.func) × (k.full ≡ c.full)

agree_none : (found : Option Item) (low low' : ℕ) → Agree None found low → low ≤ low' → Agree None found low'
agree_none None low low' a h = omega arith
agree_none (Some c) low low' a h = omega arith

agree_ended : (k : ActiveClip) (found : Option Item) (low id : ℕ) → Agree (Some k) found low → k.last < id → Agree None found (suc id)
agree_ended k None low id a h = absurd a
agree_ended k (Some c) low id a h = omega (arith, a.0)

agree_kept : (b : Bool) (k : ActiveClip) (found : Option Item) (low low' : ℕ) → Agree (Some k) found low → Agree (Some (kept b k)) found low'
agree_kept b k None low low' a = a
agree_kept true k (Some c) low low' a = a
agree_kept false k (Some c) low low' a = a

-- a turn keeps them in step
pub agree_step : (x : Item) (cur : Option ActiveClip) (i : ℕ) (found : Option Item) (low : ℕ) → Agree cur found low → low ≤ x.id → Agree (step_of x cur i).cur (cond (is_clip x.func) (Some x) found) (suc x.id)
agree_step x cur i found low a h = by (turn x cur i)
  where
    by : Turn x cur i → Agree (step_of x cur i).cur (cond (is_clip x.func) (Some x) found) (suc x.id)
    by (opens span e s) =
        let is : is_clip x.func ≡ true = rw e in
        let reach : x.id + span ≡ last_reached x.id x.func = rw e in
        rw (s, is) (reach, refl)
    by (bare e q s) = rw (s, e) (agree_none found low (suc x.id) (rw q at a) (omega arith))
    by (past k e q l s) = rw (s, e) (agree_ended k found low x.id (rw q at a) l)
    by (within k e q l s) = rw (s, e) (agree_kept (is_clipped_of x.func) k found low (suc x.id) (rw q at a))

-- ---- what a turn marks, by the latest clip

record Marked (clipped : Bool) (found : Option Item) (id : ℕ) (masked unclipped : Bool) : Type 0 where
  unmasked : not masked ≡ (not clipped || is_under found id)
  free : unclipped ≡ (clipped && is_freed found id)

marked_past : (b : Bool) (c : Item) (id : ℕ) → last_reached c.id c.func < id → Marked b (Some c) id b false
marked_past false c id h = record { unmasked = refl; free = refl }
marked_past true c id h =
    let past : leb id (last_reached c.id c.func) ≡ false = lt-leb id (last_reached c.id c.func) h in record {
      unmasked = rw past;
      free = rw past;
    }

marked_bare : (b : Bool) (found : Option Item) (low id : ℕ) → Agree None found low → low ≤ id → Marked b found id b false
marked_bare true None low id a h = record { unmasked = refl; free = refl }
marked_bare false None low id a h = record { unmasked = refl; free = refl }
marked_bare b (Some c) low id a h = marked_past b c id (omega arith)

marked_ended : (b : Bool) (k : ActiveClip) (found : Option Item) (low id : ℕ) → Agree (Some k) found low → k.last < id → Marked b found id b false
marked_ended b k None low id a h = absurd a
marked_ended b k (Some c) low id a h = marked_past b c id (omega (arith, a.0))

marked_within : (b : Bool) (k : ActiveClip) (found : Option Item) (low id : ℕ) → Agree (Some k) found low → id ≤ k.last → Marked b found id false (b && k.full)
marked_within b k None low id a h = absurd a
marked_within false k (Some c) low id a h = record { unmasked = refl; free = refl }
marked_within true k (Some c) low id a h =
    let reach : leb id (last_reached c.id c.func) ≡ true = le-leb id (last_reached c.id c.func) (omega (arith, a.0)) in record {
      unmasked = rw reach;
      free = rw reach a.1;
    }

marked : (x : Item) (cur : Option ActiveClip) (i : ℕ) (found : Option Item) (low : ℕ) → Agree cur found low → low ≤ x.id → is_clip x.func ≡ false → Marked (is_clipped_of x.func) found x.id (step_of x cur i).masked (step_of x cur i).unclipped
marked x cur i found low a h d = by (turn x cur i)
  where
    by : Turn x cur i → Marked (is_clipped_of x.func) found x.id (step_of x cur i).masked (step_of x cur i).unclipped
    by (opens span e s) = absurd (false≢true (sym d ∙ rw e))
    by (bare e q s) = rw s (marked_bare (is_clipped_of x.func) found low x.id (rw q at a) h)
    by (past k e q l s) = rw s (marked_ended (is_clipped_of x.func) k found low x.id (rw q at a) l)
    by (within k e q l s) = rw s (marked_within (is_clipped_of x.func) k found low x.id (rw q at a) l)

-- ---- the pass, at each draw

pub record Ruled (xs : List Item) (found : Option Item) (x : Item) (unmasked unclipped : Bool) : Type 0 where
  pub unmasked_is : unmasked ≡ (not (is_clipped_of x.func) || is_under (latest_clip xs x.id found) x.id)
  pub unclipped_is : unclipped ≡ (is_clipped_of x.func && is_freed (latest_clip xs x.id found) x.id)

-- what is asked of the rest xs of the list, from place i on
pub record Reaching (xs : List Item) (i : ℕ) (cur : Option ActiveClip) (s u : List Bool) (found : Option Item) (low : ℕ) : Type 0 where
  pub agree : Agree cur found low
  pub ascending : strictly_ascends_from low (map id_of xs) ≡ true
  pub below : Below cur i
  pub unmasked_long : i + length xs ≤ length s
  pub unclipped_long : i + length xs ≤ length u

reach_next : (x : Item) (xs : List Item) (i : ℕ) (cur : Option ActiveClip) (s u : List Bool) (found : Option Item) (low : ℕ) → Reaching (x ∷ xs) i cur s u found low
    → Reaching xs (suc i) (step_of x cur i).cur (unmasked_after s i (step_of x cur i)) (set u i (step_of x cur i).unclipped) (cond (is_clip x.func) (Some x) found) (suc x.id)
reach_next x xs i cur s u found low r =
    let step = step_of x cur i in record {
      agree = agree_step x cur i found low r.agree (ascends_head low x.id (map id_of xs) r.ascending);
      ascending = ascends_tail low x.id (map id_of xs) r.ascending;
      below = (behind x cur i (suc i) (below_up cur i r.below) (omega arith)).current;
      unmasked_long = rw (length_after s i step) (omega (arith, r.unmasked_long, add-suc i (length xs), suc-add i (length xs)));
      unclipped_long =
          rw (length-set u i step.unclipped) (omega (arith, r.unclipped_long, add-suc i (length xs), suc-add i (length xs)));
    }

pub ruled : (xs : List Item) (i : ℕ) (cur : Option ActiveClip) (s u : List Bool) (found : Option Item) (low : ℕ) → Reaching xs i cur s u found low
    → (k j : ℕ) → k < length xs → j ≡ i + k → get_or s j false ≡ true → is_clip (item_at xs k).func ≡ false
    → Ruled xs found (item_at xs k) (get_or (clips_from xs i cur s u).unmasked j false) (get_or (clips_from xs i cur s u).unclipped j false)
unfolding clips_from
ruled [] i cur s u found low r k j h e f d = absurd (not-suc-le-zero h)
ruled (x ∷ xs) i cur s u found low r zero j h e f d =
    let here : j ≡ i = omega arith in
    let latest : latest_clip (x ∷ xs) x.id found ≡ found = latest_own low x xs found r.ascending in
    let m = marked x cur i found low r.agree (ascends_head low x.id (map id_of xs) r.ascending) d in
    rw here
    (record {
      unmasked_is =
          unmasked_draw x xs i cur s u d r.below (omega (arith, r.unmasked_long)) (rw here at f)
          ∙ m.unmasked
          ∙ ap (λ (o : Option Item). not (is_clipped_of x.func) || is_under o x.id) (sym latest);
      unclipped_is =
          unclipped_own x xs i cur s u (omega (arith, r.unclipped_long))
          ∙ m.free
          ∙ ap (λ (o : Option Item). is_clipped_of x.func && is_freed o x.id) (sym latest);
    })
ruled (x ∷ xs) i cur s u found low r (suc k) j h e f d =
    let step = step_of x cur i in
    let y = item_at xs k in
    let tail = ascends_tail low x.id (map id_of xs) r.ascending in
    let more : k < length xs = le_of_suc-le-suc h in
    let higher : x.id < y.id = low_at (suc x.id) xs k tail more in
    let past = latest_past x xs y.id found higher in
    let fresh : get_or (unmasked_after s i step) j false ≡ true =
    after_other x cur i j s (below_apart cur i j r.below (omega (arith, add-suc i k))) (λ q. omega (arith, add-suc i k)) ∙ f in
    let rest = ruled xs (suc i) step.cur (unmasked_after s i step) (set u i step.unclipped) (cond (is_clip x.func) (Some x) found) (suc x.id) (reach_next x xs i cur s u found low r) k j more (omega (arith, add-suc i k, suc-add i k)) fresh d in
    record {
      unmasked_is = rest.unmasked_is ∙ ap (λ (o : Option Item). not (is_clipped_of y.func) || is_under o y.id) (sym past);
      unclipped_is = rest.unclipped_is ∙ ap (λ (o : Option Item). is_clipped_of y.func && is_freed o y.id) (sym past);
    }
