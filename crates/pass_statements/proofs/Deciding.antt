-- The decision, put together from the passes. Assumes nothing.
use Rattle.std.specs.Prelude.{◌≡◌, ◌&&◌, ◌∷◌, ◌++◌, ◌≤◌, ◌<◌, Option}
use Rattle.laws.proofs.Prelude.{refl, sym, ap, ap₂, ◌∙◌, Bool, true, false, cond, List, [], ℕ, zero, suc}
use Rattle.laws.proofs.Prelude.{le_of_suc-le-suc, not-suc-le-zero, arith, leb, length, get_or, drop, set, replicate, length-set, length-replicate}
use Rattle.laws.proofs.Prelude.{List·getD-append, over}
use Rattle.pass_statements.specs.declared.clips.ActiveClip.{ActiveClip}
use Rattle.styling.specs.declared.Color.{Color}
use Rattle.pass_statements.specs.declared.item.Item.{Item}
use Rattle.pass_statements.specs.declared.covered.Covered.{Covered}
use Rattle.pass_statements.specs.declared.covered.InterestingCover.{InterestingCover}
use Rattle.pass_statements.specs.declared.covered.InterestingCover.TheVariants.{Absent, Opaque, Incomplete}
use Rattle.pass_statements.specs.declared.decide.Decision.{Decision}
use Rattle.pass_statements.specs.declared.decide.Decision.TheVariants.{None, Paint}
use Rattle.pass_statements.specs.declared.decide.Decided.{Decided}
use Rattle.pass_statements.specs.declared.decide.Bottom.{Bottom}
use Rattle.pass_statements.specs.declared.decide.Bottom.TheVariants.{Settled, Under}
use Rattle.pass_statements.specs.Unchanged.{is_kept, were_removed}
use Rattle.pass_statements.specs.Clips.{step_of, unmasked_after, clips_from, marks_of, Marking}
use Rattle.pass_statements.specs.Covered.{hides, look_at, item_at, covered_from, start_of, covered_of}
use Rattle.pass_statements.specs.Decide.{shown_from, shown_of, are_solid, decision_by, bottom_of, mixed_of, DecidedBy, passed_of, outcome_of, Deciding}
use Rattle.pass_statements.specs.Decision.{solid, paint, decision_in}
use Rattle.pass_statements.specs.declared.Index.{Index}
use Rattle.pass_statements.proofs.Clipping.{length_after, length_last}

-- ---- by the first cover that tells

module _ {first : InterestingCover} {color : Color} (clear : Color) where
  pub bottom_kept : {u : Bool} → first ≡ Opaque color → u ≡ true → Settled None ≡ bottom_of first u clear
  bottom_kept e h = rw (e, h)

  pub bottom_opaque : {u : Bool} → first ≡ Opaque color → u ≡ false → Under color 1 ≡ bottom_of first u clear
  bottom_opaque e h = rw (e, h)

pub bottom_clear : {first : InterestingCover} (u : Bool) (clear : Color) → first ≡ Absent → Under clear 0 ≡ bottom_of first u clear
bottom_clear u clear e = rw e

pub bottom_paint : {first : InterestingCover} (u : Bool) (clear : Color) → first ≡ Incomplete → Settled Paint ≡ bottom_of first u clear
bottom_paint u clear e = rw e

pub mixed_settled : {bottom : Bottom} {decision : Decision} (shown : List Item) → bottom ≡ Settled decision → decision_in decision ≡ mixed_of bottom shown
mixed_settled shown e = rw e

module _ {bottom : Bottom} {color : Color} {below : ℕ} (shown : List Item) {t : Bool} (e : bottom ≡ Under color below) (q : t ≡ are_solid below shown) where
  pub mixed_solid : t ≡ true → solid color below ≡ mixed_of bottom shown
  mixed_solid h = rw (e, ← q, h)

  pub mixed_paint : t ≡ false → paint ≡ mixed_of bottom shown
  mixed_paint h = rw (e, ← q, h)

-- as the decision is defined
mixed : (first : InterestingCover) (u : Bool) (clear : Color) (shown : List Item) → mixed_of (bottom_of first u clear) shown ≡ decision_by first u clear shown
mixed Absent u clear shown = refl
mixed (Opaque color) true clear shown = refl
mixed (Opaque color) false clear shown = refl
mixed Incomplete u clear shown = refl

pub decided : {found whole : Covered} {bottom : Bottom} {decision : Decision} (clear : Color) (items : List Item) (unmasked : List Bool)
    → found ≡ whole → bottom ≡ bottom_of found.first found.unchanged clear → decision_in decision ≡ mixed_of bottom (shown_of found.skipped.0 items unmasked)
    → DecidedBy whole clear items unmasked (record { decision = decision; skipped = found.skipped })
decided {found} {whole} {bottom} {decision} clear items unmasked e b d =
    record {
      decision =
          d
          ∙ ap (λ (m : Bottom). mixed_of m (shown_of found.skipped.0 items unmasked)) b
          ∙ mixed found.first found.unchanged clear (shown_of found.skipped.0 items unmasked)
          ∙ ap (λ (f : Covered). decision_by f.first f.unchanged clear (shown_of f.skipped.0 items unmasked)) e;
      skipped = ap (λ (f : Covered). f.skipped) e;
    }

-- ---- the marks have the list's length

pub length_unmasked : (xs : List Item) (i : ℕ) (cur : Option ActiveClip) (s u : List Bool) → length (clips_from xs i cur s u).unmasked ≡ length s
unfolding clips_from
length_unmasked [] i cur s u = length_last cur s
length_unmasked (x ∷ xs) i cur s u =
    let step = step_of x cur i in
    length_unmasked xs (suc i) step.cur (unmasked_after s i step) (set u i step.unclipped) ∙ length_after s i step

pub length_unclipped : (xs : List Item) (i : ℕ) (cur : Option ActiveClip) (s u : List Bool) → length (clips_from xs i cur s u).unclipped ≡ length u
unfolding clips_from
length_unclipped [] i cur s u = refl
length_unclipped (x ∷ xs) i cur s u =
    let step = step_of x cur i in
    length_unclipped xs (suc i) step.cur (unmasked_after s i step) (set u i step.unclipped)
    ∙ length-set u i step.unclipped

pub unmasked_long : (items : List Item) → length (marks_of items).unmasked ≡ length items
unmasked_long items = length_unmasked items 0 _ _ _ ∙ length-replicate (length items) true

pub unclipped_long : (items : List Item) → length (marks_of items).unclipped ≡ length items
unclipped_long items = length_unclipped items 0 _ _ _ ∙ length-replicate (length items) false

-- ---- what lies past the list in a lent column plays no part

get_d_over : (ws old : List Bool) (i : ℕ) → i < length ws → get_or (over ws old) i false ≡ get_or ws i false
unfolding over
get_d_over ws old i h = List·getD-append ws (drop (length ws) old) false i h

covered_over : (items : List Item) (s os u ou : List Bool) (n : ℕ) (found : Covered) → n ≤ length s → n ≤ length u → covered_from items (over s os) (over u ou) n found ≡ covered_from items s u n found
unfolding covered_from
covered_over items s os u ou zero found h k = refl
covered_over items s os u ou (suc i) found h k =
    rw (get_d_over s os i h, get_d_over u ou i k)
    (ap₂ (λ (on past : Covered). cond (get_or s i false) (cond (hides (item_at items i) (get_or u i false)) (look_at (item_at items i) (get_or u i false) i found) on) past)
    (covered_over items s os u ou i (look_at (item_at items i) (get_or u i false) i found) (omega arith) (omega arith))
    (covered_over items s os u ou i found (omega arith) (omega arith)))

unmasked_front : (skipped i : ℕ) (xs : List Item) (ss ts : List Bool) → length xs ≤ length ss → shown_from i skipped xs (ss ++ ts) ≡ shown_from i skipped xs ss
unfolding shown_from
unmasked_front skipped i [] ss ts h = refl
unmasked_front skipped i (x ∷ xs) [] ts h = absurd (not-suc-le-zero h)
unmasked_front skipped i (x ∷ xs) (s ∷ ss) ts h =
    ap (λ (r : List Item). cond (s && leb skipped i) (x ∷ r) r) (unmasked_front skipped (suc i) xs ss ts (le_of_suc-le-suc h))

unmasked_over : (skipped : ℕ) (items : List Item) (s old : List Bool) → length items ≤ length s → shown_of skipped items (over s old) ≡ shown_of skipped items s
unfolding over
unmasked_over skipped items s old h = unmasked_front skipped 0 items s (drop (length s) old) h

-- ---- the second and the third pass, and all three

pub decided_passed : {items : List Item} {old : List Bool} (free : List Bool) {column unclipped : List Bool} {r : Decided} (clear : Color) (removed : Bool)
    → Marking items old free column unclipped → DecidedBy (covered_of items column unclipped removed) clear items column r → Deciding (passed_of clear removed items) old r column
decided_passed {items} {old} free {column} {unclipped} {r} clear removed m e =
    let s = (marks_of items).unmasked in
    let u = (marks_of items).unclipped in
    let same : covered_of items column unclipped removed ≡ covered_of items s u removed =
    ap₂ (λ (a b : List Bool). covered_of items a b removed) m.unmasked_is m.unclipped_is
    ∙ covered_over items s old u free (length items) (start_of items removed) (omega (arith, unmasked_long items)) (omega (arith, unclipped_long items)) in
    let found = covered_of items s u removed in
    let left : shown_of found.skipped.0 items column ≡ shown_of found.skipped.0 items s =
    ap (shown_of found.skipped.0 items) m.unmasked_is
    ∙ unmasked_over found.skipped.0 items s old (omega (arith, unmasked_long items)) in record {
      decision =
          e.decision
          ∙ ap (λ (f : Covered). decision_by f.first f.unchanged clear (shown_of f.skipped.0 items column)) same
          ∙ ap (decision_by found.first found.unchanged clear) left;
      skipped = ap (λ (i : Index). i.0) e.skipped ∙ ap (λ (f : Covered). f.skipped.0) same;
      column = m.unmasked_is;
    }

module _ {n : ℕ} (items : List Item) (previous : Option ℕ) (clear : Color) (u : Bool) {old column : List Bool} {kept : Bool} (e : length items ≡ n) (k : kept ≡ is_kept u previous items) where
  pub decided_kept : kept ≡ true → column ≡ over (replicate n true) old → Deciding (outcome_of clear u previous items) old (record { decision = None; skipped = record { 0 = 0 } }) column
  unfolding outcome_of
  decided_kept h c = rw (← k, h) (record { decision = refl; skipped = refl; column = rw e c })

  pub decided_all : {removed : Bool} {r : Decided} → kept ≡ false → removed ≡ were_removed previous n → Deciding (passed_of clear removed items) old r column → Deciding (outcome_of clear u previous items) old r column
  unfolding outcome_of
  decided_all {removed} h q d =
      let were : removed ≡ were_removed previous (length items) = q ∙ ap (were_removed previous) (sym e) in rw (← k, h, ← were) d
