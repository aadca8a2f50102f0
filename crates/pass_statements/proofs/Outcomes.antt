-- An outcome by its one test, and what the passes leave of a whole list, for proofs/Words. Assumes nothing.
use Rattle.std.specs.Prelude.{◌≡◌, ◌&&◌, ◌||◌, ◌<◌, Option}
use Rattle.laws.proofs.Prelude.{refl, sym, ap, ◌∙◌, Bool, true, false, not, false≢true, List, map, None, ℕ, suc, zero-add}
use Rattle.laws.proofs.Prelude.{arith, length, get_or, drop, replicate, length-replicate, get_or-replicate, length-map, List·getD-map, left, right}
use Rattle.styling.specs.declared.Color.{Color}
use Rattle.styling.specs.declared.Func.{Func}
use Rattle.styling.specs.declared.Func.TheVariants.{Draw, Clip}
use Rattle.styling.specs.Style.{is_clipped_of, is_opaque}
use Rattle.styling.proofs.Ascents.{ascends_lt}
use Rattle.pass_statements.specs.declared.item.Item.{Item}
use Rattle.pass_statements.specs.Decision as decision
use Rattle.pass_statements.specs.Unchanged.{is_kept, were_removed}
use Rattle.pass_statements.specs.Clips.{is_clip, marks_of}
use Rattle.pass_statements.specs.Covered.{is_partial, item_at}
use Rattle.pass_statements.specs.Decide.{passed_of, outcome_of}
use Rattle.pass_statements.specs.Rules.{needs_clip, is_ascending, is_unmasked, is_free, latest_below, is_freed, DrawAt, ClipAt, is_followed, is_clip_used, Hides, Over}
use Rattle.pass_statements.proofs.Covering.{Hiding}
use Rattle.pass_statements.proofs.Judged.{judged_by, judged}
use Rattle.pass_statements.proofs.Users.{used_at}
use Rattle.pass_statements.proofs.Under.{Ruled, ruled}

-- ---- an outcome

module _ (clear : Color) (unchanged : Bool) (previous : Option ℕ) (items : List Item) where
  pub outcome_kept : is_kept unchanged previous items ≡ true → outcome_of clear unchanged previous items ≡ record { decision = decision.none; unmasked = replicate (length items) true; skipped = 0 }
  unfolding outcome_of
  outcome_kept e = rw e

  pub outcome_passed : is_kept unchanged previous items ≡ false → outcome_of clear unchanged previous items ≡ passed_of clear (were_removed previous (length items)) items
  unfolding outcome_of
  outcome_passed e = rw e

-- ---- of tests

opposite : (a : Bool) → not a ≡ true → a ≡ false
opposite true e = absurd (false≢true e)
opposite false e = refl

neither : (a b : Bool) → (a || b) ≡ false → a ≡ false
neither true b e = e
neither false b e = refl

full_of : (a b : Bool) → (a || not b) ≡ false → b ≡ true
full_of a true e = refl
full_of true false e = absurd (false≢true (sym e))
full_of false false e = absurd (false≢true (sym e))

opaque_draws : (f : Func) → is_opaque f ≡ true → is_clip f ≡ false
opaque_draws (Draw style) e = refl
opaque_draws (Clip span) e = absurd (false≢true e)

-- ---- the marks

abbrev id_of : Item → ℕ
id_of x = x.id

id_at_lem : (items : List Item) (i : ℕ) → get_or (map id_of items) i 0 ≡ (item_at items i).id
id_at_lem items i = List·getD-map id_of items i _

module _ (items : List Item) where
  fresh : (i : ℕ) → i < length items → get_or (replicate (length items) true) i false ≡ true
  fresh i h = get_or-replicate (length items) i true false h

  pub judged_at : {i : ℕ} → ClipAt items i → is_unmasked items i ≡ judged_by (item_at items i) (drop (suc i) items)
  judged_at {i} c =
      let n = length items in
      judged items 0 None (replicate n true) (replicate n false) i i (omega arith) c.listed c.clips (omega (arith, length-replicate n true)) (sym (zero-add i)) (fresh i c.listed)

  module _ (ascending : is_ascending items ≡ true) where
    pub ruled_at : {i : ℕ} → DrawAt items i → Ruled items None (item_at items i) (is_unmasked items i) (is_free items i)
    ruled_at {i} d =
        let n = length items in
        ruled items 0 None (replicate n true) (replicate n false) None 0
        (record {
          agree = omega arith;
          ascending = ascending;
          below = omega arith;
          unmasked_long = omega (arith, length-replicate n true);
          unclipped_long = omega (arith, length-replicate n false);
        })
        i i d.listed (sym (zero-add i)) (fresh i d.listed) d.draws

    -- a later layer has a higher id
    higher : (i p : ℕ) → i < p → p < length items → (item_at items i).id < (item_at items p).id
    higher i p h l = omega (arith, ascends_lt 0 (map id_of items) ascending i p h (rw length-map l), id_at_lem items i, id_at_lem items p)

    pub clip_rule : {i : ℕ} → ClipAt items i → is_unmasked items i ≡ (not (item_at items i).full && (is_followed items i || is_clip_used items i))
    clip_rule {i} c =
        judged_at c
        ∙ ap (λ (t : Bool). not (item_at items i).full && (is_followed items i || t)) (sym (used_at items i 0 None ascending (omega arith) c.listed c.clips))

    pub free_rule : {i : ℕ} → DrawAt items i → is_clipped_of (item_at items i).func ≡ true → is_free items i ≡ not (needs_clip items (item_at items i).func (item_at items i).id)
    free_rule {i} d c = (ruled_at d).unclipped_is ∙ by (is_clipped_of (item_at items i).func) c (is_freed (latest_below items i) (item_at items i).id)
      where
        by : (a : Bool) → a ≡ true → (b : Bool) → (a && b) ≡ not (a && not b)
        by true e true = refl
        by true e false = refl
        by false e b = absurd (false≢true e)

    -- a layer that is not cut needs no clip
    no_clip : {p : ℕ} → DrawAt items p → (is_clipped_of (item_at items p).func && not (is_free items p)) ≡ false → needs_clip items (item_at items p).func (item_at items p).id ≡ false
    no_clip {p} d e = by (is_clipped_of (item_at items p).func) refl (is_free items p) refl
      where
        by : (a : Bool) → is_clipped_of (item_at items p).func ≡ a → (b : Bool) → is_free items p ≡ b → needs_clip items (item_at items p).func (item_at items p).id ≡ false
        by false f b g = rw f
        by true f true g = opposite (needs_clip items (item_at items p).func (item_at items p).id) (sym (free_rule d f) ∙ g)
        by true f false g = absurd (false≢true (sym e ∙ rw (f, g)))

    -- a layer that hides all below it, as the third pass finds it and in words
    pub hides_words : {p : ℕ} → Hiding items (marks_of items).unmasked (marks_of items).unclipped (length items) p → Hides items (marks_of items).unmasked p
    hides_words {p} h =
        let x = item_at items p in
        let free = is_free items p in
        let whole : is_partial x free ≡ false = opposite (is_partial x free) (left (not (is_partial x free)) (is_opaque x.func) h.hides_all) in
        let opaque : is_opaque x.func ≡ true = right (not (is_partial x free)) (is_opaque x.func) h.hides_all in record {
          listed = h.listed;
          is_unmasked = h.is_unmasked;
          full = full_of (is_clipped_of x.func && not free) x.full whole;
          opaque = opaque;
          unclipped = no_clip (record { listed = h.listed; draws = opaque_draws x.func opaque }) (neither (is_clipped_of x.func && not free) (not x.full) whole);
        }

    pub words_hide : {p : ℕ} → Hides items (marks_of items).unmasked p → Hiding items (marks_of items).unmasked (marks_of items).unclipped (length items) p
    words_hide {p} h =
        let x = item_at items p in
        let d : DrawAt items p = record { listed = h.listed; draws = opaque_draws x.func h.opaque } in
        record {
          listed = h.listed;
          is_unmasked = h.is_unmasked;
          hides_all = rw (h.full, h.opaque) (by (is_clipped_of x.func) refl d);
        }
      where
        by : (a : Bool) → is_clipped_of (item_at items p).func ≡ a → DrawAt items p → (not (a && not (is_free items p) || false) && true) ≡ true
        by false f d = refl
        by true f d = rw (free_rule d f, h.unclipped) refl

    pub over : (i p : ℕ) → Hiding items (marks_of items).unmasked (marks_of items).unclipped (length items) p → i < p → Over items (marks_of items).unmasked i p
    over i p h l = record { above = higher i p l h.listed; covers = hides_words h }
