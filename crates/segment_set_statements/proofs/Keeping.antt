-- The sets that were begun and edited are kept. Assumes nothing.
use Rattle.std.specs.Prelude.{◌≡◌, ◌∷◌, ◌++◌, ◌+◌, ◌-◌, ◌≤◌, ◌<◌, ◌+ℤ◌, ◌-ℤ◌}
use Rattle.laws.proofs.Prelude.{refl, sym, ap, ◌∙◌, Bool, true, false, cond, not, List, [], ⊎_elim, ℕ, zero, suc}
use Rattle.laws.proofs.Prelude.{min, add-one, arith, ltb-true, ltb-false, leb-false, not-false, eqb, leb, ltb, ℤ, length, get_or, take, set}
use Rattle.laws.proofs.Prelude.{length-set, length-take, take-suc, take_all, get_or-take, length-take-le, over, all, count_by, both, right, eq_or_ne}
use Rattle.laws.proofs.Prelude.{le_or_lt, length_over, sum_append}
use lib.Seq.{take-suc-set, take-set-le, take-set-lt, take-take}
use Rattle.refusals.specs.Refusal.{Judgement, pass, refuse, unless}
use Rattle.refusals.proofs.Judging.{passed}
use Rattle.pixel_segment.specs.Field.{cpu, local_y_of}
use Rattle.cover_statements.specs.Area.{areas_of}
use Rattle.cover_statements.specs.Carry.{abs_cover, is_light}
use Rattle.cover_statements.specs.Cover.{cover_at}
use Rattle.cover_statements.specs.InnerWeighed.{InRange}
use Rattle.cover_statements.proofs.Planes.{areas_length, areas_in_range}
use Rattle.segment_set_statements.specs.Effect.{areas_after, carry_after, loads_after}
use Rattle.segment_set_statements.specs.Set.{SetState, state, Beginning, nothing, fresh_state, held_of, is_here, is_word_held, held_place, take_verdict, taken_in, let_verdict, let_out, settled}
use Rattle.segment_set_statements.specs.Kept.{Kept, SameWords, Holds}
use Rattle.segment_set_statements.specs.Edits.{Edits, Relent, accepted}
use Rattle.segment_set_statements.specs.Edits.Edits.{begun, taken, let_out_step, relent}
use Rattle.segment_set_statements.proofs.Begins.{Begun, begin_passed, take_over, same_snoc}
use Rattle.segment_set_statements.proofs.Places.{held_by_place, place_holds}
use Rattle.segment_set_statements.proofs.Sames.{same_sym, same_all, same_length, same_areas, same_carry, same_loads}
use Rattle.segment_set_statements.proofs.Steps.{areas_taken, areas_let, carry_taken, carry_let, loads_taken, loads_let}
use Rattle.segment_set_statements.proofs.Steps.{light_taken, light_let, same_light}

-- ---- the lines of a verdict that passes

three : (a b c : Bool) (i j k : ℕ) → unless a i (unless b j (unless c k pass)) ≡ pass → (a ≡ false) × (b ≡ false) × (c ≡ false)
three a b c i j k e =
    let p = passed a i (unless b j (unless c k pass)) e in
    let q = passed b j (unless c k pass) p.1 in
    let r = passed c k pass q.1 in
    (p.0, q.0, r.0)

four : (a b c d : Bool) (i j k l : ℕ) → unless a i (unless b j (unless c k (unless d l pass))) ≡ pass → (a ≡ false) × (b ≡ false) × (c ≡ false) × (d ≡ false)
four a b c d i j k l e =
    let p = passed a i (unless b j (unless c k (unless d l pass))) e in
    let q = three b c d j k l p.1 in
    (p.0, q.0, q.1, q.2)

-- ---- how many words are held

held_length : (s : SetState) → length (held_of s) ≡ min s.set.count (length s.slots)
unfolding held_of
held_length s = length-take s.set.count s.slots

pub count_held : {incoming : List ℤ} {s : SetState} → Kept incoming s → length (held_of s) ≡ s.set.count
count_held {s = s} k = omega (arith, k.within, held_length s)

-- ---- begun

pub kept_begun : (b : Beginning) (slots : List ℕ) (areas : List ℤ) → Begun b slots areas → Kept b.incoming (fresh_state b slots areas)
unfolding held_of
kept_begun b slots areas p =
    let d = areas_of cpu 16 (cover_at b.incoming) b.part in
    let long = areas_length cpu 16 (cover_at b.incoming) b.part in
    let held : take (length b.part) (over b.part slots) ≡ b.part = take_over b.part slots (length b.part) refl in
    record {
      room = omega (arith, p.room, long, length_over areas d (omega (arith, p.room, long)));
      within = omega (arith, p.free, length_over slots b.part p.free);
      here = rw held p.here;
      light = rw held p.light;
      areas_are = rw held (take_over d areas 256 long);
      carry_is = rw held;
      loads_are = rw held;
    }

-- ---- taken in

pub record Takes (s : SetState) (w : ℕ) : Type 0 where
  pub room : 256 ≤ length s.areas
  pub here : is_here s.set w ≡ true
  pub small : get_or s.set.loads (local_y_of cpu w) 0 + abs_cover cpu w ≤ 127
  pub free : s.set.count < length s.slots

pub take_passed : (s : SetState) (w : ℕ) → take_verdict s w ≡ pass → Takes s w
unfolding take_verdict
take_passed s w e =
    let load = get_or s.set.loads (local_y_of cpu w) 0 + abs_cover cpu w in
    let p = four (ltb (length s.areas) 256) (not (is_here s.set w)) (ltb 127 load) (leb (length s.slots) s.set.count) 1 3 9 13 e in
    record {
      room = ltb-false (length s.areas) 256 p.0;
      here = not-false (is_here s.set w) p.1;
      small = ltb-false 127 load p.2;
      free = leb-false (length s.slots) s.set.count p.3;
    }

-- the held words, with one more at the end
pub held_taken : (s : SetState) (w : ℕ) → s.set.count < length s.slots → held_of (taken_in s w) ≡ held_of s ++ (w ∷ [])
unfolding held_of
held_taken s w h = rw (add-one s.set.count) (take-suc-set s.slots s.set.count w h)

pub same_taken : (s : SetState) (w : ℕ) → Takes s w → SameWords (held_of (taken_in s w)) (w ∷ held_of s)
same_taken s w t = rw (held_taken s w t.free) (same_snoc w (held_of s))

module _ {incoming : List ℤ} {s : SetState} (k : Kept incoming s) where
  front_length : length (areas_of cpu 16 (cover_at incoming) (held_of s)) ≡ 256
  front_length = areas_length cpu 16 (cover_at incoming) (held_of s)

  -- d of another list of words, written over
  written : (held : List ℕ) → (256 ≤ length (over (areas_of cpu 16 (cover_at incoming) held) s.areas)) × (take 256 (over (areas_of cpu 16 (cover_at incoming) held) s.areas) ≡ areas_of cpu 16 (cover_at incoming) held)
  written held =
      let long = areas_length cpu 16 (cover_at incoming) held in (
        omega (arith, k.room, long, length_over s.areas (areas_of cpu 16 (cover_at incoming) held) (omega (arith, k.room, long))),
        take_over (areas_of cpu 16 (cover_at incoming) held) s.areas 256 long,
      )

  module _ (w : ℕ) (t : Takes s w) where
    lit : is_light cpu 16 incoming (held_of (taken_in s w)) ≡ true
    lit = light_taken incoming w (same_taken s w t) k.light (rw k.loads_are at t.small)

    pub new_areas : areas_after ◌+ℤ◌ cpu 16 w s.areas ≡ over (areas_of cpu 16 (cover_at incoming) (held_of (taken_in s w))) s.areas
    new_areas = areas_taken incoming w (same_taken s w t) lit s.areas k.areas_are

    pub kept_taken : Kept incoming (taken_in s w)
    kept_taken =
        let held = held_of (taken_in s w) in
        record {
          room = rw new_areas (written held).0;
          within = omega (arith, t.free, length-set s.slots s.set.count w);
          here = same_all (is_here s.set) (same_sym (same_taken s w t)) (both (is_here s.set w) (all (is_here s.set) (held_of s)) t.here k.here);
          light = lit;
          areas_are = ap (take 256) new_areas ∙ (written held).1;
          carry_is = ap (carry_after ◌+ℤ◌ cpu w) k.carry_is ∙ carry_taken incoming w (same_taken s w t) lit;
          loads_are = ap (loads_after ◌+◌ cpu w) k.loads_are ∙ loads_taken incoming w (same_taken s w t);
        }

-- ---- let out

pub record Lets (s : SetState) (w : ℕ) : Type 0 where
  pub room : 256 ≤ length s.areas
  pub held : is_word_held w (held_of s) ≡ true

pub let_passed : (s : SetState) (w : ℕ) → let_verdict s w ≡ pass → Lets s w
unfolding let_verdict
let_passed s w e =
    let p = three (ltb (length s.areas) 256) (not (is_here s.set w)) (not (is_word_held w (held_of s))) 1 3 12 e in
    record { room = ltb-false (length s.areas) 256 p.0; held = not-false (is_word_held w (held_of s)) p.2 }

-- a word of a list replaced
count_set : (v z : ℕ) (l : List ℕ) (p : ℕ) → p < length l → count_by (eqb v) (set l p z) + cond (eqb v (get_or l p 0)) 1 0 ≡ count_by (eqb v) l + cond (eqb v z) 1 0
count_set v z [] p h = absurd (omega arith)
count_set v z (x ∷ l) zero h = omega arith
count_set v z (x ∷ l) (suc p) h = omega (arith, count_set v z l p (omega arith))

-- the last word put into the place of another: all words but that one
module _ (l : List ℕ) (m p : ℕ) (e : length l ≡ m + 1) (h : p < m + 1) where
  total : (v : ℕ) → count_by (eqb v) l ≡ count_by (eqb v) (take m l) + cond (eqb v (get_or l m 0)) 1 0
  total v =
      let parts : l ≡ take m l ++ (get_or l m 0 ∷ []) = sym (take_all (suc m) l (omega arith)) ∙ take-suc l m 0 (omega arith) in
      let s = sum_append ◌+◌ 0 (λ n. omega arith) (λ a b c. omega arith) (eqb v) (λ u. 1) (take m l) (get_or l m 0 ∷ []) in
      ap (count_by (eqb v)) parts ∙ omega (arith, s)

  moved : (v : ℕ) → count_by (eqb v) l ≡ cond (eqb v (get_or l p 0)) 1 0 + count_by (eqb v) (take m (set l p (get_or l m 0)))
  moved v =
      ⊎_elim
      (λ (q : p ≡ m).
      rw (q, take-set-le m l m (get_or l m 0) (omega arith)) (omega (arith, total v)))
      (λ (q : p ≡ m → ⊥).
      let low : p < m = ⊎_elim (λ (a : m ≤ p). absurd (q (omega arith))) (λ (a : p < m). a) (le_or_lt m p) in
      let c = count_set v (get_or l m 0) (take m l) p (omega (arith, length-take-le m l (omega arith))) in
      rw (take-set-lt m l p (get_or l m 0) low)
      (omega (arith, total v, rw (get_or-take m l p 0 low) at c)))
      (eq_or_ne p m)

-- the held words without one
module _ (s : SetState) (w : ℕ) (h : is_word_held w (held_of s) ≡ true) where
  place_low : held_place w (held_of s) < length (held_of s)
  place_low = ltb-true (held_place w (held_of s)) (length (held_of s)) (sym (held_by_place w (held_of s)) ∙ h)

  pub same_let : SameWords (held_of s) (w ∷ held_of (let_out s w))
  unfolding held_of
  same_let =
      let count = s.set.count in
      let slots = s.slots in
      let l = take count slots in
      let p = held_place w l in
      let m = length l - 1 in
      let low : p < length l = place_low in
      let most : length l ≤ count = omega (arith, length-take count slots) in
      let at_last : get_or l m 0 ≡ get_or slots m 0 = get_or-take count slots m 0 (omega arith) in
      let word : get_or l p 0 ≡ w = place_holds w l low in
      let rest : take m (set l p (get_or l m 0)) ≡ take m (set slots p (get_or slots m 0)) =
      rw at_last (ap (take m) (sym (take-set-lt count slots p (get_or slots m 0) (omega arith))) ∙ take-take m count (set slots p (get_or slots m 0)) (omega arith)) in
      record { at = λ v. rw (rest, word) at (moved l m p (omega arith) (omega arith) v) }

  module _ {incoming : List ℤ} (k : Kept incoming s) where
    lit_let : is_light cpu 16 incoming (held_of (let_out s w)) ≡ true
    lit_let = light_let incoming w same_let k.light

    pub areas_without : areas_after ◌-ℤ◌ cpu 16 w s.areas ≡ over (areas_of cpu 16 (cover_at incoming) (held_of (let_out s w))) s.areas
    areas_without = areas_let incoming w same_let lit_let s.areas k.areas_are

    pub kept_let : Kept incoming (let_out s w)
    unfolding held_of
    kept_let =
        let held = held_of (let_out s w) in
        let last = length (held_of s) - 1 in
        record {
          room = rw areas_without (written k held).0;
          within = omega (arith, length-take s.set.count s.slots, length-set s.slots (held_place w (held_of s)) (get_or s.slots last 0));
          here = right (is_here s.set w) (all (is_here s.set) held) (same_all (is_here s.set) same_let k.here);
          light = lit_let;
          areas_are = ap (take 256) areas_without ∙ (written k held).1;
          carry_is = ap (carry_after ◌-ℤ◌ cpu w) k.carry_is ∙ carry_let incoming w same_let lit_let;
          loads_are = ap (loads_after ◌-◌ cpu w) k.loads_are ∙ loads_let incoming w same_let;
        }

-- ---- other slots, another d

same_relent : (s : SetState) (slots : List ℕ) (areas : List ℤ) → Relent s slots areas → SameWords (held_of (state s.set slots areas)) (held_of s)
unfolding held_of
same_relent s slots areas r = r.words

kept_relent : {incoming : List ℤ} {s : SetState} → Kept incoming s → (slots : List ℕ) (areas : List ℤ) → Relent s slots areas →
    Kept incoming (state s.set slots areas)
kept_relent {incoming} {s} k slots areas r =
    let same = same_relent s slots areas r in
    let d = r.areas_are ∙ k.areas_are in
    record {
      room = omega (arith, ap length d, length-take 256 areas, areas_length cpu 16 (cover_at incoming) (held_of s));
      within = omega (arith, k.within, same_length r.words, held_length s, length-take s.set.count slots);
      here = same_all (is_here s.set) (same_sym same) k.here;
      light = same_light incoming (same_sym same) k.light;
      areas_are = d ∙ sym (same_areas cpu same 16 (cover_at incoming));
      carry_is = k.carry_is ∙ sym (same_carry cpu same 16 incoming);
      loads_are = k.loads_are ∙ sym (same_loads cpu same 16 incoming);
    }

-- ---- any list of edits

step_in : {b : Beginning} {ins outs : List ℕ} {s : SetState} (w : ℕ) (j : Judgement) → take_verdict s w ≡ j → Holds b ins outs s →
    Holds b (accepted j w ins) outs (settled j (taken_in s w) s)
step_in {s = s} w pass e h =
    let t = take_passed s w e in
    record {
      kept = kept_taken h.kept w t;
      layer_is = h.layer_is;
      tile_x_is = h.tile_x_is;
      tile_y_is = h.tile_y_is;
      words = λ v. omega (arith, h.words v, (same_taken s w t).at v);
    }
step_in w (refuse n) e h = h

step_out : {b : Beginning} {ins outs : List ℕ} {s : SetState} (w : ℕ) (j : Judgement) → let_verdict s w ≡ j → Holds b ins outs s →
    Holds b ins (accepted j w outs) (settled j (let_out s w) s)
step_out {s = s} w pass e h =
    let t = (let_passed s w e).held in
    record {
      kept = kept_let s w t h.kept;
      layer_is = h.layer_is;
      tile_x_is = h.tile_x_is;
      tile_y_is = h.tile_y_is;
      words = λ v. omega (arith, h.words v, (same_let s w t).at v);
    }
step_out w (refuse n) e h = h

step_lent : {b : Beginning} {ins outs : List ℕ} {s : SetState} (slots : List ℕ) (areas : List ℤ) → Relent s slots areas → Holds b ins outs s →
    Holds b ins outs (state s.set slots areas)
step_lent {s = s} slots areas r h =
    record {
      kept = kept_relent h.kept slots areas r;
      layer_is = h.layer_is;
      tile_x_is = h.tile_x_is;
      tile_y_is = h.tile_y_is;
      words = λ v. omega (arith, h.words v, (same_relent s slots areas r).at v);
    }

-- W-207: after any edits, refused ones included, all of the set equals a fresh working of its held words
pub kept : {b : Beginning} {ins outs : List ℕ} {s : SetState} → Edits b ins outs s → Holds b ins outs s
unfolding held_of
kept {b} (begun lentSlots lentAreas e g) =
    let p = begin_passed e in
    let is = g.leaves ∙ ap (λ (j : Judgement). settled j (fresh_state b lentSlots lentAreas) (state nothing lentSlots lentAreas)) e in
    rw is
    (record {
      kept = kept_begun b lentSlots lentAreas p;
      layer_is = refl;
      tile_x_is = refl;
      tile_y_is = refl;
      words = λ v. rw (take_over b.part lentSlots (length b.part) refl) (omega arith);
    })
kept (taken {s = s} w h g) = rw g.leaves (step_in w (take_verdict s w) refl (kept h))
kept (let_out_step {s = s} w h g) = rw g.leaves (step_out w (let_verdict s w) refl (kept h))
kept (relent slots areas h r) = step_lent slots areas r (kept h)

-- on a kept set |d| is at most 8,001, so nothing is wrapped
pub small : {incoming : List ℤ} {s : SetState} → Kept incoming s → InRange (take 256 s.areas)
small {incoming} {s} k = areas_in_range cpu 16 incoming (held_of s) refl k.light k.areas_are
