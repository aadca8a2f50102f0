-- Any list of calls by numbers is that of edits. Assumes nothing.
use Rattle.std.specs.Prelude.{◌≡◌, ◌∷◌, ◌+◌, Result, Ok, Err}
use Rattle.laws.proofs.Prelude.{refl, sym, ap, subst, ◌∙◌, Bool, true, false, not, List, ℕ, zero, suc, arith, leb, ltb, ℤ, length}
use Rattle.laws.proofs.Prelude.{get_or, le-ltb, all}
use Rattle.refusals.specs.Refusal.{Judgement, pass, refuse, unless, number_of, judgement_in}
use Rattle.refusals.specs.declared.Refusal.{Refusal}
use Rattle.refusals.specs.declared.Refusal.TheVariants.{Room, Row, Covers, NotHeld, Slots}
use Rattle.pixel_segment.specs.Field.{cpu, local_y_of}
use Rattle.cover_statements.specs.Carry.{abs_cover, is_light}
use Rattle.segment_set_statements.specs.Set.{SetState, state, held_of, is_of, is_here, is_word_held, Beginning, nothing, beginning, begin_verdict, fresh_state}
use Rattle.segment_set_statements.specs.Set.{take_verdict, taken_in, let_verdict, let_out, settled}
use Rattle.segment_set_statements.specs.Kept.{Holds}
use Rattle.segment_set_statements.specs.Edits as e
use Rattle.segment_set_statements.specs.Edits.{Edits, accepted}
use Rattle.segment_set_statements.proofs.Keeping.{kept}
use Rattle.segment_set_statements.proofs.Alikes.{taken_as_begun}
use Rattle.ffi_numbers.specs.Numbers.{judged_number}
use Rattle.ffi_sets.specs.Sets.{SetLent, set_lent, state_from, edited_numbers, begun_lent}
use Rattle.ffi_sets.specs.SetCalls.{accepted_by, SetCalls, place_of, take_due, let_due, SetCallsClaim}
use Rattle.ffi_sets.specs.SetCalls.SetCalls.{begun, taken, let_out_step, relent}

-- ---- judgements that the code can say, and what their numbers tell

record Said (j : Judgement) : Type 0 where
  verdict : Result Unit Refusal
  is : judgement_in verdict ≡ j
  zeroth : judged_number j ≡ 0 → j ≡ pass

said_pass : Said pass
said_pass = record { verdict = (Ok tt); is = refl; zeroth = λ e. refl }

said_unless : (t : Bool) (r : Refusal) → (number_of r ≡ 0 → ⊥) → {below : Judgement} → Said below → Said (unless t (number_of r) below)
said_unless true r n s = record { verdict = Err r; is = refl; zeroth = λ e. absurd (n e) }
said_unless false r n s = s

-- the table of beginning and of taking in
said_four : (a b c d : Bool) → Said (unless a 1 (unless b 3 (unless c 9 (unless d 13 pass))))
said_four a b c d =
    said_unless a Room (λ e. omega arith)
    (said_unless b Row (λ e. omega arith) (said_unless c Covers (λ e. omega arith) (said_unless d Slots (λ e. omega arith) said_pass)))

said_begin : (b : Beginning) (slots : List ℕ) (areas : List ℤ) → Said (begin_verdict b slots areas)
unfolding begin_verdict
said_begin b slots areas =
    said_four (ltb (length areas) 256) (not (all (is_of b.layer b.tile_x b.tile_y) b.part)) (not (is_light cpu 16 b.incoming b.part))
    (ltb (length slots) (length b.part))

said_take : (s : SetState) (w : ℕ) → Said (take_verdict s w)
unfolding take_verdict
said_take s w =
    said_four (ltb (length s.areas) 256) (not (is_here s.set w)) (ltb 127 (get_or s.set.loads (local_y_of cpu w) 0 + abs_cover cpu w))
    (leb (length s.slots) s.set.count)

said_let : (s : SetState) (w : ℕ) → Said (let_verdict s w)
unfolding let_verdict
said_let s w =
    said_unless (ltb (length s.areas) 256) Room (λ e. omega arith)
    (said_unless (not (is_here s.set w)) Row (λ e. omega arith)
    (said_unless (not (is_word_held w (held_of s))) NotHeld (λ e. omega arith) said_pass))

accepted_by_lem : (j : Judgement) → Said j → (w : ℕ) (ws : List ℕ) → accepted_by (judged_number j) w ws ≡ accepted j w ws
accepted_by_lem pass s w ws = refl
accepted_by_lem (refuse zero) s w ws = let e = s.zeroth refl in absurd (let z : ◌≡◌ {A = ℕ} 0 1 = cc in omega arith)
accepted_by_lem (refuse (suc n)) s w ws = refl

-- ---- the state that is read of the memory after a call is the one after the edit

begun_state : (b : Beginning) (old : SetLent) (v : Judgement) → v ≡ pass →
    state_from (begun_lent v (settled v (fresh_state b old.slots old.areas) (state nothing old.slots old.areas)) old)
    ≡ settled v (fresh_state b old.slots old.areas) (state nothing old.slots old.areas)
begun_state b old pass e = refl
begun_state b old (refuse n) e = absurd (let z : ◌≡◌ {A = ℕ} 0 1 = cc in omega arith)

begun_place : (b : Beginning) (old : SetLent) (v : Judgement) → v ≡ pass →
    (begun_lent v (settled v (fresh_state b old.slots old.areas) (state nothing old.slots old.areas)) old).place ≡ place_of b
begun_place b old pass e = refl
begun_place b old (refuse n) e = absurd (let z : ◌≡◌ {A = ℕ} 0 1 = cc in omega arith)

module _ (k : SetLent) (w : ℕ) where
  lent_after : Judgement → SetState → SetLent
  lent_after v after = set_lent k.place (edited_numbers v after.set k.numbers) after.slots after.areas

  taken_state : (v : Judgement) → state_from (lent_after v (settled v (taken_in (state_from k) w) (state_from k))) ≡ settled v (taken_in (state_from k) w) (state_from k)
  unfolding lent_after
  taken_state pass = refl
  taken_state (refuse n) = refl

  let_state : (v : Judgement) → state_from (lent_after v (settled v (let_out (state_from k) w) (state_from k))) ≡ settled v (let_out (state_from k) w) (state_from k)
  unfolding lent_after
  let_state pass = refl
  let_state (refuse n) = refl

-- ---- any list of calls

module _ {b : Beginning} where
  edits : {ins outs : List ℕ} {k : SetLent} → SetCalls b ins outs k → Edits b ins outs (state_from k)
  unfolding lent_after
  edits (begun old {new} t) =
      let v = begin_verdict b old.slots old.areas in
      let s = said_begin b old.slots old.areas in
      let p = s.zeroth (sym t.number) in
      e.Edits.begun old.slots old.areas {slots = new.slots} {areas = new.areas} {r = record { verdict = s.verdict; set = (state_from new).set }} p
      (record { answer = s.is; leaves = ap state_from t.lent_is ∙ begun_state b old v p })
  edits (taken {ins} {outs} {k} w {r} {new} h t) =
      let v = take_verdict (state_from k) w in
      let s = said_take (state_from k) w in
      let is : accepted_by r w ins ≡ accepted v w ins = ap (λ (n : ℕ). accepted_by n w ins) t.number ∙ accepted_by_lem v s w ins in
      subst (λ (l : List ℕ). Edits b l outs (state_from new)) (sym is)
      (e.Edits.taken w {slots = new.slots} {areas = new.areas} {r = record { verdict = s.verdict; set = (state_from new).set }} (edits h)
      (record { answer = s.is; leaves = ap state_from t.lent_is ∙ taken_state k w v }))
  edits (let_out_step {ins} {outs} {k} w {r} {new} h t) =
      let v = let_verdict (state_from k) w in
      let s = said_let (state_from k) w in
      let is : accepted_by r w outs ≡ accepted v w outs = ap (λ (n : ℕ). accepted_by n w outs) t.number ∙ accepted_by_lem v s w outs in
      subst (λ (l : List ℕ). Edits b ins l (state_from new)) (sym is)
      (e.Edits.let_out_step w {slots = new.slots} {areas = new.areas} {r = record { verdict = s.verdict; set = (state_from new).set }} (edits h)
      (record { answer = s.is; leaves = ap state_from t.lent_is ∙ let_state k w v }))
  edits (relent slots areas h r) = e.Edits.relent slots areas (edits h) r

  placed : {ins outs : List ℕ} {k : SetLent} → SetCalls b ins outs k → k.place ≡ place_of b
  placed (begun old t) =
      let p = (said_begin b old.slots old.areas).zeroth (sym t.number) in
      ap (λ (k : SetLent). k.place) t.lent_is ∙ begun_place b old (begin_verdict b old.slots old.areas) p
  placed (taken w h t) = ap (λ (k : SetLent). k.place) t.lent_is ∙ placed h
  placed (let_out_step w h t) = ap (λ (k : SetLent). k.place) t.lent_is ∙ placed h
  placed (relent slots areas h r) = placed h

-- ---- what is due of the next call

module _ (b : Beginning) (k : SetLent) {ins outs : List ℕ} (h : Holds b ins outs (state_from k)) (w : ℕ) where
  take_due_lem : take_verdict (state_from k) w ≡ take_due b k w
  take_due_lem =
      taken_as_begun h.kept w
      ∙ λ i. begin_verdict (beginning (h.layer_is i) (h.tile_x_is i) (h.tile_y_is i) b.incoming (w ∷ held_of (state_from k))) k.slots k.areas

  let_due_lem : let_verdict (state_from k) w ≡ let_due b k w
  unfolding let_verdict
  let_due_lem =
      let long = le-ltb (length k.areas) 256 h.kept.room in
      λ i.
      unless (long i) 1
      (unless (not (is_of (h.layer_is i) (h.tile_x_is i) (h.tile_y_is i) w)) 3
      (unless (not (is_word_held w (held_of (state_from k)))) 12
      pass))

pub set_calls : SetCallsClaim
set_calls b ins outs k c =
    let h = kept (edits c) in
    record {
      edits = edits c;
      holds = h;
      place_is = placed c;
      taking = λ w r new t. t.number ∙ ap judged_number (take_due_lem b k h w);
      letting = λ w r new t. t.number ∙ ap judged_number (let_due_lem b k h w);
    }
