-- A listing and a deciding in a run: what they give is what is due, and what the caller then holds is again the row's. Assumes nothing.
use Rattle.row_statements.specs.declared.TileDone.{TileDone}
use Rattle.refusals.specs.declared.Refusal.{Refusal}
use Rattle.std.specs.Prelude.{◌≡◌, ◌||◌, ◌+◌, ◌<◌, None, Result, Ok, Err}
use Rattle.laws.proofs.Prelude.{refl, ap, sym, subst, ◌∙◌, Bool, false, List, map, ℕ, suc, arith, ltb, length, take, drop}
use Rattle.laws.proofs.Prelude.{take_at, Answer, refused, given, plus, over}
use Rattle.refusals.specs.Refusal.{Judgement, pass, refuse, unless, given_or_refused}
use Rattle.refusals.proofs.Judging.{passed, or_left, or_right}
use Rattle.cached_tile.specs.Kept.{no_tile, tag_out_of_range}
use Rattle.tile_layers.specs.Listing.{Listed}
use Rattle.layer_workbench.specs.Work.{entry_of}
use Rattle.row_statements.specs.Lent.{Columns, carries_in, is_queue_short, is_list_short, queue_over}
use Rattle.row_statements.specs.State.{State, state_in, next_state}
use Rattle.row_statements.specs.TileWork.{WorkLent, TileAnswer, list_verdict, work_out, work_answer}
use Rattle.row_statements.specs.Due as due
use Rattle.row_statements.specs.Due.{OpenRow, Past, WorkChoice, table_on, queue_on, layers_on, state_on, is_not_due, work_due_verdict, says_on, past_work, past_paint, paint_due_verdict}
use Rattle.row_statements.specs.Run.{Held, SameCarries, Event}
use Rattle.row_statements.specs.Claim.{Right, past_after}
use Rattle.row_statements.specs.InnerHolding.{IsOpen, Holds}
use Rattle.row_statements.proofs.WorkSteps.{work_due_lem, past_tile}
use Rattle.row_statements.proofs.Run.{facts}
use Rattle.listing_statements.specs.Listing.{TileList, ListLent, ListGiven, entries_from, is_tile_list_short, listed_over, listing_out, listing_of, ListsTile}
use Rattle.listing_statements.specs.Deciding.{DecideGiven, deciding_out, deciding_of, DecidesTile}
use Rattle.listing_statements.specs.Succession.{lent_part}
use Rattle.listing_statements.specs.InnerLists.{ListSays}
use Rattle.listing_statements.specs.declared.TileListed.{TileListed}
use Rattle.listing_statements.specs.declared.TileDecided.{TileDecided}
use Rattle.listing_statements.proofs.AsWork.{no_color, or-false, as_lent, without_decision, out_same, listing_is}
use Rattle.styling.specs.declared.Layer.{Layer}
use Rattle.listing_statements.proofs.Lists.{decided}
use Rattle.listing_runs.specs.Due.{ListChoice, list_due_verdict, list_due, DecideChoice, nth_on, decide_due_verdict, outcome_due, decide_due}
use Rattle.listing_runs.specs.Run.{HeldList, held_with, SameEntries, list_on, decide_on, row_after, lists_after, lists_worked, lists_past}
use Rattle.listing_runs.specs.Claim.{RightListing, RightDeciding}
use Rattle.listing_runs.specs.InnerHolding.{HoldsList, HoldsLists, HoldsAll}
use Rattle.listing_runs.proofs.Lists.{masks_long, held_list}

-- ---- listing

module _ {o : OpenRow} {p : Past} {h : Held} (is_open : IsOpen o) (holds : Holds o p h) (c : ListChoice) (same : SameCarries h.state.left h.queue c.queue) where
  -- the work on a tile that keeps nothing
  abbrev as_choice : WorkChoice
  as_choice = record { tile = c.tile; kept = no_tile; clear = no_color; previous = None; queue = c.queue; lent = as_lent c.lent }

  verdict_same : work_due_verdict o p.tiles as_choice ≡ list_due_verdict o p.tiles c
  verdict_same = rw (or-false (is_tile_list_short c.lent.list))

  pub list_due_lem : listing_of (list_on o h c) c.lent ≡ list_due o p c
  list_due_lem =
      listing_is (list_on o h c) c.lent
      ∙ ap without_decision (work_due_lem is_open holds as_choice same)
      ∙ out_same c.lent (says_on o p.tiles as_choice) (state_on o p) (work_due_verdict o p.tiles as_choice)
      ∙ ap (λ (v : Judgement). listing_out v (table_on o) (layers_on o p.tiles) (queue_on o (suc p.tiles)) (state_on o p) c.lent) verdict_same

  -- what a verdict that passes tells
  record Accepted : Type 0 where
    room : is_tile_list_short c.lent.list ≡ false
    due : is_not_due o p.tiles c.tile ≡ false
    layers : list_verdict (table_on o) (layers_on o p.tiles) ≡ pass

  accepted : list_due_verdict o p.tiles c ≡ pass → Accepted
  accepted e =
      let below = list_verdict (table_on o) (layers_on o p.tiles) in
      let one = passed (is_queue_short c.lent.queue || is_tile_list_short c.lent.list) 1 (unless (is_not_due o p.tiles c.tile) 2 below) e in
      let two = passed (is_not_due o p.tiles c.tile) 2 below one.1 in
      record { room = or_right (is_queue_short c.lent.queue) (is_tile_list_short c.lent.list) one.0; due = two.0; layers = two.1 }

  -- what it leaves, by the verdict
  abbrev out : Judgement → ListGiven
  out v = listing_out v (table_on o) (layers_on o p.tiles) (queue_on o (suc p.tiles)) (state_on o p) c.lent

  module _ (e : list_due_verdict o p.tiles c ≡ pass) where
    abbrev handed : Columns
    handed = queue_over (queue_on o (suc p.tiles)) c.lent.queue

    past_row : {s : State} {k : Columns} → s ≡ next_state (state_on o p) (length (queue_on o (suc p.tiles))) → k ≡ handed → Holds o (past_work pass p) (record { state = s; queue = k; taken = c.queue })
    past_row es ek = past_tile is_open holds as_choice same (verdict_same ∙ e) es ek

    past_list : {count : ℕ} {list : TileList} → count ≡ length (layers_on o p.tiles) → list ≡ listed_over (table_on o) (layers_on o p.tiles) c.lent.list → HoldsList o p.tiles (record { tile = c.tile; count = count; list = list })
    past_list many is = held_list is_open p.tiles c.lent.list (accepted e).due (accepted e).layers (accepted e).room many is

    queue_back : {back : ListLent} → back ≡ (out pass).lent → carries_in (length (queue_on o (suc p.tiles))) back.queue ≡ queue_on o (suc p.tiles)
    unfolding listing_out
    queue_back el = ap (λ (b : ListLent). carries_in (length (queue_on o (suc p.tiles))) b.queue) el ∙ (past_row refl refl).queue.reads

    list_back : {back : ListLent} → back ≡ (out pass).lent → entries_from (length (layers_on o p.tiles)) back.list ≡ map (entry_of (table_on o)) (layers_on o p.tiles)
    unfolding listing_out
    list_back el = ap (λ (b : ListLent). entries_from (length (layers_on o p.tiles)) b.list) el ∙ (past_list refl refl).says.entries

  -- how many an answer says
  abbrev told : Answer ℕ → ℕ
  told (refused number) = 0
  told (given n) = n

  after_list : (ls : List HeldList) {s : State} {back : ListLent} (ans : Result ℕ Refusal) (v : Judgement) → list_due_verdict o p.tiles c ≡ v
      → given_or_refused ans ≡ (out v).answer → s ≡ (out v).state → back ≡ (out v).lent → HoldsLists o p.tiles ls
      → HoldsAll o (past_work v p) (held_with (row_after ans s h c.queue back) (lists_after ans c.tile back.list ls))
  unfolding listing_out
  after_list ls (Err k) (refuse n) e ea es el hl =
      record { row = record { state = es; inside = holds.inside; queue = holds.queue; taken_long = holds.taken_long; took = holds.took }; lists = hl }
  after_list ls (Err k) pass e ea es el hl = absurd (let z : ◌≡◌ {A = ℕ} 0 1 = cc in omega arith)
  after_list ls (Ok m) (refuse n) e ea es el hl = absurd (let z : ◌≡◌ {A = ℕ} 0 1 = cc in omega arith)
  after_list ls (Ok m) pass e ea es el hl =
      record { row = past_row e es (ap (λ (b : ListLent). b.queue) el); lists = (past_list e (ap told ea) (ap (λ (b : ListLent). b.list) el), hl) }

  pub right_list : (ls : List HeldList) {r : TileListed} {back : ListLent} → ListsTile (listing_of (list_on o h c) c.lent) r back → HoldsLists o p.tiles ls
      → RightListing o p c r back × HoldsAll o (past_work (list_due_verdict o p.tiles c) p) (held_with (row_after r.answer (state_in r.state) h c.queue back) (lists_after r.answer c.tile back.list ls))
  right_list ls {r} {back} g hl =
      let d : ListsTile (list_due o p c) r back = subst (λ (given_out : ListGiven). ListsTile given_out r back) list_due_lem g in
      let left : (e : list_due_verdict o p.tiles c ≡ pass) → back ≡ (out pass).lent = λ e. d.lent_is ∙ ap (λ (v : Judgement). (out v).lent) e in (
        record { gives = d; queue_read = λ e. queue_back e (left e); list_read = λ e. list_back e (left e) },
        after_list ls r.answer (list_due_verdict o p.tiles c) refl d.answer d.state d.lent_is hl,
      )

-- ---- a work leaves a list too

-- how many layers an answer says
abbrev listed_in : Answer TileAnswer → ℕ
listed_in (refused number) = 0
listed_in (given t) = t.listed

module _ {o : OpenRow} (is_open : IsOpen o) (p : Past) (c : WorkChoice) (ls : List HeldList) (hl : HoldsLists o p.tiles ls) where
  work_list : {back : WorkLent} (ans : Result TileDone Refusal) (v : Judgement) → work_due_verdict o p.tiles c ≡ v
      → work_answer ans ≡ (work_out v (says_on o p.tiles c) (state_on o p) c.kept c.lent).answer
      → back ≡ (work_out v (says_on o p.tiles c) (state_on o p) c.kept c.lent).lent
      → HoldsLists o (past_work v p).tiles (lists_worked ans c.tile (lent_part back).list ls)
  unfolding work_out
  work_list (Err k) (refuse n) e ea el = hl
  work_list (Err k) pass e ea el = absurd (let z : ◌≡◌ {A = ℕ} 0 1 = cc in omega arith)
  work_list (Ok d) (refuse n) e ea el = absurd (let z : ◌≡◌ {A = ℕ} 0 1 = cc in omega arith)
  work_list (Ok d) pass e ea el =
      let below = list_verdict (table_on o) (layers_on o p.tiles) in
      let six = unless (tag_out_of_range c.kept) 6 below in
      let one = passed (is_queue_short c.lent.queue || is_list_short c.lent.list) 1 (unless (is_not_due o p.tiles c.tile) 2 six) e in
      let two = passed (is_not_due o p.tiles c.tile) 2 six one.1 in
      let three = passed (tag_out_of_range c.kept) 6 below two.1 in
      let short = or_right (is_queue_short c.lent.queue) (is_list_short c.lent.list) one.0 in
      let room = or_left (is_tile_list_short (lent_part c.lent).list) (ltb (length c.lent.list.unmasked) 256) short in
      (held_list is_open p.tiles (lent_part c.lent).list two.0 three.1 room (ap listed_in ea) (ap (λ (b : WorkLent). (lent_part b).list) el), hl)

-- the lists after a work or a painting
pub after_event : {o : OpenRow} → IsOpen o → (p : Past) (e : Event) (ls : List HeldList) → Right o p e → HoldsLists o p.tiles ls → HoldsLists o (past_after o e p).tiles (lists_past e ls)
after_event {o} is_open p (Event.work c r back) ls right hl = work_list is_open p c ls hl r.answer (work_due_verdict o p.tiles c) refl right.gives.answer right.gives.lent_is
after_event {o} is_open p (Event.paint c r back) ls right hl = by (paint_due_verdict o p.tiles c)
  where
    by : (v : Judgement) → HoldsLists o (past_paint v o c.layer p).tiles ls
    by (refuse n) = hl
    by pass = hl
after_event is_open p (Event.other_work a lent r back) ls right hl = hl
after_event is_open p (Event.other_paint a plane r back) ls right hl = hl

-- ---- deciding

-- the memory that a caller keeps a list in says what the list says
same_says : {n : ℕ} {table : List Layer} {ls : List Listed} {a b : TileList} → SameEntries n a b → ListSays table ls n a → ListSays table ls n b
same_says same says = record { count = says.count; room = same.room ∙ says.room; ids = same.ids ∙ says.ids; entries = same.reads ∙ says.entries }

module _ {o : OpenRow} (is_open : IsOpen o) (n : ℕ) (l : HeldList) (holds : HoldsList o n l) (c : DecideChoice) (et : l.tile ≡ c.tile) (same : SameEntries l.count l.list c.list) where
  pub nth_is : nth_on o c ≡ n
  nth_is = let at : plus c.tile ≡ o.from + n = ap plus (sym et ∙ holds.tile) in omega (arith, at)

  pub decide_due_lem : deciding_of (decide_on o l c) c.unmasked ≡ decide_due o c
  decide_due_lem =
      let here : deciding_of (decide_on o l c) c.unmasked ≡ deciding_out (decide_due_verdict c) (due.outcome_on o n c.kept c.clear c.previous) (length (layers_on o n)) c.kept c.unmasked =
      decided (decide_on o l c) c.unmasked is_open.table_long is_open.in_table holds.decidable (same_says same holds.says) in
      here ∙ ap (λ (m : ℕ). deciding_out (decide_due_verdict c) (due.outcome_on o m c.kept c.clear c.previous) (length (layers_on o m)) c.kept c.unmasked) (sym nth_is)

  masks_back : {back : List Bool} (v : Judgement) → v ≡ pass → back ≡ (deciding_out v (outcome_due o c) (length (layers_on o (nth_on o c))) c.kept c.unmasked).unmasked → take (length (layers_on o (nth_on o c))) back ≡ (outcome_due o c).unmasked
  unfolding deciding_out over
  masks_back {back} v e eb =
      let us = (outcome_due o c).unmasked in
      let many = length (layers_on o (nth_on o c)) in
      ap (take many) (eb ∙ ap (λ (w : Judgement). (deciding_out w (outcome_due o c) many c.kept c.unmasked).unmasked) e)
      ∙ take_at us (drop (length us) c.unmasked) many (masks_long (table_on o) c.kept c.clear c.previous (layers_on o (nth_on o c)))

  pub right_decide : (p : Past) {r : TileDecided} {back : List Bool} → n < p.tiles → DecidesTile (deciding_of (decide_on o l c) c.unmasked) r back → RightDeciding o p c r back
  right_decide p {r} {back} before g =
      let d : DecidesTile (decide_due o c) r back = subst (λ (out : DecideGiven). DecidesTile out r back) decide_due_lem g in
      record {
        past = rw nth_is before;
        gives = d;
        unmasked_read = λ e. masks_back (decide_due_verdict c) e d.unmasked_is;
        covered = (facts is_open (nth_on o c)).covered c.kept c.clear c.previous;
      }
