-- What an accepted work says of its tile, by the whole row. Assumes nothing.
use Rattle.std.specs.Prelude.{◌≡◌, ◌||◌, ◌≤◌}
use Rattle.laws.proofs.Prelude.{refl, sym, ap, ◌∙◌, not, Bool, List, map, ℕ, suc, arith, ltb-false, length, length-map, given}
use Rattle.refusals.specs.Refusal.{Judgement, pass, refuse, unless, given_or_refused}
use Rattle.refusals.proofs.Judging.{passed}
use Rattle.cached_tile.specs.Kept.{tag_out_of_range, previous_count, counted}
use Rattle.tile_layers.specs.Listing.{is_too_many, are_known, are_light}
use Rattle.pass_statements.specs.Decide.{outcome_of}
use Rattle.pass_statements.specs.Item.{item_of}
use Rattle.layer_workbench.specs.Work.{entry_of, clear_unchanged, outcome_by_entries, kept_by}
use Rattle.row_statements.specs.Lent.{is_queue_short, is_list_short}
use Rattle.row_statements.specs.TileWork.{WorkLent, TileAnswer, list_verdict, tile_answer, work_out, work_answer}
use Rattle.row_statements.specs.declared.TileWorked.{TileWorked}
use Rattle.row_statements.specs.Due.{OpenRow, Past, at_first, table_on, queue_on, layers_on, state_on, WorkChoice, is_not_due, work_due_verdict, outcome_on, says_on}
use Rattle.row_statements.specs.Claim.{RightWork}
use Rattle.row_statements.specs.InnerHolding.{IsOpen}
use Rattle.row_statements.proofs.Run.{accepted, is_open}
use Rattle.listing_statements.specs.Listing.{ListLent, is_tile_list_short, listing_out}
use Rattle.listing_statements.specs.Deciding.{DecideSays, decide_answer, deciding_out}
use Rattle.listing_statements.specs.declared.TileListed.{TileListed}
use Rattle.listing_statements.specs.declared.TileDecided.{TileDecided}
use Rattle.listing_runs.specs.Due.{ListChoice, list_due_verdict, DecideChoice, nth_on, decide_due_verdict, outcome_due}
use Rattle.listing_runs.specs.Run.{RowCall}
use Rattle.listing_runs.specs.Claim.{RightListing, RightDeciding, AllCallsRight}
use Rattle.listing_runs.proofs.Run.{run}
use Rattle.two_rows.proofs.Apart.{made_right}
use Rattle.kept_rows.specs.Shown.{items_for}
use Rattle.kept_rows.specs.History.{TileDone, DoneIn, AcceptedWork, open_on, worked_of}

-- no more than 256 layers are listed
few_listed : (o : OpenRow) (n : ℕ) (c : WorkChoice) → work_due_verdict o n c ≡ pass → length (layers_on o n) ≤ 256
unfolding list_verdict
few_listed o n c e =
    let ls = layers_on o n in
    let ninth = unless (not (are_light ls)) 9 pass in
    let eighth = unless (not (are_known (table_on o) ls)) 8 ninth in
    let seventh = unless (is_too_many ls) 7 eighth in
    let sixth = unless (tag_out_of_range c.kept) 6 seventh in
    let second = unless (is_not_due o n c.tile) 2 sixth in
    let one = passed (is_queue_short c.lent.queue || is_list_short c.lent.list) 1 second e in
    let two = passed (is_not_due o n c.tile) 2 sixth one.1 in
    let six = passed (tag_out_of_range c.kept) 6 seventh two.1 in
    let seven = passed (is_too_many ls) 7 eighth six.1 in
    ltb-false 256 (length ls) seven.0

few_in_list : (o : OpenRow) (n : ℕ) (c : ListChoice) → list_due_verdict o n c ≡ pass → length (layers_on o n) ≤ 256
unfolding list_verdict
few_in_list o n c e =
    let ls = layers_on o n in
    let ninth = unless (not (are_light ls)) 9 pass in
    let eighth = unless (not (are_known (table_on o) ls)) 8 ninth in
    let seventh = unless (is_too_many ls) 7 eighth in
    let second = unless (is_not_due o n c.tile) 2 seventh in
    let one = passed (is_queue_short c.lent.queue || is_tile_list_short c.lent.list) 1 second e in
    let two = passed (is_not_due o n c.tile) 2 seventh one.1 in
    let seven = passed (is_too_many ls) 7 eighth two.1 in
    ltb-false 256 (length ls) seven.0

pub record SaidOf (o : OpenRow) (d : TileDone) : Type 0 where
  pub decision : d.decision ≡ (outcome_on o d.place d.before d.clear d.previous).decision
  pub kept_is : d.after ≡ kept_by d.decision (counted d.before (length (layers_on o d.place)))
  pub few : length (layers_on o d.place) ≤ 256

module _ (o : OpenRow) where
  by_work : {p : Past} {c : WorkChoice} {r : TileWorked} {back : WorkLent} {t : TileAnswer} → RightWork o p c r back → work_answer r.answer ≡ given t
      → SaidOf o (record { place = p.tiles; before = c.kept; clear = c.clear; previous = c.previous; after = r.kept; decision = t.decision })
  unfolding work_out
  by_work {p} {c} {r} {back} {t} right a = by (work_due_verdict o p.tiles c) refl (sym a ∙ right.gives.answer) right.gives.kept
    where
      by : (v : Judgement) → work_due_verdict o p.tiles c ≡ v → given t ≡ (work_out v (says_on o p.tiles c) (state_on o p) c.kept c.lent).answer
          → r.kept ≡ (work_out v (says_on o p.tiles c) (state_on o p) c.kept c.lent).kept
          → SaidOf o (record { place = p.tiles; before = c.kept; clear = c.clear; previous = c.previous; after = r.kept; decision = t.decision })
      by (refuse m) e g k = absurd (let z : ◌≡◌ {A = ℕ} 0 1 = cc in omega arith)
      by pass e g k =
          let told : t ≡ tile_answer (says_on o p.tiles c) = cc in
          let decided = ap (λ (x : TileAnswer). x.decision) told in
          record {
            decision = decided;
            kept_is = k ∙ ap (λ d. kept_by d (counted c.kept (length (layers_on o p.tiles)))) (sym decided);
            few = few_listed o p.tiles c e;
          }

  few_by_list : {p : Past} {c : ListChoice} {r : TileListed} {back : ListLent} {n : ℕ} → RightListing o p c r back → given_or_refused r.answer ≡ given n
      → length (layers_on o p.tiles) ≤ 256
  unfolding listing_out
  few_by_list {p} {c} {r} {back} {n} right a = by (list_due_verdict o p.tiles c) refl (sym a ∙ right.gives.answer)
    where
      by : (v : Judgement) → list_due_verdict o p.tiles c ≡ v
          → given n ≡ (listing_out v (table_on o) (layers_on o p.tiles) (queue_on o (suc p.tiles)) (state_on o p) c.lent).answer
          → length (layers_on o p.tiles) ≤ 256
      by (refuse m) e g = absurd (let z : ◌≡◌ {A = ℕ} 0 1 = cc in omega arith)
      by pass e g = few_in_list o p.tiles c e

  by_deciding : {m : ℕ} {q : Past} {c : DecideChoice} {s : TileDecided} {masks : List Bool} {t : DecideSays} → RightDeciding o q c s masks
      → decide_answer s.answer ≡ given t
      → nth_on o c ≡ m → length (layers_on o m) ≤ 256
      → SaidOf o (record { place = m; before = c.kept; clear = c.clear; previous = c.previous; after = s.kept; decision = t.decision })
  unfolding deciding_out
  by_deciding {m} {q} {c} {s} {masks} {t} right a same few = by (decide_due_verdict c) (sym a ∙ right.gives.answer) right.gives.kept
    where
      by : (v : Judgement) → given t ≡ (deciding_out v (outcome_due o c) (length (layers_on o (nth_on o c))) c.kept c.unmasked).answer
          → s.kept ≡ (deciding_out v (outcome_due o c) (length (layers_on o (nth_on o c))) c.kept c.unmasked).kept
          → SaidOf o (record { place = m; before = c.kept; clear = c.clear; previous = c.previous; after = s.kept; decision = t.decision })
      by (refuse m) g k = absurd (let z : ◌≡◌ {A = ℕ} 0 1 = cc in omega arith)
      by pass g k =
          let told : t ≡ record { decision = (outcome_due o c).decision; skipped = (outcome_due o c).skipped } = cc in
          let decided = ap (λ (x : DecideSays). x.decision) told in
          record {
            decision = decided ∙ ap (λ (n : ℕ). (outcome_on o n c.kept c.clear c.previous).decision) same;
            kept_is = k ∙ ap (λ d. kept_by d (counted c.kept (length (layers_on o (nth_on o c))))) (sym decided) ∙ ap (λ (n : ℕ). kept_by t.decision (counted c.kept (length (layers_on o n)))) same;
            few = few;
          }

  said_of : (es : List RowCall) (d : TileDone) → AllCallsRight o at_first es → DoneIn o es d → SaidOf o d
  said_of es d all (DoneIn.work m a) = by_work (made_right all m) a
  said_of es d all (DoneIn.decide l a m b same) = by_deciding (made_right all m) b same (few_by_list (made_right all l) a)

module _ (a : AcceptedWork) where
  pub row_open : IsOpen (open_on a)
  row_open = is_open a.call a.lent a.back a.state a.words (accepted a.call a.lent a.back a.state a.opens)

  pub said : SaidOf (open_on a) a.done
  said = said_of (open_on a) a.calls a.done (run a.call a.lent a.back a.state a.calls a.held a.words a.opens a.run).1 a.made

  -- in the words of the passes
  pub decided_by : a.done.decision ≡ (outcome_of a.done.clear (clear_unchanged a.done.previous a.done.clear) (previous_count a.done.before) (items_for (worked_of a))).decision
  unfolding outcome_by_entries
  decided_by = said.decision

  pub items_long : length (items_for (worked_of a)) ≡ length (layers_on (open_on a) a.done.place)
  items_long =
      let table = table_on (open_on a) in
      let ls = layers_on (open_on a) a.done.place in
      length-map (map (entry_of table) ls) (item_of table) ∙ length-map ls (entry_of table)
