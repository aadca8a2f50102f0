-- `decide_tile` meets its contract. Assumes nothing.
use Rattle.refusals.specs.declared.Refusal.{Refusal}
use Rattle.std.specs.Prelude.{◌≡◌, Result, Ok}
use Rattle.laws.proofs.Prelude.{sym, ap, ◌∙◌, Bool, List}
use Rattle.refusals.specs.Refusal.{pass, judgement_in}
use Rattle.row_statements.specs.Lent.{lent_table}
use Rattle.listing_statements.specs.Listing.{tile_list}
use Rattle.listing_statements.specs.Deciding.{DecideCall, decide_call, deciding_verdict}
use Rattle.listing_statements.proofs.Decidings.{deciding_passed, refused_by, done_by}
use Rattle.tile_deciding.proofs.decide_tile.Goals as goal
use Rattle.tile_deciding.proofs.decide_tile.Goals.{After-judge_deciding, Start}

-- what the function is called with, and the mask column that it is lent
called : Start → DecideCall
called s =
    let a = s.args in
    decide_call (tile_list a.list_ids.now a.list_covers.now a.list_flags.now) a.n (lent_table a.layers.now a.colors.now a.count) a.kept a.clear a.previous

masks : Start → List Bool
masks s = s.args.unmasked.now

-- what the judge says
told : (c : After-judge_deciding) → judgement_in c.judge_deciding.result ≡ deciding_verdict (called c.before.before.before.before.before.before.before.before.before) (masks c.before.before.before.before.before.before.before.before.before)
unfolding called masks
told c = rw (c.is_list_short.ensures, c.is_short.ensures) at c.judge_deciding.ensures

passes : (k : DecideCall) (m : List Bool) {v : Result Unit Refusal} → judgement_in v ≡ deciding_verdict k m → v ≡ (Ok tt) → deciding_verdict k m ≡ pass
passes k m t e = sym t ∙ ap judgement_in e

pub decide_tile-requires : goal.decide_tile-requires
unfolding called masks
decide_tile-requires c =
    let a = goal.at.decide_tile-requires c in
    let p = deciding_passed (called a.Start) (masks a.Start) (passes (called a.Start) (masks a.Start) (told a.After-judge_deciding) c.in-Ok.is) in
    (p.columns, p.in_table, p.masks)

pub returns-in-Err : goal.returns-in-Err
unfolding called masks
returns-in-Err c =
    let a = goal.at.returns-in-Err c in
    refused_by (called a.Start) (masks a.Start) (sym (told a.After-judge_deciding) ∙ ap judgement_in c.in-Err.is) c.refuse.ensures

pub returns-in-Ok : goal.returns-in-Ok
unfolding called masks
returns-in-Ok c =
    let a = goal.at.returns-in-Ok c in
    done_by (called a.Start) (masks a.Start) (passes (called a.Start) (masks a.Start) (told a.After-judge_deciding) c.in-Ok.is) c.done.ensures c.decide_tile.ensures
