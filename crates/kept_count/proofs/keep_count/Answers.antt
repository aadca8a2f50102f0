-- `keep_count` meets its contract. Assumes nothing.
use Rattle.std.specs.Prelude.{◌≡◌}
use Rattle.laws.proofs.Prelude.{sym, ap, ◌∙◌}
use Rattle.refusals.specs.Refusal.{pass, judgement_in}
use Rattle.kept_count.specs.Keeping.{lent_members, keep_verdict}
use Rattle.kept_count.proofs.Verdicts.{keep_passed, refused_by, done_by}
use Rattle.kept_count.proofs.keep_count.Goals as goal

pub stay-requires : goal.stay-requires
stay-requires c = keep_passed _ _ _ (sym c.judge_keeping.ensures ∙ ap judgement_in c.in-Ok.is)

pub returns-in-Err : goal.returns-in-Err
returns-in-Err c = refused_by _ (sym c.judge_keeping.ensures ∙ ap judgement_in c.in-Err.is)

pub returns-in-Ok : goal.returns-in-Ok
returns-in-Ok c =
    let a = c.args in
    let passes : keep_verdict (lent_members a.last_ids.now a.last_kinds.now a.last) (lent_members a.ids.now a.kinds.now a.n) a.kept ≡ pass = sym c.judge_keeping.ensures ∙ ap judgement_in c.in-Ok.is in
    done_by a.kept passes c.stay.ensures c.keep_or_drop.ensures
