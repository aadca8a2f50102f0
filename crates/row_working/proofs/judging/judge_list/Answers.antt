-- `judging::judge_list` meets its contract: where a number refuses, nothing is said of the carries. Assumes nothing.
use Rattle.std.specs.Prelude.{◌≡◌}
use Rattle.laws.proofs.Prelude.{sym, true, false≢true, ℕ, arith, lt-ltb, le-ltb, not-false}
use Rattle.refusals.specs.Refusal.{pass, refuse}
use Rattle.refusals.proofs.Judging.{passed}
use Rattle.row_statements.specs.TileWork.{list_verdict}
use Rattle.row_working.proofs.judging.judge_list.Goals as goal

-- a verdict that refuses does not pass
never : (n : ℕ) → refuse n ≡ pass → ⊥
never n e = false≢true (sym (passed true n pass e).0)

pub returns-then-listed-gt256 : goal.returns-then-listed-gt256
unfolding list_verdict
returns-then-listed-gt256 c =
    let s = c.survey_layers-found.ensures in
    record { judged = record { verdict = rw (← s.count, lt-ltb _ _ c.if-listed-gt256.true); listed = s.count }; carries = λ e. absurd (never 7 e) }

pub returns-then-not-found : goal.returns-then-not-found
unfolding list_verdict
returns-then-not-found c =
    let s = c.survey_layers-found.ensures in
    record { judged = record { verdict = rw (← s.count, le-ltb _ _ c.if-listed-gt256.false, ← s.known, c.if-not-found.true); listed = s.count }; carries = λ e. absurd (never 8 e) }

pub returns-then-not-found-2 : goal.returns-then-not-found-2
unfolding list_verdict
returns-then-not-found-2 c =
    let s = c.survey_layers-found.ensures in
    record { judged = record { verdict = rw (← s.count, le-ltb _ _ c.if-listed-gt256.false, ← s.known, c.if-not-found.false, ← s.light, c.if-not-found-2.true); listed = s.count }; carries = λ e. absurd (never 9 e) }

pub returns : goal.returns
unfolding list_verdict
returns c =
    let s = c.survey_layers-found.ensures in
    record {
      judged = record { verdict = rw (← s.count, le-ltb _ _ c.if-listed-gt256.false, ← s.known, c.if-not-found.false, ← s.light, c.if-not-found-2.false); listed = s.count };
      carries = λ e. s.carries (omega (arith, s.count, c.if-listed-gt256.false)) (not-false _ c.if-not-found-2.false);
    }
