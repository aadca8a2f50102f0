-- `plane::paint` meets its contract: what is judged again is not refused. Assumes nothing.
use Rattle.std.specs.Prelude.{◌≡◌}
use Rattle.laws.proofs.Prelude.{sym, ap, ◌∙◌, ℕ, Answer, given}
use Rattle.refusals.specs.Refusal.{given_or_refused}
use Rattle.cover_statements.proofs.Paintings.{paint_answer, paint_ok, paint_plane}
use Rattle.plane.proofs.paint.Goals as goal

-- two answers that are equal
same : (m n : ℕ) → ◌≡◌ {A = Answer ℕ} (given m) (given n) → m ≡ n
same m n e = cc

pub paint_judged-requires : goal.paint_judged-requires
paint_judged-requires c = (c.requires.1, λ e. c.requires.0)

pub unwrap-requires : goal.unwrap-requires
unwrap-requires c = paint_ok c.paint_judged.ensures c.requires.1 c.requires.0

pub returns : goal.returns
returns c =
    let e = ap given_or_refused (sym c.unwrap.ensures) ∙ paint_answer c.paint_judged.ensures c.requires.1 c.requires.0 in
    (paint_plane c.paint_judged.ensures c.requires.1 c.requires.0, same _ _ e)
