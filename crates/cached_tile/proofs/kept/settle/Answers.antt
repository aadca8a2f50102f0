-- `cached_tile::kept::settle` meets its contract.
-- Assumes nothing.
use Rattle.laws.proofs.Prelude.{refl, sym, ◌∙◌}
use Rattle.cached_tile.proofs.kept.settle.Goals as goal

pub returns-then-is_tag_out_of_range : goal.returns-then-is_tag_out_of_range
returns-then-is_tag_out_of_range c =
    let out = sym c.is_tag_out_of_range.ensures ∙ c.if-is_tag_out_of_range.true in
    record { settlement = rw out refl; kept = rw out refl }

pub returns-then-kept : goal.returns-then-kept
returns-then-kept c =
    let out = sym c.is_tag_out_of_range.ensures ∙ c.if-is_tag_out_of_range.false in
    record {
      settlement = rw (out, c.if-kept.true) c.settle_tile.ensures.settlement;
      kept = rw (out, c.if-kept.true) c.settle_tile.ensures.kept;
    }

pub returns-else-kept : goal.returns-else-kept
returns-else-kept c =
    let out = sym c.is_tag_out_of_range.ensures ∙ c.if-is_tag_out_of_range.false in
    record { settlement = rw (out, c.if-kept.false) refl; kept = rw (out, c.if-kept.false) refl }
