-- `tile_unchanged::is_kept` meets its contract. Assumes nothing.
use Rattle.pass_statements.proofs.Keeping.{kept_all, kept_not}
use Rattle.pass_statements.proofs.Listing.{length_items}
use Rattle.tile_unchanged.proofs.is_kept.Goals as goal

pub returns-then-clear_unchanged-kept : goal.returns-then-clear_unchanged-kept
returns-then-clear_unchanged-kept c = kept_all _ _ c.in-Some.is (length_items _ _ _ _ _) c.if-clear_unchanged-kept.true c.are_unchanged.ensures

pub returns-else-clear_unchanged-kept : goal.returns-else-clear_unchanged-kept
returns-else-clear_unchanged-kept c = kept_not _ _ c.in-Some.is (length_items _ _ _ _ _) c.if-clear_unchanged-kept.false
