-- `full_cover_steps::bottom_of` meets its contract. Assumes nothing.
use Rattle.pass_statements.proofs.Deciding.{bottom_kept, bottom_opaque, bottom_clear, bottom_paint}
use Rattle.full_cover_steps.proofs.bottom_of.Goals as goal

pub returns-then-is_unchanged : goal.returns-then-is_unchanged
returns-then-is_unchanged c = bottom_kept _ c.in-Opaque.is c.if-is_unchanged.true

pub returns-else-is_unchanged : goal.returns-else-is_unchanged
returns-else-is_unchanged c = bottom_opaque _ c.in-Opaque.is c.if-is_unchanged.false

pub returns-in-Absent : goal.returns-in-Absent
returns-in-Absent c = bottom_clear _ _ c.in-Absent.is

pub returns-in-Incomplete : goal.returns-in-Incomplete
returns-in-Incomplete c = bottom_paint _ _ c.in-Incomplete.is
