-- `full_cover_steps::first_of` meets its contract. Assumes nothing.
use Rattle.laws.proofs.Prelude.{sym, ap, rules}
use Rattle.pass_statements.specs.Covered.{first_of}
use Rattle.pass_statements.specs.declared.covered.InterestingCover.{InterestingCover}
use Rattle.full_cover_steps.proofs.first_of.Goals as goal

pub enum_told-1 : goal.enum_told-1
enum_told-1 c = search rules

pub enum_known-first : goal.enum_known-first
enum_known-first c = search rules

pub enum_told-in-Incomplete : goal.enum_told-in-Incomplete
enum_told-in-Incomplete c = search rules

pub returns-in-Absent : goal.returns-in-Absent
returns-in-Absent c = search rules

pub returns-in-Opaque : goal.returns-in-Opaque
returns-in-Opaque c = sym (ap (λ (f : InterestingCover). first_of f c.args.next) c.in-Opaque.is)

pub returns-in-Incomplete : goal.returns-in-Incomplete
returns-in-Incomplete c = search rules
