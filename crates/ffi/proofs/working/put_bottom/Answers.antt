-- `working::put_bottom` meets its contract. Assumes nothing.
use Rattle.laws.proofs.Prelude.{refl, rules}
use Rattle.ffi.proofs.working.put_bottom.Goals as goal

pub enum_told-1 : goal.enum_told-1
enum_told-1 c = search rules

pub enum_known-decision : goal.enum_known-decision
enum_known-decision c = search rules

pub enum_told-in-Paint : goal.enum_told-in-Paint
enum_told-in-Paint c = search rules

pub returns-in-None : goal.returns-in-None
returns-in-None c = search rules

pub returns-in-Solid : goal.returns-in-Solid
returns-in-Solid c = rw c.in-Solid.is refl

pub returns-in-Paint : goal.returns-in-Paint
returns-in-Paint c = search rules
