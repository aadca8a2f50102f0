-- `styling::Fill::solid_color` meets its contract.
-- Assumes nothing.
use Rattle.laws.proofs.Prelude.{sym, ap, rules}
use Rattle.styling.specs.Style.{fill_color}
use Rattle.styling.proofs.Fill.solid_color.Goals as goal

pub enum_known-self : goal.enum_known-self
enum_known-self c = search rules

pub enum_told-1 : goal.enum_told-1
enum_told-1 c = search rules

pub enum_told-in-Texture : goal.enum_told-in-Texture
enum_told-in-Texture c = search rules

pub returns-in-Solid : goal.returns-in-Solid
returns-in-Solid c = sym (ap fill_color c.in-Solid.is)

pub returns-in-Gradient : goal.returns-in-Gradient
returns-in-Gradient c = search rules

pub returns-in-Texture : goal.returns-in-Texture
returns-in-Texture c = search rules
