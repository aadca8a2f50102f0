-- `plates::ffi_find_row` meets its contract: it tells the place that was found. Assumes nothing.
use Rattle.laws.proofs.Prelude.{ap, ◌∙◌}
use Rattle.plate.specs.declared.Part.{Part}
use Rattle.ffi.proofs.plates.ffi_find_row.Goals as goal

pub returns : goal.returns
returns c =
    let found = c.find_row.ensures in
    record { value = c.put_part.ensures.value ∙ ap (λ (p : Part). p.start) found; end_after = c.put_part.ensures.end_after ∙ ap (λ (p : Part). p.end) found }
