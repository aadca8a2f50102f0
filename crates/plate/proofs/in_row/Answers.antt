-- `in_row` meets its contract. Assumes nothing.
use Rattle.laws.proofs.Prelude.{ap, ◌∙◌}
use Rattle.segment_rows.specs.Search.{between}
use Rattle.plate.specs.Rows.{cast_of, row_part}
use Rattle.plate.specs.declared.Part.{Part}
use Rattle.plate.proofs.Finding.{place_inside}
use Rattle.plate.proofs.in_row.Goals as goal

pub slice_of-requires : goal.slice_of-requires
slice_of-requires c =
    let s = c.args in
    rw c.find_row.ensures (place_inside (cast_of s.j) s.segments.now)

pub returns : goal.returns
unfolding row_part
returns c =
    let l = c.args.segments.now in
    c.slice_of.ensures ∙ ap (λ (p : Part). between p.start p.end l) c.find_row.ensures
