-- Number 9 of a painted layer applies to a tile of the opposite row where it does to the row's. Assumes nothing.
use Rattle.std.specs.Prelude.{◌≡◌}
use Rattle.laws.proofs.Prelude.{ap₂, ◌∙◌, true, List, map, ℕ, ℤ}
use Rattle.pixel_segment.specs.Field.{cpu}
use Rattle.pixel_segment.specs.Opposite.{opposite_of}
use Rattle.pixel_segment.proofs.Opposite.{are_mild, cpu_wide}
use Rattle.segment_rows.specs.Search.{layer_part}
use Rattle.segment_rows.proofs.Opposite.{layer_opposite, layer_mild}
use Rattle.cover_statements.specs.Carry.{is_light}
use Rattle.cover_statements.proofs.Opposite.{light_opposite}
use Rattle.queue_statements.specs.Queue.{Carry, held_in}
use Rattle.queue_statements.specs.Opposite.{opposite_carry}
use Rattle.queue_statements.proofs.Opposite.{held_opposite}
use Rattle.painter.specs.Painting.{is_light_in}

pub light_in_opposite : (q : List Carry) (part : List ℕ) (id : ℕ) → are_mild cpu part ≡ true → is_light_in (map opposite_carry q) (map (opposite_of cpu) part) id ≡ is_light_in q part id
light_in_opposite q part id mild =
    ap₂ (λ (covers : List ℤ) (own : List ℕ). is_light cpu 16 covers own) (held_opposite q id) (layer_opposite id part)
    ∙ light_opposite cpu_wide (layer_part id part) (layer_mild part mild id) 16 (held_in q id)
