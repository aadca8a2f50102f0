-- A set whose carry and loads are written anew is the changed set. Assumes nothing.
use Rattle.std.specs.Prelude.{◌≡◌}
use Rattle.laws.proofs.Prelude.{ap₂, List, ℕ, ℤ}
use Rattle.pixel_segment.specs.Field.{cpu}
use Rattle.segment_set_statements.specs.Effect.{carry_after, loads_after}
use Rattle.segment_set_statements.specs.Set.{set_changed}
use Rattle.segment_set_statements.specs.declared.SegmentSet.{SegmentSet}

-- a set with a carry, loads and a count of one's own
abbrev pub with : SegmentSet → List ℤ → List ℕ → ℕ → SegmentSet
with s covers loads count =
    record { layer_id = s.layer_id; tile_x = s.tile_x; tile_y = s.tile_y; carry = record { covers = covers }; loads = loads; count = count }

pub changes : (op : ℤ → ℤ → ℤ) (opℕ : ℕ → ℕ → ℕ) (w count : ℕ) (s : SegmentSet) {covers : List ℤ} {loads : List ℕ}
    → covers ≡ carry_after op cpu w s.carry.covers → loads ≡ loads_after opℕ cpu w s.loads → with s covers loads count ≡ set_changed op opℕ w count s
changes op opℕ w count s a b = ap₂ (λ (covers : List ℤ) (loads : List ℕ). with s covers loads count) a b
