-- The loop that adds a part to a set of nothing: how it starts over d of the incoming cover, and what it leaves. Assumes nothing.
use Rattle.std.specs.Prelude.{◌≡◌, ◌≤◌}
use Rattle.laws.proofs.Prelude.{refl, sym, ap, ap₂, ◌∙◌, List, [], ℕ, arith, ℤ, length, over, length_over}
use Rattle.pixel_segment.specs.Field.{cpu}
use Rattle.cover_statements.specs.Area.{areas_of}
use Rattle.cover_statements.specs.Cover.{cover_at}
use Rattle.cover_statements.specs.InnerLoad.{Magnitudes}
use Rattle.cover_statements.proofs.Carries.{carry_none}
use Rattle.cover_statements.proofs.Planes.{areas_length}
use Rattle.segment_set_statements.specs.Set.{SetState, state, Beginning, fresh_state}
use Rattle.segment_set_statements.proofs.Begins.{Begun, Adding, set_of, three, over_over, loads_none, add_start, add_end}

module _ (b : Beginning) (slots : List ℕ) (areas start : List ℤ) (e : start ≡ over (areas_of cpu 16 (cover_at b.incoming) []) areas) where
  long : length (areas_of cpu 16 (cover_at b.incoming) []) ≡ 256
  long = areas_length cpu 16 (cover_at b.incoming) []

  -- over another list of 256 numbers nothing of it is left
  again : (part : List ℕ) → over (areas_of cpu 16 (cover_at b.incoming) part) start ≡ over (areas_of cpu 16 (cover_at b.incoming) part) areas
  again part =
      ap (over (areas_of cpu 16 (cover_at b.incoming) part)) e
      ∙ over_over (areas_of cpu 16 (cover_at b.incoming) part) (areas_of cpu 16 (cover_at b.incoming) []) areas (areas_length cpu 16 (cover_at b.incoming) part ∙ sym long)

  pub begin_start : Begun b slots areas → length b.incoming ≡ 16 → {loads : List ℕ} → Magnitudes b.incoming loads → Adding b slots start 0 (state (set_of b b.incoming loads 0) slots start)
  unfolding over
  begin_start p wide {loads} m =
      add_start
      (record {
        room = rw e (omega (arith, p.room, length_over areas (areas_of cpu 16 (cover_at b.incoming) []) (omega (arith, p.room, long))));
        here = p.here;
        light = p.light;
        free = p.free;
      })
      (three
      (ap₂ (λ (covers : List ℤ) (l : List ℕ). set_of b covers l 0) (sym (carry_none cpu 16 b.incoming wide)) (loads_none b.incoming loads wide m))
      refl
      (e ∙ sym (again [])))

  pub begin_end : {i : ℕ} {s : SetState} → Adding b slots start i s → length b.part ≤ i → s ≡ fresh_state b slots areas
  begin_end c h = add_end c h ∙ three refl refl (again b.part)
