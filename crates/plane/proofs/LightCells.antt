-- The cells of a part that number 9 does not refuse, summed without loads: the loads are there in the proof alone, and bound each sum as they do
-- where they are judged (cover_statements/proofs/Judging). Assumes nothing.
use Rattle.std.specs.Prelude.{◌≡◌, ◌+◌, ◌*◌, ◌≤◌, ◌<◌, ◌+ℤ◌}
use Rattle.laws.proofs.Prelude.{refl, ◌∙◌, true, List, map, ⊎_elim, ℕ, arith, ℤ, nat_abs, length, get_or}
use Rattle.laws.proofs.Prelude.{set, length-map, clash, le_or_lt}
use Rattle.laws.proofs.Bools.{not-false}
use Rattle.pixel_segment.specs.Field.{cpu, local_y_of, cover_of, double_area_of}
use Rattle.cover_statements.specs.Carry.{is_light, abs_cover}
use Rattle.cover_statements.specs.Cover.{cover_at}
use Rattle.cover_statements.specs.InnerCell.{cell_of, no_cells, Accumulated}
use Rattle.cover_statements.specs.InnerLoad.{all_light}
use Rattle.cover_statements.proofs.Areas.{area_weight}
use Rattle.cover_statements.proofs.Judging.{Loaded, Summed, load_start, load_next, load_refused, sum_zeros, sum_fits, sum_next, sum_whole}
use Rattle.cover_statements.proofs.Loads.{loads_judge, light_at_lem, incoming_heavy}

-- at word i
pub record LightCells (part : List ℕ) (i : ℕ) (areas covers : List ℤ) : Type 0 where
  pub incoming : List ℤ
  pub light : is_light cpu 16 incoming part ≡ true
  pub loads : List ℕ
  pub loaded : Loaded cpu 16 part (map nat_abs incoming) i loads
  pub areas_so_far : Summed cpu 16 63 (double_area_of cpu) part i loads areas
  pub covers_so_far : Summed cpu 16 1 (cover_of cpu) part i loads covers

pub cells_start : (part : List ℕ) (incoming : List ℤ) {areas covers : List ℤ} → length incoming ≡ 16 → is_light cpu 16 incoming part ≡ true → areas ≡ no_cells 16 → covers ≡ no_cells 16
    → LightCells part 0 areas covers
cells_start part incoming long light a c =
    let all : all_light (map nat_abs incoming) ≡ true = not-false _ (λ e. clash light (incoming_heavy cpu 16 incoming part long e)) in
    record {
      incoming = incoming;
      light = light;
      loads = map nat_abs incoming;
      loaded = load_start (length-map incoming nat_abs ∙ long) (λ y h. light_at_lem (map nat_abs incoming) all y (omega (arith, length-map incoming nat_abs)));
      areas_so_far = sum_zeros a;
      covers_so_far = sum_zeros c;
    }

module _ {part : List ℕ} {i : ℕ} {areas covers : List ℤ} (c : LightCells part i areas covers) (h : i < length part) where
  abbrev word : ℕ
  word = get_or part i 0

  -- the load of the word's row with its own cover
  abbrev load : ℕ
  load = get_or c.loads (local_y_of cpu word) 0 + abs_cover cpu word

  few : load ≤ 127
  few =
      ⊎_elim (λ (p : load ≤ 127). p)
      (λ (many : 127 < load). absurd (clash (loads_judge cpu 16 c.incoming part ∙ c.light) (load_refused c.loaded h (omega arith) refl refl many)))
      (le_or_lt load 127)

  cover_weight : (w : ℕ) → nat_abs (cover_of cpu w) ≤ 1 * abs_cover cpu w
  cover_weight w = omega arith

  -- what is stored fits
  pub area_within : {k : ℕ} → k ≡ cell_of cpu 16 word → nat_abs (cover_at areas k +ℤ double_area_of cpu word) ≤ 63 * 127
  area_within q = sum_fits c.areas_so_far h (omega arith) (omega arith) (area_weight cpu refl) q refl refl few

  pub cover_within_lem : {k : ℕ} → k ≡ cell_of cpu 16 word → nat_abs (cover_at covers k +ℤ cover_of cpu word) ≤ 1 * 127
  cover_within_lem q = sum_fits c.covers_so_far h (omega arith) (omega arith) cover_weight q refl refl few

  pub cells_next : {k : ℕ} {area cover : ℤ} → k ≡ cell_of cpu 16 word → area ≡ cover_at areas k +ℤ double_area_of cpu word → cover ≡ cover_at covers k +ℤ cover_of cpu word
      → LightCells part (i + 1) (set areas k area) (set covers k cover)
  cells_next q a v =
      let long = c.loaded.long in
      record {
        incoming = c.incoming;
        light = c.light;
        loads = set c.loads (local_y_of cpu word) load;
        loaded = load_next c.loaded h (omega arith) refl refl few;
        areas_so_far = sum_next c.areas_so_far h (omega arith) (omega arith) (area_weight cpu refl) long q refl refl a;
        covers_so_far = sum_next c.covers_so_far h (omega arith) (omega arith) cover_weight long q refl refl v;
      }

pub cells_end : {part : List ℕ} {i : ℕ} {areas covers : List ℤ} → LightCells part i areas covers → length part ≤ i → Accumulated cpu 16 part areas covers
cells_end c h = record { areas_are = sum_whole c.areas_so_far h; covers_are = sum_whole c.covers_so_far h }
