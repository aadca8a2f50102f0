-- The job of a load is well formed: its lines, its counts and its length are those of a job text, and the rules hold.
-- Assumes nothing.
use Rattle.std.specs.Prelude.{◌≡◌, ◌∷◌, ◌*◌, ◌%◌, ◌≤◌, ◌<◌, ◌-ℤ◌}
use Rattle.laws.proofs.Prelude.{refl, ap, Bool, true, List, [], map, append-nil, Some, ℕ, zero, suc, arith, le-leb, ℤ}
use Rattle.laws.proofs.Prelude.{pos, length, length-append, length-map, plus, tabulate, all, both, whole, length_tabulate}
use native.Mathlib.Nat.{mul-suc}
use Rattle.layer_table.proofs.Listed.{map_tabulate}
use Rattle.lines.specs.Text.{line_text, lines_text, block_text, Fields, AllFields}
use Rattle.job_lines.specs.declared.segment.SegmentLine.{SegmentLine}
use Rattle.job_lines.specs.Rules.{layer_rule, segment_rule, segment_count}
use Rattle.job_text_statements.specs.Text.{blocks_text, Formed}
use Rattle.job_text_statements.specs.Job.{head_values, layer_values, segment_values, blocks_of, render, is_allowed, WellFormed}
use Rattle.job_text_statements.specs.Parse.{parse}
use Rattle.job_text_statements.proofs.Laws.{complete}
use Rattle.load_statements.specs.Draw.{draw_at}
use Rattle.load_statements.specs.declared.Asked.{Asked}
use Rattle.load_statements.specs.Load.{load_head, load_layer, segment_from, load_segment, load_of}
use Rattle.load_statements.specs.Input.{AskedInRange}
use Rattle.load_statements.proofs.Fields.{slot_small, cover_small, head_long, layer_long, segment_long}
use Rattle.load_statements.proofs.Rules.{layer_passes, segment_passes}

-- ---- lines that are given by their numbers

all_fields : (k n : ℕ) (f : ℕ → List ℤ) → ((i : ℕ) → i < n → Fields k (f i)) → AllFields k (tabulate n f)
all_fields k zero f h = tt
all_fields k (suc n) f h = (h 0 (omega arith), all_fields k n (λ i. f (suc i)) (λ i l. h (suc i) (omega arith)))

lines_long : (wide n : ℕ) (f : ℕ → List ℤ) → ((i : ℕ) → i < n → length (line_text (f i)) ≤ wide) → length (lines_text (tabulate n f)) ≤ wide * n
unfolding lines_text
lines_long wide zero f h = omega arith
lines_long wide (suc n) f h =
    rw (mul-suc wide n)
    (simp length-append
    (omega (arith, h 0 (omega arith), lines_long wide n (λ i. f (suc i)) (λ i l. h (suc i) (omega arith)))))

pub all_tabulated : {A : Type 0} (p : A → Bool) (n : ℕ) (f : ℕ → A) → ((i : ℕ) → i < n → p (f i) ≡ true) → all p (tabulate n f) ≡ true
all_tabulated p zero f h = refl
all_tabulated p (suc n) f h = both (p (f 0)) (all p (tabulate n (λ i. f (suc i)))) (h 0 (omega arith)) (all_tabulated p n (λ i. f (suc i)) (λ i l. h (suc i) (omega arith)))

-- one row each
counted : (n : ℕ) (f : ℕ → SegmentLine) → ((i : ℕ) → plus (f i).rows ≡ 1) → segment_count (tabulate n f) ≡ n
unfolding segment_count
counted zero f h = refl
counted (suc n) f h = omega (arith, h 0, counted n (λ i. f (suc i)) (λ i. h (suc i)))

-- ---- the numbers of a load's lines have few digits

head_fields : (tiles : ℕ) → tiles ≤ 4095 → Fields 4 (head_values (load_head tiles))
head_fields tiles h = record { count = refl; short = (omega arith, (omega arith, (omega arith, (omega arith, tt)))) }

layer_fields : (id : ℕ) → id < 8 → Fields 8 (layer_values (load_layer id))
unfolding load_layer
layer_fields id h = record {
  count = refl;
  short = (omega arith, (omega arith, (omega arith, (omega arith, (omega arith, (omega arith, (omega arith, (omega arith, tt))))))));
}

from_fields : (s slot : ℕ) → slot < 32760 → Fields 7 (segment_values (segment_from s slot))
unfolding segment_from
from_fields s slot h =
    let c = cover_small (draw_at s 4) in
    let w = whole (pos (draw_at s 4 % 33) -ℤ pos 16) in
    record {
      count = refl;
      short = (omega arith, (omega arith, (omega arith, (omega arith, (omega arith, (omega arith, (omega (arith, c, w), tt)))))));
    }

-- ---- the job

pub segment_lines : (a : Asked) → map segment_values (tabulate a.count (load_segment a)) ≡ tabulate a.count (λ i. segment_values (load_segment a i))
segment_lines a = map_tabulate segment_values a.count (load_segment a)

module _ (a : Asked) (h : AskedInRange a) where
  segment_fields : (k : ℕ) → k < a.count → Fields 7 (segment_values (load_segment a k))
  segment_fields k l = from_fields _ _ (slot_small a h k l)

  layers_long : length (lines_text (map layer_values (tabulate 8 load_layer))) ≤ 144
  layers_long = lines_long 18 8 (λ i. layer_values (load_layer i)) layer_long

  segments_long : length (lines_text (map segment_values (tabulate a.count (load_segment a)))) ≤ 22 * a.count
  segments_long = rw (segment_lines a) (lines_long 22 a.count (λ i. segment_values (load_segment a i)) (segment_long a h))

  one_line : (vs : List ℤ) → length (lines_text (vs ∷ [])) ≡ length (line_text vs)
  unfolding lines_text
  one_line vs = ap length (append-nil (line_text vs))

  -- the names and lines of the three blocks
  pub text_long : length (render (load_of a)) ≤ 11518
  unfolding render load_of blocks_text block_text
  text_long =
      simp length-append
      (omega (arith, one_line (head_values (load_head a.tiles)), head_long a.tiles h.tiles.1, layers_long, segments_long, h.count))

  short_text : length (blocks_text (blocks_of (load_of a))) ≤ 65536
  unfolding render
  short_text = omega (arith, text_long)

  formed : Formed (blocks_of (load_of a))
  unfolding load_of
  formed = record {
    one_head = refl;
    head = (head_fields a.tiles h.tiles.1, tt);
    few_layers = omega arith;
    layers = (all_fields 8 8 (λ i. layer_values (load_layer i)) layer_fields);
    few_lines = omega (arith, length-map (tabulate a.count (load_segment a)) segment_values, length_tabulate a.count (load_segment a), h.count);
    segments = rw (segment_lines a) (all_fields 7 a.count (λ i. segment_values (load_segment a i)) segment_fields);
    size = short_text;
  }

  pub one_row_each : segment_count (load_of a).segments ≡ a.count
  unfolding load_of segment_from
  one_row_each = counted a.count (load_segment a) (λ i. refl)

  allowed : is_allowed (load_of a) ≡ true
  unfolding is_allowed load_of
  allowed =
      rw (
        all_tabulated layer_rule 8 load_layer (λ i l. layer_passes i),
        all_tabulated segment_rule a.count (load_segment a) (λ k l. segment_passes _ _ (slot_small a h k l)),
      )
      (le-leb (segment_count (load_of a).segments) 2048 (omega (arith, one_row_each, h.count)))

  pub well_formed : WellFormed (load_of a)
  well_formed = record { form = formed; rules = allowed }

  -- and so it is read back
  pub read_back : parse (render (load_of a)) ≡ Some (load_of a)
  read_back = complete (load_of a) well_formed
