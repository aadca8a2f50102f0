-- The loops of the code, as laws over plain lists: a test of every index, a list given by its places that is written at the front of a lent one, and
-- the cells of chosen words summed up. Assumes nothing.
use Rattle.std.specs.Prelude.{◌≡◌, ◌&&◌, ◌+◌, ◌*◌, ◌≤◌, ◌<◌, ◌+ℤ◌}
use Rattle.laws.proofs.Prelude.{refl, sym, ap, ap₂, ◌∙◌, Bool, List, ℕ, add-one, arith, eq-eqb, ℤ, nat_abs}
use Rattle.laws.proofs.Prelude.{length, get_or, set, length-set, replicate, length-replicate, tabulate, every, over, filled, filled_more, filled_all}
use Rattle.laws.proofs.Prelude.{length_tabulate, get_d_tabulate, sum_step}
use mathlib.Core.Bool.{and_comm}
use Rattle.pixel_segment.specs.Field.{cpu, local_x_of, local_y_of, cover_of, double_area_of}
use Rattle.cover_statements.specs.Carry.{in_row, abs_cover, load_in}
use Rattle.cover_statements.specs.InnerCell.{cell_of, no_cells, Accumulated}
use Rattle.cover_statements.specs.Cover.{cover_at}
use Rattle.cover_statements.proofs.Areas.{area_weight}
use Rattle.cover_statements.proofs.Filled.{get_d_default}
use Rattle.cover_statements.proofs.Judging.{Loaded, Summed, load_start, load_next, sum_zeros, sum_fits, sum_next, sum_whole}

-- ---- a test of every index, with no early exit: at i, whether those before it pass

pub record Passing (n : ℕ) (f : ℕ → Bool) (i : ℕ) (ok : Bool) : Type 0 where
  pub reached : i ≤ n
  pub same : ok ≡ every i f

module _ {n : ℕ} {f : ℕ → Bool} where
  pub pass_next : {i : ℕ} {ok t : Bool} → Passing n f i ok → i < n → t ≡ f i → Passing n f (i + 1) (ok && t)
  pass_next {i} {ok} {t} p h e =
      record { reached = omega arith; same = rw (add-one i) (ap₂ ◌&&◌ p.same e ∙ and_comm (every i f) (f i)) }

  pub pass_end : {i : ℕ} {ok : Bool} → Passing n f i ok → n ≤ i → ok ≡ every n f
  pass_end {i} p h = let e : i ≡ n = omega (arith, p.reached) in p.same ∙ ap (λ (k : ℕ). every k f) e

-- ---- what f says of each place, written at the front of a lent list: at place k, those before it

pub record Placing {A : Type 0} (n : ℕ) (f : ℕ → A) (old : List A) (k : ℕ) (new : List A) : Type 0 where
  pub reached : k ≤ n
  pub room : n ≤ length old
  pub long : length new ≡ length old
  pub drawn : new ≡ filled old (tabulate n f) k

module _ {A : Type 0} {n : ℕ} {f : ℕ → A} {old : List A} where
  module _ {k : ℕ} {new : List A} (p : Placing n f old k new) where
    pub place_next : {v : A} → k < n → v ≡ f k → Placing n f old (k + 1) (set new k v)
    place_next {v} h e =
        record {
          reached = omega arith;
          room = p.room;
          long = length-set new k v ∙ p.long;
          drawn =
              ap₂ (λ (l : List A) (x : A). set l k x) p.drawn (e ∙ sym (get_d_tabulate n f v k h))
              ∙ filled_more old (tabulate n f) k v (omega (arith, p.room)) (omega (arith, length_tabulate n f));
        }

    pub place_end : n ≤ k → new ≡ over (tabulate n f) old
    place_end h = let e : k ≡ n = omega (arith, p.reached) in p.drawn ∙ rw e (filled_all old (tabulate n f) n (length_tabulate n f))

-- ---- the cells of a part, summed up: at word i, those of the words before it. No row's covers exceed 127 with those still to come, so no sum
-- outgrows its type

pub record Adding (part : List ℕ) (i : ℕ) (areas covers : List ℤ) : Type 0 where
  pub loads : List ℕ
  pub loaded : Loaded cpu 16 part (replicate 16 0) i loads
  pub own : Summed cpu 16 63 (double_area_of cpu) part i loads areas
  pub past : Summed cpu 16 1 (cover_of cpu) part i loads covers

cover_weight : (w : ℕ) → nat_abs (cover_of cpu w) ≤ 1 * abs_cover cpu w
cover_weight w = omega arith

left : (w : ℕ) → local_x_of cpu w < 16
left w = omega arith

low : (w : ℕ) → local_y_of cpu w < 16
low w = omega arith

pub add_start : {part : List ℕ} {areas covers : List ℤ} → areas ≡ no_cells 16 → covers ≡ no_cells 16 → Adding part 0 areas covers
add_start e f =
    record {
      loads = replicate 16 0;
      loaded = load_start (length-replicate {A = ℕ} 16 0) (λ y h. rw (get_d_default 16 y) (omega arith));
      own = sum_zeros e;
      past = sum_zeros f;
    }

module _ {part : List ℕ} (few : (y : ℕ) → y < 16 → load_in cpu y part ≤ 127) {i : ℕ} {areas covers : List ℤ} (a : Adding part i areas covers) where
  module _ (h : i < length part) where
    -- the load of the word's row, with its own
    small : get_or a.loads (local_y_of cpu (get_or part i 0)) 0 + abs_cover cpu (get_or part i 0) ≤ 127
    small =
        let w = get_or part i 0 in
        let y = local_y_of cpu w in
        let step = rw (eq-eqb y y refl) at (sum_step ◌+◌ 0 (in_row cpu y) (abs_cover cpu) part i h) in
        let none : ◌≡◌ {A = ℕ} (get_or (replicate 16 0) y 0) 0 = get_d_default 16 y in
        omega (arith, few y (low w), a.loaded.same y (low w), step)

    module _ {k : ℕ} (q : k ≡ cell_of cpu 16 (get_or part i 0)) where
      pub area_fits : nat_abs (cover_at areas k +ℤ double_area_of cpu (get_or part i 0)) ≤ 8001
      area_fits = sum_fits a.own h (left (get_or part i 0)) (low (get_or part i 0)) (area_weight cpu refl) q refl refl small

      pub cover_fits : nat_abs (cover_at covers k +ℤ cover_of cpu (get_or part i 0)) ≤ 127
      cover_fits = sum_fits a.past h (left (get_or part i 0)) (low (get_or part i 0)) cover_weight q refl refl small

      pub add_next : {u v : ℤ} → u ≡ cover_at areas k +ℤ double_area_of cpu (get_or part i 0) → v ≡ cover_at covers k +ℤ cover_of cpu (get_or part i 0) → Adding part (i + 1) (set areas k u) (set covers k v)
      add_next {u} {v} eu ev =
          let w = get_or part i 0 in
          record {
            loads = set a.loads (local_y_of cpu w) (get_or a.loads (local_y_of cpu w) 0 + abs_cover cpu w);
            loaded = load_next a.loaded h (low w) refl refl small;
            own = sum_next a.own h (left w) (low w) (area_weight cpu refl) a.loaded.long q refl refl eu;
            past = sum_next a.past h (left w) (low w) cover_weight a.loaded.long q refl refl ev;
          }

  pub add_end : length part ≤ i → Accumulated cpu 16 part areas covers
  add_end h = record { areas_are = sum_whole a.own h; covers_are = sum_whole a.past h }
