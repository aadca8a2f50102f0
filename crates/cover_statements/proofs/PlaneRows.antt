-- A plane written a row after another, and a row a number after another: 16 numbers a row, over any height. Assumes nothing.
use Rattle.std.specs.Prelude.{◌≡◌, ◌++◌, ◌+◌, ◌*◌, ◌≤◌, ◌<◌}
use Rattle.laws.proofs.Prelude.{refl, sym, ap, ap₂, ◌∙◌, List, ℕ, add-one, arith, length, take, drop, set, length-drop}
use Rattle.laws.proofs.Prelude.{length-set, ext_get_or, get_or-take, get_or-drop, take_all, take_at, drop_at, take-add, drop-drop, length-take-le, paste}
use Rattle.laws.proofs.Prelude.{filled, filled_all, length_tabulate, get_d_tabulate, over, tabulate}
use lib.Seq.{paste-zero, paste-suc, length-paste}
use Rattle.cover_statements.specs.Plane.{size_of, in_places}
use Rattle.cover_statements.proofs.Planes.{places_length, pixel_at}

-- row y of what f says of each column and row
abbrev pub row_in : {A : Type 0} → (ℕ → ℕ → A) → ℕ → List A
row_in f y = tabulate 16 (λ x. f x y)

-- ---- a row: at column x, the numbers before it

pub record Row {A : Type 0} (f : ℕ → ℕ → A) (y : ℕ) (old : List A) (x : ℕ) (new : List A) : Type 0 where
  pub reached : x ≤ 16
  pub room : y * 16 + 16 ≤ length old
  pub long : length new ≡ length old
  pub drawn : new ≡ paste old (y * 16) (row_in f y) x

module _ {A : Type 0} {f : ℕ → ℕ → A} {y : ℕ} {old : List A} where
  pub row_start : y * 16 + 16 ≤ length old → Row f y old 0 old
  row_start h = record { reached = omega arith; room = h; long = refl; drawn = paste-zero old (y * 16) (row_in f y) }

  pub row_next : {x k : ℕ} {v : A} {new : List A} → Row f y old x new → x < 16 → k ≡ y * 16 + x → v ≡ f x y → Row f y old (x + 1) (set new k v)
  row_next {x} {k} {v} {new} c h p e =
      record {
        reached = omega arith;
        room = c.room;
        long = length-set new k v ∙ c.long;
        drawn =
            rw (add-one x, e ∙ sym (get_d_tabulate 16 (λ i. f i y) (f 0 0) x h), p, c.drawn)
            (paste-suc old (y * 16) (row_in f y) x (f 0 0) (omega (arith, c.room)) (omega (arith, length_tabulate 16 (λ i. f i y))));
      }

  pub row_end_step : {x : ℕ} {new : List A} → Row f y old x new → 16 ≤ x → new ≡ paste old (y * 16) (row_in f y) 16
  row_end_step {x} {new} c h = let e : x ≡ 16 = omega (arith, c.reached) in c.drawn ∙ rw e

-- ---- one row after another: at row y, those before it

pub record PlaneRows {A : Type 0} (n : ℕ) (f : ℕ → ℕ → A) (old : List A) (y : ℕ) (new : List A) : Type 0 where
  pub reached : y ≤ n
  pub room : size_of n ≤ length old
  pub long : length new ≡ length old
  pub drawn : new ≡ filled old (in_places n f) (y * 16)

module _ {A : Type 0} {n : ℕ} {f : ℕ → ℕ → A} {old : List A} where
  pub rows_start : size_of n ≤ length old → PlaneRows n f old 0 old
  rows_start h = record { reached = omega arith; room = h; long = refl; drawn = refl }

  module _ {y : ℕ} {new : List A} (c : PlaneRows n f old y new) where
    pub rows_room : y < n → y * 16 + 16 ≤ length new
    rows_room h = omega (arith, c.long, c.room)

    pub rows_next : {next : List A} → y < n → next ≡ paste new (y * 16) (row_in f y) 16 → PlaneRows n f old (y + 1) next
    rows_next {next} h e =
        record {
          reached = omega arith;
          room = c.room;
          long = ap length e ∙ length-paste new at row 16 (rows_room h) (omega (arith, wide)) ∙ c.long;
          drawn =
              e
              ∙ ap (λ (l : List A). paste l (y * 16) row 16) c.drawn
              ∙ ap₂ (λ (a b : List A). a ++ take 16 row ++ b)
              (take_at (take at s) (drop at old) at front)
              (sym (drop-drop 16 at (filled old s at)) ∙ ap (drop 16) (drop_at (take at s) (drop at old) at front) ∙ drop-drop 16 at old)
              ∙ ap (λ (l : List A). take at s ++ l ++ drop (at + 16) old) (take_all 16 row (omega (arith, wide)) ∙ own)
              ∙ ap (λ (l : List A). l ++ drop (at + 16) old) (sym (take-add at 16 s))
              ∙ ap (filled old s) next_at;
        }
      where
        s : List A
        s = in_places n f

        at : ℕ
        at = y * 16

        row : List A
        row = row_in f y

        wide : length (row_in f y) ≡ 16
        wide = length_tabulate 16 (λ x. f x y)

        front : length (take (y * 16) (in_places n f)) ≡ y * 16
        front = length-take-le (y * 16) (in_places n f) (omega (arith, places_length n f))

        next_at : y * 16 + 16 ≡ (y + 1) * 16
        next_at = omega arith

        -- the row is what the plane holds there
        own : row_in f y ≡ take 16 (drop (y * 16) (in_places n f))
        own =
            ext_get_or (f 0 0) (row_in f y) (take 16 (drop (y * 16) (in_places n f)))
            (length_tabulate 16 (λ x. f x y) ∙ sym (length-take-le 16 (drop (y * 16) (in_places n f)) (omega (arith, length-drop (y * 16) (in_places n f), places_length n f))))
            (λ i l.
            let q : i < 16 = omega (arith, length_tabulate 16 (λ x. f x y)) in
            get_d_tabulate 16 (λ x. f x y) (f 0 0) i q
            ∙ sym (get_or-take 16 (drop (y * 16) (in_places n f)) i (f 0 0) q
            ∙ get_or-drop (y * 16) (in_places n f) i (f 0 0)
            ∙ pixel_at n f (f 0 0) i y q h))

    pub rows_end : n ≤ y → new ≡ over (in_places n f) old
    rows_end h =
        let e : y * 16 ≡ size_of n = omega (arith, c.reached) in
        c.drawn ∙ rw e (filled_all old (in_places n f) (size_of n) (places_length n f))
