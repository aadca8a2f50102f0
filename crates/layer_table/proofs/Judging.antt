-- Judging a table: what holds while its records are passed in one pass, and what holds of a table that passes. Assumes nothing.
use Rattle.std.specs.Prelude.{◌≡◌, ◌&&◌, ◌||◌, ◌+◌, ◌*◌, ◌/◌, ◌≤◌, ◌<◌}
use Rattle.laws.proofs.Prelude.{refl, sym, ap, ◌∙◌, Bool, true, false, not, and-true, List, map, ℕ, min}
use Rattle.laws.proofs.Prelude.{add-one, arith, ltb-true, ltb-false, lt-ltb, le-ltb, not-true, leb, ltb, Float, length, drop, drop_of_length-le}
use Rattle.laws.proofs.Prelude.{tabulate, all, left, right, all_at, length_tabulate, get_d_tabulate}
use Rattle.layer_table.specs.declared.Words.{Words}
use Rattle.styling.specs.Ascending.{strictly_ascends_from, strictly_ascends}
use Rattle.layer_table.specs.Record.{in_range}
use Rattle.layer_table.specs.Table.{id_at, words_at, table_ids, is_table_short, is_valid, is_table, Table}
use Rattle.layer_table.proofs.Listed.{drop_tabulate, map_tabulate}

-- ---- refusal 1

-- the lesser of two numbers is below a third where either is
pub ltb_min : (a b n : ℕ) → (ltb a n || ltb b n) ≡ ltb (min a b) n
ltb_min a b n = by (ltb a n) refl (ltb b n) refl
  where
    by : (s : Bool) → ltb a n ≡ s → (t : Bool) → ltb b n ≡ t → (s || t) ≡ ltb (min a b) n
    by true e t f = sym (lt-ltb (min a b) n (omega (arith, ltb-true a n e)))
    by false e true f = sym (lt-ltb (min a b) n (omega (arith, ltb-true b n f)))
    by false e false f = sym (le-ltb (min a b) n (omega (arith, ltb-false a n e, ltb-false b n f)))

-- a table that is not short has the words and the floats of every record
pub record Long (words : List ℕ) (floats : List Float) (count : ℕ) : Type 0 where
  pub words_long : 8 * count ≤ length words
  pub floats_long : 4 * count ≤ length floats

pub long : {words : List ℕ} {floats : List Float} {count : ℕ} → is_table_short words floats count ≡ false → Long words floats count
unfolding is_table_short
long {words} {floats} {count} h = omega (arith, ltb-false (min (length words / 8) (length floats / 4)) count h)

-- ---- refusal 4

-- the records, no id below `low`
abbrev valid_from : ℕ → List Words → Bool
valid_from low records = all in_range records && strictly_ascends_from low (map (λ w. w.id) records)

pub record Judging (words : List ℕ) (count i : ℕ) (ok : Bool) (low : ℕ) : Type 0 where
  pub within : i ≤ count
  pub judged : (ok && valid_from low (drop i (tabulate count (words_at words)))) ≡ is_valid (tabulate count (words_at words))

pub begin : (words : List ℕ) (count : ℕ) → Judging words count 0 true 0
unfolding is_valid
begin words count = record { within = omega arith; judged = refl }

-- one record's tests go to the two sides
regroup : (ok a b c d : Bool) → ((ok && (a && b)) && (c && d)) ≡ (ok && ((a && c) && (b && d)))
regroup true true true c d = refl
regroup true true false true d = refl
regroup true true false false d = refl
regroup true false b c d = refl
regroup false a b c d = refl

pub next : {words : List ℕ} {count i low : ℕ} {ok fine : Bool} {w : Words} → Judging words count i ok low → i < count → w ≡ words_at words i → fine ≡ in_range w → Judging words count (i + 1) (ok && (fine && leb low w.id)) (w.id + 1)
unfolding strictly_ascends_from
next {words} {count} {i} {low} {ok} {fine} {w} v h p q =
    record {
      within = omega arith;
      judged = rw (add-one i, add-one w.id, q, p) (regroup ok (in_range (words_at words i)) (leb low (id_at words i)) _ _ ∙ sym (ap (λ (rs : List Words). ok && valid_from low rs) (drop_tabulate count (words_at words) i h)) ∙ v.judged);
    }

pub end : {words : List ℕ} {count i low : ℕ} {ok : Bool} → Judging words count i ok low → count ≤ i → ok ≡ is_valid (tabulate count (words_at words))
unfolding strictly_ascends_from
end {words} {count} {i} {low} {ok} v h =
    let records = tabulate count (words_at words) in
    let past : length records ≤ i = omega (arith, length_tabulate count (words_at words)) in
    sym (and-true ok) ∙ ap (λ (rs : List Words). ok && valid_from low rs) (sym (drop_of_length-le records past)) ∙ v.judged

-- ---- a table that passes

ids_valid : (words : List ℕ) (count : ℕ) → is_valid (tabulate count (words_at words)) ≡ true → strictly_ascends (table_ids words count) ≡ true
unfolding is_valid table_ids
ids_valid words count h =
    let records = tabulate count (words_at words) in
    rw map_tabulate at (right (all in_range records) (strictly_ascends (map (λ (w : Words). w.id) records)) h)

range_valid : (words : List ℕ) (count : ℕ) → is_valid (tabulate count (words_at words)) ≡ true → (i : ℕ) → i < count → in_range (words_at words i) ≡ true
unfolding is_valid
range_valid words count h i p =
    let records = tabulate count (words_at words) in
    let whole : all in_range records ≡ true = left (all in_range records) (strictly_ascends (map (λ (w : Words). w.id) records)) h in
    rw (get_d_tabulate count (words_at words) (words_at words i) i p) at (all_at in_range records whole i (words_at words i) (rw (length_tabulate count (words_at words)) p))

pub table : {words : List ℕ} {floats : List Float} {count : ℕ} → is_table words floats count ≡ true → Table words floats count
unfolding is_table
table {words} {floats} {count} h =
    let fits : Long words floats count = long (not-true (is_table_short words floats count) (left (not (is_table_short words floats count)) (is_valid (tabulate count (words_at words))) h)) in
    let valid = right (not (is_table_short words floats count)) (is_valid (tabulate count (words_at words))) h in
    record {
      words_long = fits.words_long;
      floats_long = fits.floats_long;
      ascending = ids_valid words count valid;
      in_range_lem = range_valid words count valid;
    }

-- ---- where 1 applies and where it does not

pub table_short : (words : List ℕ) (floats : List Float) (count : ℕ) → is_table_short words floats count ≡ true → is_table words floats count ≡ false
unfolding is_table
table_short words floats count h = rw h refl

pub table_long : (words : List ℕ) (floats : List Float) (count : ℕ) → is_table_short words floats count ≡ false → is_table words floats count ≡ is_valid (tabulate count (words_at words))
unfolding is_table
table_long words floats count h = rw h refl
