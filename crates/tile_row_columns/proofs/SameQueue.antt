-- What is lent of a queue's columns says what the records say: whether the queue is short, and where it is not, whether it is in order, and its carries.
-- Assumes nothing.
use Rattle.std.specs.Prelude.{◌≡◌, ◌&&◌, ◌∷◌, ◌++◌, ◌*◌, ◌/◌, ◌≤◌, ◌<◌}
use Rattle.laws.proofs.Prelude.{refl, sym, ap, ap₂, ◌∙◌, Bool, true, false, List, [], ℕ, min, arith}
use Rattle.laws.proofs.Prelude.{ltb-true, ltb-false, lt-ltb, le-ltb, leb-true, ltb, leb, pos, length, take, drop, replicate, length-map}
use Rattle.laws.proofs.Prelude.{take-append-drop, take_all, length-take-le, over, left, length_over}
use lib.Seq.{drop-append_seam}
use Rattle.styling.specs.Ascending.{strictly_ascends}
use Rattle.queue_statements.specs.Queue.{Carry, queue_room, are_columns_short, is_queue, queue_of, ids_in, covers_in}
use Rattle.queue_statements.proofs.Columns.{are_wide, take_ids, reads_back}
use Rattle.queue_records.specs.Records.{record_carry, carries_of, record_ids, record_covers, readable, columns_of}
use Rattle.queue_records.specs.declared.CarryRecord.{CarryRecord}
use Rattle.queue_records.specs.declared.Columns as read
use Rattle.queue_records.proofs.Reading.{ids_append, covers_append, ids_length, covers_length}
use Rattle.tile_row_columns.specs.Lent.{lent_columns}

-- records have 16 covers each
wide : (q : List CarryRecord) → are_wide (carries_of q) ≡ true
wide [] = refl
wide (c ∷ q) = wide q

-- a list is its front over itself
over_self : {A : Type 0} (ws ys : List A) → ws ++ ys ≡ over ws (ws ++ ys)
unfolding over
over_self ws ys = ap (λ l. ws ++ l) (sym (drop-append_seam ws ys))

-- refusal 1 of 256 records or more
pub records_long : (q : List CarryRecord) → 256 ≤ length q → are_columns_short (record_ids q) (record_covers q) ≡ false
records_long q l = le-ltb (queue_room (record_ids q) (record_covers q)) 256 (omega (arith, ids_length q, covers_length q))

module _ (q : List CarryRecord) (n : ℕ) where
  -- how many records are read
  abbrev m : ℕ
  m = readable n (length q) 256 4096

  abbrev c : read.Columns
  c = columns_of q n

  taken : length (take m q) ≡ m
  taken = length-take-le m q (omega arith)

  ids_long : length c.ids ≡ 256
  unfolding columns_of
  ids_long = length_over (replicate 256 0) (record_ids (take m q)) (omega (arith, ids_length (take m q), taken))

  covers_long : length c.covers ≡ 4096
  unfolding columns_of
  covers_long = length_over (replicate 4096 (pos 0)) (record_covers (take m q)) (omega (arith, covers_length (take m q), taken))

  entries_are : c.entries ≡ min (length q) 256
  unfolding columns_of
  entries_are = refl

  -- refusal 1
  pub same_short : are_columns_short (lent_columns c).ids (lent_columns c).covers ≡ are_columns_short (record_ids q) (record_covers q)
  same_short = by (ltb (length q) 256) refl
    where
      of_ids : length (lent_columns c).ids ≡ min (length q) 256
      of_ids = length-take-le (min c.entries 256) c.ids (omega (arith, ids_long)) ∙ omega (arith, entries_are)

      of_covers : length (lent_columns c).covers ≡ min (length q) 256 * 16
      of_covers = length-take-le (min c.entries 256 * 16) c.covers (omega (arith, covers_long)) ∙ omega (arith, entries_are)

      by : (t : Bool) → ltb (length q) 256 ≡ t → are_columns_short (lent_columns c).ids (lent_columns c).covers ≡ are_columns_short (record_ids q) (record_covers q)
      by true e =
          let l : length q < 256 = ltb-true (length q) 256 e in
          lt-ltb (queue_room (lent_columns c).ids (lent_columns c).covers) 256 (omega (arith, of_ids)) ∙ sym (lt-ltb (queue_room (record_ids q) (record_covers q)) 256 (omega (arith, ids_length q)))
      by false e =
          let l : 256 ≤ length q = ltb-false (length q) 256 e in
          le-ltb (queue_room (lent_columns c).ids (lent_columns c).covers) 256 (omega (arith, of_ids, of_covers)) ∙ sym (records_long q l)

  -- where it doesn't apply there are 256 records
  there : are_columns_short (record_ids q) (record_covers q) ≡ false → 256 ≤ length q
  there e = let l : 256 ≤ min (length (record_ids q)) (length (record_covers q) / 16) = ltb-false (queue_room (record_ids q) (record_covers q)) 256 e in omega (arith, ids_length q)

  -- the first n of 256 records or more
  module _ (few : n ≤ 256) (many : 256 ≤ length q) where
    unfoldable front : List Carry
    front = carries_of (take n q)

    read_n : m ≡ n
    read_n = omega arith

    front_length : length front ≡ n
    unfolding front
    front_length = length-map (take n q) record_carry ∙ length-take-le n q (omega arith)

    ids_lent : (lent_columns c).ids ≡ over (ids_in front) (replicate 256 0)
    unfolding columns_of front
    ids_lent = take_all (min c.entries 256) c.ids (omega (arith, ids_long, entries_are)) ∙ ap (λ (k : ℕ). over (record_ids (take k q)) (replicate 256 0)) read_n

    covers_lent : (lent_columns c).covers ≡ over (covers_in front) (replicate 4096 (pos 0))
    unfolding columns_of front
    covers_lent = take_all (min c.entries 256 * 16) c.covers (omega (arith, covers_long, entries_are)) ∙ ap (λ (k : ℕ). over (record_covers (take k q)) (replicate 4096 (pos 0))) read_n

    ids_whole : record_ids q ≡ over (ids_in front) (record_ids q)
    unfolding front
    ids_whole =
        let e : record_ids q ≡ record_ids (take n q) ++ record_ids (drop n q) = ap record_ids (sym (take-append-drop n q)) ∙ ids_append (take n q) (drop n q) in
        e ∙ over_self (record_ids (take n q)) (record_ids (drop n q)) ∙ ap (over (record_ids (take n q))) (sym e)

    covers_whole : record_covers q ≡ over (covers_in front) (record_covers q)
    unfolding front
    covers_whole =
        let e : record_covers q ≡ record_covers (take n q) ++ record_covers (drop n q) = ap record_covers (sym (take-append-drop n q)) ∙ covers_append (take n q) (drop n q) in
        e ∙ over_self (record_covers (take n q)) (record_covers (drop n q)) ∙ ap (over (record_covers (take n q))) (sym e)

    front_wide : are_wide front ≡ true
    unfolding front
    front_wide = wide (take n q)

    same_ids : take n (lent_columns c).ids ≡ take n (record_ids q)
    same_ids =
        ap (λ (l : List ℕ). take n l) ids_lent ∙ ap (λ (k : ℕ). take k (over (ids_in front) (replicate 256 0))) (sym front_length) ∙ take_ids front (replicate 256 0) []
        ∙ sym (ap (λ (l : List ℕ). take n l) ids_whole ∙ ap (λ (k : ℕ). take k (over (ids_in front) (record_ids q))) (sym front_length) ∙ take_ids front (record_ids q) [])

    -- the records' own columns hold the front
    whole_reads : queue_of n (record_ids q) (record_covers q) ≡ front
    whole_reads =
        ap₂ (queue_of n) ids_whole covers_whole ∙ ap (λ (k : ℕ). queue_of k (over (ids_in front) (record_ids q)) (over (covers_in front) (record_covers q))) (sym front_length) ∙ reads_back front (record_ids q) (record_covers q) front_wide

    pub records_read : queue_of n (record_ids q) (record_covers q) ≡ carries_of (take n q)
    unfolding front
    records_read = whole_reads

    same_carries : queue_of n (lent_columns c).ids (lent_columns c).covers ≡ queue_of n (record_ids q) (record_covers q)
    same_carries =
        ap₂ (queue_of n) ids_lent covers_lent ∙ ap (λ (k : ℕ). queue_of k (over (ids_in front) (replicate 256 0)) (over (covers_in front) (replicate 4096 (pos 0)))) (sym front_length)
        ∙ reads_back front (replicate 256 0) (replicate 4096 (pos 0)) front_wide
        ∙ sym whole_reads

  -- refusal 5, where 1 does not apply
  pub same_order : are_columns_short (record_ids q) (record_covers q) ≡ false → is_queue n (lent_columns c).ids ≡ is_queue n (record_ids q)
  unfolding is_queue
  same_order e = by (leb n 256) refl
    where
      by : (t : Bool) → leb n 256 ≡ t → (t && strictly_ascends (take n (lent_columns c).ids)) ≡ (t && strictly_ascends (take n (record_ids q)))
      by true few = ap strictly_ascends (same_ids (leb-true n 256 few) (there e))
      by false few = refl

  -- and the carries, where neither does
  pub same_queue : are_columns_short (record_ids q) (record_covers q) ≡ false → is_queue n (record_ids q) ≡ true → queue_of n (lent_columns c).ids (lent_columns c).covers ≡ queue_of n (record_ids q) (record_covers q)
  unfolding is_queue
  same_queue e ok = same_carries (leb-true n 256 (left (leb n 256) (strictly_ascends (take n (record_ids q))) ok)) (there e)
