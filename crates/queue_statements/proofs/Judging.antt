-- Judging a lent queue: what holds while its ids are passed in one pass, and what holds of a queue that passes. Assumes nothing.
use Rattle.std.specs.Prelude.{◌≡◌, ◌&&◌, ◌+◌, ◌/◌, ◌≤◌, ◌<◌}
use Rattle.laws.proofs.Prelude.{refl, sym, ap, ◌∙◌, Bool, true, false, and-true, and_assoc, List, ℕ, suc, min, add-one}
use Rattle.laws.proofs.Prelude.{arith, ltb-false, leb-true, le-leb, lt-leb, leb, ℤ, length, get_or, take, drop, drop_of_length-le, length-take}
use Rattle.laws.proofs.Prelude.{drop-cons, get_or-take, left, right}
use Rattle.styling.specs.Ascending.{strictly_ascends_from, strictly_ascends}
use Rattle.queue_statements.specs.Queue.{are_columns_short, is_queue, LentQueueRoom, Queued}

-- ---- refusal 1

pub room : {ids : List ℕ} {covers : List ℤ} → are_columns_short ids covers ≡ false → LentQueueRoom ids covers
room {ids} {covers} h =
    let enough : 256 ≤ min (length ids) (length covers / 16) = ltb-false (min (length ids) (length covers / 16)) 256 h in
    record { ids_long = omega arith; covers_long = omega arith }

-- ---- refusal 5

pub record Judging (n : ℕ) (ids : List ℕ) (i : ℕ) (ok : Bool) (low : ℕ) : Type 0 where
  pub within : i ≤ length (take n ids)
  pub judged : (ok && strictly_ascends_from low (drop i (take n ids))) ≡ strictly_ascends (take n ids)

pub begin : (n : ℕ) (ids : List ℕ) → Judging n ids 0 true 0
begin n ids = record { within = omega arith; judged = refl }

pub next : {n : ℕ} {ids : List ℕ} {i : ℕ} {ok : Bool} {low : ℕ} → Judging n ids i ok low → i < min n (length ids) → Judging n ids (i + 1) (ok && leb low (get_or ids i 0)) (get_or ids i 0 + 1)
unfolding strictly_ascends_from
next {n} {ids} {i} {ok} {low} v h =
    let listed = take n ids in
    let id = get_or ids i 0 in
    let here : i < length listed = omega (arith, length-take n ids) in
    record {
      within = omega arith;
      judged =
          rw (add-one i, add-one id)
          (and_assoc ok (leb low id) (strictly_ascends_from (suc id) (drop (suc i) listed))
          ∙ ap (λ (x : ℕ). ok && (leb low x && strictly_ascends_from (suc x) (drop (suc i) listed))) (sym (get_or-take n ids i 0 (omega arith)))
          ∙ ap (λ (l : List ℕ). ok && strictly_ascends_from low l) (sym (drop-cons listed i 0 here))
          ∙ v.judged);
    }

pub end : {n : ℕ} {ids : List ℕ} {i : ℕ} {ok : Bool} {low : ℕ} → Judging n ids i ok low → n ≤ 256 → min n (length ids) ≤ i → ok ≡ is_queue n ids
unfolding strictly_ascends_from is_queue
end {n} {ids} {i} {ok} {low} v few h =
    let past : length (take n ids) ≤ i = omega (arith, length-take n ids) in
    rw (le-leb n 256 few)
    (sym (and-true ok) ∙ ap (λ (l : List ℕ). ok && strictly_ascends_from low l) (sym (drop_of_length-le (take n ids) past)) ∙ v.judged)

pub many : (n : ℕ) (ids : List ℕ) → 256 < n → false ≡ is_queue n ids
unfolding is_queue
many n ids h = rw (lt-leb n 256 h)

-- ---- a queue that passes

pub record Ordered (n : ℕ) (ids : List ℕ) : Type 0 where
  pub few : n ≤ 256
  pub ascending : strictly_ascends (take n ids) ≡ true

pub ordered : (n : ℕ) (ids : List ℕ) → is_queue n ids ≡ true → Ordered n ids
unfolding is_queue
ordered n ids h =
    record {
      few = leb-true n 256 (left (leb n 256) (strictly_ascends (take n ids)) h);
      ascending = right (leb n 256) (strictly_ascends (take n ids)) h;
    }

pub queued : {n : ℕ} {ids : List ℕ} {covers : List ℤ} → are_columns_short ids covers ≡ false → is_queue n ids ≡ true → Queued n ids covers
queued {n} {ids} {covers} s h =
    let space : LentQueueRoom ids covers = room s in
    let q = ordered n ids h in
    record {
      ids_long = omega arith;
      covers_long = omega arith;
      ascending = q.ascending;
    }
