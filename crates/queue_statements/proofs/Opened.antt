-- What an opening leaves with the caller, by its answer: the queue that it counts, in order; or the columns as they were. Assumes nothing.
use Rattle.std.specs.Prelude.{◌≡◌, ◌≤◌}
use Rattle.laws.proofs.Prelude.{refl, sym, ap, ◌∙◌, Bool, true, false, cond, List, ℕ, arith, ltb-false, ltb, ℤ, length, Answer, refused}
use Rattle.laws.proofs.Prelude.{given, over}
use Rattle.queue_statements.specs.Queue.{queue_of, ids_in, covers_in, is_queue}
use Rattle.queue_statements.specs.Opening.{open_queue, is_light_opening, written_if, Opens}
use Rattle.queue_statements.proofs.Columns.{reads_back, in_order}
use Rattle.queue_statements.proofs.Openings.{opening_ascends, opening_wide}

-- an opening that is accepted
pub record Opened (left : List ℕ) (n : ℕ) (ids : List ℕ) (covers : List ℤ) : Type 0 where
  pub count : n ≡ length (open_queue left)
  pub few : n ≤ 256
  pub light : is_light_opening left ≡ true
  pub queue : queue_of n ids covers ≡ open_queue left
  pub in_order : is_queue n ids ≡ true

-- where the answer is a number, neither test refused
record Passed (many light : Bool) (k n : ℕ) : Type 0 where
  few : many ≡ false
  light_is : light ≡ true
  count : n ≡ k

passed : (many light : Bool) (k n : ℕ) → given n ≡ cond many (refused 7) (cond light (given k) (refused 9)) → Passed many light k n
passed true light k n e = let clash : ◌≡◌ {A = ℕ} 0 1 = cc in absurd (omega arith)
passed false true k n e = record { few = refl; light_is = refl; count = let same : n ≡ k = cc in same }
passed false false k n e = let clash : ◌≡◌ {A = ℕ} 0 1 = cc in absurd (omega arith)

pub opened : {left oldIds ids : List ℕ} {oldCovers covers : List ℤ} {n : ℕ} → Opens left oldIds oldCovers (given n) ids covers → Opened left n ids covers
opened {left} {oldIds} {ids} {oldCovers} {covers} {n} o =
    let q = open_queue left in
    let p : Passed (ltb 256 (length q)) (is_light_opening left) (length q) n = passed (ltb 256 (length q)) (is_light_opening left) (length q) n o.answer in
    let limit : length q ≤ 256 = ltb-false 256 (length q) p.few in
    let ids_are : ids ≡ over (ids_in q) oldIds = o.ids_are ∙ ap (λ (a : Answer ℕ). written_if a (ids_in q) oldIds) (sym o.answer) in
    let covers_are : covers ≡ over (covers_in q) oldCovers = o.covers_are ∙ ap (λ (a : Answer ℕ). written_if a (covers_in q) oldCovers) (sym o.answer) in
    record {
      count = p.count;
      few = omega (arith, p.count);
      light = p.light_is;
      queue = rw (ids_are, covers_are, p.count) (reads_back q oldIds oldCovers (opening_wide left));
      in_order = rw (ids_are, p.count) (in_order q oldIds oldCovers limit (opening_ascends left));
    }

-- an opening that is refused
pub record Kept (oldIds ids : List ℕ) (oldCovers covers : List ℤ) : Type 0 where
  pub ids_are : ids ≡ oldIds
  pub covers_are : covers ≡ oldCovers

pub turned : {left oldIds ids : List ℕ} {oldCovers covers : List ℤ} {number : ℕ} → Opens left oldIds oldCovers (refused number) ids covers → Kept oldIds ids oldCovers covers
turned {left} {oldIds} {ids} {oldCovers} {covers} o =
    let q = open_queue left in
    record {
      ids_are = o.ids_are ∙ ap (λ (a : Answer ℕ). written_if a (ids_in q) oldIds) (sym o.answer);
      covers_are = o.covers_are ∙ ap (λ (a : Answer ℕ). written_if a (covers_in q) oldCovers) (sym o.answer);
    }
