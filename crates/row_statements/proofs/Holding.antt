-- The lists that a caller holds a queue in: once it is written to them, and in other memory that holds the same carries. Assumes nothing.
use Rattle.std.specs.Prelude.{◌≡◌, ◌/◌, ◌≤◌}
use Rattle.laws.proofs.Prelude.{ap, ap₂, sym, ◌∙◌, true, false, List, ℕ, min, arith, ltb, length, length-map, over, length_over}
use Rattle.styling.specs.Ascending.{strictly_ascends}
use Rattle.queue_statements.specs.Queue.{Carry, ids_in, covers_in, is_queue}
use Rattle.queue_statements.proofs.Columns.{are_wide, length_covers, reads_back, in_order}
use Rattle.queue_statements.proofs.Judging.{room}
use Rattle.row_statements.specs.Lent.{Columns, carries_in, is_queue_short, queue_over}
use Rattle.row_statements.specs.Run.{SameCarries}
use Rattle.row_statements.specs.InnerHolding.{HoldsQueue}

-- two lists hold the carries q once q is written to them
pub holds_written : (q : List Carry) (k : Columns) → is_queue_short k ≡ false → length q ≤ 256 → are_wide q ≡ true → strictly_ascends (ids_in q) ≡ true → HoldsQueue q (queue_over q k)
holds_written q k short few wide up =
    let r = room {ids = k.ids} {covers = k.covers} short in
    let many : length (ids_in q) ≡ length q = length-map q (λ c. c.id) in
    let same_ids : length (over (ids_in q) k.ids) ≡ length k.ids = length_over k.ids (ids_in q) (omega (arith, many, few, r.ids_long)) in
    let same_covers : length (over (covers_in q) k.covers) ≡ length k.covers = length_over k.covers (covers_in q) (omega (arith, length_covers q wide, few, r.covers_long)) in
    record {
      reads = reads_back q k.ids k.covers wide;
      long = ap₂ (λ (a b : ℕ). ltb (min a (b / 16)) 256) same_ids same_covers ∙ short;
      ordered = in_order q k.ids k.covers few up;
    }

-- memory that holds the same carries holds them
pub same_holds : {n : ℕ} {a b : Columns} (q : List Carry) → SameCarries n a b → n ≡ length q → HoldsQueue q a → HoldsQueue q b
same_holds {n} {a} {b} q s e h =
    record {
      reads = ap (λ (m : ℕ). carries_in m b) (sym e) ∙ s.reads ∙ ap (λ (m : ℕ). carries_in m a) e ∙ h.reads;
      long = s.room ∙ h.long;
      ordered = ap (λ (m : ℕ). is_queue m b.ids) (sym e) ∙ s.order ∙ ap (λ (m : ℕ). is_queue m a.ids) e ∙ h.ordered;
    }
