-- The loop that makes records of two columns, over plain lists: where it stands, how a turn moves it on, and what it has come to. Assumes nothing.
use Rattle.std.specs.Prelude.{◌≡◌, ◌∷◌, ◌++◌, ◌+◌, ◌*◌, ◌≤◌, ◌<◌}
use Rattle.laws.proofs.Prelude.{refl, sym, ap, ap₂, ◌∙◌, List, [], append-nil, ℕ, add-one, arith, ℤ, length, take}
use Rattle.laws.proofs.Prelude.{get_or, set, length-set, take-suc, take_all, take-add}
use lib.Seq.{take-suc-set}
use Rattle.cover_statements.specs.Entry.{cover_entry}
use Rattle.cover_statements.proofs.Entries.{entry_length}
use Rattle.queue_statements.specs.Queue.{covers_in}
use Rattle.queue_records.specs.Records.{record_carry, record_ids, record_covers}
use Rattle.queue_records.specs.declared.CarryRecord.{CarryRecord}
use Rattle.queue_records.proofs.Reading.{cover_is, ids_append, covers_append}

-- the first i records have the first i entries of the columns
pub record Making (ids : List ℕ) (covers : List ℤ) (i : ℕ) (queue : List CarryRecord) : Type 0 where
  pub within : i ≤ 256
  pub long : length queue ≡ 256
  pub ids_are : record_ids (take i queue) ≡ take i ids
  pub covers_are : record_covers (take i queue) ≡ take (i * 16) covers

-- the columns of one more record
ids_snoc : (q : List CarryRecord) (r : CarryRecord) → record_ids (q ++ (r ∷ [])) ≡ record_ids q ++ (r.id ∷ [])
ids_snoc q r = ids_append q (r ∷ [])

covers_snoc : (q : List CarryRecord) (r : CarryRecord) → length r.covers ≡ 16 → record_covers (q ++ (r ∷ [])) ≡ record_covers q ++ r.covers
unfolding covers_in
covers_snoc q r wide = covers_append q (r ∷ []) ∙ ap (λ (l : List ℤ). record_covers q ++ l) (append-nil (record_carry r).cover ∙ cover_is r wide)

module _ {ids : List ℕ} {covers : List ℤ} where
  pub make_start : (queue : List CarryRecord) → length queue ≡ 256 → Making ids covers 0 queue
  unfolding covers_in
  make_start queue e = record { within = omega arith; long = e; ids_are = refl; covers_are = refl }

  module _ {i : ℕ} {queue : List CarryRecord} (r : CarryRecord) (ids_long : length ids ≡ 256) (covers_long : length covers ≡ 4096) (m : Making ids covers i queue) (less : i < 256) (is : (r.id ≡ get_or ids i 0) × (r.covers ≡ cover_entry 16 i covers)) where
    wide : length r.covers ≡ 16
    wide = ap length is.1 ∙ entry_length 16 i covers (omega arith)

    more : take (i + 1) (set queue i r) ≡ take i queue ++ (r ∷ [])
    more = rw add-one (take-suc-set queue i r (omega (arith, m.long)))

    more_ids : record_ids (take (i + 1) (set queue i r)) ≡ take (i + 1) ids
    more_ids =
        ap record_ids more ∙ ids_snoc (take i queue) r ∙ ap₂ (λ (l : List ℕ) (n : ℕ). l ++ (n ∷ [])) m.ids_are is.0
        ∙ sym (take-suc ids i 0 (omega (arith, ids_long))) ∙ ap (λ (n : ℕ). take n ids) (sym (add-one i))

    more_covers : record_covers (take (i + 1) (set queue i r)) ≡ take ((i + 1) * 16) covers
    unfolding cover_entry
    more_covers =
        let e : i * 16 + 16 ≡ (i + 1) * 16 = omega arith in
        ap record_covers more ∙ covers_snoc (take i queue) r wide ∙ ap₂ (λ (l k : List ℤ). l ++ k) m.covers_are is.1
        ∙ sym (take-add (i * 16) 16 covers) ∙ ap (λ (n : ℕ). take n covers) e

    pub make_next : Making ids covers (i + 1) (set queue i r)
    make_next = record { within = omega arith; long = length-set queue i r ∙ m.long; ids_are = more_ids; covers_are = more_covers }

  pub make_end : {i : ℕ} {queue : List CarryRecord} → length ids ≡ 256 → length covers ≡ 4096 → Making ids covers i queue → 256 ≤ i → (record_ids queue ≡ ids) × (record_covers queue ≡ covers)
  make_end {i} {queue} ids_long covers_long m last =
      let all : take i queue ≡ queue = take_all i queue (omega (arith, m.long)) in
      (ap record_ids (sym all) ∙ m.ids_are ∙ take_all i ids (omega arith), ap record_covers (sym all) ∙ m.covers_are ∙ take_all (i * 16) covers (omega arith))
