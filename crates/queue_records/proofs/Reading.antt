-- The loop of `read_queue`, over plain lists: where it stands, how a turn moves it on, and what it has come to. Assumes nothing.
use Rattle.std.specs.Prelude.{◌≡◌, ◌∷◌, ◌++◌, ◌+◌, ◌*◌, ◌≤◌, ◌<◌}
use Rattle.laws.proofs.Prelude.{refl, sym, ap, ap₂, ◌∙◌, List, [], append_assoc, append-nil, ℕ, suc, min, add-one}
use Rattle.laws.proofs.Prelude.{arith, ℤ, pos, length, take, drop, get_or, set, replicate, length-append, take-suc, take_at, length-take-le, drop-cons}
use Rattle.laws.proofs.Prelude.{drop_at, drop-drop, over, is_tabulate}
use Prim.Native.Nat.{zero-le}
use lib.Seq.{set_at, append_snoc}
use Rattle.cover_statements.specs.Cover.{cover_at}
use Rattle.cover_statements.specs.Entry.{put_entry}
use Rattle.queue_statements.specs.Queue.{covers_in}
use Rattle.queue_records.specs.Records.{record_carry, record_ids, record_covers, no_record, readable, columns_of}
use Rattle.queue_records.specs.declared.CarryRecord.{CarryRecord}
use Rattle.queue_records.specs.declared.Columns.{Columns}

-- n records are there, and have room
pub record Fits (queue ids covers n : ℕ) : Type 0 where
  pub there : n ≤ queue
  pub for_ids : n ≤ ids
  pub for_covers : n * 16 ≤ covers

pub readable_fits : (count queue ids covers n : ℕ) → n ≡ readable count queue ids covers → Fits queue ids covers n
readable_fits count queue ids covers n e = record { there = omega arith; for_ids = omega arith; for_covers = omega arith }

-- ---- the columns of a queue's first records, and of one more

-- a record's cover is its covers, which are 16
pub cover_is : (r : CarryRecord) → length r.covers ≡ 16 → (record_carry r).cover ≡ r.covers
cover_is r e = sym (is_tabulate 16 (λ y. cover_at r.covers y) (pos 0) r.covers e (λ i h. refl))

pub ids_append : (s t : List CarryRecord) → record_ids (s ++ t) ≡ record_ids s ++ record_ids t
ids_append [] t = refl
ids_append (c ∷ s) t = ap (λ (l : List ℕ). c.id ∷ l) (ids_append s t)

pub covers_append : (s t : List CarryRecord) → record_covers (s ++ t) ≡ record_covers s ++ record_covers t
unfolding covers_in
covers_append [] t = refl
covers_append (c ∷ s) t = ap (λ (l : List ℤ). (record_carry c).cover ++ l) (covers_append s t) ∙ sym (append_assoc (record_carry c).cover (record_covers s) (record_covers t))

pub ids_length : (s : List CarryRecord) → length (record_ids s) ≡ length s
ids_length [] = refl
ids_length (c ∷ s) = ap suc (ids_length s)

-- every record has sixteen covers
pub covers_length : (s : List CarryRecord) → length (record_covers s) ≡ length s * 16
unfolding covers_in
covers_length [] = refl
covers_length (c ∷ s) = omega (arith, length-append (record_carry c).cover (record_covers s), covers_length s)

module _ (q : List CarryRecord) (i : ℕ) (h : i < length q) where
  ids_next : record_ids (take (i + 1) q) ≡ record_ids (take i q) ++ ((get_or q i no_record).id ∷ [])
  ids_next = rw (add-one, take-suc q i no_record h, ids_append) refl

  covers_next : record_covers (take (i + 1) q) ≡ record_covers (take i q) ++ (record_carry (get_or q i no_record)).cover
  unfolding covers_in
  covers_next = rw (add-one, take-suc q i no_record h, covers_append, append-nil) refl

-- ---- one more entry over a column
over_set : (ws old : List ℕ) (x : ℕ) → length ws < length old → set (over ws old) (length ws) x ≡ over (ws ++ (x ∷ [])) old
unfolding over
over_set ws old x h = rw (drop-cons old (length ws) 0, set_at ws _ _ x (length ws) refl, length-append, add-one, append_snoc) refl

over_put : (ws cs old : List ℤ) (i : ℕ) → length ws ≡ i * 16 → put_entry 16 i cs (over ws old) ≡ over (ws ++ cs) old
unfolding over put_entry
over_put ws cs old i e =
    let past : drop (length ws) (ws ++ drop (length ws) old) ≡ drop (length ws) old = drop_at ws (drop (length ws) old) (length ws) refl in
    rw (sym e, take_at ws (drop (length ws) old) (length ws) refl, past, drop-drop, length-append, append_assoc) refl

-- ---- where the loop stands
pub record Reading (q : List CarryRecord) (ids₀ : List ℕ) (covers₀ : List ℤ) (n : ℕ) : Type 0 where
  pub i : ℕ
  pub ids : List ℕ
  pub covers : List ℤ
  pub within : i ≤ n
  pub ids_are : ids ≡ over (record_ids (take i q)) ids₀
  pub covers_are : covers ≡ over (record_covers (take i q)) covers₀
  pub ids_same : length ids ≡ length ids₀
  pub covers_same : length covers ≡ length covers₀

module _ (q : List CarryRecord) (ids₀ : List ℕ) (covers₀ : List ℤ) (n : ℕ) where
  pub no_ids : ids₀ ≡ over (record_ids (take 0 q)) ids₀
  unfolding over
  no_ids = refl

  pub no_covers : covers₀ ≡ over (record_covers (take 0 q)) covers₀
  unfolding over covers_in
  no_covers = refl

  abbrev pub start : Reading q ids₀ covers₀ n
  start = record { i = 0; ids = ids₀; covers = covers₀; within = zero-le; ids_are = no_ids; covers_are = no_covers; ids_same = refl; covers_same = refl }

  -- a turn: the record at i is read, and laid over the two columns
  module _ (fits : Fits (length q) (length ids₀) (length covers₀) n) (s : Reading q ids₀ covers₀ n) (less : s.i < n) where
    pub in_queue : s.i < length q
    in_queue = omega arith

    pub has_room_lem : (s.i < length s.ids) × (s.i * 16 + 16 ≤ length s.covers)
    has_room_lem = (omega arith, omega arith)

    there : length (take s.i q) ≡ s.i
    there = length-take-le s.i q (omega arith)

    taken : length (record_ids (take s.i q)) ≡ s.i
    taken = ids_length (take s.i q) ∙ there

    sixteens : length (record_covers (take s.i q)) ≡ s.i * 16
    sixteens = covers_length (take s.i q) ∙ ap (λ (k : ℕ). k * 16) there

    module _ (c : CarryRecord) (e : c ≡ get_or q s.i no_record) (wide : length c.covers ≡ 16) (ys : List ℕ) (zs : List ℤ) (wrote : (ys ≡ set s.ids s.i c.id) × (zs ≡ put_entry 16 s.i c.covers s.covers)) where
      pub more_ids : ys ≡ over (record_ids (take (s.i + 1) q)) ids₀
      more_ids =
          wrote.0 ∙ ap (λ (l : List ℕ). set l s.i c.id) s.ids_are ∙ ap (λ (k : ℕ). set (over (record_ids (take s.i q)) ids₀) k c.id) (sym taken)
          ∙ over_set (record_ids (take s.i q)) ids₀ c.id (omega (arith, taken)) ∙ rw (e, ids_next q s.i in_queue) refl

      pub more_covers : zs ≡ over (record_covers (take (s.i + 1) q)) covers₀
      more_covers =
          wrote.1 ∙ ap (put_entry 16 s.i c.covers) s.covers_are
          ∙ over_put (record_covers (take s.i q)) c.covers covers₀ s.i sixteens ∙ ap (λ (l : List ℤ). over (record_covers (take s.i q) ++ l) covers₀) (sym (cover_is c wide) ∙ ap (λ (r : CarryRecord). (record_carry r).cover) e)
          ∙ ap (λ (l : List ℤ). over l covers₀) (sym (covers_next q s.i in_queue))

      abbrev pub next : length ys ≡ length s.ids → length zs ≡ length s.covers → Reading q ids₀ covers₀ n
      next same_ids same_covers = record {
        i = s.i + 1;
        ids = ys;
        covers = zs;
        within = omega arith;
        ids_are = more_ids;
        covers_are = more_covers;
        ids_same = same_ids ∙ s.ids_same;
        covers_same = same_covers ∙ s.covers_same;
      }

  -- at n the columns are what the contract says
  pub ended : (s : Reading q ids₀ covers₀ n) → n ≤ s.i → (s.ids ≡ over (record_ids (take n q)) ids₀) × (s.covers ≡ over (record_covers (take n q)) covers₀)
  ended s last =
      let e : s.i ≡ n = omega arith in
      (s.ids_are ∙ ap (λ (k : ℕ). over (record_ids (take k q)) ids₀) e, s.covers_are ∙ ap (λ (k : ℕ). over (record_covers (take k q)) covers₀) e)

-- ---- columns of their own
pub columns_are : (q : List CarryRecord) (count n : ℕ) (ids₀ ids : List ℕ) (covers₀ covers : List ℤ) (r : Columns) → ids₀ ≡ replicate 256 0 → covers₀ ≡ replicate 4096 (pos 0) → length ids₀ ≡ 256 → length covers₀ ≡ 4096
    → (n ≡ readable count (length q) (length ids₀) (length covers₀)) × (ids ≡ over (record_ids (take n q)) ids₀) × (covers ≡ over (record_covers (take n q)) covers₀)
    → r ≡ record { entries = min (length q) 256; ids = ids; covers = covers } → r ≡ columns_of q count
unfolding columns_of
columns_are q count n ids₀ ids covers₀ covers r e₁ e₂ l₁ l₂ read e =
    let many : n ≡ readable count (length q) 256 4096 = read.0 ∙ ap₂ (λ (a b : ℕ). readable count (length q) a b) l₁ l₂ in
    e ∙ ap₂ (λ (us : List ℕ) (zs : List ℤ). record { entries = min (length q) 256; ids = us; covers = zs })
    (read.1 ∙ ap₂ (λ (k : ℕ) (old : List ℕ). over (record_ids (take k q)) old) many e₁)
    (read.2 ∙ ap₂ (λ (k : ℕ) (old : List ℤ). over (record_covers (take k q)) old) many e₂)
