-- The loop that marks the changed layers of a list, in the places from 256 on; and the whole list, written and then marked. Assumes nothing.
use Rattle.std.specs.Prelude.{◌≡◌, ◌++◌, ◌+◌, ◌≤◌, ◌<◌}
use Rattle.laws.proofs.Prelude.{sym, ap, ◌∙◌, Bool, true, false, not, List, ℕ, arith, ℤ, length, get_or, set, take, drop}
use Rattle.laws.proofs.Prelude.{length-drop, length-map, take-append-drop, List·getD-append, List·getD-map, length-take-le, given}
use Rattle.laws.proofs.Prelude.{refused, over, length_tabulate, get_d_tabulate, is_tabulate, filled, filled_more, filled_all}
use Rattle.layer_table.specs.Lookup.{lookup}
use Rattle.styling.specs.declared.Layer.{Layer}
use Rattle.queue_statements.specs.Queue.{Carry, ids_in}
use Rattle.tile_layers.specs.Listing.{Listed, no_listed, incoming_of, is_changed, changed_of, over_from, Lists}
use Rattle.tile_layers.proofs.Flags.{set_past}
use Rattle.layer_listing.specs.InnerWriting.{Writes, marks_for}

-- ---- one layer, found in the table or missing

module _ (table : List Layer) (id : ℕ) where
  pub changed_found : {l l' : Layer} → l ≡ l' → lookup table id ≡ given l' → not l.is_unchanged ≡ is_changed table id
  changed_found e h = rw (h, e)

  pub changed_missing : lookup table id ≡ refused 8 → true ≡ is_changed table id
  changed_missing h = rw h

-- ---- the loop

module _ (table : List Layer) (n : ℕ) (ids : List ℕ) (old : List Bool) where
  pub record Marking (flags : List Bool) (i : ℕ) : Type 0 where
    pub reached : i ≤ n
    pub same : flags ≡ take 256 old ++ filled (drop 256 old) (marks_for table n ids) i

  many : length (marks_for table n ids) ≡ n
  unfolding marks_for
  many = length_tabulate n _

  pub mark_start : Marking old 0
  mark_start = record { reached = omega arith; same = sym (take-append-drop 256 old) }

  module _ (room : 256 + n ≤ length old) where
    front : length (take 256 old) ≡ 256
    front = length-take-le 256 old (omega arith)

    pub mark_next : {flags : List Bool} {i : ℕ} {b : Bool} → Marking flags i → i < n → b ≡ is_changed table (get_or ids i 0) → Marking (set flags (256 + i) b) (i + 1)
    unfolding marks_for
    mark_next {flags} {i} {b} m h e =
        let s = marks_for table n ids in
        let d = drop 256 old in
        let at : b ≡ get_or s i false = e ∙ sym (get_d_tabulate n (λ k. is_changed table (get_or ids k 0)) false i h) in
        let place : 256 + i ≡ length (take 256 old) + i = ap (λ (k : ℕ). k + i) (sym front) in record {
          reached = omega arith;
          same =
              rw m.same
              (ap (λ (k : ℕ). set (take 256 old ++ filled d s i) k b) place
              ∙ set_past (take 256 old) (filled d s i) i b
              ∙ ap (λ (c : Bool). take 256 old ++ set (filled d s i) i c) at
              ∙ ap (λ (r : List Bool). take 256 old ++ r) (filled_more d s i false (omega (arith, length-drop 256 old)) (omega (arith, many))));
        }

    pub mark_end : {flags : List Bool} {i : ℕ} → Marking flags i → n ≤ i → flags ≡ over_from 256 (marks_for table n ids) old
    unfolding over_from
    mark_end {flags} {i} m h =
        m.same ∙ ap (λ (r : List Bool). take 256 old ++ r) (filled_all (drop 256 old) (marks_for table n ids) i (omega (arith, many, m.reached)))

-- ---- the whole list

-- the marks of the ids that were written are those of the layers
marks_are : (table : List Layer) (ls : List Listed) (oldIds : List ℕ) → marks_for table (length ls) (over (ids_in (incoming_of ls)) oldIds) ≡ changed_of table ls
unfolding marks_for over
marks_are table ls oldIds =
    sym
    (is_tabulate (length ls) (λ i. is_changed table (get_or (over (ids_in (incoming_of ls)) oldIds) i 0)) (is_changed table 0) (changed_of table ls) (length-map ls _)
    (λ i h. List·getD-map (λ l. is_changed table l.id) ls i no_listed ∙ ap (is_changed table) (sym (id_at_lem i h))))
  where
    q : List Carry
    q = incoming_of ls

    id_at_lem : (i : ℕ) → i < length ls → get_or (over (ids_in q) oldIds) i 0 ≡ (get_or ls i no_listed).id
    id_at_lem i h =
        List·getD-append (ids_in q) (drop (length (ids_in q)) oldIds) 0 i (omega (arith, length-map q (λ c. c.id), length-map {B = Carry} ls (λ l. record { id = l.id; cover = l.cover })))
        ∙ List·getD-map (λ c. c.id) q i (record { id = 0; cover = no_listed.cover })
        ∙ ap (λ (c : Carry). c.id) (List·getD-map (λ l. record { id = l.id; cover = l.cover }) ls i no_listed)

pub listed : (table : List Layer) (ls : List Listed) {n : ℕ} {oldIds ids : List ℕ} {oldCovers covers : List ℤ} {oldFlags first flags : List Bool}
    → n ≡ length ls → Writes ls oldIds oldCovers oldFlags ids covers first → flags ≡ over_from 256 (marks_for table n ids) first
    → Lists table ls oldIds oldCovers oldFlags ids covers flags
listed table ls {n} {oldIds} {ids} {first = first} e w m =
    record {
      ids_are = w.ids_are;
      covers_are = w.covers_are;
      flags_are =
          m
          ∙ ap (λ (k : ℕ). over_from 256 (marks_for table k ids) first) e
          ∙ ap (λ (l : List ℕ). over_from 256 (marks_for table (length ls) l) first) w.ids_are
          ∙ ap (λ (l : List Bool). over_from 256 l first) (marks_are table ls oldIds)
          ∙ ap (over_from 256 (changed_of table ls)) w.flags_are;
    }
