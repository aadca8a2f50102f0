-- Handing on: the carries that a tile's layers hand on, from the column that holds all of them; and the loop, which writes those that are not empty
-- and knows that what is left of them is what the carries still to come hand on. Assumes nothing.
use Rattle.std.specs.Prelude.{◌≡◌, ◌∷◌, ◌+◌, ◌*◌, ◌≤◌}
use Rattle.laws.proofs.Prelude.{refl, ap, sym, ◌∙◌, Bool, true, false, cond, List, [], map, ℕ, arith, ℤ}
use Rattle.laws.proofs.Prelude.{length, drop, set, length-map, drop_of_length-le, filter, over, both, nil_le, cons_lt, cons_rest, map_at, all_kept}
use Rattle.laws.proofs.Prelude.{filled, filled_more, filled_all}
use Rattle.laws.proofs.Filtered.{length_filter}
use Rattle.cover_statements.specs.Carry.{carry_of}
use Rattle.cover_statements.specs.Entry.{put_entry}
use Rattle.styling.specs.declared.Layer.{Layer}
use Rattle.queue_statements.specs.Queue.{Carry, queue_of, ids_in, covers_in}
use Rattle.queue_statements.proofs.Columns.{is_wide, are_wide, length_covers, reads_back}
use Rattle.tile_layers.specs.Listing.{Listed, incoming_of}
use Rattle.tile_layers.proofs.Filling.{put_filled}
use Rattle.layer_carrying.specs.Carrying.{carry_for, is_carried, handed_on, HoldsCarries, Hands, Puts, EntryRoom}

-- ---- the carries of a tile's layers

pub carries_wide : (ls : List Listed) → are_wide (map carry_for ls) ≡ true
unfolding carry_of
carries_wide [] = refl
carries_wide (l ∷ ls) =
    both (is_wide (carry_for l)) (are_wide (map carry_for ls)) refl (carries_wide ls)

pub handed_wide : (table : List Layer) (ls : List Listed) → are_wide (handed_on table ls) ≡ true
unfolding handed_on
handed_wide table ls = all_kept (is_carried table) is_wide (map carry_for ls) (carries_wide ls)

pub handed_few : (table : List Layer) (ls : List Listed) → length (handed_on table ls) ≤ length ls
unfolding handed_on
handed_few table ls = omega (arith, length_filter (is_carried table) (map carry_for ls), length-map ls carry_for)

ids_same : (ls : List Listed) → ids_in (incoming_of ls) ≡ ids_in (map carry_for ls)
ids_same [] = refl
ids_same (l ∷ ls) = ap (λ (r : List ℕ). l.id ∷ r) (ids_same ls)

-- they read back from the ids of a list and the column that holds them
pub holds_back : (ls : List Listed) (oldIds : List ℕ) {n : ℕ} {ids : List ℕ} {sums : List ℤ} → n ≡ length ls → ids ≡ over (ids_in (incoming_of ls)) oldIds → HoldsCarries ls sums → queue_of n ids sums ≡ map carry_for ls
holds_back ls oldIds en ei h =
    rw (en, ei, h.sums_are, ids_same ls, sym (length-map ls carry_for)) (reads_back (map carry_for ls) oldIds h.old (carries_wide ls))

-- and what is handed on from there is handed on by the layers
pub hands_on : (table : List Layer) (ls : List Listed) {q : List Carry} {oldIds new_ids : List ℕ} {oldCovers new_covers : List ℤ} {m : ℕ} → q ≡ map carry_for ls → Hands (filter (is_carried table) q) oldIds oldCovers m new_ids new_covers → Hands (handed_on table ls) oldIds oldCovers m new_ids new_covers
unfolding handed_on
hands_on table ls e h = rw e at h

-- ---- the loop, at carry i

-- one more carry in front
filter_cons : (table : List Layer) (c : Carry) (q : List Carry) (keep : Bool) → is_carried table c ≡ keep → filter (is_carried table) (c ∷ q) ≡ cond keep (c ∷ filter (is_carried table) q) (filter (is_carried table) q)
filter_cons table c q keep e = ap (λ (t : Bool). cond t (c ∷ filter (is_carried table) q) (filter (is_carried table) q)) e

module _ (table : List Layer) (whole : List Carry) (oldIds : List ℕ) (oldCovers : List ℤ) where
  abbrev queue : List Carry
  queue = filter (is_carried table) whole

  pub record Handing (new_ids : List ℕ) (new_covers : List ℤ) (m i : ℕ) : Type 0 where
    pub within : i ≤ length whole
    pub few : m ≤ i
    pub inside : m ≤ length queue
    pub left : drop m queue ≡ filter (is_carried table) (drop i whole)
    pub ids_are : new_ids ≡ filled oldIds (ids_in queue) m
    pub covers_are : new_covers ≡ filled oldCovers (covers_in queue) (m * 16)

  module _ (wide : are_wide whole ≡ true) (room : EntryRoom (length whole) oldIds oldCovers) where
    queue_wide : are_wide queue ≡ true
    queue_wide = all_kept (is_carried table) is_wide whole wide

    shorter : length queue ≤ length whole
    shorter = length_filter (is_carried table) whole

    many_ids : length (ids_in queue) ≡ length queue
    many_ids = length-map queue _

    many_covers : length (covers_in queue) ≡ length queue * 16
    many_covers = length_covers queue queue_wide

    pub hand_next : {new_ids : List ℕ} {new_covers : List ℤ} {m i : ℕ} → Handing new_ids new_covers m i → {c : Carry} {rest : List Carry} → drop i whole ≡ c ∷ rest → (keep : Bool) (m' : ℕ) (nextIds : List ℕ) (nextCovers : List ℤ) → is_carried table c ≡ keep → Puts m c.id c.cover keep new_ids new_covers m' nextIds nextCovers → Handing nextIds nextCovers m' (i + 1)
    hand_next {new_ids} {new_covers} {m} {i} s {c} {rest} e true m' nextIds nextCovers ek put =
        let here : drop m queue ≡ c ∷ filter (is_carried table) rest = s.left ∙ ap (filter (is_carried table)) e ∙ filter_cons table c rest true ek in
        let at = cons_lt queue m here in
        rw put.place
        (record {
          within = omega (arith, cons_lt whole i e);
          few = omega (arith, s.few);
          inside = omega (arith, at);
          left = cons_rest queue m here ∙ ap (filter (is_carried table)) (sym (cons_rest whole i e));
          ids_are =
              put.ids_are
              ∙ ap (λ (l : List ℕ). set l m c.id) s.ids_are
              ∙ ap (set (filled oldIds (ids_in queue) m) m) (sym (map_at (λ x. x.id) queue m here 0))
              ∙ filled_more oldIds (ids_in queue) m 0 (omega (arith, room.ids_long, shorter)) (omega (arith, many_ids));
          covers_are =
              put.covers_are
              ∙ ap (put_entry 16 m c.cover) s.covers_are
              ∙ put_filled queue oldCovers m queue_wide here (omega (arith, room.covers_long, shorter));
        })
    hand_next {new_ids} {new_covers} {m} {i} s {c} {rest} e false m' nextIds nextCovers ek put =
        rw put.place
        (record {
          within = omega (arith, cons_lt whole i e);
          few = omega (arith, s.few);
          inside = s.inside;
          left = s.left ∙ ap (filter (is_carried table)) e ∙ filter_cons table c rest false ek ∙ ap (filter (is_carried table)) (sym (cons_rest whole i e));
          ids_are = put.ids_are ∙ s.ids_are;
          covers_are = put.covers_are ∙ s.covers_are;
        })

    pub hand_end : {new_ids : List ℕ} {new_covers : List ℤ} {m i : ℕ} → Handing new_ids new_covers m i → length whole ≤ i → Hands queue oldIds oldCovers m new_ids new_covers
    hand_end {m = m} {i = i} s h =
        let done : drop m queue ≡ [] = s.left ∙ ap (filter (is_carried table)) (drop_of_length-le whole {i = i} h) in
        let all : length queue ≡ m = omega (arith, nil_le queue m done, s.inside) in
        record {
          count = sym all;
          ids_are = s.ids_are ∙ filled_all oldIds (ids_in queue) m (many_ids ∙ all);
          covers_are = s.covers_are ∙ filled_all oldCovers (covers_in queue) (m * 16) (many_covers ∙ ap (λ (q : ℕ). q * 16) all);
        }
