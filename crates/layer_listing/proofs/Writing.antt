-- The loop that writes a tile's list: its three columns, filled up to the k-th entry. Assumes nothing.
use Rattle.std.specs.Prelude.{◌≡◌, ◌+◌, ◌*◌, ◌≤◌}
use Rattle.laws.proofs.Prelude.{ap, sym, ◌∙◌, Bool, true, false, cond, List, map, ℕ, arith, ltb, ℤ, length, set}
use Rattle.laws.proofs.Prelude.{length-map, cons_lt, map_at, map_drop, filled, filled_more, filled_all}
use Rattle.cover_statements.specs.Entry.{cover_entry, put_entry}
use Rattle.queue_statements.specs.Queue.{Carry, queue_of, ids_in, covers_in, zeros}
use Rattle.queue_statements.proofs.Columns.{are_wide, length_covers}
use Rattle.tile_layers.specs.Groups.{groups_of}
use Rattle.tile_layers.specs.Listing.{Listed, layers_in, incoming_of, segments_of, has_any, ListRoom}
use Rattle.tile_layers.specs.InnerWalk.{Stepped, Moved}
use Rattle.tile_layers.specs.declared.walk.Next.{Next}
use Rattle.tile_layers.proofs.Walking.{Walking, walk_here, walk_next_lem, walk_all}
use Rattle.tile_layers.proofs.Wide.{queue_wide, list_wide}
use Rattle.tile_layers.proofs.Filling.{put_filled, has_between}
use Rattle.layer_listing.specs.InnerWriting.{Writes}

-- a layer's id and incoming cover
abbrev incoming : Listed → Carry
incoming l = record { id = l.id; cover = l.cover }

module _ (n : ℕ) (ids : List ℕ) (covers : List ℤ) (part : List ℕ) (oldIds : List ℕ) (oldCovers : List ℤ) (oldFlags : List Bool) where
  abbrev whole : List Listed
  whole = layers_in (queue_of n ids covers) part

  pub record Writing (new_ids : List ℕ) (new_covers : List ℤ) (newFlags : List Bool) (k i j : ℕ) : Type 0 where
    pub walking : Walking n ids covers part i j k
    pub ids_are : new_ids ≡ filled oldIds (ids_in (incoming_of whole)) k
    pub covers_are : new_covers ≡ filled oldCovers (covers_in (incoming_of whole)) (k * 16)
    pub flags_are : newFlags ≡ filled oldFlags (segments_of whole) k

  module _ (room : ListRoom whole oldIds oldCovers oldFlags) (long : 16 * n ≤ length covers) where
    wide : are_wide (incoming_of whole) ≡ true
    wide = list_wide (queue_of n ids covers) (groups_of part) (queue_wide n ids covers long)

    many_ids : length (ids_in (incoming_of whole)) ≡ length whole
    many_ids = length-map (incoming_of whole) _ ∙ length-map whole _

    many_covers : length (covers_in (incoming_of whole)) ≡ length whole * 16
    many_covers = length_covers (incoming_of whole) wide ∙ ap (λ (m : ℕ). m * 16) (length-map whole _)

    many_segments : length (segments_of whole) ≡ length whole
    many_segments = length-map whole _

    pub write_next : {new_ids : List ℕ} {new_covers : List ℤ} {newFlags : List Bool} {k i j : ℕ} → Writing new_ids new_covers newFlags k i j → (r : Next) → Stepped n ids covers part i j r → Moved n part i j r → (cover nextCovers : List ℤ) → cover ≡ cond r.carried (cover_entry 16 i covers) zeros → nextCovers ≡ put_entry 16 k cover new_covers → Writing (set new_ids k r.id) nextCovers (set newFlags k (ltb j r.end)) (k + 1) r.i r.end
    write_next {new_ids} {new_covers} {newFlags} {k} {i} {j} s r p m cover nextCovers ec ep =
        let e = walk_here n ids covers part s.walking r p in
        let at = cons_lt whole k e in
        let q = map_drop incoming whole k ∙ ap (map incoming) e in
        record {
          walking = walk_next_lem n ids covers part s.walking r p m;
          ids_are =
              ap (λ (l : List ℕ). set l k r.id) s.ids_are
              ∙ ap (set (filled oldIds (ids_in (incoming_of whole)) k) k) (sym (map_at (λ c. c.id) (incoming_of whole) k q 0))
              ∙ filled_more oldIds (ids_in (incoming_of whole)) k 0 (omega (arith, room.ids_long)) (omega (arith, many_ids));
          covers_are =
              ep
              ∙ ap (λ (l : List ℤ). put_entry 16 k l new_covers) ec
              ∙ ap (put_entry 16 k (cond r.carried (cover_entry 16 i covers) zeros)) s.covers_are
              ∙ put_filled (incoming_of whole) oldCovers k wide q (omega (arith, room.covers_long, length-map whole incoming));
          flags_are =
              ap (λ (l : List Bool). set l k (ltb j r.end)) s.flags_are
              ∙ ap (set (filled oldFlags (segments_of whole) k) k) (has_between j r.end part m.high_j ∙ sym (map_at (λ l. has_any l.own) whole k e false))
              ∙ filled_more oldFlags (segments_of whole) k false (omega (arith, room.flags_long)) (omega (arith, many_segments));
        }

    pub write_end : {new_ids : List ℕ} {new_covers : List ℤ} {newFlags : List Bool} {k i j : ℕ} → Writing new_ids new_covers newFlags k i j → n + length part ≤ i + j → Writes whole oldIds oldCovers oldFlags new_ids new_covers newFlags
    write_end {k = k} s h =
        let all = walk_all n ids covers part s.walking h in
        record {
          ids_are = s.ids_are ∙ filled_all oldIds (ids_in (incoming_of whole)) k (many_ids ∙ all);
          covers_are = s.covers_are ∙ filled_all oldCovers (covers_in (incoming_of whole)) (k * 16) (many_covers ∙ ap (λ (m : ℕ). m * 16) all);
          flags_are = s.flags_are ∙ filled_all oldFlags (segments_of whole) k (many_segments ∙ all);
        }
