-- A list written to its columns is what the passes read there. Assumes nothing.
use Rattle.std.specs.Prelude.{◌≡◌, ◌∷◌, ◌+◌, ◌*◌, ◌≤◌, ◌<◌}
use Rattle.laws.proofs.Prelude.{refl, ap, ap₂, sym, ◌∙◌, Bool, true, false, List, [], map, ℕ, zero, suc}
use Rattle.laws.proofs.Prelude.{le_of_suc-le-suc, not-suc-le-zero, arith, ℤ, length, get_or, drop, length-map, length-append, List·getD-map, over}
use Rattle.laws.proofs.Prelude.{is_tabulate, get_d_tabulate}
use Rattle.queue_statements.specs.Queue.{Carry, carry_at, queue_of, ids_in, covers_in}
use Rattle.queue_statements.proofs.Columns.{are_wide, length_covers, reads_back}
use Rattle.styling.specs.declared.Layer.{Layer}
use Rattle.tile_layers.specs.Listing.{Listed, no_listed, has_any, incoming_of, is_changed, changed_of, flags_over}
use Rattle.tile_layers.proofs.Flags.{segments_flag, changed_flag}
use Rattle.pass_statements.specs.Entry.{entry_at, entries_of}
use Rattle.pass_statements.proofs.Listing.{cover_entry_lem}
use Rattle.layer_workbench.specs.Work as Work

-- what is written is there
over_long : (xs old : List ℤ) → length xs ≤ length (over xs old)
unfolding over
over_long xs old = omega (arith, length-append xs (drop (length xs) old))

-- what is read of a list within it hangs on no default
default : (bs : List Bool) (i : ℕ) (d : Bool) → i < length bs → get_or bs i false ≡ get_or bs i d
default [] i d h = absurd (not-suc-le-zero h)
default (b ∷ bs) zero d h = refl
default (b ∷ bs) (suc i) d h = default bs i d (le_of_suc-le-suc h)

module _ (table : List Layer) (ls : List Listed) (ids : List ℕ) (covers : List ℤ) (flags : List Bool) (wide : are_wide (incoming_of ls) ≡ true) (few : length ls ≤ 256) (room : 512 ≤ length flags) where
  new_ids : List ℕ
  new_ids = over (ids_in (incoming_of ls)) ids

  new_covers : List ℤ
  new_covers = over (covers_in (incoming_of ls)) covers

  carry_is : (i : ℕ) → i < length ls → carry_at new_ids new_covers i ≡ get_or (incoming_of ls) i (record { id = 0; cover = [] })
  unfolding new_ids new_covers queue_of
  carry_is i h =
      let q = incoming_of ls in
      let many : length q ≡ length ls = length-map ls _ in
      let at : i < length q = omega arith in
      sym (get_d_tabulate (length q) (carry_at new_ids new_covers) (record { id = 0; cover = [] }) i at)
      ∙ ap (λ (r : List Carry). get_or r i (record { id = 0; cover = [] })) (reads_back q ids covers wide)

  segment_is : (i : ℕ) → i < length ls → get_or (flags_over table ls flags) i false ≡ has_any (get_or ls i no_listed).own
  segment_is i h = segments_flag table ls flags few (omega arith) i h ∙ List·getD-map (λ l. has_any l.own) ls i no_listed

  changed_is : (i : ℕ) → i < length ls → get_or (flags_over table ls flags) (256 + i) false ≡ is_changed table (get_or ls i no_listed).id
  changed_is i h =
      changed_flag table ls flags few (omega arith) i h
      ∙ default (changed_of table ls) i (is_changed table 0) (rw (length-map ls (λ l. is_changed table l.id)) h)
      ∙ List·getD-map (λ l. is_changed table l.id) ls i no_listed

  pub entries_are : entries_of (length ls) (over (ids_in (incoming_of ls)) ids) (over (covers_in (incoming_of ls)) covers) (flags_over table ls flags) ≡ map (Work.entry_of table) ls
  unfolding entries_of new_ids new_covers
  entries_are =
      sym
      (is_tabulate (length ls) (entry_at new_ids new_covers (flags_over table ls flags)) (Work.entry_of table no_listed) (map (Work.entry_of table) ls) (length-map ls (Work.entry_of table))
      (λ i h. at i h))
    where
      long : (i : ℕ) → i < length ls → i * 16 + 16 ≤ length (over (covers_in (incoming_of ls)) covers)
      long i h = omega (arith, over_long (covers_in (incoming_of ls)) covers, length_covers (incoming_of ls) wide, length-map {B = Carry} ls (λ l. record { id = l.id; cover = l.cover }))

      at : (i : ℕ) → i < length ls → get_or (map (Work.entry_of table) ls) i (Work.entry_of table no_listed) ≡ entry_at new_ids new_covers (flags_over table ls flags) i
      at i h =
          let c = carry_is i h ∙ List·getD-map (λ l. record { id = l.id; cover = l.cover }) ls i no_listed in
          let l = get_or ls i no_listed in
          List·getD-map (Work.entry_of table) ls i no_listed
          ∙ ap₂ (λ (s m : Bool). record { id = l.id; cover = l.cover; segments = s; changed = m }) (sym (segment_is i h)) (sym (changed_is i h))
          ∙ ap (λ (x : Carry). record { id = x.id; cover = x.cover; segments = get_or (flags_over table ls flags) i false; changed = get_or (flags_over table ls flags) (256 + i) false }) (sym c)
          ∙ ap (λ (k : List ℤ). record { id = get_or new_ids i 0; cover = k; segments = get_or (flags_over table ls flags) i false; changed = get_or (flags_over table ls flags) (256 + i) false }) (sym (cover_entry_lem new_covers i (long i h)))
