-- An accepted work's list: each of its layers can be painted, since the table has it and number 9 does not apply; so can the shown ones. Assumes
-- nothing.
use Rattle.std.specs.Prelude.{◌≡◌, ◌∷◌, ◌<◌}
use Rattle.laws.proofs.Prelude.{ap₂, sym, ◌∙◌, Bool, true, false, List, [], ℕ, zero, suc, arith, length, drop, get_or, is_given, all_at}
use Rattle.refusals.specs.Refusal.{pass}
use Rattle.pixel_segment.specs.Field.{cpu, layer_id_of}
use Rattle.segment_rows.specs.Rows.{Ordered}
use Rattle.segment_rows.proofs.TileParts.{layer_part_lem}
use Rattle.styling.specs.Ascending.{strictly_ascends}
use Rattle.layer_table.specs.Lookup.{lookup}
use Rattle.styling.specs.declared.Layer.{Layer}
use Rattle.cover_statements.specs.Carry.{is_light}
use Rattle.queue_statements.specs.Queue.{Carry, ids_in}
use Rattle.tile_layers.specs.Listing.{Listed, no_listed, layers_in, incoming_of}
use Rattle.row_carries.proofs.Merged.{listed_cover, listed_own}
use Rattle.painter.specs.Painting.{is_light_in}
use Rattle.row_statements.specs.Painting.{layer_verdict}
use Rattle.row_statements.proofs.Works.{Listable}
use Rattle.row_lines.specs.Shown.{flagged, shown_in}

module _ (table : List Layer) (q : List Carry) (part : List ℕ) where
  -- neither 8 nor 9 applies to any of the layers
  abbrev pub AllPass : List ℕ → Type 0
  AllPass [] = Unit {0}
  AllPass (id ∷ ids) = (layer_verdict table q part id ≡ pass) × AllPass ids

  drop_pass : (k : ℕ) (ids : List ℕ) → AllPass ids → AllPass (drop k ids)
  drop_pass zero ids all = all
  drop_pass (suc k) [] all = tt
  drop_pass (suc k) (id ∷ ids) all = drop_pass k ids all.1

  flagged_pass : (ss : List Bool) (ids : List ℕ) → AllPass ids → AllPass (flagged ss ids)
  unfolding flagged
  flagged_pass [] ids all = tt
  flagged_pass (s ∷ ss) [] all = tt
  flagged_pass (true ∷ ss) (id ∷ ids) all = (all.0, flagged_pass ss ids all.1)
  flagged_pass (false ∷ ss) (id ∷ ids) all = flagged_pass ss ids all.1

  each_pass : (ls : List Listed) → ((i : ℕ) → i < length ls → layer_verdict table q part (get_or ls i no_listed).id ≡ pass) → AllPass (ids_in (incoming_of ls))
  each_pass [] h = tt
  each_pass (l ∷ ls) h = (h 0 (omega arith), each_pass ls (λ i p. h (suc i) (omega (arith, p))))

  module _ (up : strictly_ascends (ids_in q) ≡ true) (ordered : Ordered (layer_id_of cpu) part) (l : Listable table (layers_in q part)) where
    light_at_lem : (i : ℕ) → i < length (layers_in q part) → is_light_in q part (get_or (layers_in q part) i no_listed).id ≡ true
    light_at_lem i h =
        let x = get_or (layers_in q part) i no_listed in
        ap₂ (is_light cpu 16) (sym (listed_cover q part up ordered i h)) (layer_part_lem x.id part ordered ∙ sym (listed_own q part up ordered i h))
        ∙ all_at (λ y. is_light cpu 16 y.cover y.own) (layers_in q part) l.light i no_listed h

    pub listed_pass : (i : ℕ) → i < length (layers_in q part) → layer_verdict table q part (get_or (layers_in q part) i no_listed).id ≡ pass
    listed_pass i h =
        let known : is_given (lookup table (get_or (layers_in q part) i no_listed).id) ≡ true = all_at (λ y. is_given (lookup table y.id)) (layers_in q part) l.known i no_listed h in
        rw (known, light_at_lem i h)

    pub shown_pass : (skipped : ℕ) (unmasked : List Bool) → AllPass (shown_in skipped unmasked (ids_in (incoming_of (layers_in q part))))
    shown_pass skipped unmasked =
        let ids = ids_in (incoming_of (layers_in q part)) in
        flagged_pass (drop skipped unmasked) (drop skipped ids) (drop_pass skipped ids (each_pass (layers_in q part) listed_pass))
