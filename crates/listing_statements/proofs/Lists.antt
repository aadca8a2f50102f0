-- A list that a tile's layers are written to says these layers, and a deciding from a list that says them goes by them. Assumes nothing.
use Rattle.std.specs.Prelude.{◌≡◌, ◌&&◌, ◌||◌, ◌∷◌, ◌/◌, ◌≤◌}
use Rattle.laws.proofs.Prelude.{refl, ap, ap₂, sym, ◌∙◌, Bool, true, false, List, [], ℕ, arith, le-ltb, ltb-false}
use Rattle.laws.proofs.Prelude.{ltb, length, take, length-map, is_given, over, length_over}
use Rattle.refusals.specs.Refusal.{Judgement, pass, unless}
use Rattle.refusals.proofs.Judging.{or_left, or_right}
use Rattle.layer_table.specs.Lookup.{lookup}
use Rattle.styling.specs.declared.Layer.{Layer}
use Rattle.cached_tile.specs.Kept.{tag_out_of_range}
use Rattle.queue_statements.specs.Queue.{ids_in, covers_in}
use Rattle.queue_statements.proofs.Columns.{are_wide, length_covers, take_ids}
use Rattle.tile_layers.specs.Listing.{Listed, incoming_of, flags_over, are_known}
use Rattle.tile_layers.proofs.Flags.{length_flags}
use Rattle.tile_layers.proofs.Ordering.{listed_ids}
use Rattle.pass_statements.specs.Decide.{Outcome}
use Rattle.layer_workbench.specs.Work.{outcome_by_entries, outcome_in}
use Rattle.layer_workbench.proofs.Entries.{entries_are}
use Rattle.row_statements.specs.Lent.{layers_of, is_lent_short, is_lent_table}
use Rattle.listing_statements.specs.Listing.{TileList, is_tile_list_short, listed_over}
use Rattle.listing_statements.specs.Deciding.{DecideCall, are_in_table, lines_for, deciding_verdict, deciding_out, decided_outcome, deciding_of}
use Rattle.listing_statements.specs.InnerLists.{Decidable, ListSays}

-- ---- the ids of a list

pub listed_ids_lem : (ls : List Listed) → ids_in (incoming_of ls) ≡ listed_ids ls
listed_ids_lem [] = refl
listed_ids_lem (l ∷ ls) = ap (λ (ids : List ℕ). l.id ∷ ids) (listed_ids_lem ls)

in_table : (table : List Layer) (ls : List Listed) → are_in_table table (ids_in (incoming_of ls)) ≡ are_known table ls
in_table table [] = refl
in_table table (l ∷ ls) = ap (λ (b : Bool). is_given (lookup table l.id) && b) (in_table table ls)

-- ---- layers written to the columns of a list

pub written : (table : List Layer) (ls : List Listed) (l : TileList) → is_tile_list_short l ≡ false → length ls ≤ 256 → are_wide (incoming_of ls) ≡ true → ListSays table ls (length ls) (listed_over table ls l)
written table ls l short few wide =
    let i = ltb (length l.ids) 256 in
    let v = ltb (length l.covers / 16) 256 in
    let s = ltb (length l.flags) 512 in
    let iv = or_left (i || v) s short in
    let ids_room = ltb-false (length l.ids) 256 (or_left i v iv) in
    let covers-room = ltb-false (length l.covers / 16) 256 (or_right i v iv) in
    let flags_room = ltb-false (length l.flags) 512 (or_right (i || v) s short) in
    let q = incoming_of ls in
    let many : length q ≡ length ls = length-map ls _ in
    let ids_many : length (ids_in q) ≡ length q = length-map q (λ c. c.id) in
    let same_ids : length (over (ids_in q) l.ids) ≡ length l.ids = length_over l.ids (ids_in q) (omega (arith, ids_many, many, few, ids_room)) in
    let same_covers : length (over (covers_in q) l.covers) ≡ length l.covers = length_over l.covers (covers_in q) (omega (arith, length_covers q wide, many, few, covers-room)) in
    let same_flags : length (flags_over table ls l.flags) ≡ length l.flags = length_flags table ls l.flags few (omega (arith, few, flags_room)) in
    record {
      count = refl;
      room = rw (same_ids, same_covers, same_flags) short;
      ids = ap (λ (n : ℕ). take n (over (ids_in q) l.ids)) (sym many) ∙ take_ids q l.ids l.covers;
      entries = entries_are table ls l.ids l.covers l.flags wide few flags_room;
    }

-- ---- a deciding from a list that says its layers

module _ (c : DecideCall) (unmasked : List Bool) {ls : List Listed} (short : is_lent_short c.table ≡ false) (table : is_lent_table c.table ≡ true) (d : Decidable (layers_of c.table) ls) (says : ListSays (layers_of c.table) ls c.count c.list) where
  -- only the mask column and the tag are left to judge
  pub verdict_is : deciding_verdict c unmasked ≡ unless (ltb (length unmasked) 256) 1 (unless (tag_out_of_range c.kept) 6 pass)
  unfolding lines_for
  verdict_is =
      rw (says.room, short, table, says.ids, d.ascends, le-ltb 256 c.count (omega (arith, says.count, d.few)), in_table (layers_of c.table) ls, d.known, or-false (ltb (length unmasked) 256))
    where
      or-false : (b : Bool) → (b || false) ≡ b
      or-false true = refl
      or-false false = refl

  pub outcome_is : decided_outcome c ≡ outcome_in (layers_of c.table) c.kept c.clear c.previous ls
  outcome_is = ap (outcome_by_entries (layers_of c.table) c.kept c.clear c.previous) says.entries

  pub decided : deciding_of c unmasked ≡ deciding_out (unless (ltb (length unmasked) 256) 1 (unless (tag_out_of_range c.kept) 6 pass)) (outcome_in (layers_of c.table) c.kept c.clear c.previous ls) (length ls) c.kept unmasked
  decided =
      ap₂ (λ (v : Judgement) (o : Outcome). deciding_out v o c.count c.kept unmasked) verdict_is outcome_is
      ∙ ap (λ (n : ℕ). deciding_out (unless (ltb (length unmasked) 256) 1 (unless (tag_out_of_range c.kept) 6 pass)) (outcome_in (layers_of c.table) c.kept c.clear c.previous ls) n c.kept unmasked) says.count
