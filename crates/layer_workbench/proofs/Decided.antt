-- What deciding promises, put together. Assumes nothing.
use Rattle.std.specs.Prelude.{◌≡◌, ◌≤◌, Option}
use Rattle.laws.proofs.Prelude.{ap, ap₂, ◌∙◌, Bool, true, List, map, ℕ, length, ℤ, over}
use Rattle.styling.specs.declared.Color.{Color}
use Rattle.styling.specs.declared.Layer.{Layer}
use Rattle.queue_statements.specs.Queue.{ids_in}
use Rattle.queue_statements.proofs.Columns.{are_wide}
use Rattle.tile_layers.specs.Listing.{Listed, incoming_of, Lists}
use Rattle.layer_carrying.specs.Carrying.{handed_on, Hands}
use Rattle.pass_statements.specs.Entry.{Entry, entries_of}
use Rattle.pass_statements.specs.Item.{items_of}
use Rattle.pass_statements.specs.Decide.{outcome_of, Deciding}
use Rattle.pass_statements.specs.declared.decide.Decided.{Decided}
use Rattle.pass_statements.specs.Decision.{decision_in}
use Rattle.cached_tile.specs.Kept.{KeptCounted}
use Rattle.cached_tile.specs.declared.kept.Kept as kept
use Rattle.cached_tile.specs.declared.kept.Counted.{Counted}
use Rattle.layer_workbench.specs.Work.{entry_of, clear_unchanged, outcome_by_entries, outcome_in, kept_by, kept_after, Decides, Works, ListWritten, QueueWritten}
use Rattle.layer_workbench.specs.declared.DecidedTile.{DecidedTile}
use Rattle.layer_workbench.proofs.Entries.{entries_are}

module _ (table : List Layer) (entries : List Entry) (k : kept.Kept) (clear : Color) (previous : Option Color) (n : ℕ) (oldUnmasked unmasked : List Bool) where
  pub decided : {r : Counted} {same : Bool} {d : Decided} {after : kept.Kept} → KeptCounted k n r → same ≡ clear_unchanged previous clear → Deciding (outcome_of clear same r.previous (items_of table entries)) oldUnmasked d unmasked → after ≡ kept_by (decision_in d.decision) r.kept → Decides (outcome_by_entries table k clear previous entries) k n oldUnmasked (record { decision = d.decision; skipped = d.skipped; kept = after }) unmasked
  unfolding outcome_by_entries
  decided {r} {same} {d} {after} c es h ek =
      let outcome : outcome_of clear same r.previous (items_of table entries) ≡ outcome_by_entries table k clear previous entries =
      ap₂ (λ (s : Bool) (p : Option ℕ). outcome_of clear s p (items_of table entries)) es c.previous in
      let told = rw outcome at h in
      record {
        decision = told.decision;
        skipped = told.skipped;
        kept_is = ek ∙ ap₂ kept_by told.decision c.kept;
        unmasked_are = told.column;
      }

-- the whole work: a list that is written, decided from its columns, and carries that are handed on
module _ (table : List Layer) (ls : List Listed) (k : kept.Kept) (clear : Color) (previous : Option Color) (oldIds : List ℕ) (oldCovers : List ℤ) (oldFlags oldUnmasked : List Bool) (oldQueueIds : List ℕ) (oldQueueCovers : List ℤ) where
  pub worked : {n left : ℕ} {d : DecidedTile} {ids : List ℕ} {covers : List ℤ} {flags unmasked : List Bool} {queueIds : List ℕ} {queueCovers : List ℤ} → are_wide (incoming_of ls) ≡ true → n ≡ length ls → length ls ≤ 256 → 512 ≤ length oldFlags → Lists table ls oldIds oldCovers oldFlags ids covers flags → Decides (outcome_by_entries table k clear previous (entries_of n ids covers flags)) k n oldUnmasked d unmasked → Hands (handed_on table ls) oldQueueIds oldQueueCovers left queueIds queueCovers → Works table k clear previous ls (record { decision = d.decision; listed = n; skipped = d.skipped; kept = d.kept; left = left }) × (ListWritten table ls (outcome_in table k clear previous ls) oldIds oldCovers oldFlags oldUnmasked ids covers flags unmasked × QueueWritten (handed_on table ls) oldQueueIds oldQueueCovers queueIds queueCovers)
  worked {n} {left} {d} {ids} {covers} {flags} {unmasked} wide en few room written dec hands =
      let entries : entries_of n ids covers flags ≡ map (entry_of table) ls =
      ap (λ (m : ℕ). entries_of m ids covers flags) en
      ∙ ap (λ (l : List ℕ). entries_of (length ls) l covers flags) written.ids_are
      ∙ ap₂ (λ (l : List ℤ) (s : List Bool). entries_of (length ls) (over (ids_in (incoming_of ls)) oldIds) l s) written.covers_are written.flags_are
      ∙ entries_are table ls oldIds oldCovers oldFlags wide few room in
      let told : Decides (outcome_in table k clear previous ls) k n oldUnmasked d unmasked = rw entries at dec in (
        record {
          decision = told.decision;
          skipped = told.skipped;
          listed = en;
          kept_is = told.kept_is ∙ ap (kept_after (outcome_in table k clear previous ls) k) en;
          handed = hands.count;
        },
        (
          record {
            ids_are = written.ids_are;
            covers_are = written.covers_are;
            flags_are = written.flags_are;
            unmasked_are = told.unmasked_are;
          },
          record { ids_are = hands.ids_are; covers_are = hands.covers_are },
        ),
      )
