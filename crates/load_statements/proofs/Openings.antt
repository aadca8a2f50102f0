-- An opening of a load's job is not refused: its row ascends, its layers are a table, and no segment lies left of tile 0.
-- Assumes nothing.
use Rattle.std.specs.Prelude.{◌≡◌, ◌^◌, ◌≤◌, ◌<◌}
use Rattle.laws.proofs.Prelude.{refl, ap, ◌∙◌, true, false, not, ⊎_elim, [], flatten, ℕ, arith, le-ltb, ltb, lit<, pos, get_or}
use Rattle.laws.proofs.Prelude.{given, tabulate, over, filter_none, le_or_lt, length_tabulate, get_d_tabulate}
use lib.ListN.{get_or-eq_default}
use Rattle.refusals.specs.Refusal.{pass}
use Rattle.pixel_segment.specs.Field.{cpu, tile_x_of, tile_of}
use Rattle.segment_rows.specs.Rows.{Words}
use Rattle.segment_rows.specs.Search.{left_part}
use Rattle.segment_rows.proofs.TileParts.{left_part_lem}
use Rattle.layer_table.specs.Table as table
use Rattle.styling.specs.Ascending.{strictly_ascends_from}
use Rattle.queue_statements.specs.Queue.{covers_in}
use Rattle.queue_statements.specs.Opening.{add_all, is_light_opening}
use Rattle.row_statements.specs.Lent.{Columns, is_queue_short, is_lent_short, is_lent_table}
use Rattle.row_statements.specs.Opening.{open_verdict, open_state, open_of}
use Rattle.job_statements.specs.Table.{table_words, table_colors}
use Rattle.load_statements.specs.declared.Asked.{Asked}
use Rattle.load_statements.specs.Load.{load_layer, load_of}
use Rattle.load_statements.specs.Input.{AskedInRange}
use Rattle.load_statements.specs.Opened.{load_row, load_table, opening_of}
use Rattle.load_statements.proofs.Forming.{all_tabulated}
use Rattle.load_statements.proofs.Ascents.{word_of_segment, row_is, word_ordered, ascending}

-- the same eight layers for every load
pub in_table : (a : Asked) → is_lent_table (load_table a) ≡ true
unfolding table.is_table table.is_table_short table.is_valid strictly_ascends_from table_words table_colors flatten load_of load_layer
in_table a = refl

short : (a : Asked) → is_lent_short (load_table a) ≡ false
unfolding table.is_table_short table_words table_colors flatten load_of
short a = refl

module _ (a : Asked) (h : AskedInRange a) where
  pub words : Words (load_row a)
  words = record { small = λ i. rw (row_is a h) (by i) }
    where
      by : (i : ℕ) → get_or (tabulate a.count (word_of_segment a h)) i 0 < 2 ^ 64
      by i =
          ⊎_elim
          (λ (p : a.count ≤ i).
          rw (get_or-eq_default (tabulate a.count (word_of_segment a h)) 0 {n = i} (omega (arith, length_tabulate a.count (word_of_segment a h)))) (lit< tt))
          (λ (p : i < a.count). rw (get_d_tabulate a.count (word_of_segment a h) 0 i p) (word_ordered a h i p).small)
          (le_or_lt a.count i)

  pub none_left : left_part (pos 0) (load_row a) ≡ []
  unfolding tile_of
  none_left =
      left_part_lem 1 1 (load_row a) words (ascending a h)
      ∙ filter_none (λ w. ltb (tile_x_of cpu w) 1) (load_row a)
      (rw (row_is a h)
      (all_tabulated (λ w. not (ltb (tile_x_of cpu w) 1)) a.count (word_of_segment a h)
      (λ i p. ap not (le-ltb (tile_x_of cpu (word_of_segment a h i)) 1 (omega (arith, (word_ordered a h i p).tile_x))))))

  module _ (lent : Columns) (room : is_queue_short lent ≡ false) where
    passes : open_verdict (opening_of a) lent ≡ pass
    unfolding open_verdict
    passes =
        rw (
          room,
          short a,
          le-ltb a.tiles 0 (omega arith),
          le-ltb 4095 a.tiles h.tiles.1,
          ascending a h,
          in_table a,
        )

    pub opens : open_of (opening_of a) lent ≡ record { answer = given (open_state (pos 0) (pos 0) (pos a.tiles) 0); lent = lent }
    unfolding open_of add_all is_light_opening over covers_in
    opens = rw (passes, none_left)
