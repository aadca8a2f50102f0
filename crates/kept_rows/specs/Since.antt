-- Flags that are worked out and not told: what `mark_unchanged` writes into today's table from the rows, tables and revision columns of two frames. A layer
-- counts as unchanged where last frame's table has it with the same record, colours bit by bit, and with the same revision of what it holds, and both rows have
-- the same words of it, in the same order. Every other flag becomes 0, and the caller's own plays no part. So the flags are truthful along the two rows
-- (`MarkedTold`).
use Rattle.std.specs.Prelude.{◌≡◌, ◌&&◌, ◌||◌, ◌∷◌, ◌/◌, ◌%◌}
use Rattle.laws.specs.Prelude.{Bool, true, false, cond, not, List, [], ℕ, eqb, ltb, Float, nan, inf, fin}
use Rattle.laws.specs.Prelude.{length, get_or, Answer, refused, given, tabulate, filter}
use Rattle.pixel_segment.specs.Field.{cpu, layer_id_of}
use Rattle.styling.specs.declared.Color.{Color}
use Rattle.layer_table.specs.declared.Words.{Words}
use Rattle.layer_table.specs.Table.{id_at, words_at, color_at, table_ids}
use Rattle.layer_table.specs.Lookup.{record_place}
use Rattle.row_statements.specs.Lent.{LentTable, is_lent_table}
use Rattle.row_statements.specs.Due.{OpenRow}
use Rattle.kept_frames.specs.Alike.{same_float}
use Rattle.kept_rows.specs.Along.{RowTold, ContentsTold}

-- ---- records, but for their flags

-- the same bits; a NaN is the same as nothing, as where colours are compared by ==
abbrev pub is_nan : Float → Bool
is_nan nan = true
is_nan (inf s) = false
is_nan (fin s m e) = false

abbrev pub same_number : Float → Float → Bool
same_number x y = not (is_nan x) && same_float x y

abbrev pub same_numbers : Color → Color → Bool
same_numbers c d = same_number c.r d.r && (same_number c.g d.g && (same_number c.b d.b && same_number c.a d.a))

abbrev pub same_words : Words → Words → Bool
same_words v w =
    eqb v.rule w.rule
    && (eqb v.func w.func && (eqb v.span w.span && (eqb v.clipped w.clipped && (eqb v.fill w.fill && eqb v.mode w.mode))))

-- a draw with a solid fill reads its colour, and no other record does
abbrev pub reads_color : Words → Bool
reads_color w = eqb w.func 0 && eqb w.fill 0

-- record j of a table is record i of another
abbrev pub same_record : LentTable → ℕ → LentTable → ℕ → Bool
same_record t j t' i =
    same_words (words_at t.words j) (words_at t'.words i)
    && (not (reads_color (words_at t'.words i)) || same_numbers (color_at t.floats j) (color_at t'.floats i))

-- and it holds the same
abbrev pub same_at : LentTable → List ℕ → Answer ℕ → LentTable → List ℕ → ℕ → Bool
same_at t revisions (refused n) t' revisions' i = false
same_at t revisions (given j) t' revisions' i = same_record t j t' i && eqb (get_or revisions j 0) (get_or revisions' i 0)

-- ---- words

-- those of a layer in a row, in their order
abbrev pub layer_words : ℕ → List ℕ → List ℕ
layer_words id row = filter (λ w. eqb (layer_id_of cpu w) id) row

abbrev pub same_list : List ℕ → List ℕ → Bool
same_list [] [] = true
same_list [] (y ∷ ys) = false
same_list (x ∷ xs) [] = false
same_list (x ∷ xs) (y ∷ ys) = eqb x y && same_list xs ys

-- ---- the flag of record i of today's table, of two rows with their revisions

abbrev pub is_since : OpenRow → List ℕ → OpenRow → List ℕ → ℕ → Bool
is_since o revisions o' revisions' i =
    let id = id_at o'.table.words i in
    same_at o.table revisions (record_place (table_ids o.table.words o.table.count) id) o'.table revisions' i
    && same_list (layer_words id o.row) (layer_words id o'.row)

-- today's table as it is left: the last word of each record is its flag, and every other word stays
unfoldable pub marked_words : OpenRow → List ℕ → OpenRow → List ℕ → List ℕ
marked_words o revisions o' revisions' =
    tabulate (length o'.table.words)
    (λ k. cond (eqb (k % 8) 7 && ltb (k / 8) o'.table.count) (cond (is_since o revisions o' revisions' (k / 8)) 1 0) (get_or o'.table.words k 0))

abbrev pub marked : OpenRow → List ℕ → OpenRow → List ℕ → OpenRow
marked o revisions o' revisions' =
    record {
      tile_y = o'.tile_y;
      from = o'.from;
      to = o'.to;
      row = o'.row;
      table = record { words = marked_words o revisions o' revisions'; floats = o'.table.floats; count = o'.table.count };
    }

-- ---- the laws

-- the flags are truthful, of rows that begin at one tile, whatever row, table and revisions were lent as last frame's
abbrev pub MarkedTold : Type 0
MarkedTold =
    (o o' : OpenRow) (revisions revisions' : List ℕ) →
    is_lent_table o.table ≡ true → is_lent_table (marked o revisions o' revisions').table ≡ true → o.from ≡ o'.from →
    RowTold o (marked o revisions o' revisions') × ContentsTold o revisions (marked o revisions o' revisions') revisions'

-- and the table is none that 1 or 4 turns down
abbrev pub MarkedTable : Type 0
MarkedTable = (o o' : OpenRow) (revisions revisions' : List ℕ) → is_lent_table o'.table ≡ true → is_lent_table (marked o revisions o' revisions').table ≡ true
