-- After a load's opening a tile is refused by 9 or not at all, and so its row is worked whole or up to the first tile whose covers grow too large.
-- Assumes nothing.
use Rattle.std.specs.Prelude.{◌≡◌, ◌||◌, ◌⊎◌, ◌∷◌, ◌+◌, ◌-◌, ◌≤◌, ◌<◌}
use Rattle.laws.proofs.Prelude.{refl, ap, ◌∙◌, Bool, true, false, not, inl, inr, ⊎_elim, [], flatten, ℕ, zero, suc}
use Rattle.laws.proofs.Prelude.{min, add-zero, arith, le-ltb, lt-ltb, ltb, pos, length, is_given}
use Rattle.refusals.specs.Refusal.{pass, refuse, unless}
use Rattle.pixel_segment.specs.Field.{cpu, layer_id_of}
use Rattle.layer_table.specs.Lookup.{lookup}
use Rattle.layer_table.specs.Table as table
use Rattle.row_carries.specs.Carries.{queue_after}
use Rattle.row_carries.proofs.Carried.{layers_ascend}
use Rattle.cached_tile.specs.Kept.{tag_out_of_range}
use Rattle.row_statements.specs.Lent.{is_queue_short, is_list_short}
use Rattle.row_statements.specs.TileWork.{list_verdict}
use Rattle.row_statements.specs.Due.{OpenRow, table_on, queue_on, layers_on, WorkChoice, is_not_due, work_due_verdict}
use Rattle.row_lines.specs.Lines.{RowLines, line_on, lines_from}
use Rattle.row_lines.specs.Driven.{refusal_of, driving_of, row_driving, empty_queue}
use Rattle.queue_statements.specs.Opening.{add_all}
use Rattle.job_statements.specs.Table.{table_words, table_colors}
use Rattle.job_text_statements.specs.Job.{render}
use Rattle.row_answer.specs.Answer.{answer_by, answer_text, job_driving, driving_text}
use Rattle.load_statements.specs.declared.Asked.{Asked}
use Rattle.load_statements.specs.Load.{load_layer, load_of}
use Rattle.load_statements.specs.Input.{AskedInRange}
use Rattle.load_statements.specs.Opened.{load_row}
use Rattle.load_statements.specs.Worked.{row_of, load_driving, is_light_at, WorkedWhole, EndedBy9, LoadWorked}
use Rattle.load_statements.proofs.Forming.{all_tabulated, read_back}
use Rattle.load_statements.proofs.Ascents.{word_of_segment, row_is, word_ordered, ascending}
use Rattle.load_statements.proofs.Openings.{words, none_left, opens}
use Rattle.load_statements.proofs.Members.{are_low, are_carries_low, are_listed_low, part_low, list_low, handed_low, at_most_8, all_known}

-- ---- lines that 9 alone may end

module _ (o : OpenRow) (light : ℕ → Bool) (judged : (n : ℕ) → list_verdict (table_on o) (layers_on o n) ≡ unless (not (light n)) 9 pass) where
  -- of k tiles from the tile n on: all, or those before the first that is too heavy
  record Whole (k n : ℕ) (r : RowLines) : Type 0 where
    end : r.end ≡ pass
    many : length r.lines ≡ k
    each : (i : ℕ) → i < k → light (n + i) ≡ true

  record Ended (k n : ℕ) (r : RowLines) : Type 0 where
    end : r.end ≡ refuse 9
    few : length r.lines < k
    each : (i : ℕ) → i < length r.lines → light (n + i) ≡ true
    heavy : light (n + length r.lines) ≡ false

  passed : (k n : ℕ) → light n ≡ true → lines_from o (suc k) n ≡ record { lines = line_on o n ∷ (lines_from o k (suc n)).lines; end = (lines_from o k (suc n)).end }
  unfolding lines_from
  passed k n e = rw (judged n, e)

  stopped : (k n : ℕ) → light n ≡ false → lines_from o (suc k) n ≡ record { lines = []; end = refuse 9 }
  unfolding lines_from
  stopped k n e = rw (judged n, e)

  nothing : (n : ℕ) → Whole 0 n (lines_from o 0 n)
  unfolding lines_from
  nothing n = record { end = refl; many = refl; each = λ i h. absurd (omega arith) }

  -- one tile more in front
  shifted : (n k : ℕ) → light n ≡ true → ((i : ℕ) → i < k → light (suc n + i) ≡ true) → (i : ℕ) → i < suc k → light (n + i) ≡ true
  shifted n k e each zero h = ap light (add-zero n) ∙ e
  shifted n k e each (suc i) h = ap light (let j : n + suc i ≡ suc n + i = omega arith in j) ∙ each i (omega arith)

  lines_end : (k n : ℕ) → Whole k n (lines_from o k n) ⊎ Ended k n (lines_from o k n)
  lines_end zero n = inl (nothing n)
  lines_end (suc k) n = by (light n) refl (lines_end k (suc n))
    where
      by : (t : Bool) → light n ≡ t → Whole k (suc n) (lines_from o k (suc n)) ⊎ Ended k (suc n) (lines_from o k (suc n))
          → Whole (suc k) n (lines_from o (suc k) n) ⊎ Ended (suc k) n (lines_from o (suc k) n)
      by false e rest =
          inr
          (rw (stopped k n e)
          (record { end = refl; few = omega arith; each = λ i h. absurd (omega arith); heavy = ap light (add-zero n) ∙ e }))
      by true e (inl w) = inl (rw (passed k n e) (record { end = w.end; many = ap suc w.many; each = shifted n k e w.each }))
      by true e (inr d) =
          let many = length (lines_from o k (suc n)).lines in
          inr
          (rw (passed k n e)
          (record {
            end = d.end;
            few = omega (arith, d.few);
            each = shifted n many e d.each;
            heavy = ap light (let j : n + suc many ≡ suc n + many = omega arith in j) ∙ d.heavy;
          }))

-- ---- the tiles of a load

-- its table has the layers 0 to 7
in_table : (a : Asked) (id : ℕ) → id < 8 → is_given (lookup (table_on (row_of a)) id) ≡ true
unfolding lookup table_words table_colors flatten load_of load_layer table.table_of table.layer_at
in_table a zero h = refl
in_table a (suc zero) h = refl
in_table a (suc (suc zero)) h = refl
in_table a (suc (suc (suc zero))) h = refl
in_table a (suc (suc (suc (suc zero)))) h = refl
in_table a (suc (suc (suc (suc (suc zero))))) h = refl
in_table a (suc (suc (suc (suc (suc (suc zero)))))) h = refl
in_table a (suc (suc (suc (suc (suc (suc (suc zero))))))) h = refl
in_table a (suc (suc (suc (suc (suc (suc (suc (suc id)))))))) h = absurd (omega arith)

module _ (a : Asked) (h : AskedInRange a) where
  row_low : are_low (load_row a) ≡ true
  row_low =
      rw (row_is a h)
      (all_tabulated (λ w. ltb (layer_id_of cpu w) 8) a.count (word_of_segment a h)
      (λ k p. lt-ltb (layer_id_of cpu (word_of_segment a h k)) 8 (omega (arith, (word_ordered a h k p).layer_id))))

  queue_low : (n : ℕ) → are_carries_low (queue_on (row_of a) n) ≡ true
  unfolding queue_after add_all
  queue_low zero = rw (none_left a h)
  queue_low (suc n) = handed_low (table_on (row_of a)) _ (list_low _ _ (queue_low n) (part_low (pos (0 + n)) (load_row a) row_low))

  layers_low : (n : ℕ) → are_listed_low (layers_on (row_of a) n) ≡ true
  layers_low n = list_low _ _ (queue_low n) (part_low (pos (0 + n)) (load_row a) row_low)

  few : (n : ℕ) → length (layers_on (row_of a) n) ≤ 8
  few n = at_most_8 (layers_on (row_of a) n) (layers_ascend (record { words = words a h; is_row_lem = ascending a h }) (table_on (row_of a)) 0 n) (layers_low n)

  judged : (n : ℕ) → list_verdict (table_on (row_of a)) (layers_on (row_of a) n) ≡ unless (not (is_light_at a n)) 9 pass
  unfolding list_verdict
  judged n =
      rw (
        le-ltb 256 (length (layers_on (row_of a) n)) (omega (arith, few n)),
        all_known (table_on (row_of a)) (in_table a) (layers_on (row_of a) n) (layers_low n),
      )

  due : (n : ℕ) (c : WorkChoice) → (is_queue_short c.lent.queue || is_list_short c.lent.list) ≡ false → is_not_due (row_of a) n c.tile ≡ false
      → tag_out_of_range c.kept ≡ false → work_due_verdict (row_of a) n c ≡ unless (not (is_light_at a n)) 9 pass
  due n c p q r = rw (p, q, r) (judged n)

  driving_is : load_driving a ≡ driving_of (lines_from (row_of a) a.tiles 0)
  unfolding row_driving
  driving_is =
      rw (opens a h empty_queue refl)
      (ap (λ (k : ℕ). driving_of (lines_from (row_of a) k 0)) (let e : min (min a.tiles a.tiles) 4095 - 0 ≡ a.tiles = omega (arith, h.tiles) in e))

  printed : answer_text (render (load_of a)) ≡ driving_text 0 (load_driving a)
  unfolding answer_text job_driving load_of
  printed = ap answer_by (read_back a h)

  -- the first tile is tile 0
  from_0 : (n : ℕ) → is_light_at a n ≡ is_light_at a (0 + n)
  from_0 n = ap (is_light_at a) (let e : n ≡ 0 + n = omega arith in e)

  abbrev driven_lines : RowLines
  driven_lines = lines_from (row_of a) a.tiles 0

  whole : Whole (row_of a) (is_light_at a) judged a.tiles 0 driven_lines → WorkedWhole a (driving_of driven_lines)
  whole w = record { refusal = ap refusal_of w.end; lines = w.many; light = λ n l. from_0 n ∙ w.each n l }

  ended : Ended (row_of a) (is_light_at a) judged a.tiles 0 driven_lines → EndedBy9 a (driving_of driven_lines)
  ended e = record {
    refusal = ap refusal_of e.end;
    before = e.few;
    light = λ n l. from_0 n ∙ e.each n l;
    heavy = from_0 (length driven_lines.lines) ∙ e.heavy;
  }

  ends : WorkedWhole a (load_driving a) ⊎ EndedBy9 a (load_driving a)
  ends = rw driving_is (⊎_elim (λ w. inl (whole w)) (λ e. inr (ended e)) (lines_end (row_of a) (is_light_at a) judged a.tiles 0))

  pub works : LoadWorked a
  works = record { judged = judged; due = due; printed = printed; ends = ends }
