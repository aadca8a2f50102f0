-- What is due of each call on the opposite row, by what is due of it on the row: the same verdicts, states, decisions, marks and planes, the same
-- lists and carries with their covers negated. Assumes nothing.
use Rattle.std.specs.Prelude.{◌≡◌, ◌+◌, ◌-◌}
use Rattle.laws.proofs.Prelude.{refl, ap, ap₂, sym, ◌∙◌, true, not, List, map, Option, ℕ, zero, suc, ltb, Float, pos, length}
use Rattle.laws.proofs.Prelude.{length-map, is_given, plus}
use Rattle.refusals.specs.Refusal.{pass, unless}
use Rattle.pixel_segment.specs.Field.{cpu}
use Rattle.pixel_segment.specs.Opposite.{opposite_of}
use Rattle.pixel_segment.proofs.Opposite.{are_mild, cpu_wide}
use Rattle.segment_rows.specs.Search.{tile_part}
use Rattle.segment_rows.proofs.Opposite.{tile_opposite, tile_mild}
use Rattle.styling.specs.declared.Color.{Color}
use Rattle.layer_table.specs.Lookup.{lookup}
use Rattle.cached_tile.specs.Kept.{tag_out_of_range}
use Rattle.cached_tile.specs.declared.kept.Kept as kept
use Rattle.cover_statements.proofs.Opposite.{row_plane_opposite}
use Rattle.queue_statements.specs.Opposite.{opposite_carry}
use Rattle.tile_layers.proofs.Opposite.{opposite_listed, many_opposite, known_opposite, lights_opposite}
use Rattle.layer_carrying.specs.Carrying.{rule_in}
use Rattle.pass_statements.specs.Opposite.{opposite_entry}
use Rattle.pass_statements.specs.Rules.{needs_clip}
use Rattle.pass_statements.specs.declared.item.Item.{Item}
use Rattle.layer_workbench.specs.Work.{entry_of}
use Rattle.row_carries.proofs.Opposite.{layers_own_mild, queue_opposite, layers_at_opposite, entries_at_opposite, items_at_opposite, outcome_at_opposite}
use Rattle.painter.specs.Clip.{alive_at, clip_after}
use Rattle.painter.specs.Painting.{mark_for}
use Rattle.painter.proofs.Opposite.{light_in_opposite}
use Rattle.row_statements.specs.TileWork.{tile_answer, list_verdict}
use Rattle.row_statements.specs.Painting.{layer_verdict}
use Rattle.row_statements.specs.Due.{OpenRow, Past, table_on, queue_on, layers_on, taken_on, state_on, is_not_due, WorkChoice, work_due_verdict, outcome_on, says_on, is_not_last, PaintChoice, paint_due_verdict, func_on, plane_on, mark_on, paint_on}
use Rattle.listing_runs.specs.Due.{ListChoice, list_due_verdict, DecideChoice, nth_on, outcome_due}
use Rattle.two_rows.specs.SameCalls.{AlikeWorks, AlikePaints, AlikeLists, AlikeDecides}

abbrev pub opposite_row : OpenRow → OpenRow
opposite_row o = record { tile_y = o.tile_y; from = o.from; to = o.to; row = map (opposite_of cpu) o.row; table = o.table }

module _ (o : OpenRow) (mild : are_mild cpu o.row ≡ true) where
  -- ---- the carries and the lists

  pub queue_turned : (n : ℕ) → queue_on (opposite_row o) n ≡ map opposite_carry (queue_on o n)
  queue_turned n = queue_opposite (table_on o) o.row mild o.from n

  pub left_turned : (n : ℕ) → length (queue_on (opposite_row o) n) ≡ length (queue_on o n)
  left_turned n = ap length (queue_turned n) ∙ length-map (queue_on o n) opposite_carry

  layers_turned : (n : ℕ) → layers_on (opposite_row o) n ≡ map opposite_listed (layers_on o n)
  layers_turned n = layers_at_opposite (table_on o) o.row mild o.from n

  pub listed_turned : (n : ℕ) → length (layers_on (opposite_row o) n) ≡ length (layers_on o n)
  listed_turned n = ap length (layers_turned n) ∙ length-map (layers_on o n) opposite_listed

  pub entries_turned : (n : ℕ) → map (entry_of (table_on o)) (layers_on (opposite_row o) n) ≡ map opposite_entry (map (entry_of (table_on o)) (layers_on o n))
  entries_turned n = entries_at_opposite (table_on o) o.row mild o.from n

  pub outcome_turned : (n : ℕ) (k : kept.Kept) (clear : Color) (previous : Option Color) → outcome_on (opposite_row o) n k clear previous ≡ outcome_on o n k clear previous
  outcome_turned n k clear previous = outcome_at_opposite (table_on o) o.row mild o.from k clear previous n

  -- 7, 8 and 9
  lists_turned : (n : ℕ) → list_verdict (table_on o) (layers_on (opposite_row o) n) ≡ list_verdict (table_on o) (layers_on o n)
  unfolding list_verdict
  lists_turned n =
      ap (list_verdict (table_on o)) (layers_turned n)
      ∙ (λ i. unless (many_opposite (layers_on o n) i) 7
      (unless (not (known_opposite (table_on o) (layers_on o n) i)) 8
      (unless (not (lights_opposite (layers_on o n) (layers_own_mild (table_on o) o.row mild o.from n) i)) 9
      pass)))

  -- ---- the state

  taken_turned : (n : ℕ) → taken_on (opposite_row o) n ≡ taken_on o n
  taken_turned zero = refl
  taken_turned (suc n) = left_turned n

  pub state_turned : (p : Past) → state_on (opposite_row o) p ≡ state_on o p
  state_turned p =
      λ i. record { tile_y = o.tile_y; from = o.from; to = o.to; next = o.from + p.tiles; left = left_turned p.tiles i; taken = taken_turned p.tiles i; clip = p.clip }

  -- ---- works and listings

  pub work_verdict : (n : ℕ) {c c' : WorkChoice} → AlikeWorks c c' → work_due_verdict (opposite_row o) n c' ≡ work_due_verdict o n c
  work_verdict n a =
      λ i. unless (sym a.room i) 1 (unless (is_not_due o n (sym a.tile i)) 2 (unless (tag_out_of_range (sym a.kept i)) 6 (lists_turned n i)))

  pub work_outcome : (n : ℕ) {c c' : WorkChoice} → AlikeWorks c c' → outcome_on (opposite_row o) n c'.kept c'.clear c'.previous ≡ outcome_on o n c.kept c.clear c.previous
  work_outcome n {c} {c'} a = (λ i. outcome_on (opposite_row o) n (sym a.kept i) (sym a.clear i) (sym a.previous i)) ∙ outcome_turned n c.kept c.clear c.previous

  pub answer_turned : (n : ℕ) {c c' : WorkChoice} → AlikeWorks c c' → tile_answer (says_on (opposite_row o) n c') ≡ tile_answer (says_on o n c)
  answer_turned n a = λ i. record { decision = (work_outcome n a i).decision; listed = listed_turned n i; skipped = (work_outcome n a i).skipped }

  pub list_verdict_lem : (n : ℕ) {c c' : ListChoice} → AlikeLists c c' → list_due_verdict (opposite_row o) n c' ≡ list_due_verdict o n c
  list_verdict_lem n a = λ i. unless (sym a.room i) 1 (unless (is_not_due o n (sym a.tile i)) 2 (lists_turned n i))

  -- ---- decidings

  pub nth_turned : {c c' : DecideChoice} → AlikeDecides c c' → nth_on (opposite_row o) c' ≡ nth_on o c
  nth_turned a = λ i. plus (sym a.tile i) - o.from

  pub decide_outcome : {c c' : DecideChoice} → AlikeDecides c c' → outcome_due (opposite_row o) c' ≡ outcome_due o c
  decide_outcome {c} {c'} a =
      (λ i. outcome_on (opposite_row o) (nth_turned a i) (sym a.kept i) (sym a.clear i) (sym a.previous i))
      ∙ outcome_turned (nth_on o c) c.kept c.clear c.previous

  pub decide_listed : {c c' : DecideChoice} → AlikeDecides c c' → length (layers_on (opposite_row o) (nth_on (opposite_row o) c')) ≡ length (layers_on o (nth_on o c))
  decide_listed {c} a = ap (λ (n : ℕ). length (layers_on (opposite_row o) n)) (nth_turned a) ∙ listed_turned (nth_on o c)

  -- ---- paintings

  pub paint_verdict : (n : ℕ) {c c' : PaintChoice} → AlikePaints c c' → paint_due_verdict (opposite_row o) n c' ≡ paint_due_verdict o n c
  paint_verdict n {c} {c'} a =
      (λ i. unless (sym a.room i) 1
      (unless (is_not_last o n (sym a.tile i)) 2
      (layer_verdict (table_on o) (queue_turned (n - 1) i) (tile_opposite (pos (o.from + (n - 1))) o.row i) (sym a.layer i))))
      ∙ (λ i. unless (ltb (length c.plane) 256) 1
      (unless (is_not_last o n c.tile) 2
      (unless (not (is_given (lookup (table_on o) c.layer))) 8
      (unless (not (light_in_opposite (queue_on o (n - 1)) (tile_part (pos (o.from + (n - 1))) o.row) c.layer (tile_mild o.row mild (pos (o.from + (n - 1)))) i)) 9
      pass))))

  pub plane_turned : (n id : ℕ) → plane_on (opposite_row o) n id ≡ plane_on o n id
  plane_turned n id = row_plane_opposite cpu_wide o.row mild 16 (rule_in (table_on o) id) (suc (o.from + n)) id

  mark_turned : (n id : ℕ) (clip : Option ℕ) → mark_on (opposite_row o) n id clip ≡ mark_on o n id clip
  mark_turned n id clip =
      ap₂ (λ (items : List Item) (plane : List Float). mark_for (func_on o id) (needs_clip items (func_on o id) id) (alive_at clip id) plane)
      (items_at_opposite (table_on o) o.row mild o.from n) (plane_turned n id)

  pub paint_turned_lem : (n id : ℕ) (clip : Option ℕ) → paint_on (opposite_row o) n id clip ≡ paint_on o n id clip
  paint_turned_lem n id clip = λ i. record { plane = plane_turned n id i; mark = mark_turned n id clip i; clip = clip_after (func_on o id) id clip }
