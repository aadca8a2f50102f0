-- Tile work and painting answer and leave the same with the columns that were read as with the records' own: all that they ask of a queue is whether it is short,
-- whether it is in order, and where neither refuses, its carries. Assumes nothing.
use Rattle.std.specs.Prelude.{◌≡◌, ◌||◌}
use Rattle.laws.proofs.Prelude.{refl, ap, subst, ◌∙◌, Bool, true, false, not, List, ℕ, suc, ltb, Float, length}
use Rattle.refusals.specs.Refusal.{Judgement, pass, refuse, unless, and_then}
use Rattle.pixel_segment.specs.Field.{cpu}
use Rattle.segment_rows.specs.Rows.{is_row}
use Rattle.segment_rows.specs.Search.{tile_part}
use Rattle.queue_statements.specs.Queue.{Carry, is_queue}
use Rattle.cached_tile.specs.Kept.{tag_out_of_range}
use Rattle.tile_layers.specs.Listing.{layers_in}
use Rattle.layer_carrying.specs.Carrying.{handed_on}
use Rattle.layer_workbench.specs.Work.{outcome_in}
use Rattle.row_statements.specs.Lent.{Columns, carries_in, is_queue_short, is_list_short, layers_of, is_lent_short, is_lent_table}
use Rattle.row_statements.specs.State.{is_wrong_next, is_wrong_worked}
use Rattle.row_statements.specs.TileWork.{WorkCall, WorkLent, WorkGiven, list_verdict, args_verdict, work_out, work_of, GivesWork}
use Rattle.row_statements.specs.Painting.{PaintCall, PaintGiven, layer_verdict, call_verdict, paint_says, paint_out, paint_of, PaintsLayer}
use Rattle.row_statements.specs.declared.Painted.{Painted}
use Rattle.row_statements.specs.declared.TileWorked.{TileWorked}
use Rattle.row_statements.proofs.Works.{args_passed}
use Rattle.row_statements.proofs.Paintings.{call_passed}
use Rattle.queue_records.specs.Records.{columns_of}
use Rattle.queue_records.specs.declared.CarryRecord.{CarryRecord}
use Rattle.queue_records.specs.declared.Columns as read
use Rattle.tile_row_columns.specs.Lent.{columns_for, lent_columns}
use Rattle.tile_row_columns.proofs.Lending.{work_from, paint_from}
use Rattle.tile_row_columns.proofs.SameQueue.{same_short, same_order, same_queue}

-- two queues that are judged alike, and where no refusal applies have the same n carries
record Alike (n : ℕ) (a b : Columns) : Type 0 where
  pub short : is_queue_short a ≡ is_queue_short b
  pub order : is_queue_short b ≡ false → is_queue n a.ids ≡ is_queue n b.ids
  pub carries : is_queue_short b ≡ false → is_queue n b.ids ≡ true → carries_in n a ≡ carries_in n b

alike : (q : List CarryRecord) (n : ℕ) → Alike n (lent_columns (columns_of q n)) (columns_for q)
alike q n = record { short = same_short q n; order = same_order q n; carries = same_queue q n }

-- a judge that asks first whether the queue is short, and later whether it is in order
judged_alike : (verdict : Bool → Bool → Judgement) → ((a b : Bool) → verdict true a ≡ verdict true b) → {s₁ s₂ o₁ o₂ : Bool} → s₁ ≡ s₂ → (s₂ ≡ false → o₁ ≡ o₂) → verdict s₁ o₁ ≡ verdict s₂ o₂
judged_alike verdict short {s₁} {s₂} {o₁} {o₂} e order = ap (λ (s : Bool). verdict s o₁) e ∙ by s₂ order
  where
    by : (s : Bool) → (s ≡ false → o₁ ≡ o₂) → verdict s o₁ ≡ verdict s o₂
    by true h = short o₁ o₂
    by false h = ap (verdict false) (h refl)

-- ---- tile work

module _ (c : WorkCall) (lent : WorkLent) {a b : Columns} (same : Alike c.state.left a b) where
  abbrev verdict : Bool → Bool → Judgement
  verdict short order =
      unless (short || is_queue_short lent.queue || is_lent_short c.table || is_list_short lent.list) 1
      (unless (is_wrong_next c.state c.tile) 2
      (unless (not (is_row cpu (suc c.state.tile_y) c.row)) 3
      (unless (not (is_lent_table c.table)) 4
      (unless (not order) 5
      (unless (tag_out_of_range c.kept) 6
      pass)))))

  same_args : args_verdict (work_from c a) lent ≡ args_verdict (work_from c b) lent
  unfolding args_verdict
  same_args = judged_alike verdict (λ x y. refl) same.short same.order

  -- what is given, by the verdict on the arguments and the carries
  abbrev gives : Judgement → List Carry → WorkGiven
  gives v carries =
      let table = layers_of c.table in
      let ls = layers_in carries (tile_part c.tile c.row) in
      work_out (and_then v (list_verdict table ls))
      (record { table = table; layers = ls; outcome = outcome_in table c.kept c.clear c.previous ls; handed = handed_on table ls })
      c.state c.kept lent

  same_work : work_of (work_from c a) lent ≡ work_of (work_from c b) lent
  unfolding work_out
  same_work = ap (λ (v : Judgement). gives v (carries_in c.state.left a)) same_args ∙ by (args_verdict (work_from c b) lent) refl
    where
      by : (v : Judgement) → args_verdict (work_from c b) lent ≡ v → gives v (carries_in c.state.left a) ≡ gives v (carries_in c.state.left b)
      by (refuse n) e = refl
      by pass e =
          let p = args_passed (work_from c b) lent e in
          ap (gives pass) (same.carries p.queue_room p.in_queue)

-- from columns that were read of records
pub worked_records : (c : WorkCall) (lent : WorkLent) (q : List CarryRecord) (k : read.Columns) {r : TileWorked} {back : WorkLent} → k ≡ columns_of q c.state.left
    → GivesWork (work_of (work_from c (lent_columns k)) lent) r back → GivesWork (work_of (work_from c (columns_for q)) lent) r back
worked_records c lent q k {r} {back} e p =
    subst (λ (g : WorkGiven). GivesWork g r back) (ap (λ (d : read.Columns). work_of (work_from c (lent_columns d)) lent) e ∙ same_work c lent (alike q c.state.left)) p

-- ---- painting

module _ (c : PaintCall) (plane : List Float) {a b : Columns} (same : Alike c.state.taken a b) where
  abbrev paint_verdict : Bool → Bool → Judgement
  paint_verdict short order =
      unless (short || is_lent_short c.table || ltb (length plane) 256) 1
      (unless (is_wrong_worked c.state c.tile) 2
      (unless (not (is_row cpu (suc c.state.tile_y) c.row)) 3
      (unless (not (is_lent_table c.table)) 4
      (unless (not order) 5
      pass))))

  same_call : call_verdict (paint_from c a) plane ≡ call_verdict (paint_from c b) plane
  unfolding call_verdict
  same_call = judged_alike paint_verdict (λ x y. refl) same.short same.order

  abbrev paints : Judgement → List Carry → PaintGiven
  paints v carries =
      let table = layers_of c.table in
      let part = tile_part c.tile c.row in
      paint_out (and_then v (layer_verdict table carries part c.layer)) (paint_says table carries part c.layer c.state.clip) c.state plane

  same_paint : paint_of (paint_from c a) plane ≡ paint_of (paint_from c b) plane
  unfolding paint_out
  same_paint = ap (λ (v : Judgement). paints v (carries_in c.state.taken a)) same_call ∙ by (call_verdict (paint_from c b) plane) refl
    where
      by : (v : Judgement) → call_verdict (paint_from c b) plane ≡ v → paints v (carries_in c.state.taken a) ≡ paints v (carries_in c.state.taken b)
      by (refuse n) e = refl
      by pass e =
          let p = call_passed (paint_from c b) plane e in
          ap (paints pass) (same.carries p.queue_room p.in_queue)

pub painted_records : (c : PaintCall) (plane : List Float) (q : List CarryRecord) (k : read.Columns) {r : Painted} {back : List Float} → k ≡ columns_of q c.state.taken
    → PaintsLayer (paint_of (paint_from c (lent_columns k)) plane) r back → PaintsLayer (paint_of (paint_from c (columns_for q)) plane) r back
painted_records c plane q k {r} {back} e p =
    subst (λ (g : PaintGiven). PaintsLayer g r back) (ap (λ (d : read.Columns). paint_of (paint_from c (lent_columns d)) plane) e ∙ same_paint c plane (alike q c.state.taken)) p
