-- `tile::work_here` meets its contract. Assumes nothing.
use Rattle.std.specs.Prelude.{◌≡◌}
use Rattle.laws.proofs.Prelude.{refl, ap, sym, ◌∙◌, Bool, false, List, ℕ, arith}
use Rattle.refusals.specs.Refusal.{Judgement, pass, unless, and_then}
use Rattle.cached_tile.specs.Kept.{tag_out_of_range}
use Rattle.row_statements.specs.Lent.{ListColumns, columns, list_columns, lent_table}
use Rattle.row_working.specs.InnerPart.{WorksPart}
use Rattle.row_statements.specs.declared.TileWorked.{TileWorked}
use Rattle.cached_tile.specs.declared.kept.Kept.{Kept}
use Rattle.row_statements.specs.TileWork.{WorkLent, work_lent, layers_verdict, GivesWork}
use Rattle.row_statements.specs.InnerWork.{worked_by}
use Rattle.row_driver.specs.InnerSteps as driver
use Rattle.row_working.proofs.PartLaws.{part_judged}
use Rattle.row_driver.proofs.Listed.{painter, accepted, count, walkable}
use Rattle.batch_statements.specs.BatchLent.{batch_lent, kept_at}
use Rattle.batch_statements.specs.Batch.{BatchRow, BatchAt, batch_row, call_at}
use Rattle.tile_batch.specs.InnerTurns.{batch_in, PartOf}
use Rattle.tile_batch.proofs.Turning.{own_judged, own_tag, workable, all_few, turn_done, turn_refused, turn_left, turn_told_refused, both_pass}
use Rattle.tile_batch.proofs.tile.work_here.Goals as goal
use Rattle.tile_batch.proofs.tile.work_here.Goals.{Start}

-- what the function is called with where the part is a row's, where the batch stands, and the list
abbrev row_of : Start → List ℕ → BatchRow
row_of s row = let a = s.args in batch_row row (lent_table a.layers.now a.colors.now a.count) a.keeps a.clear a.previous

abbrev standOf : Start → BatchAt
standOf s =
    let a = s.args in
    batch_in a.at (batch_lent (columns a.ids.now a.covers.now) (columns a.next_ids.now a.next_covers.now) a.kept.now a.told.now a.bottoms.now a.planes.now a.painted.now)

abbrev list_of : Start → ListColumns
list_of s = let a = s.args in list_columns a.list_ids.now a.list_covers.now a.list_flags.now a.list_unmasked.now

abbrev Own : Start → List ℕ → Type 0
Own s row = PartOf (row_of s s.args.part.now) (standOf s) row

-- the cached tile's tag is in range
abbrev NoTag : Start → Type 0
NoTag s = let a = s.args in tag_out_of_range (kept_at a.keeps a.kept.now a.at.worked) ≡ false

-- neither 2 nor 6 applies
own : (s : Start) (row : List ℕ) (p : Own s row) → NoTag s → own_judged (row_of s row) (standOf s) p.stands ≡ pass
own s row p h = sym (own_tag (row_of s row) (standOf s) p.stands s.requires.inside) ∙ ap (λ (b : Bool). unless b 6 pass) h

ready : (s : Start) (row : List ℕ) → Own s row → NoTag s → driver.Workable (call_at (row_of s row) (standOf s)) (work_lent (standOf s).lent.other (list_of s))
ready s row p h = workable (row_of s row) (standOf s) p.stands (own s row p h) (list_of s) s.requires.list_long

-- what the work says, once
given_is : (s : Start) (row : List ℕ) → Own s row → {held : Kept} {r : TileWorked} {back : WorkLent} → held ≡ kept_at s.args.keeps s.args.kept.now s.args.at.worked
    → WorksPart s.args.at.state s.args.part.now (row_of s row).table held s.args.clear s.args.previous (standOf s).lent.queue (work_lent (standOf s).lent.other (list_of s)) r back
    → GivesWork (worked_by (call_at (row_of s row) (standOf s)) (work_lent (standOf s).lent.other (list_of s))) r back
given_is s row p e g = rw e at (g.gives (standOf s).tile row p.part_is)

pub kept_at-held-requires : goal.kept_at-held-requires
kept_at-held-requires c = c.requires.notes.kept_long

pub returns-then-is_tag_out_of_range : goal.returns-then-is_tag_out_of_range
returns-then-is_tag_out_of_range c =
    let tag = ap tag_out_of_range (sym c.kept_at-held.ensures) ∙ sym c.is_tag_out_of_range.ensures ∙ c.if-is_tag_out_of_range.true in
    record {
      gives =
          λ row p.
          let told = sym (own_tag (row_of (goal.at.returns-then-is_tag_out_of_range c).Start row) (standOf (goal.at.returns-then-is_tag_out_of_range c).Start) p.stands c.requires.inside) ∙ ap (λ (b : Bool). unless b 6 pass) tag in
          turn_left (row_of (goal.at.returns-then-is_tag_out_of_range c).Start row) (standOf (goal.at.returns-then-is_tag_out_of_range c).Start) c.args.at _ (standOf (goal.at.returns-then-is_tag_out_of_range c).Start).lent _ refl
          (turn_refused (row_of (goal.at.returns-then-is_tag_out_of_range c).Start row) (standOf (goal.at.returns-then-is_tag_out_of_range c).Start) p.stands (ap (λ (j : Judgement). and_then j (layers_verdict (call_at (row_of (goal.at.returns-then-is_tag_out_of_range c).Start row) (standOf (goal.at.returns-then-is_tag_out_of_range c).Start)))) told))
          c.refused.ensures;
    }

pub work_part-worked-requires : goal.work_part-worked-requires
work_part-worked-requires c =
    let a = c.args in
    let t = c.requires in
    let tag = ap tag_out_of_range (sym c.kept_at-held.ensures) ∙ sym c.is_tag_out_of_range.ensures ∙ c.if-is_tag_out_of_range.false in
    part_judged a.at.state (standOf (goal.at.work_part-worked-requires c).Start).tile t.row (row_of (goal.at.work_part-worked-requires c).Start t.row).table (kept_at a.keeps a.kept.now a.at.worked) a.clear a.previous (standOf (goal.at.work_part-worked-requires c).Start).lent.queue
    (work_lent (standOf (goal.at.work_part-worked-requires c).Start).lent.other (list_of (goal.at.work_part-worked-requires c).Start)) t.of_row.part_is (ready (goal.at.work_part-worked-requires c).Start t.row t.of_row tag).judged

pub note_tile-requires : goal.note_tile-requires
note_tile-requires c =
    let row = c.requires.row in
    let p = c.requires.of_row in
    let tag = ap tag_out_of_range (sym c.kept_at-held.ensures) ∙ sym c.is_tag_out_of_range.ensures ∙ c.if-is_tag_out_of_range.false in
    let call = call_at (row_of (goal.at.note_tile-requires c).Start row) (standOf (goal.at.note_tile-requires c).Start) in
    let lent = work_lent (standOf (goal.at.note_tile-requires c).Start).lent.other (list_of (goal.at.note_tile-requires c).Start) in
    let g = given_is (goal.at.note_tile-requires c).Start row p c.kept_at-held.ensures c.work_part-worked.ensures in
    let e = c.in-Ok.is in
    let t = accepted call lent (ready (goal.at.note_tile-requires c).Start row p tag) e g in
    let many = count call lent (ready (goal.at.note_tile-requires c).Start row p tag) t in
    let v = both_pass (row_of (goal.at.note_tile-requires c).Start row) c.args.at (standOf (goal.at.note_tile-requires c).Start).lent p.stands (own (goal.at.note_tile-requires c).Start row p tag) (list_of (goal.at.note_tile-requires c).Start) c.requires.list_long g e in
    let few = all_few (row_of (goal.at.note_tile-requires c).Start row) (standOf (goal.at.note_tile-requires c).Start) p.stands v in
    let r = (ready (goal.at.note_tile-requires c).Start row p tag).judged.rooms in
    let planes = c.requires.planes in
    rw p.part_is (
      painter call lent (ready (goal.at.note_tile-requires c).Start row p tag),
      walkable call lent (ready (goal.at.note_tile-requires c).Start row p tag) t,
      omega (arith, many, few, r.list_ids, c.work_part-worked.auto.list_ids),
      c.requires.notes,
      record { planes_long = omega (arith, planes.planes_long, many, few); painted_long = omega (arith, planes.painted_long, many, few) },
      t.no_clip,
    )

pub returns-in-Err : goal.returns-in-Err
returns-in-Err c =
    let tag = ap tag_out_of_range (sym c.kept_at-held.ensures) ∙ sym c.is_tag_out_of_range.ensures ∙ c.if-is_tag_out_of_range.false in
    record {
      gives =
          λ row p.
          turn_told_refused (row_of (goal.at.returns-in-Err c).Start row) c.args.at (standOf (goal.at.returns-in-Err c).Start).lent p.stands (own (goal.at.returns-in-Err c).Start row p tag) (list_of (goal.at.returns-in-Err c).Start) c.requires.list_long (given_is (goal.at.returns-in-Err c).Start row p c.kept_at-held.ensures c.work_part-worked.ensures) c.in-Err.is
          c.refused-in-Err.ensures;
    }

pub shape_of-next_ids-in-Ok : goal.shape_of-next_ids-in-Ok
shape_of-next_ids-in-Ok c = c.work_part-worked.auto.next_ids

pub shape_of-next_covers-in-Ok : goal.shape_of-next_covers-in-Ok
shape_of-next_covers-in-Ok c = c.work_part-worked.auto.next_covers

pub shape_of-list_ids-in-Ok : goal.shape_of-list_ids-in-Ok
shape_of-list_ids-in-Ok c = c.work_part-worked.auto.list_ids

pub shape_of-list_covers-in-Ok : goal.shape_of-list_covers-in-Ok
shape_of-list_covers-in-Ok c = c.work_part-worked.auto.list_covers

pub shape_of-list_flags-in-Ok : goal.shape_of-list_flags-in-Ok
shape_of-list_flags-in-Ok c = c.work_part-worked.auto.list_flags

pub returns-in-Ok : goal.returns-in-Ok
returns-in-Ok c =
    let tag = ap tag_out_of_range (sym c.kept_at-held.ensures) ∙ sym c.is_tag_out_of_range.ensures ∙ c.if-is_tag_out_of_range.false in
    let t = c.requires in
    let e = c.in-Ok.is in
    record {
      gives =
          λ row p.
          let g = given_is (goal.at.returns-in-Ok c).Start row p c.kept_at-held.ensures c.work_part-worked.ensures in
          let v = both_pass (row_of (goal.at.returns-in-Ok c).Start row) c.args.at (standOf (goal.at.returns-in-Ok c).Start).lent p.stands (own (goal.at.returns-in-Ok c).Start row p tag) (list_of (goal.at.returns-in-Ok c).Start) t.list_long g e in
          turn_done (row_of (goal.at.returns-in-Ok c).Start row) (standOf (goal.at.returns-in-Ok c).Start) p.stands v t.planes c.args.at (standOf (goal.at.returns-in-Ok c).Start).lent refl (list_of (goal.at.returns-in-Ok c).Start) t.list_long g e
          (rw p.part_is at c.note_tile.ensures);
    }
