-- What the calls with carry records give, computed: P11's carry, and the mark and the plane of P7's draw. Assumes nothing.
use Rattle.std.specs.Prelude.{◌≡◌, ◌∷◌}
use Rattle.laws.proofs.Prelude.{refl, ap, ◌∙◌, true, List, [], Some, ℕ, eqb, Float, pos, length, replicate, Answer, is_given, all, over}
use Rattle.refusals.specs.Refusal.{Judgement, pass, given_or_refused}
use Rattle.pixel_segment.specs.Field.{cover_of, tile_of}
use Rattle.segment_rows.specs.Rows.{ascends_from}
use Rattle.segment_rows.specs.Search.{halved, search_of, tile_part, layer_part}
use Rattle.styling.specs.Ascending.{strictly_ascends_from}
use Rattle.layer_table.specs.Lookup.{lookup}
use Rattle.layer_table.specs.Table.{is_table_short, is_valid, is_table, layer_at, table_of}
use Rattle.cover_statements.specs.Carry.{is_light, carry_of}
use Rattle.cover_statements.specs.Cover.{is_empty}
use Rattle.cover_statements.specs.Entry.{cover_entry}
use Rattle.queue_statements.specs.Queue.{Carry, is_queue, queue_of, held_in, covers_in}
use Rattle.tile_layers.specs.Groups.{groups_of}
use Rattle.tile_layers.specs.Listing.{Listed, list_of}
use Rattle.layer_carrying.specs.Carrying.{handed_on}
use Rattle.painter.specs.Painting.{mark_in, plane_in}
use Rattle.row_statements.specs.Lent.{layers_of}
use Rattle.row_statements.specs.State.{State}
use Rattle.row_statements.specs.TileWork.{WorkLent, WorkGiven, listed_for, says_for, args_verdict}
use Rattle.row_statements.specs.TileWork.{list_verdict, work_verdict, work_out, work_of, work_answer, GivesWork}
use Rattle.row_statements.specs.Painting.{PaintGiven, layer_in, taken_for, part_for, paint_says, call_verdict}
use Rattle.row_statements.specs.Painting.{own_verdict, paint_verdict, paint_out, paint_of, PaintsLayer}
use Rattle.row_statements.specs.declared.TileWorked.{TileWorked}
use Rattle.row_statements.specs.declared.Painted.{Painted}
use Rattle.cases.specs.Answers.{is_word, is_a_half}
use Rattle.cases.specs.Inputs.{clipped_draw, three_layers, three_carries}
use Rattle.cases.specs.Numbers.{half_plane, sixteen}
use Rattle.cases.specs.Seen.{no_plane}
use Rattle.cases.specs.RecordCalls.{p11_row, p11_call, p11_lent, p7_call}
use Rattle.cases.proofs.Table.{cases}
use Rattle.cases.proofs.Tile.{all_half}

-- ---- P11 worked

abbrev one : List Listed
one = record { id = 5; cover = sixteen (pos 16); own = p11_row } ∷ []

abbrev kept : List Carry
kept = record { id = 5; cover = pos 0 ∷ replicate 15 (pos 16) } ∷ []

args_pass : args_verdict p11_call p11_lent ≡ pass
unfolding args_verdict is_table_short is_valid is_table ascends_from is_queue strictly_ascends_from
args_pass = refl

listed_is : listed_for p11_call ≡ one
unfolding list_of groups_of queue_of cover_entry tile_part search_of halved tile_of
listed_is = refl

list_passes : list_verdict (layers_of p11_call.table) one ≡ pass
unfolding list_verdict lookup table_of layer_at is_light cover_of
list_passes = refl

handed_one : handed_on (layers_of p11_call.table) one ≡ kept
unfolding handed_on carry_of is_empty lookup table_of layer_at cover_of
handed_one = refl

handed_is : (says_for p11_call).handed ≡ kept
handed_is = ap (handed_on (layers_of p11_call.table)) listed_is ∙ handed_one

work_passes : work_verdict p11_call p11_lent ≡ pass
work_passes = rw args_pass (ap (list_verdict (layers_of p11_call.table)) listed_is ∙ list_passes)

work_is : work_of p11_call p11_lent ≡ work_out pass (says_for p11_call) p11_call.state p11_call.kept p11_lent
work_is = ap (λ (j : Judgement). work_out j (says_for p11_call) p11_call.state p11_call.kept p11_lent) work_passes

front_cover : cover_entry 16 0 (over (covers_in kept) p11_lent.queue.covers) ≡ pos 0 ∷ replicate 15 (pos 16)
unfolding over covers_in cover_entry
front_cover = refl

pub record P11Handed (r : TileWorked) (back : WorkLent) : Type 0 where
  pub accepted : is_given (work_answer r.answer) ≡ true
  pub left : r.state.left ≡ 1
  pub covers : cover_entry 16 0 back.queue.covers ≡ pos 0 ∷ replicate 15 (pos 16)

module _ {r : TileWorked} {back : WorkLent} (w : GivesWork (work_of p11_call p11_lent) r back) where
  p11_accepted : is_given (work_answer r.answer) ≡ true
  unfolding work_out
  p11_accepted = ap is_given w.answer ∙ ap (λ (g : WorkGiven). is_given g.answer) work_is

  p11_left : r.state.left ≡ 1
  unfolding work_out
  p11_left = ap (λ (s : State). s.left) w.state ∙ ap (λ (g : WorkGiven). g.state.left) work_is ∙ ap length handed_is

  p11_covers : cover_entry 16 0 back.queue.covers ≡ pos 0 ∷ replicate 15 (pos 16)
  unfolding work_out
  p11_covers =
      ap (λ (l : WorkLent). cover_entry 16 0 l.queue.covers) w.lent_is
      ∙ ap (λ (g : WorkGiven). cover_entry 16 0 g.lent.queue.covers) work_is
      ∙ ap (λ (q : List Carry). cover_entry 16 0 (over (covers_in q) p11_lent.queue.covers)) handed_is
      ∙ front_cover

  pub p11_handed : P11Handed r back
  p11_handed = record { accepted = p11_accepted; left = p11_left; covers = p11_covers }

-- ---- the draw of P7 painted

call_passes : call_verdict p7_call no_plane ≡ pass
unfolding call_verdict is_table_short is_valid is_table strictly_ascends_from is_queue ascends_from
call_passes = refl

table_is : layers_of p7_call.table ≡ three_layers
unfolding table_of layer_at
table_is = refl

taken_is : taken_for p7_call ≡ three_carries
unfolding queue_of cover_entry
taken_is = refl

part_is : part_for p7_call ≡ []
unfolding tile_part search_of halved tile_of
part_is = refl

draw_is : layer_in three_layers 3 ≡ clipped_draw
unfolding lookup
draw_is = refl

own_passes : own_verdict p7_call ≡ pass
unfolding lookup held_in is_light cover_of layer_part search_of
own_passes = rw (table_is, taken_is, part_is) refl

paint_passes : paint_verdict p7_call no_plane ≡ pass
paint_passes = rw call_passes own_passes

paint_is : paint_of p7_call no_plane
    ≡ paint_out pass (paint_says (layers_of p7_call.table) (taken_for p7_call) (part_for p7_call) 3 (Some 2)) p7_call.state no_plane
paint_is =
    ap (λ (j : Judgement). paint_out j (paint_says (layers_of p7_call.table) (taken_for p7_call) (part_for p7_call) 3 (Some 2)) p7_call.state no_plane) paint_passes

mark_is : mark_in (layers_of p7_call.table) (taken_for p7_call) (part_for p7_call) 3 (layer_in (layers_of p7_call.table) 3) (Some 2) ≡ 0
mark_is = rw (table_is, taken_is, part_is, draw_is) cases.p7_mark

plane_is : plane_in (taken_for p7_call) (part_for p7_call) 3 (layer_in (layers_of p7_call.table) 3) ≡ half_plane
plane_is = rw (table_is, taken_is, part_is, draw_is) cases.p7_plane

module _ {r : Painted} {back : List Float} (w : PaintsLayer (paint_of p7_call no_plane) r back) where
  pub p7_mark : is_word (given_or_refused r.answer) 0 ≡ true
  unfolding paint_out
  p7_mark =
      ap (λ (x : Answer ℕ). is_word x 0) w.answer
      ∙ ap (λ (g : PaintGiven). is_word g.answer 0) paint_is
      ∙ ap (λ (m : ℕ). eqb m 0) mark_is

  pub p7_half : all is_a_half back ≡ true
  unfolding paint_out
  p7_half =
      ap (all is_a_half) w.plane
      ∙ ap (λ (g : PaintGiven). all is_a_half g.plane) paint_is
      ∙ ap (λ (p : List Float). all is_a_half (over p no_plane)) plane_is
      ∙ all_half
