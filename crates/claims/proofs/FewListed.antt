-- The claims of specs/Batches: what 1 to 9 leave of a tile's list. Assumes nothing.
use Rattle.std.specs.Prelude.{◌≡◌, ◌≤◌}
use Rattle.laws.proofs.Prelude.{refl, ap, ◌∙◌, true, ℕ, min, arith, given}
use Rattle.refusals.specs.Refusal.{Judgement, pass, refuse}
use Rattle.refusals.proofs.Judging.{both_passed}
use Rattle.segment_rows.specs.Search.{tile_part}
use Rattle.styling.specs.Ascending.{strictly_ascends}
use Rattle.queue_statements.specs.Queue.{ids_in}
use Rattle.queue_statements.proofs.Judging as queue-judging
use Rattle.queue_statements.proofs.Queues.{ids_queue}
use Rattle.tile_layers.proofs.Ordering.{list_ascends}
use Rattle.row_statements.specs.Lent.{carries_in, layers_of}
use Rattle.row_statements.specs.TileWork.{TileAnswer, tile_answer, listed_for, says_for, args_verdict, layers_verdict, work_verdict, work_out}
use Rattle.row_statements.proofs.Works.{args_passed, judged, list_passed}
use Rattle.batch_statements.proofs.ListedFew.{listed_few}
use Rattle.claims.specs.Batches.{ListsFew}

pub lists_few : ListsFew
unfolding work_out
lists_few c lent t w e = by (work_verdict c lent) refl e
  where
    by : (v : Judgement) → work_verdict c lent ≡ v → (work_out v (says_for c) c.state c.kept lent).answer ≡ given t → t.listed ≤ min 256 c.table.count
    by (refuse n) ev ea = absurd (let z : ◌≡◌ {A = ℕ} 0 1 = cc in omega arith)
    by pass ev ea =
        let both = both_passed (args_verdict c lent) (layers_verdict c) ev in
        let p = args_passed c lent both.0 in
        let walks = (judged c lent w p).walks in
        let queue = carries_in c.state.left c.queue in
        let up : strictly_ascends (ids_in queue) ≡ true =
        ap strictly_ascends (ids_queue c.state.left c.queue.ids c.queue.covers walks.long) ∙ (queue-judging.ordered c.state.left c.queue.ids p.in_queue).ascending in
        let few = listed_few c.table (listed_for c) p.in_table (list_ascends queue (tile_part c.tile c.row) up walks.ordered) (list_passed (layers_of c.table) (listed_for c) both.1) in
        let same : tile_answer (says_for c) ≡ t = cc in
        let listed = ap (λ (x : TileAnswer). x.listed) same in
        omega (arith, few, listed)
