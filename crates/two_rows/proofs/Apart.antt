-- Two runs over rows that agree on a layer: what their calls say of the layer is the same. Assumes nothing.
use Rattle.std.specs.Prelude.{◌≡◌, ◌+◌, ◌-◌}
use Rattle.laws.proofs.Prelude.{refl, ap, ap₂, sym, ◌∙◌, List, map, ℕ, suc, arith, Float, length, take, take_at, given, over}
use Rattle.refusals.specs.Refusal.{Judgement, pass, refuse, given_or_refused}
use Rattle.pixel_segment.specs.Field.{cpu}
use Rattle.cover_statements.specs.Plane.{pixel_of}
use Rattle.cover_statements.specs.WholeRow.{left_cover, part_of}
use Rattle.cover_statements.proofs.Planes.{places_length}
use Rattle.layer_carrying.specs.Carrying.{rule_in}
use Rattle.queue_statements.specs.Queue.{Carry}
use Rattle.pass_statements.specs.Entry.{Entry}
use Rattle.layer_workbench.specs.Work.{entry_of}
use Rattle.row_statements.specs.Lent.{carries_in, entries_in}
use Rattle.row_statements.specs.State.{State, state_in}
use Rattle.row_statements.specs.TileWork.{WorkLent, TileAnswer, tile_answer, work_out, work_answer}
use Rattle.row_statements.specs.Painting.{paint_out}
use Rattle.row_statements.specs.Due.{OpenRow, Past, at_first, WorkChoice, PaintChoice, table_on, queue_on, layers_on, plane_on, state_on, says_on, paint_on, work_due_verdict, paint_due_verdict}
use Rattle.row_statements.specs.Run.{open_row, Held, Event}
use Rattle.row_statements.specs.Claim.{RightWork, RightPaint}
use Rattle.row_statements.specs.InnerHolding.{IsOpen, Holds}
use Rattle.row_statements.specs.declared.TileWorked.{TileWorked}
use Rattle.row_statements.specs.declared.Painted.{Painted}
use Rattle.row_statements.proofs.Run.{accepted, is_open, held_first_lem}
use Rattle.listing_statements.specs.Listing.{ListLent, entries_from, listing_out}
use Rattle.listing_statements.specs.declared.TileListed.{TileListed}
use Rattle.listing_runs.specs.Due.{ListChoice, list_due_verdict}
use Rattle.listing_runs.specs.Run.{RowCall}
use Rattle.listing_runs.specs.Claim.{RightListing, RightCall, AllCallsRight}
use Rattle.listing_runs.proofs.Run.{run}
use Rattle.two_rows.specs.Apart.{AgreeOn, entry_in, carry_in, MadeCall, TileResult, ResultOf, SameTile, LayersApart}
use Rattle.two_rows.proofs.Same.{same_layer}

-- every call of a run is right
pub made_right : {o : OpenRow} {p q : Past} {es : List RowCall} {e : RowCall} → AllCallsRight o p es → MadeCall o p es q e → RightCall o q e
made_right all MadeCall.here = all.0
made_right all (MadeCall.later m) = made_right all.1 m

module _ (o : OpenRow) where
  -- what an accepted work or listing answers and leaves, read back, is the row's
  pub record IsRows (n : ℕ) (t : TileResult) : Type 0 where
    pub entries : t.entries ≡ map (entry_of (table_on o)) (layers_on o n)
    pub carries : t.carries ≡ queue_on o (suc n)

  work_read : {p : Past} {c : WorkChoice} {r : TileWorked} {back : WorkLent} {t : TileAnswer} → RightWork o p c r back → work_answer r.answer ≡ given t
      → IsRows p.tiles (record { entries = entries_in t.listed back.list; carries = carries_in (state_in r.state).left back.queue })
  unfolding work_out
  work_read {p} {c} {r} {back} {t} right a = by (work_due_verdict o p.tiles c) refl (sym a ∙ right.gives.answer) right.gives.state
    where
      by : (v : Judgement) → work_due_verdict o p.tiles c ≡ v → given t ≡ (work_out v (says_on o p.tiles c) (state_on o p) c.kept c.lent).answer → state_in r.state ≡ (work_out v (says_on o p.tiles c) (state_on o p) c.kept c.lent).state
          → IsRows p.tiles (record { entries = entries_in t.listed back.list; carries = carries_in (state_in r.state).left back.queue })
      by (refuse m) e g s = absurd (let z : ◌≡◌ {A = ℕ} 0 1 = cc in omega arith)
      by pass e g s =
          let told : t ≡ tile_answer (says_on o p.tiles c) = cc in
          record {
            entries = ap (λ (x : TileAnswer). entries_in x.listed back.list) told ∙ right.list_read e;
            carries = ap (λ (x : State). carries_in x.left back.queue) s ∙ right.queue_read e;
          }

  list_read : {p : Past} {c : ListChoice} {r : TileListed} {back : ListLent} {n : ℕ} → RightListing o p c r back → given_or_refused r.answer ≡ given n
      → IsRows p.tiles (record { entries = entries_from n back.list; carries = carries_in (state_in r.state).left back.queue })
  unfolding listing_out
  list_read {p} {c} {r} {back} {n} right a = by (list_due_verdict o p.tiles c) refl (sym a ∙ right.gives.answer) right.gives.state
    where
      by : (v : Judgement) → list_due_verdict o p.tiles c ≡ v → given n ≡ (listing_out v (table_on o) (layers_on o p.tiles) (queue_on o (suc p.tiles)) (state_on o p) c.lent).answer → state_in r.state ≡ (listing_out v (table_on o) (layers_on o p.tiles) (queue_on o (suc p.tiles)) (state_on o p) c.lent).state
          → IsRows p.tiles (record { entries = entries_from n back.list; carries = carries_in (state_in r.state).left back.queue })
      by (refuse m) e g s = absurd (let z : ◌≡◌ {A = ℕ} 0 1 = cc in omega arith)
      by pass e g s =
          let many : n ≡ length (layers_on o p.tiles) = cc in
          record {
            entries = ap (λ (m : ℕ). entries_from m back.list) many ∙ right.list_read e;
            carries = ap (λ (x : State). carries_in x.left back.queue) s ∙ right.queue_read e;
          }

  result_read : (p : Past) {e : RowCall} {t : TileResult} → RightCall o p e → ResultOf e t → IsRows p.tiles t
  result_read p right (ResultOf.work a) = work_read right a
  result_read p right (ResultOf.list a) = list_read right a

  -- and an accepted painting leaves the layer's coverages
  pub plane_long : (n id : ℕ) → length (plane_on o n id) ≡ 256
  plane_long n id = places_length 16 (pixel_of cpu (rule_in (table_on o) id) (left_cover cpu (suc (o.from + n)) id o.row) (part_of cpu (suc (o.from + n)) id o.row))

  paint_read : (p : Past) (c : PaintChoice) {r : Painted} {back : List Float} {mark : ℕ} → RightPaint o p c r back → given_or_refused r.answer ≡ given mark → take 256 back ≡ plane_on o (p.tiles - 1) c.layer
  unfolding paint_out over
  paint_read p c {r} {back} {mark} right a = by (paint_due_verdict o p.tiles c) refl (sym a ∙ right.answer) right.plane
    where
      by : (v : Judgement) → paint_due_verdict o p.tiles c ≡ v → given mark ≡ (paint_out v (paint_on o (p.tiles - 1) c.layer p.clip) (state_on o p) c.plane).answer → back ≡ (paint_out v (paint_on o (p.tiles - 1) c.layer p.clip) (state_on o p) c.plane).plane → take 256 back ≡ plane_on o (p.tiles - 1) c.layer
      by (refuse m) e g s = absurd (let z : ◌≡◌ {A = ℕ} 0 1 = cc in omega arith)
      by pass e g s = ap (take 256) s ∙ take_at (plane_on o (p.tiles - 1) c.layer) _ 256 (plane_long (p.tiles - 1) c.layer)

-- ---- both runs

module _ {o o' : OpenRow} (i : IsOpen o) (i' : IsOpen o') {id : ℕ} (agree : AgreeOn id o o') where
  tile_same : {n n' : ℕ} {t t' : TileResult} → n ≡ n' → IsRows o n t → IsRows o' n' t' → SameTile id t t'
  tile_same {n} {n'} {t} {t'} e w w' =
      let now = same_layer i i' agree n in
      let next = same_layer i i' agree (suc n) in
      record {
        entry = ap (λ (l : List Entry). entry_in l id) w.entries ∙ now.entry ∙ ap (λ (m : ℕ). entry_in (map (entry_of (table_on o')) (layers_on o' m)) id) e ∙ sym (ap (λ (l : List Entry). entry_in l id) w'.entries);
        carry = ap (λ (q : List Carry). carry_in q id) w.carries ∙ next.carry ∙ ap (λ (m : ℕ). carry_in (queue_on o' (suc m)) id) e ∙ sym (ap (λ (q : List Carry). carry_in q id) w'.carries);
      }

  module _ {es es' : List RowCall} (all : AllCallsRight o at_first es) (all' : AllCallsRight o' at_first es') where
    paint_same : {p p' : Past} {c c' : PaintChoice} {r r' : Painted} {back back' : List Float} {mark mark' : ℕ}
        → MadeCall o at_first es p (RowCall.row (Event.paint c r back)) → MadeCall o' at_first es' p' (RowCall.row (Event.paint c' r' back')) → p.tiles ≡ p'.tiles → c.layer ≡ id → c'.layer ≡ id
        → given_or_refused r.answer ≡ given mark → given_or_refused r'.answer ≡ given mark' → take 256 back ≡ take 256 back'
    paint_same {p} {p'} {c} {c'} {r} {r'} {back} {back'} m m' e l l' a a' =
        paint_read o p c (made_right all m) a
        ∙ ap (plane_on o (p.tiles - 1)) l ∙ (same_layer i i' agree (p.tiles - 1)).plane ∙ ap₂ (λ (n x : ℕ). plane_on o' (n - 1) x) e (sym l')
        ∙ sym (paint_read o' p' c' (made_right all' m') a')

  -- the carries that the rows open with
  opening_same : {h h' : Held} → Holds o at_first h → Holds o' at_first h' → carry_in (carries_in h.state.left h.queue) id ≡ carry_in (carries_in h'.state.left h'.queue) id
  opening_same {h} {h'} holds holds' =
      read h (queue_on o 0) (ap (λ (s : State). s.left) holds.state) holds.queue.reads
      ∙ (same_layer i i' agree 0).carry
      ∙ sym (read h' (queue_on o' 0) (ap (λ (s : State). s.left) holds'.state) holds'.queue.reads)
    where
      read : (k : Held) (q : List Carry) → k.state.left ≡ length q → carries_in (length q) k.queue ≡ q → carry_in (carries_in k.state.left k.queue) id ≡ carry_in q id
      read k q e r = ap (λ (n : ℕ). carry_in (carries_in n k.queue) id) e ∙ ap (λ (l : List Carry). carry_in l id) r

pub layers_apart : LayersApart
layers_apart id c c' lent lent' back back' s s' es es' h h' w w' g g' agree r r' =
    let a = accepted c lent back s g in
    let a' = accepted c' lent' back' s' g' in
    let i = is_open c lent back s w a in
    let i' = is_open c' lent' back' s' w' a' in
    let all = (run c lent back s es h w g r).1 in
    let all' = (run c' lent' back' s' es' h' w' g' r').1 in
    record {
      opening = opening_same i i' agree (held_first_lem c lent back s w a) (held_first_lem c' lent' back' s' w' a');
      tile = λ {p} {p'} m m' e t t'. tile_same i i' agree e (result_read (open_row c) p (made_right all m) t) (result_read (open_row c') p' (made_right all' m') t');
      paint = paint_same i i' agree all all';
    }
