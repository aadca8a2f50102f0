-- The calls of a driven row, wherever they give what is due of them, tell the lines of the whole row. Assumes nothing.
use Rattle.std.specs.Prelude.{◌≡◌, ◌∷◌, ◌++◌, ◌+◌, ◌-◌, ◌≤◌, ◌<◌}
use Rattle.laws.proofs.Prelude.{refl, ap, ap₂, sym, subst, ◌∙◌, Bool, true, false, cond, List, [], Option, ℕ, suc}
use Rattle.laws.proofs.Prelude.{arith, le-ltb, lt-leb, eq-eqb, ones, Float, pos, length, take, length-map, refused, given}
use Rattle.std.specs.declared.option.Option.TheVariants as option
use Rattle.refusals.specs.Refusal.{Judgement, pass, refuse, given_or_refused}
use Rattle.queue_statements.specs.Queue.{ids_in}
use Rattle.queue_statements.proofs.Columns.{take_ids}
use Rattle.tile_layers.specs.Listing.{incoming_of}
use Rattle.pass_statements.specs.Decision.{code_of}
use Rattle.pass_statements.specs.Decide.{Outcome}
use Rattle.painter.specs.Clip.{clip_after}
use Rattle.row_statements.specs.State.{State, state_in}
use Rattle.row_statements.specs.TileWork.{WorkLent, TileAnswer, list_verdict, tile_answer, work_out, work_answer}
use Rattle.row_statements.specs.Painting.{paint_out}
use Rattle.row_statements.specs.Due.{OpenRow, Past, WorkChoice, table_on, queue_on, layers_on, outcome_on, is_not_due, work_due_verdict, says_on, state_on, past_work, PaintChoice, paint_due_verdict, paint_on, func_on, mark_on, past_paint}
use Rattle.row_statements.specs.Run.{Event}
use Rattle.row_statements.specs.Claim.{RightWork, RightPaint, AllRight}
use Rattle.row_statements.specs.declared.TileWorked.{TileWorked}
use Rattle.row_statements.specs.declared.Painted.{Painted}
use Rattle.row_lines.specs.Shown.{shown_in}
use Rattle.row_lines.specs.Lines.{is_paint, decided_on, shown_on, octets_on, line_on, RowLines, lines_by, lines_from}
use Rattle.row_lines.specs.Calls.{WorksTile, PaintsShown, shown_by, painted_by, line_by, Paintings, LineCalls}
use Rattle.row_lines.specs.declared.Line.{Line}

-- the verdict on the layers of the tile from + n
abbrev pub verdict_on : OpenRow → ℕ → Judgement
verdict_on o n = list_verdict (table_on o) (layers_on o n)

-- after n tiles
abbrev pub tiles_past : ℕ → Option ℕ → Past
tiles_past n clip = record { tiles = n; clip = clip }

module _ (o : OpenRow) where
  -- ---- paintings

  -- an accepted one answers the mark of the whole row, and leaves its clip
  pub record PaintTold (n id : ℕ) (clip : Option ℕ) (c : PaintChoice) (mark : ℕ) : Type 0 where
    pub mark_is : mark ≡ mark_on o n id clip
    pub past_is : past_paint (paint_due_verdict o (suc n) c) o c.layer (tiles_past (suc n) clip) ≡ tiles_past (suc n) (clip_after (func_on o id) id clip)

  paint_told : {n id : ℕ} {clip : Option ℕ} {c : PaintChoice} {r : Painted} {back : List Float} {mark : ℕ}
      → PaintsShown o n id c → given_or_refused r.answer ≡ given mark → RightPaint o (tiles_past (suc n) clip) c r back → PaintTold n id clip c mark
  unfolding paint_out
  paint_told {n} {id} {clip} {c} {r} {back} {mark} s a d = by (paint_due_verdict o (suc n) c) refl (sym a ∙ d.answer)
    where
      by : (v : Judgement) → paint_due_verdict o (suc n) c ≡ v → given mark ≡ (paint_out v (paint_on o (suc n - 1) c.layer clip) (state_on o (tiles_past (suc n) clip)) c.plane).answer → PaintTold n id clip c mark
      by (refuse number) e g = absurd (let z : ◌≡◌ {A = ℕ} 0 1 = cc in omega arith)
      by pass e g =
          let last : suc n - 1 ≡ n = omega arith in
          let m : mark ≡ mark_on o (suc n - 1) c.layer clip = cc in
          record {
            mark_is = m ∙ ap₂ (λ (k i : ℕ). mark_on o k i clip) last s.layer;
            past_is = ap (λ (v : Judgement). past_paint v o c.layer (tiles_past (suc n) clip)) e ∙ ap (λ (i : ℕ). tiles_past (suc n) (clip_after (func_on o i) i clip)) s.layer;
          }

  -- all of them: their octets, and the calls after them
  pub record PaintedTold (n : ℕ) (clip : Option ℕ) (ids : List ℕ) (octets : ℕ) (fs : List Event) : Type 0 where
    pub octets_are : octets ≡ octets_on o n clip ids
    pub left : Option ℕ
    pub rest : AllRight o (tiles_past (suc n) left) fs

  painted_told : {n : ℕ} (clip : Option ℕ) {ids : List ℕ} {es fs : List Event} {octets : ℕ} → Paintings o n ids es octets → AllRight o (tiles_past (suc n) clip) (es ++ fs) → PaintedTold n clip ids octets fs
  unfolding octets_on
  painted_told clip Paintings.none all = record { octets_are = refl; left = clip; rest = all }
  painted_told {n} clip {fs = fs} (Paintings.next {id = id} {c = c} {es = es} s a rest) all =
      let t = paint_told s a all.0 in
      let u = painted_told (clip_after (func_on o id) id clip) rest (subst (λ (p : Past). AllRight o p (es ++ fs)) t.past_is all.1) in
      record { octets_are = ap₂ (λ (m k : ℕ). ones m + k) t.mark_is u.octets_are; left = u.left; rest = u.rest }

  -- ---- the work on a tile

  -- what an accepted one answers and leaves is the tile's
  pub record WorkTold (n : ℕ) (t : TileAnswer) (s : State) (back : WorkLent) : Type 0 where
    pub passes : verdict_on o n ≡ pass
    pub told_is : t ≡ record { decision = (decided_on o n).decision; listed = length (layers_on o n); skipped = (decided_on o n).skipped }
    pub shown_is : shown_by t back ≡ shown_on o n
    pub carried_is : s.left ≡ length (queue_on o (suc n))

  -- where the tile is not painted, no octet is used
  octets_by : (paints : Bool) (n : ℕ) (ids : List ℕ) → octets_on o n option.None (cond paints ids []) ≡ cond paints (octets_on o n option.None ids) 0
  unfolding octets_on
  octets_by true n ids = refl
  octets_by false n ids = refl

  -- its line is the tile's
  line_told : {n : ℕ} {t : TileAnswer} {s : State} {back : WorkLent} {octets : ℕ} → WorkTold n t s back → octets ≡ octets_on o n option.None (painted_by t back) → line_by t back s octets ≡ line_on o n
  unfolding line_on
  line_told {n} {t} {s} {back} {octets} w e =
      let d = decided_on o n in
      let used : octets ≡ cond (is_paint d.decision) (octets_on o n option.None (shown_on o n)) 0 =
      e
      ∙ ap₂ (λ (x : TileAnswer) (ids : List ℕ). octets_on o n option.None (cond (is_paint x.decision) ids [])) w.told_is w.shown_is
      ∙ octets_by (is_paint d.decision) n (shown_on o n) in
      λ i. record { decision = code_of (w.told_is i).decision; listed = (w.told_is i).listed; shown = length (w.shown_is i); octets = used i; carried = w.carried_is i }

  due : (n : ℕ) → o.from + n < o.to → is_not_due o n (pos (o.from + n)) ≡ false
  due n inside = rw (lt-leb o.to (o.from + n) inside, le-ltb (o.from + n) 0 (omega arith), eq-eqb (o.from + n) (o.from + n) refl)

  module _ {n : ℕ} {clip : Option ℕ} {c : WorkChoice} {r : TileWorked} {back : WorkLent} (inside : o.from + n < o.to) (w : WorksTile o n c) (right : RightWork o (tiles_past n clip) c r back) where
    -- only the tile's layers are left to judge
    pub verdict_is : work_due_verdict o n c ≡ verdict_on o n
    verdict_is = rw (w.tile, w.kept, w.queue_room, w.list_room, due n inside)

    answer_is : work_answer r.answer ≡ (work_out (verdict_on o n) (says_on o n c) (state_on o (tiles_past n clip)) c.kept c.lent).answer
    answer_is = right.gives.answer ∙ ap (λ (v : Judgement). (work_out v (says_on o n c) (state_on o (tiles_past n clip)) c.kept c.lent).answer) verdict_is

    -- a refused one
    pub refused_told : {number : ℕ} → work_answer r.answer ≡ refused number → verdict_on o n ≡ refuse number
    unfolding work_out
    refused_told {number} a = by (verdict_on o n) (sym a ∙ answer_is)
      where
        by : (v : Judgement) → refused number ≡ (work_out v (says_on o n c) (state_on o (tiles_past n clip)) c.kept c.lent).answer → v ≡ refuse number
        by (refuse m) g = ap refuse (sym cc)
        by pass g = absurd (let z : ◌≡◌ {A = ℕ} 0 1 = cc in omega arith)

    outcome_is : outcome_on o n c.kept c.clear c.previous ≡ decided_on o n
    outcome_is = rw (w.kept, w.clear, w.previous)

    pub work_told : {t : TileAnswer} → work_answer r.answer ≡ given t → WorkTold n t (state_in r.state) back
    unfolding work_out
    work_told {t} a = by (verdict_on o n) refl (sym a ∙ answer_is)
      where
        by : (v : Judgement) → verdict_on o n ≡ v → given t ≡ (work_out v (says_on o n c) (state_on o (tiles_past n clip)) c.kept c.lent).answer → WorkTold n t (state_in r.state) back
        by (refuse m) e g = absurd (let z : ◌≡◌ {A = ℕ} 0 1 = cc in omega arith)
        by pass e g =
            let v : work_due_verdict o n c ≡ pass = verdict_is ∙ e in
            let ls = layers_on o n in
            let told : t ≡ tile_answer (says_on o n c) = cc in
            let is = told ∙ ap (λ (d : Outcome). record { decision = d.decision; listed = length ls; skipped = d.skipped }) outcome_is in
            let lent : back ≡ (work_out pass (says_on o n c) (state_on o (tiles_past n clip)) c.kept c.lent).lent =
            right.gives.lent_is ∙ ap (λ (j : Judgement). (work_out j (says_on o n c) (state_on o (tiles_past n clip)) c.kept c.lent).lent) v in
            let many : length ls ≡ length (incoming_of ls) = sym (length-map ls _) in
            let ids : take (length ls) back.list.ids ≡ ids_in (incoming_of ls) =
            ap₂ (λ (k : ℕ) (b : WorkLent). take k b.list.ids) many lent ∙ take_ids (incoming_of ls) c.lent.list.ids [] in
            let unmasked : take (length ls) back.list.unmasked ≡ (decided_on o n).unmasked = right.unmasked_read v ∙ ap (λ (d : Outcome). d.unmasked) outcome_is in
            let state = right.gives.state ∙ ap (λ (j : Judgement). (work_out j (says_on o n c) (state_on o (tiles_past n clip)) c.kept c.lent).state) v in
            record {
              passes = e;
              told_is = is;
              shown_is = ap (λ (s : TileAnswer). shown_by s back) is ∙ ap₂ (shown_in (decided_on o n).skipped) unmasked ids;
              carried_is = ap (λ (s : State). s.left) state;
            }

    pub past_told : {t : TileAnswer} → WorkTold n t (state_in r.state) back → past_work (work_due_verdict o n c) (tiles_past n clip) ≡ tiles_past (suc n) option.None
    past_told t = ap (λ (v : Judgement). past_work v (tiles_past n clip)) (verdict_is ∙ t.passes)

  -- ---- all tiles

  pub lines_are : {k n : ℕ} (clip : Option ℕ) {es : List Event} {ls : RowLines} → o.from + n + k ≤ o.to → LineCalls o k n es ls → AllRight o (tiles_past n clip) es → ls ≡ lines_from o k n
  unfolding lines_from
  lines_are clip inside LineCalls.none all = refl
  lines_are {n = n} clip inside (LineCalls.turned_down w a) all = rw (refused_told (omega (arith, inside)) w all.0 a)
  lines_are {k} {n} clip inside (LineCalls.next {k = m} {r = r} {back = back} {t = t} {ps = ps} {es = es} {octets = octets} {rest = rest} w a paintings calls) all =
      let here : o.from + n < o.to = omega (arith, inside) in
      let told = work_told here w all.0 a in
      let painted = painted_told option.None paintings (subst (λ (p : Past). AllRight o p (ps ++ es)) (past_told here w all.0 told) all.1) in
      let line = line_told told painted.octets_are in
      let below = lines_are painted.left (omega (arith, inside)) calls painted.rest in
      ap₂ (λ (l : Line) (ls : RowLines). record { lines = l ∷ ls.lines; end = ls.end }) line below
      ∙ ap (λ (v : Judgement). lines_by v (line_on o n) (lines_from o m (suc n))) (sym told.passes)
