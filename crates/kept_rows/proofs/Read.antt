-- The paintings of shown layers are read as `paint_on` says. Assumes nothing.
use Rattle.std.specs.Prelude.{◌≡◌, ◌∷◌, ◌-◌}
use Rattle.laws.proofs.Prelude.{refl, sym, ap, subst, ◌∙◌, List, [], Option, ℕ, arith, Float, given, over}
use Rattle.refusals.specs.Refusal.{Judgement, pass, refuse, given_or_refused}
use Rattle.pass_statements.specs.declared.item.Item.{Item}
use Rattle.painter.specs.Clip.{clip_after}
use Rattle.row_statements.specs.Painting.{PaintSays, paint_out}
use Rattle.row_statements.specs.Due.{OpenRow, Past, PaintChoice, state_on, func_on, paint_on, paint_due_verdict, past_paint}
use Rattle.row_statements.specs.Run.{Event}
use Rattle.row_statements.specs.Claim.{RightPaint, past_after}
use Rattle.row_statements.specs.declared.Painted.{Painted}
use Rattle.kept_rows.specs.Painted.{Paints, says_from, ReadAs, PaintingsRead}

says_end : (o : OpenRow) (n : ℕ) (clip : Option ℕ) → says_from o n clip [] ≡ []
unfolding says_from
says_end o n clip = refl

says_next : (o : OpenRow) (n : ℕ) (clip : Option ℕ) (x : Item) (xs : List Item)
    → says_from o n clip (x ∷ xs) ≡ paint_on o n x.id clip ∷ says_from o n (clip_after (func_on o x.id) x.id clip) xs
unfolding says_from
says_next o n clip x xs = refl

-- an accepted painting
pub record Read (o : OpenRow) (p : Past) (c : PaintChoice) (r : Painted) (back : List Float) : Type 0 where
  pub passes : paint_due_verdict o p.tiles c ≡ pass
  pub mark : given_or_refused r.answer ≡ given (paint_on o (p.tiles - 1) c.layer p.clip).mark
  pub plane : back ≡ over (paint_on o (p.tiles - 1) c.layer p.clip).plane c.plane

one : {o : OpenRow} {p : Past} {c : PaintChoice} {r : Painted} {back : List Float} {mark : ℕ} → RightPaint o p c r back → given_or_refused r.answer ≡ given mark
    → Read o p c r back
unfolding paint_out
one {o} {p} {c} {r} {back} {mark} right a = by (paint_due_verdict o p.tiles c) refl right.answer right.plane
  where
    by : (v : Judgement) → paint_due_verdict o p.tiles c ≡ v
        → given_or_refused r.answer ≡ (paint_out v (paint_on o (p.tiles - 1) c.layer p.clip) (state_on o p) c.plane).answer
        → back ≡ (paint_out v (paint_on o (p.tiles - 1) c.layer p.clip) (state_on o p) c.plane).plane
        → Read o p c r back
    by (refuse m) e g b = absurd (let z : ◌≡◌ {A = ℕ} 0 1 = cc in omega arith)
    by pass e g b = record { passes = e; mark = g; plane = b }

pub paintings_read : PaintingsRead
paintings_read o n p [] es t all Paints.none = subst (λ (l : List PaintSays). ReadAs [] l) (sym (says_end o n p.clip)) ReadAs.none
paintings_read o n p (x ∷ xs) es₀ t all (Paints.next {c = c} {r = r} {back = back} {es = es} e a ps) =
    let got : Read o p c r back = one {o = o} {p = p} {c = c} {r = r} {back = back} all.0 a in
    let place : p.tiles - 1 ≡ n = omega (arith, t) in
    let says : paint_on o (p.tiles - 1) c.layer p.clip ≡ paint_on o n x.id p.clip = ap (λ (m : ℕ). paint_on o m c.layer p.clip) place ∙ ap (λ (i : ℕ). paint_on o n i p.clip) e in
    let past : past_after o (Event.paint c r back) p ≡ record { tiles = p.tiles; clip = clip_after (func_on o x.id) x.id p.clip } =
    ap (λ (v : Judgement). past_paint v o c.layer p) got.passes ∙ ap (λ (i : ℕ). record { tiles = p.tiles; clip = clip_after (func_on o i) i p.clip }) e in
    let on : ReadAs es (says_from o n (past_after o (Event.paint c r back) p).clip xs) = paintings_read o n (past_after o (Event.paint c r back) p) xs es (ap (λ (q : Past). q.tiles) past ∙ t) all.1 ps in
    subst (λ (l : List PaintSays). ReadAs (Event.paint c r back ∷ es) l) (sym (says_next o n p.clip x xs))
    (ReadAs.next {c = c} {r = r} {back = back} {s = paint_on o n x.id p.clip}
    (got.mark ∙ ap (λ (s : PaintSays). given s.mark) says)
    (got.plane ∙ ap (λ (s : PaintSays). over s.plane c.plane) says)
    (subst (λ (k : Option ℕ). ReadAs es (says_from o n k xs)) (ap (λ (q : Past). q.clip) past) on))
