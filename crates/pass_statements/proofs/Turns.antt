-- One turn of the second pass, by its four cases: a clip, and a draw with no clip, past the end of the current one, or within it.
-- Assumes nothing.
use Rattle.std.specs.Prelude.{◌≡◌, ◌&&◌, ◌+◌, ◌≤◌, ◌<◌, Option, Some, None}
use Rattle.laws.proofs.Prelude.{refl, ap, ◌∙◌, Bool, true, false, cond, not, ⊎_elim, ℕ, arith, lt-ltb, le-ltb, le_or_lt}
use Rattle.styling.specs.declared.Func.{Func}
use Rattle.styling.specs.declared.Func.TheVariants.{Draw, Clip}
use Rattle.styling.specs.declared.Style.{Style}
use Rattle.styling.specs.Style.{is_clipped_of}
use Rattle.pass_statements.specs.declared.item.Item.{Item}
use Rattle.pass_statements.specs.declared.clips.ActiveClip.{ActiveClip}
use Rattle.pass_statements.specs.declared.clips.Step.{Step}
use Rattle.pass_statements.specs.Clips.{place, used_of, drawn_of, closed_of, is_clip, step_of}

-- the clip that a clip layer opens
abbrev pub opened : Item → ℕ → ℕ → ActiveClip
opened x span i = record { full = x.full; last = x.id + span; at = place i; used = false }

-- the current clip after a draw within it
abbrev pub kept : Bool → ActiveClip → ActiveClip
kept clipped k = cond clipped (used_of k) k

pub data Turn (x : Item) (cur : Option ActiveClip) (i : ℕ) : Type 0 where
  opens : (span : ℕ) → x.func ≡ Clip span → step_of x cur i ≡ record { cur = Some (opened x span i); masked = x.full; unclipped = false; unused = false; at = place 0 } → Turn x cur i
  bare : is_clip x.func ≡ false → cur ≡ None → step_of x cur i ≡ record { cur = None; masked = is_clipped_of x.func; unclipped = false; unused = false; at = place 0 } → Turn x cur i
  past : (k : ActiveClip) → is_clip x.func ≡ false → cur ≡ Some k → k.last < x.id
      → step_of x cur i ≡ record { cur = None; masked = is_clipped_of x.func; unclipped = false; unused = not k.used; at = k.at } → Turn x cur i
  within : (k : ActiveClip) → is_clip x.func ≡ false → cur ≡ Some k → x.id ≤ k.last
      → step_of x cur i ≡ record { cur = Some (kept (is_clipped_of x.func) k); masked = false; unclipped = is_clipped_of x.func && k.full; unused = false; at = place 0 } → Turn x cur i

-- a draw, by its mark `clipped`
abbrev draw_step : Bool → Option ActiveClip → ℕ → Step
draw_step clipped cur id =
    let drawn = drawn_of clipped cur id in
    let closed = closed_of drawn.cur id in
    record { cur = closed.cur; masked = drawn.masked; unclipped = drawn.unclipped; unused = closed.unused; at = closed.at }

bare_step : (b : Bool) (id : ℕ) → draw_step b None id ≡ record { cur = None; masked = b; unclipped = false; unused = false; at = place 0 }
bare_step true id = refl
bare_step false id = refl

past_step : (b : Bool) (k : ActiveClip) (id : ℕ) → k.last < id → draw_step b (Some k) id ≡ record { cur = None; masked = b; unclipped = false; unused = not k.used; at = k.at }
past_step true k id h = rw (lt-ltb k.last id h, lt-ltb k.last id h)
past_step false k id h = rw (lt-ltb k.last id h)

within_step : (b : Bool) (k : ActiveClip) (id : ℕ) → id ≤ k.last → draw_step b (Some k) id ≡ record { cur = Some (kept b k); masked = false; unclipped = b && k.full; unused = false; at = place 0 }
within_step true k id h = rw (le-ltb k.last id h, le-ltb k.last id h)
within_step false k id h = rw (le-ltb k.last id h)

step_draw : {style : Style} (x : Item) (cur : Option ActiveClip) (i : ℕ) → x.func ≡ Draw style → step_of x cur i ≡ draw_step (is_clipped_of x.func) cur x.id
unfolding step_of
step_draw x cur i e = rw e

step_clip : {span : ℕ} (x : Item) (cur : Option ActiveClip) (i : ℕ) → x.func ≡ Clip span → step_of x cur i ≡ record { cur = Some (opened x span i); masked = x.full; unclipped = false; unused = false; at = place 0 }
unfolding step_of
step_clip {span} x cur i e = rw (e, le-ltb (x.id + span) x.id (omega arith))

pub turn : (x : Item) (cur : Option ActiveClip) (i : ℕ) → Turn x cur i
turn x cur i = by x.func refl
  where
    with_clip : {style : Style} (k : ActiveClip) → x.func ≡ Draw style → cur ≡ Some k → Turn x cur i
    with_clip {style} k e q =
        let step : step_of x cur i ≡ draw_step (is_clipped_of x.func) (Some k) x.id = step_draw x cur i e ∙ ap (λ (u : Option ActiveClip). draw_step (is_clipped_of x.func) u x.id) q in
        ⊎_elim (λ h. within k (rw e) q h (step ∙ within_step (is_clipped_of x.func) k x.id h))
        (λ h. past k (rw e) q h (step ∙ past_step (is_clipped_of x.func) k x.id h))
        (le_or_lt x.id k.last)

    draws : {style : Style} (u : Option ActiveClip) → x.func ≡ Draw style → cur ≡ u → Turn x cur i
    draws None e q =
        bare (rw e) q
        (step_draw x cur i e ∙ ap (λ (u : Option ActiveClip). draw_step (is_clipped_of x.func) u x.id) q ∙ bare_step (is_clipped_of x.func) x.id)
    draws (Some k) e q = with_clip k e q

    by : (f : Func) → x.func ≡ f → Turn x cur i
    by (Clip span) e = opens span e (step_clip x cur i e)
    by (Draw style) e = draws cur e refl
