-- One turn of the second pass: each answer of its functions, from the variant and the test that lead to it. Assumes nothing.
use Rattle.std.specs.Prelude.{◌≡◌, ◌&&◌, ◌||◌, ◌+◌, ◌<◌, ◌≤◌, Option, Some, None}
use Rattle.laws.proofs.Prelude.{refl, sym, ap, ◌∙◌, List, Bool, true, false, cond, not, ℕ, lt-ltb, le-ltb, length}
use Rattle.laws.proofs.Prelude.{set}
use lib.Seq.{set_out}
use Rattle.styling.specs.declared.Func.{Func}
use Rattle.styling.specs.declared.Func.TheVariants.{Clip}
use Rattle.styling.specs.Style.{is_clipped_of}
use Rattle.pass_statements.specs.declared.item.Item.{Item}
use Rattle.pass_statements.specs.declared.clips.ActiveClip.{ActiveClip}
use Rattle.pass_statements.specs.declared.clips.Drawn.{Drawn}
use Rattle.pass_statements.specs.declared.clips.Closed.{Closed}
use Rattle.pass_statements.specs.declared.clips.Step.{Step}
use Rattle.pass_statements.specs.Clips.{place, opened_of, used_of, clipped_of, drawn_of, closed_of, is_clip, step_of, mask_off, unmasked_after, last_clip}

pub opens : {f : Func} {span : ℕ} (cur : Option ActiveClip) (id : ℕ) (full : Bool) (i : ℕ) → f ≡ Clip span → Some (record { full = full; last = id + span; at = place i; used = false }) ≡ opened_of f cur id full i
opens cur id full i e = rw e

pub outside : {cur : Option ActiveClip} {k : ActiveClip} {id : ℕ} → cur ≡ Some k → k.last < id → record { cur = Some k; masked = true; unclipped = false } ≡ clipped_of cur id
outside e h = rw (e, lt-ltb _ _ h)

pub no_clip : {cur : Option ActiveClip} (id : ℕ) → cur ≡ None → record { cur = None; masked = true; unclipped = false } ≡ clipped_of cur id
no_clip id e = rw e

pub inside : {cur : Option ActiveClip} {k : ActiveClip} {id : ℕ} → cur ≡ Some k → id ≤ k.last → record { cur = Some (used_of k); masked = false; unclipped = k.full } ≡ clipped_of cur id
inside e h = rw (e, le-ltb _ _ h)

pub draws_clipped : {b : Bool} {r : Drawn} (cur : Option ActiveClip) (id : ℕ) → b ≡ true → r ≡ clipped_of cur id → r ≡ drawn_of b cur id
draws_clipped cur id e p = rw e p

pub draws_unclipped : {b : Bool} (cur : Option ActiveClip) (id : ℕ) → b ≡ false → record { cur = cur; masked = false; unclipped = false } ≡ drawn_of b cur id
draws_unclipped cur id e = rw e

pub ends : {cur : Option ActiveClip} {k : ActiveClip} {id : ℕ} → cur ≡ Some k → k.last < id → record { cur = None; unused = not k.used; at = k.at } ≡ closed_of cur id
ends e h = rw (e, lt-ltb _ _ h)

pub stays_none : {cur : Option ActiveClip} (id : ℕ) → cur ≡ None → record { cur = None; unused = false; at = place 0 } ≡ closed_of cur id
stays_none id e = rw e

pub goes_on : {cur : Option ActiveClip} {k : ActiveClip} {id : ℕ} → cur ≡ Some k → id ≤ k.last → record { cur = Some k; unused = false; at = place 0 } ≡ closed_of cur id
goes_on e h = rw (e, le-ltb _ _ h)

-- a choice, without a branch
chosen : (t a b : Bool) → (t && a || not t && b) ≡ cond t a b
chosen true true b = refl
chosen true false b = refl
chosen false a b = refl

-- the calls of one turn, put together
pub composed : (x : Item) (cur : Option ActiveClip) (i : ℕ) {o : Option ActiveClip} {p t : Bool} {d : Drawn} {e : Closed}
    → o ≡ opened_of x.func cur x.id x.full i → p ≡ is_clipped_of x.func → d ≡ drawn_of p o x.id → e ≡ closed_of d.cur x.id → t ≡ is_clip x.func
    → record { cur = e.cur; masked = t && x.full || not t && d.masked; unclipped = d.unclipped; unused = e.unused; at = e.at } ≡ step_of x cur i
unfolding step_of
composed x cur i {o} {p} {t} {d} {e} po pp pd pe pt = rw (chosen t x.full d.masked, pe, pd, pp, po, pt)

-- ---- masking off: within the list, past its end, and the clip that is current at the end

pub off_within : {off : Bool} (unmasked : List Bool) (i : ℕ) → off ≡ true → set unmasked i false ≡ mask_off unmasked i off
off_within unmasked i e = rw e

pub off_past : {off : Bool} (unmasked : List Bool) (i : ℕ) → off ≡ true → length unmasked ≤ i → unmasked ≡ mask_off unmasked i off
off_past unmasked i e h = rw e (sym (set_out unmasked i false h))

-- what a turn masks off: the layer, then a clip
pub off_after : {unmasked₁ unmasked₂ : List Bool} (unmasked : List Bool) (i : ℕ) (s : Step) → unmasked₁ ≡ mask_off unmasked i s.masked → unmasked₂ ≡ mask_off unmasked₁ s.at.0 s.unused → unmasked₂ ≡ unmasked_after unmasked i s
off_after unmasked i s p q = q ∙ ap (λ (m : List Bool). mask_off m s.at.0 s.unused) p

pub last_active : {cur : Option ActiveClip} {k : ActiveClip} {new : List Bool} (old : List Bool) → cur ≡ Some k → new ≡ mask_off old k.at.0 (not k.used) → new ≡ last_clip cur old
last_active old e p = rw e p
