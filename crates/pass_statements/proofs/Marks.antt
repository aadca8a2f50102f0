-- What the second pass leaves at a place: a turn marks its own place, and masks off at most the current clip besides. Assumes nothing.
use Rattle.std.specs.Prelude.{◌≡◌, ◌∷◌, ◌≤◌, ◌<◌, Option, Some, None}
use Rattle.laws.proofs.Prelude.{refl, sym, ◌∙◌, Bool, true, false, not, false≢true, List, [], ℕ, suc, arith, length, get_or, set}
use Rattle.laws.proofs.Prelude.{get_or-set_same, get_or-set_other}
use Rattle.pass_statements.specs.declared.clips.ActiveClip.{ActiveClip}
use Rattle.styling.specs.Style.{is_clipped_of}
use Rattle.pass_statements.specs.declared.item.Item.{Item}
use Rattle.pass_statements.specs.declared.clips.Step.{Step}
use Rattle.pass_statements.specs.Clips.{is_clip, step_of, mask_off, unmasked_after, clips_from}
use Rattle.pass_statements.proofs.Turns.{Turn, opens, bare, past, within, turn}
use Rattle.pass_statements.proofs.Clipping.{Below, at_kept}

-- the current clip does not stand in place j
abbrev pub Apart : Option ActiveClip → ℕ → Type 0
Apart None j = 0 ≤ j
Apart (Some k) j = k.at.0 ≡ j → ⊥

pub below_apart : (cur : Option ActiveClip) (i j : ℕ) → Below cur i → i ≤ j → Apart cur j
below_apart None i j b h = omega arith
below_apart (Some k) i j b h = λ e. omega arith

pub off_other : (unmasked : List Bool) (i j : ℕ) (off : Bool) → (i ≡ j → ⊥) → get_or (mask_off unmasked i off) j false ≡ get_or unmasked j false
off_other unmasked i j true h = get_or-set_other unmasked i j false false (λ e. h (sym e))
off_other unmasked i j false h = refl

-- a turn leaves place j to itself
pub record Spared (s : Step) (j : ℕ) : Type 0 where
  pub apart : Apart s.cur j
  pub clip : (unmasked : List Bool) → get_or (mask_off unmasked s.at.0 s.unused) j false ≡ get_or unmasked j false

pub spared : (x : Item) (cur : Option ActiveClip) (i j : ℕ) → Apart cur j → (is_clip x.func ≡ true → i ≡ j → ⊥) → Spared (step_of x cur i) j
spared x cur i j a h = by (turn x cur i)
  where
    by : Turn x cur i → Spared (step_of x cur i) j
    by (opens span e s) = rw s (record { apart = h (rw e); clip = λ unmasked. refl })
    by (bare e q s) = rw s (record { apart = omega arith; clip = λ unmasked. refl })
    by (past k e q l s) =
        let stands : k.at.0 ≡ j → ⊥ = rw q at a in
        rw s (record { apart = omega arith; clip = λ unmasked. off_other unmasked k.at.0 j (not k.used) stands })
    by (within k e q l s) =
        let stands : k.at.0 ≡ j → ⊥ = rw q at a in
        rw s (record { apart = rw (at_kept (is_clipped_of x.func) k) stands; clip = λ unmasked. refl })

-- what a turn at place i leaves in another place, and in its own
pub after_other : (x : Item) (cur : Option ActiveClip) (i j : ℕ) (unmasked : List Bool) → Apart cur j → (i ≡ j → ⊥) → get_or (unmasked_after unmasked i (step_of x cur i)) j false ≡ get_or unmasked j false
after_other x cur i j unmasked a h =
    (spared x cur i j a (λ e. h)).clip (mask_off unmasked i (step_of x cur i).masked)
    ∙ off_other unmasked i j (step_of x cur i).masked h

pub off_own : (unmasked : List Bool) (i : ℕ) (off : Bool) → i < length unmasked → get_or unmasked i false ≡ true → get_or (mask_off unmasked i off) i false ≡ not off
off_own unmasked i true h e = get_or-set_same unmasked i false false h
off_own unmasked i false h e = e

-- ---- the rest of the pass leaves the places before it as they are, but for the current clip's

pub unmasked_before : (xs : List Item) (i : ℕ) (cur : Option ActiveClip) (s u : List Bool) (j : ℕ) → j < i → Apart cur j → get_or (clips_from xs i cur s u).unmasked j false ≡ get_or s j false
unfolding clips_from
unmasked_before [] i None s u j h a = refl
unmasked_before [] i (Some k) s u j h a = off_other s k.at.0 j (not k.used) a
unmasked_before (x ∷ xs) i cur s u j h a =
    let step = step_of x cur i in
    unmasked_before xs (suc i) step.cur (unmasked_after s i step) (set u i step.unclipped) j (omega arith) (spared x cur i j a (λ e. λ q. omega arith)).apart
    ∙ after_other x cur i j s a (λ q. omega arith)

pub unclipped_before : (xs : List Item) (i : ℕ) (cur : Option ActiveClip) (s u : List Bool) (j : ℕ) → j < i → get_or (clips_from xs i cur s u).unclipped j false ≡ get_or u j false
unfolding clips_from
unclipped_before [] i cur s u j h = refl
unclipped_before (x ∷ xs) i cur s u j h =
    let step = step_of x cur i in
    unclipped_before xs (suc i) step.cur (unmasked_after s i step) (set u i step.unclipped) j (omega arith)
    ∙ get_or-set_other u i j step.unclipped false (λ e. omega arith)

-- ---- at its own place

-- a draw is not masked off unless its turn does it
pub unmasked_draw : (x : Item) (xs : List Item) (i : ℕ) (cur : Option ActiveClip) (s u : List Bool) → is_clip x.func ≡ false → Below cur i → i < length s → get_or s i false ≡ true → get_or (clips_from (x ∷ xs) i cur s u).unmasked i false ≡ not (step_of x cur i).masked
unfolding clips_from
unmasked_draw x xs i cur s u e b h f =
    let step = step_of x cur i in
    let free = spared x cur i i (below_apart cur i i b (omega arith)) (λ t. absurd (false≢true (sym e ∙ t))) in
    unmasked_before xs (suc i) step.cur (unmasked_after s i step) (set u i step.unclipped) i (omega arith) free.apart
    ∙ free.clip (mask_off s i step.masked)
    ∙ off_own s i step.masked h f

pub unclipped_own : (x : Item) (xs : List Item) (i : ℕ) (cur : Option ActiveClip) (s u : List Bool) → i < length u → get_or (clips_from (x ∷ xs) i cur s u).unclipped i false ≡ (step_of x cur i).unclipped
unfolding clips_from
unclipped_own x xs i cur s u h =
    let step = step_of x cur i in
    unclipped_before xs (suc i) step.cur (unmasked_after s i step) (set u i step.unclipped) i (omega arith)
    ∙ get_or-set_same u i step.unclipped false h
