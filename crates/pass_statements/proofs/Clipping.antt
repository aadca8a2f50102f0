-- The second pass as it runs over two lent columns: what is left of it, from place i on, gives what the whole pass gives. Assumes nothing.
use Rattle.std.specs.Prelude.{◌≡◌, ◌∷◌, ◌+◌, ◌≤◌, ◌<◌, Option, Some, None}
use Rattle.laws.proofs.Prelude.{refl, sym, ap, ap₂, ◌∙◌, Bool, true, false, not, List, [], ℕ, suc, add-suc, suc-add, add-one}
use Rattle.laws.proofs.Prelude.{arith, length, set, drop, replicate, length-set, length-replicate, drop_of_length-le, over}
use lib.Seq.{set-append_left}
use Rattle.styling.specs.Style.{is_clipped_of}
use Rattle.pass_statements.specs.declared.item.Item.{Item}
use Rattle.pass_statements.specs.declared.clips.ActiveClip.{ActiveClip}
use Rattle.pass_statements.specs.declared.clips.Step.{Step}
use Rattle.pass_statements.specs.Clips.{step_of, mask_off, unmasked_after, last_clip, Marks, clips_from, marks_of, Marking}
use Rattle.pass_statements.proofs.Turns.{kept, Turn, opens, bare, past, within, turn}

pub length_off : (unmasked : List Bool) (i : ℕ) (off : Bool) → length (mask_off unmasked i off) ≡ length unmasked
length_off unmasked i true = length-set unmasked i false
length_off unmasked i false = refl

pub length_after : (unmasked : List Bool) (i : ℕ) (s : Step) → length (unmasked_after unmasked i s) ≡ length unmasked
length_after unmasked i s =
    length_off (mask_off unmasked i s.masked) s.at.0 s.unused ∙ length_off unmasked i s.masked

pub length_last : (cur : Option ActiveClip) (unmasked : List Bool) → length (last_clip cur unmasked) ≡ length unmasked
length_last None unmasked = refl
length_last (Some k) unmasked = length_off unmasked k.at.0 (not k.used)

-- ---- the loop

pub record Passing (items : List Item) (n : ℕ) (unmasked₀ unclipped₀ unmasked unclipped : List Bool) (cur : Option ActiveClip) (i : ℕ) : Type 0 where
  pub reached : i ≤ n
  pub unmasked_same : length unmasked ≡ length unmasked₀
  pub unclipped_same : length unclipped ≡ length unclipped₀
  pub rest : clips_from (drop i items) i cur unmasked unclipped ≡ clips_from items 0 None unmasked₀ unclipped₀

module _ {items : List Item} {n : ℕ} {unmasked₀ unclipped₀ : List Bool} where
  pub pass_start : Passing items n unmasked₀ unclipped₀ unmasked₀ unclipped₀ None 0
  pass_start = record { reached = omega arith; unmasked_same = refl; unclipped_same = refl; rest = refl }

  pub pass_next : {unmasked unclipped unmasked₁ unclipped₁ : List Bool} {cur : Option ActiveClip} {i : ℕ} {x y : Item} {s : Step}
      → Passing items n unmasked₀ unclipped₀ unmasked unclipped cur i → i < n → drop i items ≡ y ∷ drop (suc i) items → x ≡ y
      → s ≡ step_of x cur i → (unmasked₁ ≡ unmasked_after unmasked i s) × (unclipped₁ ≡ set unclipped i s.unclipped)
      → Passing items n unmasked₀ unclipped₀ unmasked₁ unclipped₁ s.cur (i + 1)
  unfolding clips_from
  pass_next {unmasked} {unclipped} {cur = cur} {i = i} {y = y} {s = s} v h d e p m =
      let step : s ≡ step_of y cur i = p ∙ ap (λ (z : Item). step_of z cur i) e in record {
        reached = omega arith;
        unmasked_same = ap length m.0 ∙ length_after unmasked i s ∙ v.unmasked_same;
        unclipped_same = ap length m.1 ∙ length-set unclipped i s.unclipped ∙ v.unclipped_same;
        rest =
            rw (m.0, m.1, add-one, step) (ap (λ (xs : List Item). clips_from xs i cur unmasked unclipped) (sym d) ∙ v.rest);
      }

  pub pass_end : {unmasked unclipped unmasked' : List Bool} {cur : Option ActiveClip} {i : ℕ} → Passing items n unmasked₀ unclipped₀ unmasked unclipped cur i → length items ≡ n → n ≤ i
      → unmasked' ≡ last_clip cur unmasked → record { unmasked = unmasked'; unclipped = unclipped } ≡ clips_from items 0 None unmasked₀ unclipped₀
  unfolding clips_from
  pass_end {unmasked} {unclipped} {unmasked'} {cur} {i} v e h p =
      ap (λ (m : List Bool). record { unmasked = m; unclipped = unclipped }) p
      ∙ ap (λ (xs : List Item). clips_from xs i cur unmasked unclipped) (sym (drop_of_length-le items {i = i} (omega arith)))
      ∙ v.rest

-- ---- what lies past the list's entries in the columns stays as it was

-- the current clip stands in a place below b
abbrev pub Below : Option ActiveClip → ℕ → Type 0
Below None b = 0 ≤ b
Below (Some k) b = k.at.0 < b

pub below_up : (cur : Option ActiveClip) (b : ℕ) → Below cur b → Below cur (suc b)
below_up None b h = omega arith
below_up (Some k) b h = omega arith

-- after a turn, and the place that the turn may mask off
pub record Behind (s : Step) (b : ℕ) : Type 0 where
  pub current : Below s.cur b
  pub masks : s.at.0 < b

pub at_kept : (clipped : Bool) (k : ActiveClip) → (kept clipped k).at ≡ k.at
at_kept true k = refl
at_kept false k = refl

pub behind : (x : Item) (cur : Option ActiveClip) (i b : ℕ) → Below cur b → i < b → Behind (step_of x cur i) b
behind x cur i b h p = by (turn x cur i)
  where
    by : Turn x cur i → Behind (step_of x cur i) b
    by (opens span e s) = rw s (record { current = p; masks = omega arith })
    by (bare e q s) = rw s (record { current = omega arith; masks = omega arith })
    by (past k e q l s) =
        let stands : k.at.0 < b = rw q at h in
        rw s (record { current = omega arith; masks = stands })
    by (within k e q l s) =
        let stands : k.at.0 < b = rw q at h in
        rw s (record { current = rw (at_kept (is_clipped_of x.func) k) stands; masks = omega arith })

set_over : (ws old : List Bool) (i : ℕ) (m : Bool) → i < length ws → set (over ws old) i m ≡ over (set ws i m) old
unfolding over
set_over ws old i m h = rw (set-append_left ws (drop (length ws) old) i m h, length-set ws i m)

off_over : (ws old : List Bool) (i : ℕ) (off : Bool) → i < length ws → mask_off (over ws old) i off ≡ over (mask_off ws i off) old
off_over ws old i true h = set_over ws old i false h
off_over ws old i false h = refl

after_over : (ws old : List Bool) (i : ℕ) (s : Step) → i < length ws → s.at.0 < length ws → unmasked_after (over ws old) i s ≡ over (unmasked_after ws i s) old
after_over ws old i s h k =
    ap (λ (m : List Bool). mask_off m s.at.0 s.unused) (off_over ws old i s.masked h)
    ∙ off_over (mask_off ws i s.masked) old s.at.0 s.unused (rw (length_off ws i s.masked) k)

last_over : (ws old : List Bool) (cur : Option ActiveClip) → Below cur (length ws) → last_clip cur (over ws old) ≡ over (last_clip cur ws) old
last_over ws old None h = refl
last_over ws old (Some k) h = off_over ws old k.at.0 (not k.used) h

abbrev overs : Marks → List Bool → List Bool → Marks
overs m oldUnmasked oldUnclipped = record { unmasked = over m.unmasked oldUnmasked; unclipped = over m.unclipped oldUnclipped }

module _ (os ou : List Bool) where
  clips_over : (xs : List Item) (i : ℕ) (cur : Option ActiveClip) (s u : List Bool) → i + length xs ≤ length s → i + length xs ≤ length u → Below cur (length s) → clips_from xs i cur (over s os) (over u ou) ≡ overs (clips_from xs i cur s u) os ou
  unfolding clips_from
  clips_over [] i cur s u h k b =
      ap (λ (m : List Bool). record { unmasked = m; unclipped = over u ou }) (last_over s os cur b)
  clips_over (x ∷ xs) i cur s u h k b =
      let step = step_of x cur i in
      let at : i < length s = omega (arith, add-suc i (length xs)) in
      let after = behind x cur i (length s) b at in
      ap₂ (λ (m f : List Bool). clips_from xs (suc i) step.cur m f) (after_over s os i step at after.masks)
      (set_over u ou i step.unclipped (omega (arith, add-suc i (length xs))))
      ∙ clips_over xs (suc i) step.cur (unmasked_after s i step) (set u i step.unclipped)
      (rw (length_after s i step) (omega (arith, add-suc i (length xs), suc-add i (length xs))))
      (rw (length-set u i step.unclipped) (omega (arith, add-suc i (length xs), suc-add i (length xs))))
      (rw (length_after s i step) after.current)

-- the pass over columns whose front was filled
pub passed : {items : List Item} {n : ℕ} {oldUnmasked oldUnclipped unmasked₀ unclipped₀ unmasked unclipped : List Bool} → length items ≡ n
    → unmasked₀ ≡ over (replicate n true) oldUnmasked → unclipped₀ ≡ over (replicate n false) oldUnclipped
    → record { unmasked = unmasked; unclipped = unclipped } ≡ clips_from items 0 None unmasked₀ unclipped₀ → Marking items oldUnmasked oldUnclipped unmasked unclipped
passed {items} {n} {oldUnmasked} {oldUnclipped} {unmasked = unmasked} {unclipped = unclipped} e ps pu r =
    let m = length items in
    let h : 0 + length items ≤ length (replicate m true) = omega (arith, length-replicate m true) in
    let k : 0 + length items ≤ length (replicate m false) = omega (arith, length-replicate m false) in
    let whole : record { unmasked = unmasked; unclipped = unclipped } ≡ overs (marks_of items) oldUnmasked oldUnclipped =
    rw (ps, pu, ← e) at r ∙ clips_over oldUnmasked oldUnclipped items 0 None (replicate m true) (replicate m false) h k (omega arith) in
    record { unmasked_is = ap (λ (m : Marks). m.unmasked) whole; unclipped_is = ap (λ (m : Marks). m.unclipped) whole }
