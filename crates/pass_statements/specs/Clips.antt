-- The second pass (`skip_trivial_clips_pass`), as the Rust goes: from the lowest listed layer up, with the clip that was met last.
use Rattle.std.specs.Prelude.{◌≡◌, ◌||◌, ◌∷◌, ◌+◌, Option, Some, None}
use Rattle.laws.specs.Prelude.{Bool, true, false, cond, not, List, [], ℕ, suc, ltb, length, set, replicate, over}
use Rattle.styling.specs.declared.Func.{Func}
use Rattle.styling.specs.declared.Func.TheVariants.{Draw, Clip}
use Rattle.styling.specs.Style.{is_clipped_of}
use Rattle.pass_statements.specs.declared.Index.{Index}
use Rattle.pass_statements.specs.declared.item.Item.{Item}
use Rattle.pass_statements.specs.declared.clips.ActiveClip.{ActiveClip}
use Rattle.pass_statements.specs.declared.clips.Drawn.{Drawn}
use Rattle.pass_statements.specs.declared.clips.Closed.{Closed}
use Rattle.pass_statements.specs.declared.clips.Step.{Step}

-- a position in the list
abbrev pub place : ℕ → Index
place i = record { 0 = i }

-- a clip takes the place of the current one; its span is counted in layer ids
abbrev pub opened_of : Func → Option ActiveClip → ℕ → Bool → ℕ → Option ActiveClip
opened_of (Clip span) cur id full i = Some (record { full = full; last = id + span; at = place i; used = false })
opened_of (Draw style) cur id full i = cur

-- the clip k once a draw lies under it: used, unless it is full
abbrev pub used_of : ActiveClip → ActiveClip
used_of k = record { full = k.full; last = k.last; at = k.at; used = k.used || not k.full }

-- a clipped draw with no clip, or past its end, is masked off; under a full clip it is drawn unclipped
abbrev pub clipped_of : Option ActiveClip → ℕ → Drawn
clipped_of None id = record { cur = None; masked = true; unclipped = false }
clipped_of (Some k) id =
    cond (ltb k.last id)
    (record { cur = Some k; masked = true; unclipped = false })
    (record { cur = Some (used_of k); masked = false; unclipped = k.full })

abbrev pub drawn_of : Bool → Option ActiveClip → ℕ → Drawn
drawn_of clipped cur id = cond clipped (clipped_of cur id) (record { cur = cur; masked = false; unclipped = false })

-- a clip whose end is passed is no longer current; if no draw used it, it is masked off
abbrev pub closed_of : Option ActiveClip → ℕ → Closed
closed_of None id = record { cur = None; unused = false; at = place 0 }
closed_of (Some k) id =
    cond (ltb k.last id)
    (record { cur = None; unused = not k.used; at = k.at })
    (record { cur = Some k; unused = false; at = place 0 })

abbrev pub is_clip : Func → Bool
is_clip (Clip span) = true
is_clip (Draw style) = false

-- one turn, at the listed layer x in place i
unfoldable pub step_of : Item → Option ActiveClip → ℕ → Step
step_of x cur i =
    let drawn = drawn_of (is_clipped_of x.func) (opened_of x.func cur x.id x.full i) x.id in
    let closed = closed_of drawn.cur x.id in
    record {
      cur = closed.cur;
      masked = cond (is_clip x.func) x.full drawn.masked;
      unclipped = drawn.unclipped;
      unused = closed.unused;
      at = closed.at;
    }

-- ---- the pass over the list

-- what it leaves: which layers are not masked off, and which clipped draws are drawn unclipped
pub record Marks : Type 0 where
  pub unmasked : List Bool
  pub unclipped : List Bool

abbrev pub mask_off : List Bool → ℕ → Bool → List Bool
mask_off unmasked i off = cond off (set unmasked i false) unmasked

-- a turn masks off the layer itself, and then a clip that ended unused
abbrev pub unmasked_after : List Bool → ℕ → Step → List Bool
unmasked_after unmasked i s = mask_off (mask_off unmasked i s.masked) s.at.0 s.unused

-- the last clip, where no draw used it
abbrev pub last_clip : Option ActiveClip → List Bool → List Bool
last_clip None unmasked = unmasked
last_clip (Some k) unmasked = mask_off unmasked k.at.0 (not k.used)

unfoldable pub clips_from : List Item → ℕ → Option ActiveClip → List Bool → List Bool → Marks
clips_from [] i cur unmasked unclipped = record { unmasked = last_clip cur unmasked; unclipped = unclipped }
clips_from (x ∷ xs) i cur unmasked unclipped =
    let s = step_of x cur i in
    clips_from xs (suc i) s.cur (unmasked_after unmasked i s) (set unclipped i s.unclipped)

-- nothing is masked off at first, and nothing is drawn unclipped
abbrev pub marks_of : List Item → Marks
marks_of items = clips_from items 0 None (replicate (length items) true) (replicate (length items) false)

-- what the pass promises of the two lent columns
pub record Marking (items : List Item) (oldUnmasked oldUnclipped unmasked unclipped : List Bool) : Type 0 where
  pub unmasked_is : unmasked ≡ over (marks_of items).unmasked oldUnmasked
  pub unclipped_is : unclipped ≡ over (marks_of items).unclipped oldUnclipped
