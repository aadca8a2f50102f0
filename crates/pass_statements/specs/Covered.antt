-- The third pass (`skip_fully_covered_layers_pass`), as the Rust goes: from the highest layer that is not masked off down to the first that
-- hides all below it. It finds the first cover that tells whether the tile can be solid, whether the layers looked at are unchanged, and how
-- many are skipped. Other than in the Rust, the tile also counts as changed where any listed clip is changed (W-208).
use Rattle.std.specs.Prelude.{◌&&◌, ◌||◌}
use Rattle.laws.specs.Prelude.{Bool, false, cond, not, List, Option, Some, None, ℕ, zero, suc, length, get_or, all}
use Rattle.styling.specs.declared.Color.{Color}
use Rattle.styling.specs.declared.Func.TheVariants.{Clip}
use Rattle.styling.specs.Style.{is_clipped_of, is_opaque, solid_color}
use Rattle.pass_statements.specs.declared.Index.{Index}
use Rattle.pass_statements.specs.declared.item.Item.{Item}
use Rattle.pass_statements.specs.declared.covered.InterestingCover.{InterestingCover}
use Rattle.pass_statements.specs.declared.covered.InterestingCover.TheVariants.{Absent, Opaque, Incomplete}
use Rattle.pass_statements.specs.declared.covered.Covered.{Covered}
use Rattle.pass_statements.specs.Clips.{is_clip}

-- the first one stands
abbrev pub first_of : InterestingCover → InterestingCover → InterestingCover
first_of Absent c = c
first_of (Opaque color) c = Opaque color
first_of Incomplete c = Incomplete

-- the colour of an opaque layer
abbrev pub opaque_of : Option Color → InterestingCover
opaque_of (Some color) = Opaque color
opaque_of None = Incomplete

-- the layer does not cover the whole tile: it needs a clip, or is not full
abbrev pub is_partial : Item → Bool → Bool
is_partial x unclipped = (is_clipped_of x.func && not unclipped) || not x.full

-- the layer hides all below it: it covers the whole tile, and is opaque
abbrev pub hides : Item → Bool → Bool
hides x unclipped = not (is_partial x unclipped) && is_opaque x.func

-- what a look at a layer adds: it may be the first cover that tells; and it may be changed
abbrev pub tells : Item → Bool → InterestingCover
tells x unclipped = cond (is_partial x unclipped) Incomplete (cond (is_opaque x.func) (opaque_of (solid_color x.func)) Absent)

-- the first layer that is not skipped, once the one in place i is looked at
abbrev pub skip_to : Index → Index → Bool → Index
skip_to skipped i hidden = cond hidden i skipped

abbrev pub look_at : Item → Bool → ℕ → Covered → Covered
look_at x unclipped i found =
    record {
      first = first_of found.first (tells x unclipped);
      unchanged = found.unchanged && x.unchanged;
      skipped = skip_to found.skipped (record { 0 = i }) (hides x unclipped);
    }

-- the layer in place i
abbrev pub item_at : List Item → ℕ → Item
item_at items i = get_or items i (record { id = 0; full = false; func = Clip 0; unchanged = false })

-- the n lowest layers are left to look at; a masked one is passed by
unfoldable pub covered_from : List Item → List Bool → List Bool → ℕ → Covered → Covered
covered_from items unmasked unclipped zero found = found
covered_from items unmasked unclipped (suc i) found =
    let x = item_at items i in
    let free = get_or unclipped i false in
    let past = covered_from items unmasked unclipped i found in
    let seen = look_at x free i found in
    let on = covered_from items unmasked unclipped i seen in
    cond (get_or unmasked i false) (cond (hides x free) seen on) past

-- no listed clip is changed, masked off or not, skipped or not
abbrev pub is_clip_unchanged : Item → Bool
is_clip_unchanged x = not (is_clip x.func) || x.unchanged

abbrev pub are_clips_unchanged : List Item → Bool
are_clips_unchanged items = all is_clip_unchanged items

-- what is known before the first look
abbrev pub start_of : List Item → Bool → Covered
start_of items removed = record { first = Absent; unchanged = not removed && are_clips_unchanged items; skipped = record { 0 = 0 } }

abbrev pub covered_of : List Item → List Bool → List Bool → Bool → Covered
covered_of items unmasked unclipped removed = covered_from items unmasked unclipped (length items) (start_of items removed)
