-- The carries that a tile hands on: for every listed layer, shown, masked off or skipped alike, incoming plus own covers, without those that are
-- empty by the layer's rule; ascending. Stands for 'a carry is incoming cover plus segment covers, painted or not; it is dropped when empty'.
use Rattle.std.specs.Prelude.{◌≡◌, ◌+◌, ◌*◌, ◌≤◌}
use Rattle.laws.specs.Prelude.{Bool, cond, not, List, map, ℕ, ℤ, length, set, Answer, refused, given, filter, over}
use Rattle.pixel_segment.specs.Field.{cpu}
use Rattle.cover_statements.specs.Carry.{carry_of}
use Rattle.cover_statements.specs.Cover.{is_empty}
use Rattle.cover_statements.specs.Entry.{put_entry}
use Rattle.layer_table.specs.Lookup.{lookup}
use Rattle.styling.specs.declared.Layer.{Layer}
use Rattle.styling.specs.declared.FillRule.{FillRule}
use Rattle.styling.specs.declared.FillRule.TheVariants.{NonZero}
use Rattle.queue_statements.specs.Queue.{Carry, ids_in, covers_in}
use Rattle.tile_layers.specs.Listing.{Listed}

-- the fill rule of a layer. Refusal 8 keeps out a list with a layer that the table lacks
abbrev pub rule_from : Answer Layer → FillRule
rule_from (refused n) = NonZero
rule_from (given l) = l.props.fill_rule

abbrev pub rule_in : List Layer → ℕ → FillRule
rule_in table id = rule_from (lookup table id)

abbrev pub carry_for : Listed → Carry
carry_for l = record { id = l.id; cover = carry_of cpu 16 l.cover l.own }

abbrev pub is_carried : List Layer → Carry → Bool
is_carried table c = not (is_empty (rule_in table c.id) c.cover)

unfoldable pub handed_on : List Layer → List Listed → List Carry
handed_on table ls = filter (is_carried table) (map carry_for ls)

-- a column that holds the carries of all layers, empty ones too, from its front on
pub record HoldsCarries (ls : List Listed) (sums : List ℤ) : Type 0 where
  pub old : List ℤ
  pub sums_are : sums ≡ over (covers_in (map carry_for ls)) old

-- what handing on promises: how many carries, and the two columns
pub record Hands (q : List Carry) (oldIds : List ℕ) (oldCovers : List ℤ) (r : ℕ) (ids : List ℕ) (covers : List ℤ) : Type 0 where
  pub count : r ≡ length q
  pub ids_are : ids ≡ over (ids_in q) oldIds
  pub covers_are : covers ≡ over (covers_in q) oldCovers

-- two columns have an entry for each of n carries
pub record EntryRoom (n : ℕ) (ids : List ℕ) (covers : List ℤ) : Type 0 where
  pub ids_long : n ≤ length ids
  pub covers_long : 16 * n ≤ length covers

-- one carry written at place m, where it is kept
pub record Puts (m id : ℕ) (cover : List ℤ) (keep : Bool) (oldIds : List ℕ) (oldCovers : List ℤ) (r : ℕ) (ids : List ℕ) (covers : List ℤ) : Type 0 where
  pub place : r ≡ cond keep (m + 1) m
  pub ids_are : ids ≡ cond keep (set oldIds m id) oldIds
  pub covers_are : covers ≡ cond keep (put_entry 16 m cover oldCovers) oldCovers
