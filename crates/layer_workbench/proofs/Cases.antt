-- The carries of a tile do not hang on what the passes make of its layers: over any list, and worked in a tile with a layer that is skipped, one
-- that is shown, and one that is masked off. Assumes nothing.
use Rattle.std.specs.Prelude.{◌≡◌, ◌∷◌, None}
use Rattle.laws.proofs.Prelude.{refl, Bool, true, false, List, [], ℕ, pos, eq, of_bits, binary32, replicate}
use Rattle.cover_statements.specs.Carry.{carry_of}
use Rattle.cover_statements.specs.Cover.{is_empty, is_full}
use Rattle.styling.specs.declared.Color.{Color}
use Rattle.styling.specs.declared.BlendMode.TheVariants.{Over}
use Rattle.styling.specs.declared.Fill.TheVariants.{Solid}
use Rattle.styling.specs.declared.FillRule.TheVariants.{NonZero}
use Rattle.styling.specs.declared.Func.TheVariants.{Draw}
use Rattle.styling.specs.declared.Layer.{Layer}
use Rattle.layer_table.specs.Lookup.{lookup}
use Rattle.queue_statements.specs.Queue.{ids_in}
use Rattle.tile_layers.specs.Listing.{Listed}
use Rattle.layer_carrying.specs.Carrying.{handed_on}
use Rattle.pass_statements.specs.Clips.{step_of, clips_from}
use Rattle.pass_statements.specs.Covered.{covered_from}
use Rattle.pass_statements.specs.Decide.{Outcome, outcome_of}
use Rattle.cached_tile.specs.Kept.{no_tile}
use Rattle.layer_workbench.specs.Work.{outcome_by_entries, outcome_in, carries_after}

-- 'A carry is incoming cover plus segment covers, painted or not': whatever the outcome
pub carries_alike : (table : List Layer) (o o' : Outcome) (ls : List Listed) → carries_after table o ls ≡ carries_after table o' ls
carries_alike table o o' ls = refl

-- ---- three opaque draws, each full by its carry; the highest is clipped, and no clip is listed

abbrev black : Color
black = record { r = of_bits binary32 0; g = of_bits binary32 0; b = of_bits binary32 0; a = of_bits binary32 0x3F800000 }

abbrev draw : ℕ → Bool → Layer
draw id clipped =
    record {
      id = id;
      props = record { fill_rule = NonZero; func = Draw (record { is_clipped = clipped; fill = Solid black; blend_mode = Over }) };
      is_unchanged = false;
    }

abbrev pub table : List Layer
table = draw 1 false ∷ draw 2 false ∷ draw 3 true ∷ []

abbrev full : ℕ → Listed
full id = record { id = id; cover = replicate 16 (pos 16); own = [] }

abbrev pub layers : List Listed
layers = full 1 ∷ full 2 ∷ full 3 ∷ []

abbrev pub outcome : Outcome
outcome = outcome_in table no_tile black None layers

-- layer 1 is passed over as covered
pub one_skipped : outcome.skipped ≡ 1
unfolding outcome_by_entries outcome_of clips_from step_of covered_from lookup eq of_bits is_full
one_skipped = refl

-- layer 3 is masked off
pub one_masked_off : outcome.unmasked ≡ true ∷ true ∷ false ∷ []
unfolding outcome_by_entries outcome_of clips_from step_of lookup
one_masked_off = refl

-- and all three carries are handed on
pub all_handed_on : ids_in (carries_after table outcome layers) ≡ 1 ∷ 2 ∷ 3 ∷ []
unfolding handed_on carry_of is_empty lookup
all_handed_on = refl
