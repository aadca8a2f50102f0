-- Painting a layer of P7's tile, as the program does it: what it asks, and what is seen of a plane that held zeros.
use Rattle.std.specs.Prelude.{◌≡◌}
use Rattle.laws.specs.Prelude.{true, List, [], Option, ℕ, Float, replicate, given, over, all}
use Rattle.layer_table.specs.Lookup.{lookup}
use Rattle.styling.specs.declared.Layer.{Layer}
use Rattle.painter.specs.Clip.{clip_after}
use Rattle.painter.specs.Painting.{is_light_in, mark_in, plane_in}
use Rattle.cases.specs.Answers.{is_a_half}
use Rattle.cases.specs.Inputs.{three_layers, three_carries}
use Rattle.cases.specs.Numbers.{uncovered}
use Rattle.cases.specs.declared.clips.Seen.{Seen}

-- what painting a layer asks: the tile's table has it, and number 9 does not apply
abbrev pub Known : Layer → Type 0
Known layer = (lookup three_layers layer.id ≡ given layer) × (is_light_in three_carries [] layer.id ≡ true)

-- a plane of zeros
abbrev pub no_plane : List Float
no_plane = replicate 256 uncovered

pub record Sees (layer : Layer) (clip : Option ℕ) (r : Seen) : Type 0 where
  pub clip_is : r.clip ≡ clip_after layer.props.func layer.id clip
  pub mark_is : r.mark ≡ mark_in three_layers three_carries [] layer.id layer clip
  pub half_is : r.is_half ≡ all is_a_half (over (plane_in three_carries [] layer.id layer) no_plane)
