-- How the code finds whether a draw needs a clip while it walks over a tile's layers: it keeps one number, the layer id below which the latest clip
-- so far frees clipped draws. proofs/Freeing has that this is the need of a clip of pass_statements/specs/Rules.
use Rattle.std.specs.Prelude.{◌∷◌, ◌+◌}
use Rattle.laws.specs.Prelude.{cond, List, [], ℕ, Answer, refused, given}
use Rattle.layer_table.specs.Lookup.{lookup}
use Rattle.styling.specs.declared.Layer.{Layer}
use Rattle.tile_layers.specs.Listing.{Listed}
use Rattle.pass_statements.specs.Clips.{is_clip}
use Rattle.pass_statements.specs.Entry.{Entry}
use Rattle.pass_statements.specs.Item.{item_for}
use Rattle.pass_statements.specs.Rules.{last_reached}
use Rattle.pass_statements.specs.declared.item.Item.{Item}
use Rattle.layer_workbench.specs.Work.{entry_of}

-- once the listed layer x is met: a clip that is full in the tile frees up to the last layer id that it reaches, another clip none
abbrev pub free_after : Item → ℕ → ℕ
free_after x below = cond (is_clip x.func) (cond x.full (last_reached x.id x.func + 1) 0) below

-- by what the table has for an entry: a layer that it lacks is no clip
abbrev pub free_by : Answer Layer → Entry → ℕ → ℕ
free_by (refused n) e below = below
free_by (given l) e below = free_after (item_for l e) below

-- once these layers are met
unfoldable pub free_from : List Layer → List Listed → ℕ → ℕ
free_from table [] below = below
free_from table (l ∷ ls) below = free_from table ls (free_by (lookup table l.id) (entry_of table l) below)
