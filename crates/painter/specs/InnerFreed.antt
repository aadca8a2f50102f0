-- How the code finds whether a draw needs a clip: over the list in one walk, keeping whether the latest clip so far frees the draw.
use Rattle.std.specs.Prelude.{◌&&◌}
use Rattle.laws.specs.Prelude.{Bool, cond, ℕ, ltb, leb, Answer, refused, given}
use Rattle.styling.specs.declared.Layer.{Layer}
use Rattle.pass_statements.specs.Clips.{is_clip}
use Rattle.pass_statements.specs.Entry.{Entry}
use Rattle.pass_statements.specs.Item.{item_for}
use Rattle.pass_statements.specs.Rules.{last_reached}
use Rattle.pass_statements.specs.declared.item.Item.{Item}

-- once the listed layer x is met: a clip below the layer id decides anew
abbrev pub freed_after : Item → ℕ → Bool → Bool
freed_after x id freed = cond (is_clip x.func && ltb x.id id) (leb id (last_reached x.id x.func) && x.full) freed

-- by what the table has for an entry
abbrev pub freed_by : Answer Layer → Entry → ℕ → Bool → Bool
freed_by (refused n) e id freed = freed
freed_by (given l) e id freed = freed_after (item_for l e) id freed
