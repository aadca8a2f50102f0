-- The painter's clip, as `paint_layer` and `clip_at` of the Rust keep it. Stands for '`clip_at` writes the mask of a second clip but keeps the
-- last layer id of the first while that one lives', from which P7 comes.
use Rattle.std.specs.Prelude.{◌&&◌, ◌+◌}
use Rattle.laws.specs.Prelude.{Bool, true, false, cond, Option, Some, None, ℕ, ltb}
use Rattle.styling.specs.declared.Func.{Func}
use Rattle.styling.specs.declared.Func.TheVariants.{Draw, Clip}

-- the clip that is alive when the layer id is painted: one whose last layer id is below it is dropped
abbrev pub alive_at : Option ℕ → ℕ → Option ℕ
alive_at None id = None
alive_at (Some last) id = cond (ltb last id) None (Some last)

-- a clip that is alive keeps its last layer id; where none is, one begins
abbrev pub kept_or : Option ℕ → ℕ → Option ℕ
kept_or None last = Some last
kept_or (Some end) last = Some end

-- the clip after the layer id is painted: a draw leaves the one that is alive
abbrev pub clip_after : Func → ℕ → Option ℕ → Option ℕ
clip_after (Draw style) id clip = alive_at clip id
clip_after (Clip span) id clip = kept_or (alive_at clip id) (id + span)

abbrev pub has_no_clip : Option ℕ → Bool
has_no_clip None = true
has_no_clip (Some last) = false

-- a clip is needed, and none is alive
abbrev pub lacks_clip : Bool → Option ℕ → Bool
lacks_clip needs alive = has_no_clip alive && needs
