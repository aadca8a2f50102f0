-- A layer painted from its own segments and the cover that comes in for it, whatever row and queue they are of. proofs/Painted has that this is its
-- painting in a tile where they are that tile's.
use Rattle.std.specs.Prelude.{◌≡◌}
use Rattle.laws.specs.Prelude.{Bool, List, Option, ℕ, Float, ℤ, over}
use Rattle.pixel_segment.specs.Field.{cpu}
use Rattle.styling.specs.declared.Layer.{Layer}
use Rattle.cover_statements.specs.Paint.{part_plane}
use Rattle.painter.specs.Clip.{alive_at, clip_after}
use Rattle.painter.specs.Painting.{mark_for}
use Rattle.painter.specs.declared.painting.Painting as painting

pub record PaintsOwn (own : List ℕ) (cover : List ℤ) (id : ℕ) (layer : Layer) (needs : Bool) (clip : Option ℕ) (old : List Float) (r : painting.Painting) (plane : List Float) : Type 0 where
  pub clip_is : r.clip ≡ clip_after layer.props.func id clip
  pub mark_is : r.mark ≡ mark_for layer.props.func needs (alive_at clip id) (part_plane cpu layer.props.fill_rule cover own)
  pub plane_is : plane ≡ over (part_plane cpu layer.props.fill_rule cover own) old
