-- A layer painted: from what the steps give to what painting promises. Assumes nothing.
use Rattle.std.specs.Prelude.{◌≡◌}
use Rattle.laws.proofs.Prelude.{Bool, List, Option, ℕ, Float, ℤ}
use Rattle.segment_rows.specs.Search.{layer_part}
use Rattle.styling.specs.declared.Layer.{Layer}
use Rattle.queue_statements.specs.Queue.{Carry, held_in}
use Rattle.painter.specs.InnerOwn.{PaintsOwn}
use Rattle.painter.specs.Painting.{needs_in, Paints}
use Rattle.painter.specs.declared.painting.Painting as painting

-- where the segments, the cover and the need are the tile's
module _ (table : List Layer) (queue : List Carry) (part : List ℕ) (id : ℕ) (layer : Layer) (clip : Option ℕ) (old : List Float) where
  pub painted : {own : List ℕ} {cover : List ℤ} {plane : List Float} {needs : Bool} {r : painting.Painting} → own ≡ layer_part id part → cover ≡ held_in queue id → needs ≡ needs_in table queue part layer.props.func id → PaintsOwn own cover id layer needs clip old r plane → Paints table queue part id layer clip old r plane
  painted {own} {cover} {plane} {needs} {r} eo ec en p =
      record {
        clip_is = p.clip_is;
        mark_is = rw (← en, ← eo, ← ec) p.mark_is;
        plane_is = rw (← eo, ← ec) p.plane_is;
      }
