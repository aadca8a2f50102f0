-- The height of a tile in pixels, by the layout of its words. Stands for W-213's two heights.
use Rattle.laws.specs.Prelude.{ℕ}
use Rattle.pixel_segment.specs.declared.consts.Layout.{Layout}
use Rattle.pixel_segment.specs.declared.consts.Layout.TheVariants.{Cpu, Gpu}

abbrev pub height_of : Layout → ℕ
height_of Cpu = 16
height_of Gpu = 4
