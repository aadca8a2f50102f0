-- `passes::decide::are_solid` meets its contract. Assumes nothing.
use Rattle.std.specs.Prelude.{◌≡◌, Option, Some, None}
use Rattle.std.specs.Option.{is_some}
use Rattle.laws.proofs.Prelude.{ap, ◌∙◌, refl}
use Rattle.styling.specs.Style.{solid_color}
use Rattle.styling.specs.declared.Color.{Color}
use Rattle.layer_table.specs.Table.{table_of}
use Rattle.pass_statements.specs.declared.item.Item.{Item}
use Rattle.pass_statements.specs.Decide.{has_color}
use Rattle.pass_statements.proofs.Mixing.{mix_start, mix_masked, mix_below, mix_look, mix_end}
use Rattle.pass_statements.proofs.Listing.{length_items, item_read}
use Rattle.passes.proofs.decide.are_solid.Goals as goal
use Rattle.passes.proofs.decide.are_solid.Goals.{then-unmasked-i+then-left-eq0, then-unmasked-i+else-left-eq0, else-unmasked-i}

-- a colour is there where the definition says so
colored : (paint : Option Color) → is_some paint ≡ has_color paint
colored None = refl
colored (Some color) = refl

pub loop-i-init : goal.loop-i-init
loop-i-init c = mix_start

pub loop-i-preserved : goal.loop-i-preserved
loop-i-preserved c =
    let p = c.loop-i-test.true in
    let a = c.args in
    elim c.if-unmasked-i.branch [
      | then-unmasked-i+then-left-eq0 w ↦
          rw (w.ok-is, w.left-is)
          (mix_look c.loop-i.invariant (length_items _ _ _ _ _) c.requires.2 p w.if-unmasked-i.true w.if-left-eq0.true
          (w.is_some-ok.ensures
          ∙ colored w.solid_color.result
          ∙ ap has_color w.solid_color.ensures
          ∙ ap (λ (x : Item). has_color (solid_color x.func))
          (item_read (table_of a.layers.now a.colors.now a.count) a.n a.ids.now a.covers.now a.flags.now c.loop-i.i p w.item_at-x.ensures)))
      | then-unmasked-i+else-left-eq0 w ↦
          rw (w.ok-is, w.left-is) (mix_below c.loop-i.invariant (length_items _ _ _ _ _) c.requires.2 p w.if-unmasked-i.true w.if-left-eq0.false)
      | else-unmasked-i w ↦
          rw (w.ok-is, w.left-is) (mix_masked c.loop-i.invariant (length_items _ _ _ _ _) c.requires.2 p w.if-unmasked-i.false)
    ]

pub returns : goal.returns
returns c = mix_end c.loop-i.invariant (length_items _ _ _ _ _) c.loop-i-test.false
