-- `weight::column::fill_row` meets its contract. Assumes nothing.
use Rattle.std.specs.Prelude.{◌≡◌, ◌-◌, ◌+◌, ◌*◌}
use Rattle.laws.proofs.Prelude.{refl, ap, ◌∙◌, ℕ, arith, length, take, drop, length-take, length-drop, replicate}
use Rattle.std.proofs.lemmas.Slice.{put_mid-paste}
use Rattle.weight.proofs.column.fill_row.Goals as goal

pub returns : goal.returns
returns c =
    let start = c.args.y * 16 in
    let k = start + 16 - start in
    let wide : 16 ≡ k = omega arith in
    let long : length (take k (drop start c.args.plane.now)) ≡ 16 = simp (length-take, length-drop) (omega arith) in
    put_mid-paste start k c.args.plane.now c.fill.new.self (replicate 16 c.args.value) 16
    (c.fill.ensures.after (λ y e. e) ∙ ap (λ (n : ℕ). replicate n c.args.value) long)
    wide refl
