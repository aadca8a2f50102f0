-- `kept_at` meets its contract. Assumes nothing.
use Rattle.std.specs.Prelude.{◌≡◌, ◌+◌, ◌*◌, ◌-◌}
use Rattle.laws.proofs.Prelude.{ap, ◌∙◌, true, ℕ, arith, rules, take, drop}
use Rattle.ffi_numbers.specs.Cached.{kept_of}
use Rattle.batch_noting.proofs.kept_at.Goals as goal

pub overflow_mul-start : goal.overflow_mul-start
overflow_mul-start c = let h = c.requires c.if-keeps.true in omega (arith, h)

pub overflow_add-end : goal.overflow_add-end
overflow_add-end c = let h = c.requires c.if-keeps.true in omega (arith, h)

pub slice_bounds-bytes-count : goal.slice_bounds-bytes-count
slice_bounds-bytes-count c = search rules

pub slice_bounds-bytes-start : goal.slice_bounds-bytes-start
slice_bounds-bytes-start c = search rules

pub slice_bounds-bytes-end : goal.slice_bounds-bytes-end
slice_bounds-bytes-end c = let h = c.requires c.if-keeps.true in omega (arith, h)

pub tile_from-requires : goal.tile_from-requires
tile_from-requires c = search rules

pub absent-requires : goal.absent-requires
absent-requires c = search rules

pub returns-then-keeps : goal.returns-then-keeps
returns-then-keeps c =
    let i = c.args.i in
    let eight : i * 8 + 8 - i * 8 ≡ 8 = omega arith in
    rw c.if-keeps.true (c.tile_from.ensures ∙ ap (λ (n : ℕ). kept_of true (take n (drop (i * 8) c.args.kept.now))) eight)

pub returns-else-keeps : goal.returns-else-keeps
returns-else-keeps c = rw c.if-keeps.false c.absent.ensures
