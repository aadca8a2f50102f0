-- `put_words` meets its contract. Assumes nothing.
use Rattle.std.specs.Prelude.{◌≡◌, ◌+◌, ◌<◌}
use Rattle.laws.proofs.Prelude.{◌∙◌, suc, arith, rules, length, set, length-set}
use Rattle.batch_noting.proofs.Stores.{below}
use Rattle.batch_noting.proofs.put_words.Goals as goal

pub offset_bounds-painted-at : goal.offset_bounds-painted-at
offset_bounds-painted-at c = search rules

pub bounds-painted-at : goal.bounds-painted-at
bounds-painted-at c = search rules

pub overflow_add-painted : goal.overflow_add-painted
overflow_add-painted c = search rules

pub offset_bounds-painted-at-2 : goal.offset_bounds-painted-at-2
offset_bounds-painted-at-2 c = search rules

pub bounds-painted-at-2 : goal.bounds-painted-at-2
bounds-painted-at-2 c =
    let at = c.args.at in
    let l0 = c.args.painted.now in
    let h : at + 1 < length l0 = omega (arith, c.requires) in
    below l0 at (at + 1) c.args.id h

pub shape_of-painted : goal.shape_of-painted
shape_of-painted c =
    let at = c.args.at in
    let l0 = c.args.painted.now in
    let l1 = set l0 (at) c.args.id in
    let l2 = set l1 (at + 1) c.args.mark in
    length-set l1 (at + 1) c.args.mark ∙ length-set l0 (at) c.args.id

pub returns : goal.returns
returns c =
    let at = c.args.at in
    let e1 : at + 1 ≡ suc (at) = omega arith in
    rw e1
