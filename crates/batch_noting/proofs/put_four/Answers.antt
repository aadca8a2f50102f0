-- `put_four` meets its contract. Assumes nothing.
use Rattle.std.specs.Prelude.{◌≡◌, ◌+◌, ◌<◌}
use Rattle.laws.proofs.Prelude.{◌∙◌, suc, arith, rules, length, set, length-set}
use Rattle.batch_noting.proofs.Stores.{below}
use Rattle.batch_noting.proofs.put_four.Goals as goal

pub offset_bounds-bottoms-at : goal.offset_bounds-bottoms-at
offset_bounds-bottoms-at c = search rules

pub bounds-bottoms-at : goal.bounds-bottoms-at
bounds-bottoms-at c = search rules

pub overflow_add-bottoms : goal.overflow_add-bottoms
overflow_add-bottoms c = search rules

pub offset_bounds-bottoms-at-2 : goal.offset_bounds-bottoms-at-2
offset_bounds-bottoms-at-2 c = search rules

pub bounds-bottoms-at-2 : goal.bounds-bottoms-at-2
bounds-bottoms-at-2 c =
    let at = c.args.at in
    let l0 = c.args.bottoms.now in
    let h : at + 1 < length l0 = omega (arith, c.requires) in
    below l0 at (at + 1) c.args.r h

pub overflow_add-bottoms-2 : goal.overflow_add-bottoms-2
overflow_add-bottoms-2 c = search rules

pub offset_bounds-bottoms-at-3 : goal.offset_bounds-bottoms-at-3
offset_bounds-bottoms-at-3 c = search rules

pub bounds-bottoms-at-3 : goal.bounds-bottoms-at-3
bounds-bottoms-at-3 c =
    let at = c.args.at in
    let l0 = c.args.bottoms.now in
    let l1 = set l0 (at) c.args.r in
    let h : at + 2 < length l0 = omega (arith, c.requires) in
    below l1 (at + 1) (at + 2) c.args.g (below l0 at (at + 2) c.args.r h)

pub overflow_add-bottoms-3 : goal.overflow_add-bottoms-3
overflow_add-bottoms-3 c = search rules

pub offset_bounds-bottoms-at-4 : goal.offset_bounds-bottoms-at-4
offset_bounds-bottoms-at-4 c = search rules

pub bounds-bottoms-at-4 : goal.bounds-bottoms-at-4
bounds-bottoms-at-4 c =
    let at = c.args.at in
    let l0 = c.args.bottoms.now in
    let l1 = set l0 (at) c.args.r in
    let l2 = set l1 (at + 1) c.args.g in
    let h : at + 3 < length l0 = omega (arith, c.requires) in
    below l2 (at + 2) (at + 3) c.args.b (below l1 (at + 1) (at + 3) c.args.g (below l0 at (at + 3) c.args.r h))

pub shape_of-bottoms : goal.shape_of-bottoms
shape_of-bottoms c =
    let at = c.args.at in
    let l0 = c.args.bottoms.now in
    let l1 = set l0 (at) c.args.r in
    let l2 = set l1 (at + 1) c.args.g in
    let l3 = set l2 (at + 2) c.args.b in
    let l4 = set l3 (at + 3) c.args.a in
    length-set l3 (at + 3) c.args.a ∙ length-set l2 (at + 2) c.args.b ∙ length-set l1 (at + 1) c.args.g ∙ length-set l0 (at) c.args.r

pub returns : goal.returns
returns c =
    let at = c.args.at in
    let e1 : at + 1 ≡ suc (at) = omega arith in
    let e2 : at + 2 ≡ suc (suc (at)) = omega arith in
    let e3 : at + 3 ≡ suc (suc (suc (at))) = omega arith in
    rw (e1, e2, e3)
