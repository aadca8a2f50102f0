-- `put_six` meets its contract. Assumes nothing.
use Rattle.std.specs.Prelude.{◌≡◌, ◌+◌, ◌<◌}
use Rattle.laws.proofs.Prelude.{◌∙◌, suc, arith, rules, length, set, length-set}
use Rattle.batch_noting.proofs.Stores.{below}
use Rattle.batch_noting.proofs.put_six.Goals as goal

pub offset_bounds-told-at : goal.offset_bounds-told-at
offset_bounds-told-at c = search rules

pub bounds-told-at : goal.bounds-told-at
bounds-told-at c = search rules

pub overflow_add-told : goal.overflow_add-told
overflow_add-told c = search rules

pub offset_bounds-told-at-2 : goal.offset_bounds-told-at-2
offset_bounds-told-at-2 c = search rules

pub bounds-told-at-2 : goal.bounds-told-at-2
bounds-told-at-2 c =
    let at = c.args.at in
    let l0 = c.args.told.now in
    let h : at + 1 < length l0 = omega (arith, c.requires) in
    below l0 at (at + 1) c.args.a h

pub overflow_add-told-2 : goal.overflow_add-told-2
overflow_add-told-2 c = search rules

pub offset_bounds-told-at-3 : goal.offset_bounds-told-at-3
offset_bounds-told-at-3 c = search rules

pub bounds-told-at-3 : goal.bounds-told-at-3
bounds-told-at-3 c =
    let at = c.args.at in
    let l0 = c.args.told.now in
    let l1 = set l0 (at) c.args.a in
    let h : at + 2 < length l0 = omega (arith, c.requires) in
    below l1 (at + 1) (at + 2) c.args.b (below l0 at (at + 2) c.args.a h)

pub overflow_add-told-3 : goal.overflow_add-told-3
overflow_add-told-3 c = search rules

pub offset_bounds-told-at-4 : goal.offset_bounds-told-at-4
offset_bounds-told-at-4 c = search rules

pub bounds-told-at-4 : goal.bounds-told-at-4
bounds-told-at-4 c =
    let at = c.args.at in
    let l0 = c.args.told.now in
    let l1 = set l0 (at) c.args.a in
    let l2 = set l1 (at + 1) c.args.b in
    let h : at + 3 < length l0 = omega (arith, c.requires) in
    below l2 (at + 2) (at + 3) c.args.c (below l1 (at + 1) (at + 3) c.args.b (below l0 at (at + 3) c.args.a h))

pub overflow_add-told-4 : goal.overflow_add-told-4
overflow_add-told-4 c = search rules

pub offset_bounds-told-at-5 : goal.offset_bounds-told-at-5
offset_bounds-told-at-5 c = search rules

pub bounds-told-at-5 : goal.bounds-told-at-5
bounds-told-at-5 c =
    let at = c.args.at in
    let l0 = c.args.told.now in
    let l1 = set l0 (at) c.args.a in
    let l2 = set l1 (at + 1) c.args.b in
    let l3 = set l2 (at + 2) c.args.c in
    let h : at + 4 < length l0 = omega (arith, c.requires) in
    below l3 (at + 3) (at + 4) c.args.d (below l2 (at + 2) (at + 4) c.args.c (below l1 (at + 1) (at + 4) c.args.b (below l0 at (at + 4) c.args.a h)))

pub overflow_add-told-5 : goal.overflow_add-told-5
overflow_add-told-5 c = search rules

pub offset_bounds-told-at-6 : goal.offset_bounds-told-at-6
offset_bounds-told-at-6 c = search rules

pub bounds-told-at-6 : goal.bounds-told-at-6
bounds-told-at-6 c =
    let at = c.args.at in
    let l0 = c.args.told.now in
    let l1 = set l0 (at) c.args.a in
    let l2 = set l1 (at + 1) c.args.b in
    let l3 = set l2 (at + 2) c.args.c in
    let l4 = set l3 (at + 3) c.args.d in
    let h : at + 5 < length l0 = omega (arith, c.requires) in
    let h3 = below l2 (at + 2) (at + 5) c.args.c (below l1 (at + 1) (at + 5) c.args.b (below l0 at (at + 5) c.args.a h)) in
    below l4 (at + 4) (at + 5) c.args.e (below l3 (at + 3) (at + 5) c.args.d h3)

pub shape_of-told : goal.shape_of-told
shape_of-told c =
    let at = c.args.at in
    let l0 = c.args.told.now in
    let l1 = set l0 (at) c.args.a in
    let l2 = set l1 (at + 1) c.args.b in
    let l3 = set l2 (at + 2) c.args.c in
    let l4 = set l3 (at + 3) c.args.d in
    let l5 = set l4 (at + 4) c.args.e in
    let l6 = set l5 (at + 5) c.args.f in
    length-set l5 (at + 5) c.args.f
    ∙ length-set l4 (at + 4) c.args.e ∙ length-set l3 (at + 3) c.args.d ∙ length-set l2 (at + 2) c.args.c ∙ length-set l1 (at + 1) c.args.b ∙ length-set l0 (at) c.args.a

pub returns : goal.returns
returns c =
    let at = c.args.at in
    let e1 : at + 1 ≡ suc (at) = omega arith in
    let e2 : at + 2 ≡ suc (suc (at)) = omega arith in
    let e3 : at + 3 ≡ suc (suc (suc (at))) = omega arith in
    let e4 : at + 4 ≡ suc (suc (suc (suc (at)))) = omega arith in
    let e5 : at + 5 ≡ suc (suc (suc (suc (suc (at))))) = omega arith in
    rw (e1, e2, e3, e4, e5)
