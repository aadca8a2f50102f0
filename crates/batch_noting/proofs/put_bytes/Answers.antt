-- `put_bytes` meets its contract. Assumes nothing.
use Rattle.std.specs.Prelude.{◌≡◌, ◌+◌, ◌<◌}
use Rattle.laws.proofs.Prelude.{◌∙◌, suc, arith, rules, length, set, length-set, get_or}
use Rattle.batch_noting.proofs.Stores.{below}
use Rattle.batch_noting.proofs.put_bytes.Goals as goal

pub bounds-bytes-0 : goal.bounds-bytes-0
bounds-bytes-0 c = search rules

pub bounds-kept-at : goal.bounds-kept-at
bounds-kept-at c = search rules

pub bounds-bytes-1 : goal.bounds-bytes-1
bounds-bytes-1 c = search rules

pub overflow_add-kept : goal.overflow_add-kept
overflow_add-kept c = search rules

pub bounds-kept-at-2 : goal.bounds-kept-at-2
bounds-kept-at-2 c =
    let at = c.args.at in
    let l0 = c.args.kept.now in
    let h : at + 1 < length l0 = omega (arith, c.requires) in
    below l0 at (at + 1) (get_or c.args.bytes 0 0) h

pub bounds-bytes-2 : goal.bounds-bytes-2
bounds-bytes-2 c = search rules

pub overflow_add-kept-2 : goal.overflow_add-kept-2
overflow_add-kept-2 c = search rules

pub bounds-kept-at-3 : goal.bounds-kept-at-3
bounds-kept-at-3 c =
    let at = c.args.at in
    let l0 = c.args.kept.now in
    let l1 = set l0 (at) (get_or c.args.bytes 0 0) in
    let h : at + 2 < length l0 = omega (arith, c.requires) in
    below l1 (at + 1) (at + 2) (get_or c.args.bytes 1 0) (below l0 at (at + 2) (get_or c.args.bytes 0 0) h)

pub bounds-bytes-3 : goal.bounds-bytes-3
bounds-bytes-3 c = search rules

pub overflow_add-kept-3 : goal.overflow_add-kept-3
overflow_add-kept-3 c = search rules

pub bounds-kept-at-4 : goal.bounds-kept-at-4
bounds-kept-at-4 c =
    let at = c.args.at in
    let l0 = c.args.kept.now in
    let l1 = set l0 (at) (get_or c.args.bytes 0 0) in
    let l2 = set l1 (at + 1) (get_or c.args.bytes 1 0) in
    let h : at + 3 < length l0 = omega (arith, c.requires) in
    below l2 (at + 2) (at + 3) (get_or c.args.bytes 2 0) (below l1 (at + 1) (at + 3) (get_or c.args.bytes 1 0) (below l0 at (at + 3) (get_or c.args.bytes 0 0) h))

pub bounds-bytes-4 : goal.bounds-bytes-4
bounds-bytes-4 c = search rules

pub overflow_add-kept-4 : goal.overflow_add-kept-4
overflow_add-kept-4 c = search rules

pub bounds-kept-at-5 : goal.bounds-kept-at-5
bounds-kept-at-5 c =
    let at = c.args.at in
    let l0 = c.args.kept.now in
    let l1 = set l0 (at) (get_or c.args.bytes 0 0) in
    let l2 = set l1 (at + 1) (get_or c.args.bytes 1 0) in
    let l3 = set l2 (at + 2) (get_or c.args.bytes 2 0) in
    let h : at + 4 < length l0 = omega (arith, c.requires) in
    below l3 (at + 3) (at + 4) (get_or c.args.bytes 3 0) (below l2 (at + 2) (at + 4) (get_or c.args.bytes 2 0) (below l1 (at + 1) (at + 4) (get_or c.args.bytes 1 0) (below l0 at (at + 4) (get_or c.args.bytes 0 0) h)))

pub bounds-bytes-5 : goal.bounds-bytes-5
bounds-bytes-5 c = search rules

pub overflow_add-kept-5 : goal.overflow_add-kept-5
overflow_add-kept-5 c = search rules

pub bounds-kept-at-6 : goal.bounds-kept-at-6
bounds-kept-at-6 c =
    let at = c.args.at in
    let l0 = c.args.kept.now in
    let l1 = set l0 (at) (get_or c.args.bytes 0 0) in
    let l2 = set l1 (at + 1) (get_or c.args.bytes 1 0) in
    let l3 = set l2 (at + 2) (get_or c.args.bytes 2 0) in
    let l4 = set l3 (at + 3) (get_or c.args.bytes 3 0) in
    let h : at + 5 < length l0 = omega (arith, c.requires) in
    below l4 (at + 4) (at + 5) (get_or c.args.bytes 4 0) (below l3 (at + 3) (at + 5) (get_or c.args.bytes 3 0) (below l2 (at + 2) (at + 5) (get_or c.args.bytes 2 0) (below l1 (at + 1) (at + 5) (get_or c.args.bytes 1 0) (below l0 at (at + 5) (get_or c.args.bytes 0 0) h))))

pub bounds-bytes-6 : goal.bounds-bytes-6
bounds-bytes-6 c = search rules

pub overflow_add-kept-6 : goal.overflow_add-kept-6
overflow_add-kept-6 c = search rules

pub bounds-kept-at-7 : goal.bounds-kept-at-7
bounds-kept-at-7 c =
    let at = c.args.at in
    let l0 = c.args.kept.now in
    let l1 = set l0 (at) (get_or c.args.bytes 0 0) in
    let l2 = set l1 (at + 1) (get_or c.args.bytes 1 0) in
    let l3 = set l2 (at + 2) (get_or c.args.bytes 2 0) in
    let l4 = set l3 (at + 3) (get_or c.args.bytes 3 0) in
    let l5 = set l4 (at + 4) (get_or c.args.bytes 4 0) in
    let h : at + 6 < length l0 = omega (arith, c.requires) in
    below l5 (at + 5) (at + 6) (get_or c.args.bytes 5 0) (below l4 (at + 4) (at + 6) (get_or c.args.bytes 4 0) (below l3 (at + 3) (at + 6) (get_or c.args.bytes 3 0) (below l2 (at + 2) (at + 6) (get_or c.args.bytes 2 0) (below l1 (at + 1) (at + 6) (get_or c.args.bytes 1 0) (below l0 at (at + 6) (get_or c.args.bytes 0 0) h)))))

pub bounds-bytes-7 : goal.bounds-bytes-7
bounds-bytes-7 c = search rules

pub overflow_add-kept-7 : goal.overflow_add-kept-7
overflow_add-kept-7 c = search rules

pub bounds-kept-at-8 : goal.bounds-kept-at-8
bounds-kept-at-8 c =
    let at = c.args.at in
    let l0 = c.args.kept.now in
    let l1 = set l0 (at) (get_or c.args.bytes 0 0) in
    let l2 = set l1 (at + 1) (get_or c.args.bytes 1 0) in
    let l3 = set l2 (at + 2) (get_or c.args.bytes 2 0) in
    let l4 = set l3 (at + 3) (get_or c.args.bytes 3 0) in
    let l5 = set l4 (at + 4) (get_or c.args.bytes 4 0) in
    let l6 = set l5 (at + 5) (get_or c.args.bytes 5 0) in
    let h : at + 7 < length l0 = omega (arith, c.requires) in
    below l6 (at + 6) (at + 7) (get_or c.args.bytes 6 0) (below l5 (at + 5) (at + 7) (get_or c.args.bytes 5 0) (below l4 (at + 4) (at + 7) (get_or c.args.bytes 4 0) (below l3 (at + 3) (at + 7) (get_or c.args.bytes 3 0) (below l2 (at + 2) (at + 7) (get_or c.args.bytes 2 0) (below l1 (at + 1) (at + 7) (get_or c.args.bytes 1 0) (below l0 at (at + 7) (get_or c.args.bytes 0 0) h))))))

pub shape_of-kept : goal.shape_of-kept
shape_of-kept c =
    let at = c.args.at in
    let l0 = c.args.kept.now in
    let l1 = set l0 (at) (get_or c.args.bytes 0 0) in
    let l2 = set l1 (at + 1) (get_or c.args.bytes 1 0) in
    let l3 = set l2 (at + 2) (get_or c.args.bytes 2 0) in
    let l4 = set l3 (at + 3) (get_or c.args.bytes 3 0) in
    let l5 = set l4 (at + 4) (get_or c.args.bytes 4 0) in
    let l6 = set l5 (at + 5) (get_or c.args.bytes 5 0) in
    let l7 = set l6 (at + 6) (get_or c.args.bytes 6 0) in
    let l8 = set l7 (at + 7) (get_or c.args.bytes 7 0) in
    length-set l7 (at + 7) (get_or c.args.bytes 7 0) ∙ length-set l6 (at + 6) (get_or c.args.bytes 6 0) ∙ length-set l5 (at + 5) (get_or c.args.bytes 5 0) ∙ length-set l4 (at + 4) (get_or c.args.bytes 4 0) ∙ length-set l3 (at + 3) (get_or c.args.bytes 3 0) ∙ length-set l2 (at + 2) (get_or c.args.bytes 2 0) ∙ length-set l1 (at + 1) (get_or c.args.bytes 1 0) ∙ length-set l0 (at) (get_or c.args.bytes 0 0)

pub returns : goal.returns
returns c =
    let at = c.args.at in
    let e1 : at + 1 ≡ suc (at) = omega arith in
    let e2 : at + 2 ≡ suc (suc (at)) = omega arith in
    let e3 : at + 3 ≡ suc (suc (suc (at))) = omega arith in
    let e4 : at + 4 ≡ suc (suc (suc (suc (at)))) = omega arith in
    let e5 : at + 5 ≡ suc (suc (suc (suc (suc (at))))) = omega arith in
    let e6 : at + 6 ≡ suc (suc (suc (suc (suc (suc (at)))))) = omega arith in
    let e7 : at + 7 ≡ suc (suc (suc (suc (suc (suc (suc (at))))))) = omega arith in
    rw (e1, e2, e3, e4, e5, e6, e7)
