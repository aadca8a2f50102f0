-- `walk::group_end` meets its contract. The search for the layer of the first segment finds the last one of its group. Assumes nothing.
use Rattle.std.specs.Prelude.{◌≡◌, ◌-◌, ◌<◌}
use Rattle.laws.proofs.Prelude.{sym, ap, ap₂, ◌∙◌, List, ℕ, add-zero, arith, length, get_or, drop, length-drop, get_or-drop}
use Rattle.laws.proofs.Prelude.{take, take_all}
use Rattle.pixel_segment.specs.Field.{cpu, layer_id_of}
use Rattle.segment_rows.specs.Search.{Place, found, absent, place_in, search_of, order_at}
use Rattle.segment_rows.specs.declared.search.Key.TheVariants.{LayerId}
use Rattle.tile_layers.proofs.Runs.{Grouped, grouped, ordered_drop, ends_at}
use Rattle.tile_layers.proofs.walk.group_end.Goals as goal
use Rattle.tile_layers.proofs.walk.group_end.Goals.{In-Ok, Start}

-- what is known of the group, at the function's start
known : (c : Start) → Grouped (drop c.args.j c.args.part.now)
known c =
    let h : c.args.j < length c.args.part.now = c.requires.1 in
    grouped (drop c.args.j c.args.part.now) (omega (arith, length-drop c.args.j c.args.part.now))
    (ordered_drop (layer_id_of cpu) c.args.part.now c.args.j c.requires.0)

-- what the search answers
answered : (part : List ℕ) (j id : ℕ) (p : Place) → id ≡ layer_id_of cpu (get_or part j 0) → p ≡ search_of (order_at (LayerId id)) (take (length part - j) (drop j part)) → p ≡ search_of (order_at (LayerId (layer_id_of cpu (get_or (drop j part) 0 0)))) (drop j part)
answered part j id p e s =
    let whole = take_all (length part - j) (drop j part) (omega (arith, length-drop j part)) in
    let same = e ∙ ap (λ (k : ℕ). layer_id_of cpu (get_or part k 0)) (sym (add-zero j)) ∙ ap (layer_id_of cpu) (sym (get_or-drop j part 0 0)) in
    s ∙ ap₂ (λ (k : ℕ) (l : List ℕ). search_of (order_at (LayerId k)) l) same whole

-- the segment that was found is the group's last
at_last : (c : In-Ok) → c.in-Ok.d ≡ (known c.before.before.before.before.before.before).b
at_last c =
    let a = answered c.args.part.now c.args.j _ _ c.layer_at-id.ensures c.search_last_by_layer_id.ensures in
    let e : found c.in-Ok.d ≡ found (known c.before.before.before.before.before.before).b = sym (ap place_in c.in-Ok.is) ∙ a ∙ (known c.before.before.before.before.before.before).searched in
    cc

pub overflow_add-result : goal.overflow_add-result
overflow_add-result c = omega (arith, at_last (goal.at.overflow_add-result c).In-Ok, (known (goal.at.overflow_add-result c).Start).within, length-drop c.args.j c.args.part.now)

pub overflow_add-result-in-Ok : goal.overflow_add-result-in-Ok
overflow_add-result-in-Ok c = omega (arith, at_last (goal.at.overflow_add-result-in-Ok c).In-Ok, (known (goal.at.overflow_add-result-in-Ok c).Start).within, length-drop c.args.j c.args.part.now)

pub returns-in-Ok : goal.returns-in-Ok
returns-in-Ok c =
    let k = known (goal.at.returns-in-Ok c).Start in
    rw (at_last (goal.at.returns-in-Ok c).In-Ok) (ends_at c.args.part.now c.args.j k.b c.requires.1 k.within k.group)

pub returns-in-Err : goal.returns-in-Err
returns-in-Err c =
    let p : found (known (goal.at.returns-in-Err c).Start).b ≡ absent c.in-Err.field-0 = sym (known (goal.at.returns-in-Err c).Start).searched ∙ sym (answered c.args.part.now c.args.j _ _ c.layer_at-id.ensures c.search_last_by_layer_id.ensures) ∙ ap place_in c.in-Err.is in
    absurd (let z : ◌≡◌ {A = ℕ} 0 1 = cc in omega arith)
