-- `mix_listed` meets its contract: the invariant and its steps are those of `Walking`. Assumes nothing.
use Rattle.std.specs.Prelude.{◌≡◌, ◌∷◌, ◌++◌, ◌+◌, ◌-◌, ◌<◌}
use Rattle.std.specs.Iterator.Adapters.{zip_first, zip_second}
use Rattle.std.specs.Slice.Iter.{iter_rest}
use Rattle.std.proofs.Common.{rules, length-take, length-drop, length-append}
use Rattle.std.proofs.lemmas.Slice.Zip.{zip_turn, zip_end}
use Rattle.laws.proofs.Prelude.{◌∙◌, List, [], Bool, false, ℕ, arith, length, get_or, take, drop}
use Rattle.shown_layers.proofs.Rest.{get_or_between}
use Rattle.batch_mixing.specs.InnerMixing.{mix_at}
use Rattle.batch_mixing.proofs.Mixed.{next, end}
use Rattle.batch_mixing.proofs.mix_listed.Goals as goal
use Rattle.batch_mixing.proofs.mix_listed.Goals.{In-Some}

-- the layer that the loop has come to
here : (c : In-Some) → (c.args.skipped + length c.loop-unmasked.yielded < c.args.listed) × (c.in-Some.unmasked.now ≡ get_or c.args.list_unmasked.now (c.args.skipped + length c.loop-unmasked.yielded) false) × (c.in-Some.id.now ≡ get_or c.args.list_ids.now (c.args.skipped + length c.loop-unmasked.yielded) 0)
here c =
    let a = c.args in
    let l = c.loop-unmasked in
    let flags : List Bool = take (a.listed - a.skipped) (drop a.skipped a.list_unmasked.now) in
    let ids : List ℕ = take (a.listed - a.skipped) (drop a.skipped a.list_ids.now) in
    let first : iter_rest (zip_first c.into_iter-unmasked-iterator.result) ≡ flags = search rules in
    let second : iter_rest (zip_second c.into_iter-unmasked-iterator.result) ≡ ids = search rules in
    let turn = zip_turn flags ids l.yielded c.into_iter-unmasked-iterator.result l.unmasked-iterator c.next.new.self c.next.result first second l.yielded_by (c.in-Some.unmasked, c.in-Some.id) c.in-Some.is c.next.ensures.steps in
    let few : a.skipped + length l.yielded < a.listed = omega (arith, simp (length-take, length-drop) at turn.0) in (
      few,
      turn.2 false ∙ get_or_between a.list_unmasked.now a.skipped a.listed (length l.yielded) false few,
      turn.3 0 ∙ get_or_between a.list_ids.now a.skipped a.listed (length l.yielded) 0 few,
    )

pub loop-unmasked-preserved : goal.loop-unmasked-preserved
loop-unmasked-preserved c =
    let a = c.args in
    let l = c.loop-unmasked in
    let h = here (goal.at.loop-unmasked-preserved c).In-Some in
    let more : a.skipped + length (l.yielded ++ (c.in-Some.unmasked, c.in-Some.id) ∷ []) ≡ a.skipped + length l.yielded + 1 = omega (arith, length-append l.yielded ((c.in-Some.unmasked, c.in-Some.id) ∷ [])) in
    rw more
    (next a.list_ids.now a.list_unmasked.now a.skipped a.listed (mix_at (record { before = a.before; used = a.used }) a.painted.now) c.requires.ids_long c.requires.unmasked_long l.invariant h.0
    (rw (h.1, h.2) at c.mix_entry-at.ensures))

pub returns : goal.returns
returns c =
    let a = c.args in
    let l = c.loop-unmasked in
    let flags : List Bool = take (a.listed - a.skipped) (drop a.skipped a.list_unmasked.now) in
    let ids : List ℕ = take (a.listed - a.skipped) (drop a.skipped a.list_ids.now) in
    let first : iter_rest (zip_first c.into_iter-unmasked-iterator.result) ≡ flags = search rules in
    let second : iter_rest (zip_second c.into_iter-unmasked-iterator.result) ≡ ids = search rules in
    let all = zip_end flags ids l.yielded c.into_iter-unmasked-iterator.result l.unmasked-iterator c.next.new.self c.next.result first second l.yielded_by c.in-None.is c.next.ensures.steps in
    end a.list_ids.now a.list_unmasked.now a.skipped a.listed (mix_at (record { before = a.before; used = a.used }) a.painted.now) c.requires.ids_long c.requires.unmasked_long l.invariant
    (omega (arith, simp (length-take, length-drop) at all, c.requires))
