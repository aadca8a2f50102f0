-- `editing::find` meets its contract. Assumes nothing.
use Rattle.std.specs.Prelude.{◌≡◌}
use Rattle.std.specs.Option.{unwrap_or}
use Rattle.std.proofs.lemmas.Iterator.{index_from_first}
use Rattle.laws.proofs.Prelude.{refl, sym, ◌∙◌, rules, add-one, eq-eqb, ne_eqb, take, length-take-le}
use Rattle.segment_set_statements.specs.Set.{held_place}
use Rattle.segment_set.proofs.editing.find.Goals as goal

pub returns : goal.returns
unfolding held_place
returns c =
    let w = c.args.word in
    let part = take c.args.held c.args.slots.now in
    let e : held_place w part ≡ unwrap_or c.position.result _ =
    index_from_first (held_place w) (λ v. v ≡ w) (λ v. v ≡ w → ⊥) refl
    (λ v vs p. rw (eq-eqb v w p)) (λ v vs n. rw (ne_eqb v w n, add-one)) part c.position.result (search rules) in
    c.unwrap_or.ensures ∙ sym (rw (length-take-le c.args.held c.args.slots.now c.requires) at e)
