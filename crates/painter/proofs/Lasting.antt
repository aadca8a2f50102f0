-- The last layer id that a clip of a judged table reaches fits 32 bits. Assumes nothing.
use Rattle.std.specs.Prelude.{◌≡◌, ◌∷◌, ◌≤◌, ◌<◌}
use Rattle.laws.proofs.Prelude.{refl, sym, ap, ◌∙◌, Bool, true, ⊎_elim, List, [], ℕ, arith, leb-true, le-leb, leb, Float}
use Rattle.laws.proofs.Prelude.{given, all, left, right, all_intro, eq_or_ne}
use Rattle.layer_table.specs.Lookup.{lookup}
use Rattle.layer_table.specs.Table.{layer_at, Table, table_of}
use Rattle.layer_table.proofs.Listed.{length_table, get_d_table, layer_id}
use Rattle.layer_table.proofs.Looking.{lookup_hit, lookup_pass, lookup_id}
use Rattle.layer_table.proofs.Ranges.{id_le, span_le}
use Rattle.styling.specs.declared.Func.{Func}
use Rattle.styling.specs.declared.Func.TheVariants.{Draw, Clip}
use Rattle.styling.specs.declared.Layer.{Layer}
use Rattle.pass_statements.specs.Rules.{last_reached}

last_le : (id : ℕ) (func : Func) → id ≤ 2097151 → ((n : ℕ) → func ≡ Clip n → n ≤ 2097151) → last_reached id func ≤ 4294967295
last_le id (Draw style) h k = omega arith
last_le id (Clip span) h k = omega (arith, k span refl)

-- the layer that is looked up passes a test that all pass
looked_passes : (p : Layer → Bool) (ls : List Layer) (id : ℕ) (l : Layer) → all p ls ≡ true → lookup ls id ≡ given l → p l ≡ true
unfolding lookup
looked_passes p [] id l h e = let clash : ◌≡◌ {A = ℕ} 0 1 = cc in absurd (omega arith)
looked_passes p (x ∷ ls) id l h e =
    ⊎_elim
    (λ q. let same : x ≡ l = cc (lookup_hit x ls id q) in ap p (sym same) ∙ left (p x) (all p ls) h)
    (λ q. looked_passes p ls id l (right (p x) (all p ls) h) (sym (lookup_pass x ls id q) ∙ e))
    (eq_or_ne x.id id)

-- the last layer id of the layer that is found
pub last_small : {words : List ℕ} {floats : List Float} {count : ℕ} → Table words floats count → (id : ℕ) (layer : Layer) → lookup (table_of words floats count) id ≡ given layer → last_reached id layer.props.func ≤ 4294967295
last_small {words} {floats} {count} t id layer e =
    let table = table_of words floats count in
    let test : Layer → Bool = λ l. leb (last_reached l.id l.props.func) 4294967295 in
    let each : all test table ≡ true =
    all_intro test table (layer_at words floats 0)
    (λ i h.
    let at : i < count = rw (length_table words floats count) at h in
    ap test (get_d_table words floats count (layer_at words floats 0) i at)
    ∙ le-leb (last_reached (layer_at words floats i).id (layer_at words floats i).props.func) 4294967295
    (last_le (layer_at words floats i).id (layer_at words floats i).props.func (rw (layer_id words floats i) (id_le t at)) (λ n q. span_le t at q))) in
    rw (← lookup_id table id layer e) (leb-true (last_reached layer.id layer.props.func) 4294967295 (looked_passes test table id layer each e))
