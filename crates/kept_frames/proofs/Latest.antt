-- The latest clip below a layer does not rest on flags, nor does whether a layer needs a clip. Assumes nothing.
use Rattle.std.specs.Prelude.{◌≡◌, ◌&&◌, ◌∷◌}
use Rattle.laws.proofs.Prelude.{refl, sym, ap, ◌∙◌, Bool, true, false, cond, not, List, [], map, Option, Some, None, ℕ, ltb}
use Rattle.styling.specs.Style.{is_clipped_of}
use Rattle.styling.specs.declared.Func.{Func}
use Rattle.pass_statements.specs.Clips.{is_clip}
use Rattle.pass_statements.specs.Rules.{latest_clip, is_freed, needs_clip}
use Rattle.pass_statements.specs.declared.item.Item.{Item}
use Rattle.kept_frames.specs.Picture.{unflagged}

abbrev unflagged_clip : Option Item → Option Item
unflagged_clip None = None
unflagged_clip (Some c) = Some (unflagged c)

latest_next : (x : Item) (xs : List Item) (id : ℕ) (found : Option Item)
    → latest_clip (x ∷ xs) id found ≡ latest_clip xs id (cond (is_clip x.func && ltb x.id id) (Some x) found)
unfolding latest_clip
latest_next x xs id found = refl

latest_end : (id : ℕ) (found : Option Item) → latest_clip [] id found ≡ found
unfolding latest_clip
latest_end id found = refl

pick : (t : Bool) (x : Item) (found : Option Item) → cond t (Some (unflagged x)) (unflagged_clip found) ≡ unflagged_clip (cond t (Some x) found)
pick true x found = refl
pick false x found = refl

latest_flags : (items : List Item) (id : ℕ) (found : Option Item)
    → latest_clip (map unflagged items) id (unflagged_clip found) ≡ unflagged_clip (latest_clip items id found)
latest_flags [] id found = latest_end id (unflagged_clip found) ∙ ap unflagged_clip (sym (latest_end id found))
latest_flags (x ∷ xs) id found =
    let t = is_clip x.func && ltb x.id id in
    latest_next (unflagged x) (map unflagged xs) id (unflagged_clip found)
    ∙ ap (λ (o : Option Item). latest_clip (map unflagged xs) id o) (pick t x found)
    ∙ latest_flags xs id (cond t (Some x) found)
    ∙ ap unflagged_clip (sym (latest_next x xs id found))

freed_flag : (o : Option Item) (id : ℕ) → is_freed (unflagged_clip o) id ≡ is_freed o id
freed_flag None id = refl
freed_flag (Some x) id = refl

pub needs_flags : (items : List Item) (func : Func) (id : ℕ) → needs_clip (map unflagged items) func id ≡ needs_clip items func id
needs_flags items func id =
    ap (λ (b : Bool). is_clipped_of func && not b) (ap (λ (o : Option Item). is_freed o id) (latest_flags items id None) ∙ freed_flag (latest_clip items id None) id)
