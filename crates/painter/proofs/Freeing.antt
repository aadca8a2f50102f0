-- The walk that finds whether a draw is freed: the latest clip so far and the layers that are left give the latest clip of all. Assumes nothing.
use Rattle.std.specs.Prelude.{◌≡◌, ◌&&◌, ◌∷◌, ◌+◌, ◌≤◌}
use Rattle.laws.proofs.Prelude.{refl, sym, ap, ◌∙◌, Bool, true, false, cond, List, [], map, Option, Some, None, ℕ, ltb, leb}
use Rattle.laws.proofs.Prelude.{ℤ, length, drop, Answer, refused, given, is_given, cons_rest, filter}
use Rattle.layer_table.specs.Lookup.{lookup}
use Rattle.styling.specs.declared.Layer.{Layer}
use Rattle.cover_statements.specs.Entry as entries
use Rattle.queue_statements.specs.Queue.{queue_of, zeros}
use Rattle.tile_layers.specs.Listing.{Listed, layers_in}
use Rattle.tile_layers.specs.InnerWalk.{listed_at, layers_left, Stepped, Moved}
use Rattle.tile_layers.specs.declared.walk.Next.{Next}
use Rattle.tile_layers.proofs.Walking.{Walking, walk_here, walk_next_lem, walk_end}
use Rattle.tile_layers.proofs.Filling.{has_between}
use Rattle.pass_statements.specs.Clips.{is_clip}
use Rattle.pass_statements.specs.Entry.{Entry}
use Rattle.pass_statements.specs.Item.{item_for, item_from, item_of, items_of}
use Rattle.pass_statements.specs.Rules.{last_reached, latest_clip, is_freed}
use Rattle.pass_statements.specs.declared.item.Item.{Item}
use Rattle.layer_workbench.specs.Work.{entry_of}
use Rattle.painter.specs.InnerFreed.{freed_after, freed_by}
use Rattle.painter.specs.Painting.{items_in}

module _ (table : List Layer) (id : ℕ) where
  -- the latest clip once one more layer is met
  abbrev pub latest_with : Item → Option Item → Option Item
  latest_with x found = cond (is_clip x.func && ltb x.id id) (Some x) found

  abbrev pub latest_after : Answer Layer → Entry → Option Item → Option Item
  latest_after a e found = cond (is_given a) (latest_with (item_from a e) found) found

  pub latest_cons : (l : Listed) (ls : List Listed) (found : Option Item) → latest_clip (items_in table (l ∷ ls)) id found ≡ latest_clip (items_in table ls) id (latest_after (lookup table l.id) (entry_of table l) found)
  unfolding latest_clip
  latest_cons l ls found = by (is_given (lookup table l.id))
    where
      rest : List Listed
      rest = filter (λ k. is_given (lookup table k.id)) ls

      by : (t : Bool) → latest_clip (items_of table (map (entry_of table) (cond t (l ∷ filter (λ k. is_given (lookup table k.id)) ls) (filter (λ k. is_given (lookup table k.id)) ls)))) id found ≡ latest_clip (items_in table ls) id (cond t (latest_with (item_of table (entry_of table l)) found) found)
      by true = refl
      by false = refl

  pub latest_nil : (found : Option Item) → latest_clip (items_in table []) id found ≡ found
  unfolding latest_clip
  latest_nil found = refl

  freed_with : (x : Item) (found : Option Item) (freed : Bool) → freed ≡ is_freed found id → freed_after x id freed ≡ is_freed (latest_with x found) id
  freed_with x found freed e = by (is_clip x.func && ltb x.id id)
    where
      by : (t : Bool) → cond t (leb id (last_reached x.id x.func) && x.full) freed ≡ is_freed (cond t (Some x) found) id
      by true = refl
      by false = e

  freed_by_lem : (a : Answer Layer) (e : Entry) (found : Option Item) (freed : Bool) → freed ≡ is_freed found id → freed_by a e id freed ≡ is_freed (latest_after a e found) id
  freed_by_lem (refused n) e found freed h = h
  freed_by_lem (given l) e found freed h = freed_with (item_for l e) found freed h

  -- whether the layer is changed plays no part
  unmarked : (a : Answer Layer) (e : Entry) (freed : Bool) → freed_by a (record { id = e.id; cover = e.cover; segments = e.segments; changed = false }) id freed ≡ freed_by a e id freed
  unmarked (refused n) e freed = refl
  unmarked (given l) e freed = refl

module _ (n : ℕ) (ids : List ℕ) (covers : List ℤ) (part : List ℕ) (table : List Layer) (id : ℕ) where
  abbrev whole : List Listed
  whole = layers_in (queue_of n ids covers) part

  pub record Freeing (freed : Bool) (i j : ℕ) : Type 0 where
    pub k : ℕ
    pub walking : Walking n ids covers part i j k
    pub found : Option Item
    pub freed_is : freed ≡ is_freed found id
    pub left : latest_clip (items_in table (drop k whole)) id found ≡ latest_clip (items_in table whole) id None

  pub free_next : {i j : ℕ} {freed : Bool} → Freeing freed i j → (r : Next) → Stepped n ids covers part i j r → Moved n part i j r → (cover : List ℤ) (freed' : Bool) → cover ≡ cond r.carried (entries.cover_entry 16 i covers) zeros → freed' ≡ freed_by (lookup table r.id) (record { id = r.id; cover = cover; segments = ltb j r.end; changed = false }) id freed → Freeing freed' r.i r.end
  free_next {i} {j} {freed} s r p m cover freed' ec ef =
      let x = listed_at covers part i j r in
      let e = walk_here n ids covers part s.walking r p in
      let rest = layers_left n ids covers part r.i r.end in
      record {
        k = s.k + 1;
        walking = walk_next_lem n ids covers part s.walking r p m;
        found = latest_after table id (lookup table x.id) (entry_of table x) s.found;
        freed_is = ef ∙ (rw (ec, has_between j r.end part m.high_j) (unmarked table id (lookup table x.id) (entry_of table x) freed ∙ freed_by_lem table id (lookup table x.id) (entry_of table x) s.found freed s.freed_is));
        left =
            ap (λ (ls : List Listed). latest_clip (items_in table ls) id (latest_after table id (lookup table x.id) (entry_of table x) s.found)) (cons_rest whole s.k e)
            ∙ sym (latest_cons table id x rest s.found)
            ∙ ap (λ (ls : List Listed). latest_clip (items_in table ls) id s.found) (sym e)
            ∙ s.left;
      }

  pub free_end : {i j : ℕ} {freed : Bool} → Freeing freed i j → n + length part ≤ i + j → freed ≡ is_freed (latest_clip (items_in table whole) id None) id
  free_end s h =
      s.freed_is
      ∙ ap (λ (o : Option Item). is_freed o id)
      (sym (latest_nil table id s.found)
      ∙ ap (λ (ls : List Listed). latest_clip (items_in table ls) id s.found) (sym (walk_end n ids covers part s.walking h))
      ∙ s.left)
