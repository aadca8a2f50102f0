-- The opening of a row (`paint_tile_row`): one carry for each layer that has segments left of the first tile, tile -1 included, whatever its sum:
-- carries of zero are kept. The segments are added one after the other, as the Rust adds them to its map by layer id.
use Rattle.refusals.specs.Refusal.{number_of}
use Rattle.refusals.specs.declared.Refusal.{Refusal}
use Rattle.std.specs.Prelude.{◌≡◌, ◌∷◌, ◌+ℤ◌, Result, Ok, Err}
use Rattle.laws.specs.Prelude.{Bool, cond, List, [], ℕ, eqb, ltb, ℤ, length, set, Answer, refused, given, all, over, filter}
use Rattle.pixel_segment.specs.Field.{cpu, layer_id_of, local_y_of, cover_of}
use Rattle.cover_statements.specs.Carry.{is_light}
use Rattle.cover_statements.specs.Cover.{cover_at}
use Rattle.queue_statements.specs.Queue.{Carry, zeros, ids_in, covers_in}

-- a cover with that of the segment w added in its pixel row
abbrev pub add_word : List ℤ → ℕ → List ℤ
add_word cover w = set cover (local_y_of cpu w) (cover_at cover (local_y_of cpu w) +ℤ cover_of cpu w)

-- the segment w added to the carry of its layer; a new carry stands where its id belongs
unfoldable pub add_to : ℕ → List Carry → List Carry
add_to w [] = record { id = layer_id_of cpu w; cover = add_word zeros w } ∷ []
add_to w (c ∷ q) =
    cond (eqb c.id (layer_id_of cpu w)) (record { id = c.id; cover = add_word c.cover w } ∷ q)
    (cond (ltb (layer_id_of cpu w) c.id) (record { id = layer_id_of cpu w; cover = add_word zeros w } ∷ (c ∷ q))
    (c ∷ add_to w q))

unfoldable pub add_all : List ℕ → List Carry → List Carry
add_all [] q = q
add_all (w ∷ ws) q = add_all ws (add_to w q)

-- the queue that a row opens with, of its segments left of the first tile
abbrev pub open_queue : List ℕ → List Carry
open_queue left = add_all left []

-- the segments of one layer
abbrev pub of_layer : ℕ → List ℕ → List ℕ
of_layer id left = filter (λ w. eqb (layer_id_of cpu w) id) left

-- number 9: every layer's segments left of the first tile, in absolute value, are within 127 in each pixel row
unfoldable pub is_light_opening : List ℕ → Bool
is_light_opening left = all (λ c. is_light cpu 16 zeros (of_layer c.id left)) (open_queue left)

-- what opening answers: how many carries, or refused by 7 (more than 256 layers), then by 9
abbrev pub open_answer : List ℕ → Answer ℕ
open_answer left =
    cond (ltb 256 (length (open_queue left))) (refused 7)
    (cond (is_light_opening left) (given (length (open_queue left))) (refused 9))

-- the lent columns: the queue written over what they held, or as they were
abbrev pub written_if {ℓ} : {A : Type ℓ} → Answer ℕ → List A → List A → List A
written_if (refused n) new old = old
written_if (given n) new old = over new old

pub record Opens (left : List ℕ) (oldIds : List ℕ) (oldCovers : List ℤ) (r : Answer ℕ) (ids : List ℕ) (covers : List ℤ) : Type 0 where
  pub answer : r ≡ open_answer left
  pub ids_are : ids ≡ written_if (open_answer left) (ids_in (open_queue left)) oldIds
  pub covers_are : covers ≡ written_if (open_answer left) (covers_in (open_queue left)) oldCovers
