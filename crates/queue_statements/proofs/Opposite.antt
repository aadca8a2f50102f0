-- The opposite of a row opens with the row's carries negated, and its opening is judged alike. Assumes nothing.
use Rattle.std.specs.Prelude.{◌≡◌, ◌∷◌, ◌+ℤ◌}
use Rattle.laws.proofs.Prelude.{refl, ap, ap₂, sym, ◌∙◌, Bool, true, cond, List, [], map, ℕ, eqb, ltb, lit<, ℤ, neg_ℤ, length, set}
use Rattle.laws.proofs.Prelude.{length-map, refused, given, all, left, right, all_kept, all_map, filter_map}
use lib.IntN.{neg_ℤ-+ℤ}
use Rattle.laws.proofs.Maps.{map_set, map_cond}
use Rattle.pixel_segment.specs.Field.{cpu, layer_id_of, local_y_of, cover_of}
use Rattle.pixel_segment.specs.Opposite.{opposite_of}
use Rattle.pixel_segment.proofs.Opposite.{is_mild, are_mild, cpu_wide, opposite_field, mild_cover}
use Rattle.pixel_segment.proofs.Ranges.{cpu_layout}
use Rattle.cover_statements.specs.Carry.{is_light}
use Rattle.cover_statements.specs.Cover.{cover_at}
use Rattle.cover_statements.specs.Opposite.{negated}
use Rattle.cover_statements.proofs.Opposite.{at_neg, light_opposite}
use Rattle.queue_statements.specs.Queue.{Carry, zeros, held_in}
use Rattle.queue_statements.specs.Opening.{add_word, add_to, add_all, open_queue, of_layer, is_light_opening, open_answer}
use Rattle.queue_statements.specs.Opposite.{opposite_carry}

layer_same : (w : ℕ) → layer_id_of cpu (opposite_of cpu w) ≡ layer_id_of cpu w
layer_same w = opposite_field cpu cpu_layout w 2 (lit< tt)

-- ---- segments added one after the other

module _ (w : ℕ) (mild : is_mild cpu w ≡ true) where
  word_opposite : (cover : List ℤ) → add_word (negated cover) (opposite_of cpu w) ≡ negated (add_word cover w)
  word_opposite cover =
      let y = local_y_of cpu w in
      ap₂ (λ (k : ℕ) (c : ℤ). set (negated cover) k (cover_at (negated cover) k +ℤ c)) (opposite_field cpu cpu_layout w 4 (lit< tt)) (mild_cover cpu_wide w mild)
      ∙ ap (set (negated cover) y) (ap (λ (a : ℤ). a +ℤ neg_ℤ (cover_of cpu w)) (at_neg cover y) ∙ sym (neg_ℤ-+ℤ (cover_at cover y) (cover_of cpu w)))
      ∙ map_set neg_ℤ cover y (cover_at cover y +ℤ cover_of cpu w)

  to_opposite : (q : List Carry) → add_to (opposite_of cpu w) (map opposite_carry q) ≡ map opposite_carry (add_to w q)
  unfolding add_to
  to_opposite [] = λ i. record { id = layer_same w i; cover = word_opposite zeros i } ∷ []
  to_opposite (c ∷ q) =
      (λ i. cond (eqb c.id (layer_same w i)) (record { id = c.id; cover = word_opposite c.cover i } ∷ map opposite_carry q)
      (cond (ltb (layer_same w i) c.id) (record { id = layer_same w i; cover = word_opposite zeros i } ∷ (opposite_carry c ∷ map opposite_carry q))
      (opposite_carry c ∷ to_opposite q i)))
      ∙ ap (λ (r : List Carry). cond (eqb c.id (layer_id_of cpu w)) (record { id = c.id; cover = negated (add_word c.cover w) } ∷ map opposite_carry q) r)
      (map_cond opposite_carry (ltb (layer_id_of cpu w) c.id) (record { id = layer_id_of cpu w; cover = add_word zeros w } ∷ (c ∷ q)) (c ∷ add_to w q))
      ∙ map_cond opposite_carry (eqb c.id (layer_id_of cpu w)) (record { id = c.id; cover = add_word c.cover w } ∷ q)
      (cond (ltb (layer_id_of cpu w) c.id) (record { id = layer_id_of cpu w; cover = add_word zeros w } ∷ (c ∷ q)) (c ∷ add_to w q))

all_opposite : (l : List ℕ) (q : List Carry) → are_mild cpu l ≡ true → add_all (map (opposite_of cpu) l) (map opposite_carry q) ≡ map opposite_carry (add_all l q)
unfolding add_all
all_opposite [] q m = refl
all_opposite (w ∷ l) q m =
    ap (add_all (map (opposite_of cpu) l)) (to_opposite w (left (is_mild cpu w) (are_mild cpu l) m) q)
    ∙ all_opposite l (add_to w q) (right (is_mild cpu w) (are_mild cpu l) m)

-- ---- the opening

module _ (l : List ℕ) (mild : are_mild cpu l ≡ true) where
  pub open_opposite : open_queue (map (opposite_of cpu) l) ≡ map opposite_carry (open_queue l)
  open_opposite = all_opposite l [] mild

  of_opposite : (id : ℕ) → is_light cpu 16 zeros (of_layer id (map (opposite_of cpu) l)) ≡ is_light cpu 16 zeros (of_layer id l)
  of_opposite id =
      ap (is_light cpu 16 zeros) (filter_map (opposite_of cpu) (λ w. eqb (layer_id_of cpu w) id) (λ w. eqb (layer_id_of cpu w) id) (λ w. ap (λ (n : ℕ). eqb n id) (layer_same w)) l)
      ∙ light_opposite cpu_wide (of_layer id l) (all_kept (λ w. eqb (layer_id_of cpu w) id) (is_mild cpu) l mild) 16 zeros

  light_opening : is_light_opening (map (opposite_of cpu) l) ≡ is_light_opening l
  unfolding is_light_opening
  light_opening =
      ap (all (λ c. is_light cpu 16 zeros (of_layer c.id (map (opposite_of cpu) l)))) open_opposite
      ∙ all_map opposite_carry (λ c. is_light cpu 16 zeros (of_layer c.id (map (opposite_of cpu) l))) (λ c. is_light cpu 16 zeros (of_layer c.id l)) (λ c. of_opposite c.id) (open_queue l)

  pub answer_opposite : open_answer (map (opposite_of cpu) l) ≡ open_answer l
  answer_opposite =
      ap₂ (λ (n : ℕ) (t : Bool). cond (ltb 256 n) (refused 7) (cond t (given n) (refused 9)))
      (ap length open_opposite ∙ length-map (open_queue l) opposite_carry) light_opening

-- ---- the cover that a queue holds for a layer

pub held_opposite : (q : List Carry) (id : ℕ) → held_in (map opposite_carry q) id ≡ negated (held_in q id)
unfolding held_in
held_opposite [] id = refl
held_opposite (c ∷ q) id =
    ap (λ (r : List ℤ). cond (eqb c.id id) (negated c.cover) r) (held_opposite q id)
    ∙ map_cond neg_ℤ (eqb c.id id) c.cover (held_in q id)
