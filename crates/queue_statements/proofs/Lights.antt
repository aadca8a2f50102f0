-- What the sums and loads of an opening say, place by place: number 9, and the covers that are written. Assumes nothing.
use Rattle.std.specs.Prelude.{◌≡◌, ◌+◌, ◌*◌, ◌/◌, ◌%◌, ◌≤◌, ◌<◌, ◌+ℤ◌}
use Rattle.laws.proofs.Prelude.{refl, sym, ap, ◌∙◌, true, false, List, ℕ, zero-add, arith, le-leb, ℤ, pos, nat_abs}
use Rattle.laws.proofs.Prelude.{+ℤ_idl, length, get_or, take, ext_get_or, get_or-take, length-take-le, every_intro, all_at, all_intro}
use Rattle.laws.proofs.Bools.{not-true}
use Rattle.pixel_segment.specs.Field.{cpu, layer_id_of, local_y_of, cover_of}
use Rattle.cover_statements.specs.Carry.{load_in, abs_cover, light_at, is_light}
use Rattle.cover_statements.specs.Cover.{cover_at}
use Rattle.cover_statements.proofs.Carries.{light}
use Rattle.cover_statements.proofs.Filled.{get_d_default}
use Rattle.cover_statements.proofs.Tables.{keyed, weighed}
use Rattle.queue_statements.specs.Queue.{ids_in, covers_in, zeros, no_carry}
use Rattle.queue_statements.specs.Opening.{open_queue, of_layer, is_light_opening}
use Rattle.queue_statements.specs.Rank.{rank_of}
use Rattle.queue_statements.specs.InnerSums.{key_in}
use Rattle.queue_statements.proofs.Queues.{length_ids, get_d_ids, held_at}
use Rattle.queue_statements.proofs.Columns.{length_covers, covers_at}
use Rattle.queue_statements.proofs.Openings.{opening_ascends, opening_wide, opening_at}
use Rattle.queue_statements.proofs.Keys.{sum_at, opening_all, opening_there}

module _ (left : List ℕ) where
  abbrev ids : List ℕ
  ids = ids_in (open_queue left)

  -- what is summed at a place, of a carry and a pixel row
  load_there : (i y : ℕ) → i < length (open_queue left) → y < 16 → weighed (key_in ids) (cover_of cpu) (i * 16 + y) left ≡ load_in cpu y (of_layer (get_or (open_queue left) i no_carry).id left)
  load_there i y p q =
      rw (← get_d_ids (open_queue left) i)
      (sum_at ids (opening_ascends left) ◌+◌ 0 zero-add (abs_cover cpu) left (opening_all left) i y (rw (length_ids (open_queue left)) p) q)

  cover_there : (i y : ℕ) → i < length (open_queue left) → y < 16 → keyed (key_in ids) (cover_of cpu) (i * 16 + y) left ≡ cover_at (get_or (open_queue left) i no_carry).cover y
  cover_there i y p q =
      let id = (get_or (open_queue left) i no_carry).id in
      (rw (← get_d_ids (open_queue left) i) (sum_at ids (opening_ascends left) ◌+ℤ◌ (pos 0) +ℤ_idl (cover_of cpu) left (opening_all left) i y (rw (length_ids (open_queue left)) p) q))
      ∙ sym (opening_at left id y)
      ∙ ap (λ (l : List ℤ). cover_at l y) (held_at 0 (open_queue left) i id (opening_ascends left) p refl)

  -- ---- number 9

  pub opening_light : ((k : ℕ) → weighed (key_in ids) (cover_of cpu) k left ≤ 127) → is_light_opening left ≡ true
  unfolding is_light_opening is_light
  opening_light h =
      all_intro (λ c. is_light cpu 16 zeros (of_layer c.id left)) (open_queue left) no_carry
      (λ i p.
      let id = (get_or (open_queue left) i no_carry).id in
      every_intro 16 (light_at cpu zeros (of_layer id left))
      (λ y q. le-leb (nat_abs (cover_at zeros y) + load_in cpu y (of_layer id left)) 127 (omega (arith, h (i * 16 + y), load_there i y p q, ap nat_abs (get_d_default {a = pos 0} 16 y)))))

  pub opening_heavy : (j : ℕ) → j < length left → 127 < weighed (key_in ids) (cover_of cpu) (key_in ids (get_or left j 0)) left → is_light_opening left ≡ false
  unfolding is_light_opening key_in
  opening_heavy j p many =
      let w = get_or left j 0 in
      let i = rank_of (layer_id_of cpu w) ids in
      let there : i < length (open_queue left) = omega (arith, opening_there left j p, length_ids (open_queue left)) in
      let id = (get_or (open_queue left) i no_carry).id in
      not-true (is_light_opening left)
      (λ e.
      let each : is_light cpu 16 zeros (of_layer id left) ≡ true = all_at (λ c. is_light cpu 16 zeros (of_layer c.id left)) (open_queue left) e i no_carry there in
      omega (arith, many, load_there i (local_y_of cpu w) there (omega arith), (light {ws = cpu} {n = 16} {covers = zeros} {part = of_layer id left} each).at (local_y_of cpu w) (omega arith)))

  -- ---- the covers

  pub opening_covers : (n : ℕ) (sums : List ℤ) → n ≡ length (open_queue left) → n * 16 ≤ length sums → ((k : ℕ) → cover_at sums k ≡ keyed (key_in ids) (cover_of cpu) k left) → take (n * 16) sums ≡ covers_in (open_queue left)
  opening_covers n sums e h at =
      let many = length-take-le (n * 16) sums h in
      ext_get_or (pos 0) (take (n * 16) sums) (covers_in (open_queue left)) (many ∙ ap (λ (m : ℕ). m * 16) e ∙ sym (length_covers (open_queue left) (opening_wide left)))
      (λ k p.
      let q : k < n * 16 = omega arith in
      let i : k / 16 < length (open_queue left) = omega (arith, e) in
      let s : k ≡ k / 16 * 16 + k % 16 = omega arith in
      get_or-take (n * 16) sums k (pos 0) q
      ∙ at k
      ∙ ap (λ (m : ℕ). keyed (key_in ids) (cover_of cpu) m left) s
      ∙ cover_there (k / 16) (k % 16) i (omega arith)
      ∙ sym (covers_at (open_queue left) (k / 16) (k % 16) (opening_wide left) i (omega arith))
      ∙ ap (λ (m : ℕ). cover_at (covers_in (open_queue left)) m) (sym s))
