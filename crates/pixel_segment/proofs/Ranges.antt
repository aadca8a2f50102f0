-- What packing accepts, as facts: `is_packable` is true exactly where every number is in range, for every table of seven widths whose last is a
-- signed field's. Assumes nothing.
use Rattle.std.specs.Prelude.{◌≡◌, ◌&&◌, ◌∷◌, ◌+◌, ◌-◌, ◌^◌, ◌≤◌, ◌<◌, ◌+ℤ◌}
use Rattle.laws.proofs.Prelude.{refl, true, List, [], ℕ, zero, suc, arith, ℤ, pos, le_z, lt_z, pow_pos}
use Rattle.laws.proofs.Prelude.{plus, minus, both, left, right, whole, added, le_true, true_le, lt_true}
use native.Mathlib.Nat.{pow-succ'}
use Rattle.laws.proofs.Parts.{plus_neg, minus_neg, true_lt}
use Rattle.pixel_segment.specs.Field.{cpu, gpu, widths_of, width_of}
use Rattle.pixel_segment.specs.Pack.{stored_of, is_held, lowest_tile, lowest_signed, is_packable, FieldsInRange}
use Rattle.pixel_segment.specs.Layout.{Layout}
use Rattle.pixel_segment.specs.declared.consts.Layout as layouts
use Rattle.pixel_segment.specs.declared.consts.Layout.TheVariants.{Cpu, Gpu}

pub cpu_layout : Layout cpu
cpu_layout = record { seven = refl; signed = omega arith }

pub gpu_layout : Layout gpu
gpu_layout = record { seven = refl; signed = omega arith }

pub table_of : (l : layouts.Layout) → Layout (widths_of l)
table_of Cpu = cpu_layout
table_of Gpu = gpu_layout

-- half the numbers of a field are below 0
pub halves : (k : ℕ) → 1 ≤ k → 2 ^ k ≡ 2 ^ (k - 1) + 2 ^ (k - 1)
halves zero h = absurd (omega arith)
halves (suc k) h = let e : suc k - 1 ≡ k = omega arith in rw e (omega (arith, pow-succ' 2 k))

-- what holding says of the parts
record Held (low : ℤ) (k : ℕ) (v : ℤ) : Type 0 where
  above : plus low + minus v ≤ plus v + minus low
  below : plus v + minus (low +ℤ pos (2 ^ k)) < plus (low +ℤ pos (2 ^ k)) + minus v

held : (low : ℤ) (k : ℕ) (v : ℤ) → is_held low k v ≡ true → Held low k v
held low k v e =
    let a = le_z low v in
    let b = lt_z v (low +ℤ pos (2 ^ k)) in
    record { above = le_true low v (left a b e); below = lt_true v (low +ℤ pos (2 ^ k)) (right a b e) }

holds : (low : ℤ) (k : ℕ) (v : ℤ) → Held low k v → is_held low k v ≡ true
holds low k v h = both (le_z low v) (lt_z v (low +ℤ pos (2 ^ k))) (true_le low v h.above) (true_lt v (low +ℤ pos (2 ^ k)) h.below)

module _ (k : ℕ) (v : ℤ) where
  pub plain : is_held (pos 0) k v ≡ true → (minus v ≡ 0) × (plus v < 2 ^ k)
  plain e = let h = held (pos 0) k v e in omega (arith, whole v)

  pub is_plain : (minus v ≡ 0) × (plus v < 2 ^ k) → is_held (pos 0) k v ≡ true
  is_plain h = holds (pos 0) k v (record { above = omega arith; below = omega arith })

  pub tile : is_held lowest_tile k v ≡ true → (minus v ≤ 1) × (stored_of v < 2 ^ k)
  tile e = let h = held lowest_tile k v e in omega (arith, pow_pos k, added lowest_tile (pos (2 ^ k)), added v (pos 1))

  pub is_tile : (minus v ≤ 1) × (stored_of v < 2 ^ k) → is_held lowest_tile k v ≡ true
  is_tile h =
      holds lowest_tile k v
      (record { above = omega (arith, whole v); below = omega (arith, added lowest_tile (pos (2 ^ k)), added v (pos 1)) })

  module _ (g : 1 ≤ k) where
    half : ℤ
    half = pos (2 ^ (k - 1))

    signed : is_held (lowest_signed k) k v ≡ true → (minus v ≤ 2 ^ (k - 1)) × (plus v < 2 ^ (k - 1))
    unfolding half
    signed e =
        let h = held (lowest_signed k) k v e in
        omega (arith, pow_pos (k - 1), halves k g, plus_neg half, minus_neg half, added (lowest_signed k) (pos (2 ^ k)), whole v)

    is_signed : (minus v ≤ 2 ^ (k - 1)) × (plus v < 2 ^ (k - 1)) → is_held (lowest_signed k) k v ≡ true
    unfolding half
    is_signed h =
        holds (lowest_signed k) k v
        (record {
          above = omega (arith, plus_neg half, minus_neg half, whole v);
          below = omega (arith, halves k g, plus_neg half, minus_neg half, added (lowest_signed k) (pos (2 ^ k)), whole v);
        })

-- ---- the seven tests, the first innermost

module _ (ws : List ℕ) (layout : Layout ws) (layer tx ty x y m c : ℤ) where
  pub in_range_lem : is_packable ws layer tx ty x y m c ≡ true → FieldsInRange ws layer tx ty x y m c
  unfolding is_packable
  in_range_lem e =
      let a = is_held lowest_tile (width_of ws 0) ty in
      let b = is_held lowest_tile (width_of ws 1) tx in
      let d = is_held (pos 0) (width_of ws 2) layer in
      let f = is_held (pos 0) (width_of ws 3) x in
      let g = is_held (pos 0) (width_of ws 4) y in
      let h = is_held (pos 0) (width_of ws 5) m in
      let i = is_held (lowest_signed (width_of ws 6)) (width_of ws 6) c in
      let e6 = left (a && b && d && f && g && h) i e in
      let e5 = left (a && b && d && f && g) h e6 in
      let e4 = left (a && b && d && f) g e5 in
      let e3 = left (a && b && d) f e4 in
      let e2 = left (a && b) d e3 in
      record {
        layer_id = plain (width_of ws 2) layer (right (a && b) d e3);
        tile_x = tile (width_of ws 1) tx (right a b e2);
        tile_y = tile (width_of ws 0) ty (left a b e2);
        local_x = plain (width_of ws 3) x (right (a && b && d) f e4);
        local_y = plain (width_of ws 4) y (right (a && b && d && f) g e5);
        multiplier = plain (width_of ws 5) m (right (a && b && d && f && g) h e6);
        cover = signed (width_of ws 6) c layout.signed (right (a && b && d && f && g && h) i e);
      }

  pub packable : FieldsInRange ws layer tx ty x y m c → is_packable ws layer tx ty x y m c ≡ true
  unfolding is_packable
  packable r =
      let a = is_held lowest_tile (width_of ws 0) ty in
      let b = is_held lowest_tile (width_of ws 1) tx in
      let d = is_held (pos 0) (width_of ws 2) layer in
      let f = is_held (pos 0) (width_of ws 3) x in
      let g = is_held (pos 0) (width_of ws 4) y in
      let h = is_held (pos 0) (width_of ws 5) m in
      let i = is_held (lowest_signed (width_of ws 6)) (width_of ws 6) c in
      let e2 = both a b (is_tile (width_of ws 0) ty r.tile_y) (is_tile (width_of ws 1) tx r.tile_x) in
      let e3 = both (a && b) d e2 (is_plain (width_of ws 2) layer r.layer_id) in
      let e4 = both (a && b && d) f e3 (is_plain (width_of ws 3) x r.local_x) in
      let e5 = both (a && b && d && f) g e4 (is_plain (width_of ws 4) y r.local_y) in
      let e6 = both (a && b && d && f && g) h e5 (is_plain (width_of ws 5) m r.multiplier) in
      both (a && b && d && f && g && h) i e6 (is_signed (width_of ws 6) c layout.signed r.cover)

-- ---- widths that no field of a layout is above

abbrev pub wide : List ℕ
wide = 13 ∷ 12 ∷ 21 ∷ 4 ∷ 4 ∷ 6 ∷ 6 ∷ []

pub in_wide : (l : layouts.Layout) {layer tx ty x y m c : ℤ} → FieldsInRange (widths_of l) layer tx ty x y m c → FieldsInRange wide layer tx ty x y m c
in_wide Cpu r =
    record {
      layer_id = r.layer_id;
      tile_x = r.tile_x;
      tile_y = omega (arith, r.tile_y);
      local_x = r.local_x;
      local_y = r.local_y;
      multiplier = r.multiplier;
      cover = r.cover;
    }
in_wide Gpu r =
    record {
      layer_id = r.layer_id;
      tile_x = r.tile_x;
      tile_y = r.tile_y;
      local_x = r.local_x;
      local_y = omega (arith, r.local_y);
      multiplier = r.multiplier;
      cover = r.cover;
    }
