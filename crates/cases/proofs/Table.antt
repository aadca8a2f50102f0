-- The worked cases hold, and so do the edges beside them. What computes is proved by computing. Assumes nothing.
use Rattle.std.specs.Prelude.{◌≡◌, ◌&&◌, ◌∷◌}
use Rattle.laws.proofs.Prelude.{refl, Bool, true, false, cond, List, [], ℕ, eq-eqb, odd, of_bits, ℤ, pos, plus, refused, given}
use Rattle.cached_tile.specs.Kept.{keep, settle_of, settled_kept}
use Rattle.cached_tile.proofs.Counts.{count_kept}
use Rattle.cover_statements.specs.Area.{doubled_area}
use Rattle.cover_statements.specs.Carry.{is_light, carry_of}
use Rattle.cover_statements.specs.Cover.{is_empty, is_full}
use Rattle.cover_statements.specs.Coverage.{coverage_of}
use Rattle.cover_statements.specs.Plane.{in_places}
use Rattle.pixel_segment.specs.Field.{cpu, tile_of, cover_of, double_area_of}
use Rattle.pixel_segment.specs.Pack.{word_of, is_held, lowest_tile, is_packable, pack_of}
use Rattle.segment_rows.specs.Search.{search_of, halved, layer_part}
use Rattle.pixel_segment.proofs.Ranges.{cpu_layout}
use Rattle.pixel_segment.proofs.ReadBack.{given_back}
use Rattle.layer_table.specs.Lookup.{lookup}
use Rattle.queue_statements.specs.Queue.{held_in}
use Rattle.tile_layers.specs.Groups.{groups_of}
use Rattle.tile_layers.specs.Listing.{list_of}
use Rattle.pass_statements.specs.Clips.{clips_from, step_of}
use Rattle.pass_statements.specs.Rules.{latest_clip}
use Rattle.cases.specs.Numbers.{neg}
use Rattle.cases.specs.Inputs.{given_tile}
use Rattle.cases.specs.Cases.{Cases}
use Rattle.cases.specs.Edges.{Edges}

-- P3, P4: a tile x outside its field's range, whatever the other tests of packing say
refuses : (a c d e f g : Bool) (w : ℕ) → cond (a && false && c && d && e && f && g) (given w) (refused 11) ≡ refused 11
refuses true c d e f g w = refl
refuses false c d e f g w = refl

module _ (layer ty x y m c : ℤ) where
  past_x : (tx : ℤ) → is_held lowest_tile 12 tx ≡ false → pack_of cpu layer tx ty x y m c ≡ refused 11
  unfolding is_packable
  past_x tx e =
      rw e
      (refuses (is_held lowest_tile 11 ty) (is_held (pos 0) 21 layer) (is_held (pos 0) 4 x) (is_held (pos 0) 4 y) (is_held (pos 0) 6 m) (is_held (neg 32) 6 c)
      (word_of cpu (plus layer) tx ty (plus x) (plus y) (plus m) c))

  past_y : pack_of cpu layer ty (pos 2047) x y m c ≡ refused 11
  unfolding is_packable
  past_y = refl

-- P12: bytes that are settled again
keeps : (count was : List ℕ) (r g b a : ℕ) → settle_of (settled_kept (given_tile 0 count was) (r ∷ g ∷ b ∷ a ∷ [])) (r ∷ g ∷ b ∷ a ∷ []) ≡ given keep
keeps count was r g b a = rw (eq-eqb r r refl, eq-eqb g g refl, eq-eqb b b refl, eq-eqb a a refl) refl

pub cases : Cases
unfolding is_packable cover_of double_area_of tile_of search_of halved is_empty is_full coverage_of of_bits odd is_light carry_of latest_clip list_of groups_of lookup clips_from step_of in_places doubled_area held_in layer_part
cases =
    record {
      p1 = refl;
      p2_word = refl;
      p2_area = refl;
      p3_refused = λ layer ty x y m c. past_x layer ty x y m c (neg 7) refl;
      p3_passes = refl;
      p4_last_y = λ layer tx x y m c w e. (given_back cpu cpu_layout layer tx (pos 2046) x y m c e).tile_y;
      p4_past_y = λ layer tx x y m c. past_y layer tx x y m c;
      p4_last_y_word = refl;
      p4_last_x = λ layer ty x y m c w e. (given_back cpu cpu_layout layer (pos 4094) ty x y m c e).tile_x;
      p4_past_x = λ layer ty x y m c. past_x layer ty x y m c (pos 4095) refl;
      p4_last_x_word = refl;
      p5_found = refl;
      p5_before = refl;
      p5_inside = refl;
      p5_after = refl;
      p5_empty = λ key. refl;
      p6_empty = refl;
      p6_not_empty = refl;
      p6_twice = refl;
      p6_twice_even_odd = refl;
      p6_full = refl;
      p6_full_even_odd = refl;
      p6_thrice = refl;
      p6_thrice_even_odd = refl;
      p7_first = refl;
      p7_second = refl;
      p7_clip = refl;
      p7_unmasked = refl;
      p7_unclipped = refl;
      p7_needs = refl;
      p7_first_plane = refl;
      p7_first_mark = refl;
      p7_second_plane = refl;
      p7_second_mark = refl;
      p7_mark = refl;
      p7_plane = refl;
      p8_low_bits = λ t n h. count_kept t h n;
      p8_kept = λ t h. count_kept t h 16777217;
      p8_bytes = λ t. refl;
      p8_dropped = λ t. refl;
      p8_color_dropped = λ t bytes. refl;
      p9_half = refl;
      p9_whole = refl;
      p10_weight = refl;
      p10_past = refl;
      p10_half = refl;
      p10_none = refl;
      p11 = refl;
      p12_write = λ count was bytes. refl;
      p12_keep = keeps;
      p12_without = λ t bytes. refl;
    }

pub edges : Edges
unfolding is_packable cover_of is_light carry_of is_full
edges =
    record {
      layer_past = refl;
      layer_last = refl;
      load_refused = refl;
      load_passes = refl;
      row_of_15 = refl;
      row_of_0 = refl;
      highest_full = refl;
      lowest_full = refl;
      no_count = λ count color. refl;
      counted_tag = λ count color n. refl;
      count_dropped = λ count color. refl;
      color_dropped = λ count color bytes. refl;
    }
