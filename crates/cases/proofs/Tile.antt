-- The tile of P7 as it lies in lent memory: painting may be asked of it, and what painting then says is about its three layers. Assumes nothing.
use Rattle.std.specs.Prelude.{◌≡◌, ◌∷◌, ◌≤◌}
use Rattle.laws.proofs.Prelude.{refl, ◌∙◌, true, List, [], Option, Some, None, ℕ, not-suc-le-zero, leb-true, Float, eq, of_bits, ℤ, pos}
use Rattle.laws.proofs.Prelude.{length, replicate, over, all, every_at}
use Rattle.styling.specs.Ascending.{strictly_ascends_from}
use Rattle.layer_table.specs.Lookup.{lookup}
use Rattle.layer_table.specs.Record.{in_range}
use Rattle.layer_table.specs.Table.{words_at, layer_at, table_of, table_ids}
use Rattle.styling.specs.declared.Layer.{Layer}
use Rattle.pixel_segment.specs.Field.{cover_of}
use Rattle.segment_rows.specs.Search.{search_of, layer_part}
use Rattle.cover_statements.specs.Carry.{is_light}
use Rattle.cover_statements.specs.Entry.{cover_entry}
use Rattle.queue_statements.specs.Queue.{queue_of, held_in}
use Rattle.painter.specs.Clip.{clip_after}
use Rattle.painter.specs.Painting.{mark_in, plane_in, Paints}
use Rattle.painter.specs.InnerReady.{Ready}
use Rattle.painter.specs.declared.painting.Painting as painting
use Rattle.cases.specs.Answers.{is_a_half}
use Rattle.cases.specs.Inputs.{first_clip, second_clip, clipped_draw, three_layers, three_carries}
use Rattle.cases.specs.Numbers.{half_plane}
use Rattle.cases.specs.Seen.{no_plane, Known, Sees}
use Rattle.cases.specs.declared.clips.Seen.{Seen}
use Rattle.cases.proofs.Table.{cases}

abbrev pub ids : List ℕ
ids = 1 ∷ 2 ∷ 3 ∷ []

abbrev pub covers : List ℤ
covers = replicate 48 (pos 8)

abbrev pub records : List ℕ
records = 1 ∷ 0 ∷ 1 ∷ 1 ∷ 0 ∷ 0 ∷ 0 ∷ 0 ∷ 2 ∷ 0 ∷ 1 ∷ 5 ∷ 0 ∷ 0 ∷ 0 ∷ 0 ∷ 3 ∷ 0 ∷ 0 ∷ 0 ∷ 1 ∷ 1 ∷ 0 ∷ 0 ∷ []

pub ready : (colors plane : List Float) → 12 ≤ length colors → 256 ≤ length plane → Ready 3 ids covers [] records colors 3 plane
unfolding strictly_ascends_from table_ids
ready colors plane h room =
    record {
      queued = record { ids_long = leb-true 3 3 refl; covers_long = leb-true 48 48 refl; ascending = refl };
      walks = record { few = leb-true 3 256 refl; long = leb-true 3 3 refl; ordered = record { up = λ i j k l. absurd (not-suc-le-zero l) } };
      table =
          record {
            words_long = leb-true 24 24 refl;
            floats_long = h;
            ascending = refl;
            in_range_lem = every_at 3 (λ i. in_range (words_at records i)) refl;
          };
      room = room;
    }

pub painted : (colors : List Float) {id : ℕ} {layer : Layer} {clip : Option ℕ} {old plane : List Float} {r : painting.Painting} → Paints (table_of records colors 3) (queue_of 3 ids covers) [] id layer clip old r plane → Paints three_layers three_carries [] id layer clip old r plane
unfolding table_of layer_at queue_of cover_entry
painted colors p = p

-- each of the three may be painted
module _ {l : Layer} where
  pub first_known : l ≡ first_clip → Known l
  unfolding lookup is_light held_in layer_part search_of cover_of
  first_known e = rw e (refl, refl)

  pub second_known : l ≡ second_clip → Known l
  unfolding lookup is_light held_in layer_part search_of cover_of
  second_known e = rw e (refl, refl)

  pub draw_known : l ≡ clipped_draw → Known l
  unfolding lookup is_light held_in layer_part search_of cover_of
  draw_known e = rw e (refl, refl)

-- a plane of 0.5 over one of zeros
pub all_half : all is_a_half (over half_plane no_plane) ≡ true
unfolding over eq of_bits
all_half = refl

-- what is seen of a layer whose mark is 0 and whose plane is 0.5, by the table of cases
pub record Unused (s : Seen) (clip : Option ℕ) : Type 0 where
  pub clip_is : s.clip ≡ clip
  pub mark_is : s.mark ≡ 0
  pub half_is : s.is_half ≡ true

unused : {l : Layer} (layer : Layer) {c : Option ℕ} (clip after : Option ℕ) {s : Seen} → l ≡ layer → c ≡ clip → clip_after layer.props.func layer.id clip ≡ after → mark_in three_layers three_carries [] layer.id layer clip ≡ 0 → plane_in three_carries [] layer.id layer ≡ half_plane → Sees l c s → Unused s after
unused {l} layer {c} clip after {s} e k ends mark plane sees =
    record {
      clip_is = sees.clip_is ∙ rw (e, k) ends;
      mark_is = sees.mark_is ∙ rw (e, k) mark;
      half_is = sees.half_is ∙ rw (e, plane) all_half;
    }

module _ {l : Layer} {c : Option ℕ} {s : Seen} where
  pub first_seen : l ≡ first_clip → c ≡ None → Sees l c s → Unused s (Some 2)
  first_seen e k = unused first_clip None (Some 2) e k cases.p7_first cases.p7_first_mark cases.p7_first_plane

  pub second_seen : l ≡ second_clip → c ≡ Some 2 → Sees l c s → Unused s (Some 2)
  second_seen e k = unused second_clip (Some 2) (Some 2) e k cases.p7_second cases.p7_second_mark cases.p7_second_plane

  pub draw_seen : l ≡ clipped_draw → c ≡ Some 2 → Sees l c s → Unused s None
  draw_seen e k = unused clipped_draw (Some 2) None e k cases.p7_clip cases.p7_mark cases.p7_plane
