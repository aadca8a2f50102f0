-- Flags that are worked out from two rows and two tables are truthful. Assumes nothing.
use Rattle.std.specs.Prelude.{◌≡◌, ◌&&◌, ◌||◌, ◌∷◌, ◌+◌, ◌*◌, ◌/◌, ◌%◌, ◌≤◌, ◌<◌}
use Rattle.laws.proofs.Prelude.{refl, sym, ap, ap₂, ◌∙◌, Bool, true, false, cond, not, false≢true, List, [], map, ℕ, zero, suc}
use Rattle.laws.proofs.Prelude.{min, arith, eqb-true, ne_eqb, lt-ltb, le-leb, eqb, ltb, leb, Float}
use Rattle.laws.proofs.Prelude.{length, get_or, Answer, given, tabulate, all, count_by, both, left, right, length_tabulate, get_d_tabulate}
use Rattle.laws.proofs.Prelude.{is_tabulate}
use Rattle.laws.proofs.Maps.{map_tabulate}
use Rattle.styling.specs.Ascending.{strictly_ascends}
use Rattle.styling.specs.declared.Color.{Color}
use Rattle.styling.specs.Codes.{rule_of, fill_of, mode_of}
use Rattle.styling.specs.declared.Fill.{Fill}
use Rattle.styling.specs.declared.Func.{Func}
use Rattle.styling.specs.declared.Func.TheVariants.{Draw, Clip}
use Rattle.styling.specs.declared.Layer.{Layer}
use Rattle.styling.specs.declared.Props.{Props}
use Rattle.layer_table.specs.declared.Words.{Words}
use Rattle.layer_table.specs.Record.{in_range, func_of, layer_of}
use Rattle.layer_table.specs.Table.{id_at, words_at, color_at, layer_at, table_ids, is_table_short, is_valid, is_table, Table}
use Rattle.layer_table.specs.Lookup.{lookup, record_place, Place, Missing}
use Rattle.layer_table.proofs.Judging.{table}
use Rattle.layer_table.proofs.Listed.{length_ids, get_d_ids}
use Rattle.layer_table.proofs.Looking.{place, missing}
use Rattle.layer_table.proofs.Ranges.{in_range_lem}
use Rattle.layer_table.proofs.Places.{Sought, held, missed, sought}
use Rattle.layer_carrying.specs.Carrying.{rule_from}
use Rattle.tile_layers.specs.Listing.{is_changed_by, is_changed}
use Rattle.row_statements.specs.Due.{OpenRow, table_on}
use Rattle.two_rows.specs.Apart.{below_tile_y}
use Rattle.kept_frames.specs.Alike.{same_float}
use Rattle.kept_frames.proofs.Bits.{same_float_lem}
use Rattle.kept_rows.specs.Along.{props_by, SameIn, revision_at, revision_on}
use Rattle.kept_rows.specs.Since.{is_nan, same_number, same_numbers, same_words, reads_color, same_record, same_at, layer_words, same_list, is_since, marked_words}
use Rattle.kept_rows.specs.Since.{marked, MarkedTold, MarkedTable}

-- ---- what the tests say

same_number_lem : (a b : Float) → same_number a b ≡ true → a ≡ b
same_number_lem a b h = same_float_lem a b (right (not (is_nan a)) (same_float a b) h)

same_numbers_lem : (c d : Color) → same_numbers c d ≡ true → c ≡ d
same_numbers_lem c d h =
    let red = same_number c.r d.r in
    let green = same_number c.g d.g in
    let blue = same_number c.b d.b in
    let alpha = same_number c.a d.a in
    let h1 = right red (green && (blue && alpha)) h in
    let h2 = right green (blue && alpha) h1 in
    let r = same_number_lem c.r d.r (left red (green && (blue && alpha)) h) in
    let g = same_number_lem c.g d.g (left green (blue && alpha) h1) in
    let b = same_number_lem c.b d.b (left blue alpha h2) in
    let a = same_number_lem c.a d.a (right blue alpha h2) in
    λ i. record { r = r i; g = g i; b = b i; a = a i }

pub same_list_lem : (xs ys : List ℕ) → same_list xs ys ≡ true → xs ≡ ys
same_list_lem [] [] e = refl
same_list_lem [] (y ∷ ys) e = absurd (false≢true e)
same_list_lem (x ∷ xs) [] e = absurd (false≢true e)
same_list_lem (x ∷ xs) (y ∷ ys) e =
    ap₂ (λ (z : ℕ) (zs : List ℕ). z ∷ zs) (eqb-true x y (left (eqb x y) (same_list xs ys) e)) (same_list_lem xs ys (right (eqb x y) (same_list xs ys) e))

-- a colour that is not read plays no part
fill_unread : (n : ℕ) (c d : Color) → eqb n 0 ≡ false → fill_of n c ≡ fill_of n d
fill_unread zero c d e = absurd (false≢true (sym e))
fill_unread (suc n) c d e = refl

same_func : (w : Words) (c d : Color) → (not (reads_color w) || same_numbers c d) ≡ true → func_of w c ≡ func_of w d
same_func w c d h = by (eqb w.func 0) (eqb w.fill 0) refl h
  where
    by : (draws fills : Bool) → eqb w.fill 0 ≡ fills → (not (draws && fills) || same_numbers c d) ≡ true
        → cond draws (Draw (record { is_clipped = eqb w.clipped 1; fill = fill_of w.fill c; blend_mode = mode_of w.mode })) (Clip w.span)
        ≡ cond draws (Draw (record { is_clipped = eqb w.clipped 1; fill = fill_of w.fill d; blend_mode = mode_of w.mode })) (Clip w.span)
    by true true e q =
        ap (λ (x : Color). Draw (record { is_clipped = eqb w.clipped 1; fill = fill_of w.fill x; blend_mode = mode_of w.mode })) (same_numbers_lem c d q)
    by true false e q =
        ap (λ (f : Fill). Draw (record { is_clipped = eqb w.clipped 1; fill = f; blend_mode = mode_of w.mode })) (fill_unread w.fill c d e)
    by false fills e q = refl

-- records that are the same say the same of a layer, but for its flag
same_props : (v w : Words) (c d : Color) → same_words v w ≡ true → (not (reads_color w) || same_numbers c d) ≡ true → (layer_of v c).props ≡ (layer_of w d).props
same_props v w c d h k =
    let ru = eqb v.rule w.rule in
    let fu = eqb v.func w.func in
    let sp = eqb v.span w.span in
    let cl = eqb v.clipped w.clipped in
    let fi = eqb v.fill w.fill in
    let mo = eqb v.mode w.mode in
    let h1 = right ru (fu && (sp && (cl && (fi && mo)))) h in
    let h2 = right fu (sp && (cl && (fi && mo))) h1 in
    let h3 = right sp (cl && (fi && mo)) h2 in
    let h4 = right cl (fi && mo) h3 in
    let rule = eqb-true v.rule w.rule (left ru (fu && (sp && (cl && (fi && mo)))) h) in
    let func = eqb-true v.func w.func (left fu (sp && (cl && (fi && mo))) h1) in
    let span = eqb-true v.span w.span (left sp (cl && (fi && mo)) h2) in
    let clipped = eqb-true v.clipped w.clipped (left cl (fi && mo) h3) in
    let fill = eqb-true v.fill w.fill (left fi mo h4) in
    let mode = eqb-true v.mode w.mode (right fi mo h4) in
    (λ i. (layer_of (record { id = 0; rule = rule i; func = func i; span = span i; clipped = clipped i; fill = fill i; mode = mode i; unchanged = 0 }) c).props)
    ∙ ap (λ (f : Func). record { fill_rule = rule_of w.rule; func = f }) (same_func w c d k)

-- ---- the marked table, word by word

module _ (o : OpenRow) (revs : List ℕ) (o' : OpenRow) (revs' : List ℕ) where
  abbrev old : List ℕ
  old = o'.table.words

  abbrev new : List ℕ
  new = marked_words o revs o' revs'

  word_kept : (k : ℕ) → k < length old → (k % 8 ≡ 7 → ⊥) → get_or new k 0 ≡ get_or old k 0
  unfolding marked_words
  word_kept k l n = get_d_tabulate (length old) _ 0 k l ∙ rw (ne_eqb (k % 8) 7 n) refl

  flag_at : (i : ℕ) → i < o'.table.count → 8 * i + 7 < length old → get_or new (8 * i + 7) 0 ≡ cond (is_since o revs o' revs' i) 1 0
  unfolding marked_words
  flag_at i c l =
      let seven : (8 * i + 7) % 8 ≡ 7 = omega arith in
      let place : (8 * i + 7) / 8 ≡ i = omega arith in
      get_d_tabulate (length old) _ 0 (8 * i + 7) l ∙ rw (seven, place, lt-ltb i o'.table.count c) refl

  same_length : length new ≡ length old
  unfolding marked_words
  same_length = length_tabulate (length old) _

  module _ (long : 8 * o'.table.count ≤ length old) where
    kept_at : (i k : ℕ) → i < o'.table.count → k < 7 → get_or new (8 * i + k) 0 ≡ get_or old (8 * i + k) 0
    kept_at i k c h = word_kept (8 * i + k) (omega (arith, c, h, long)) (λ e. omega (arith, e, h))

    id_kept : (i : ℕ) → i < o'.table.count → id_at new i ≡ id_at old i
    id_kept i c = word_kept (8 * i) (omega (arith, c, long)) (λ e. omega (arith, e))

    ids_kept : table_ids new o'.table.count ≡ table_ids old o'.table.count
    unfolding table_ids
    ids_kept =
        is_tabulate o'.table.count (id_at old) 0 (tabulate o'.table.count (id_at new)) (length_tabulate o'.table.count (id_at new))
        (λ i c. get_d_tabulate o'.table.count (id_at new) 0 i c ∙ id_kept i c)

    same_words_lem : (i : ℕ) → i < o'.table.count → words_at new i ≡ record {
      id = id_at old i;
      rule = get_or old (8 * i + 1) 0;
      func = get_or old (8 * i + 2) 0;
      span = get_or old (8 * i + 3) 0;
      clipped = get_or old (8 * i + 4) 0;
      fill = get_or old (8 * i + 5) 0;
      mode = get_or old (8 * i + 6) 0;
      unchanged = cond (is_since o revs o' revs' i) 1 0;
    }
    same_words_lem i c =
        let z = id_kept i c in
        let r = kept_at i 1 c (omega arith) in
        let f = kept_at i 2 c (omega arith) in
        let s = kept_at i 3 c (omega arith) in
        let p = kept_at i 4 c (omega arith) in
        let l = kept_at i 5 c (omega arith) in
        let m = kept_at i 6 c (omega arith) in
        let u = flag_at i c (omega (arith, c, long)) in
        λ j. record { id = z j; rule = r j; func = f j; span = s j; clipped = p j; fill = l j; mode = m j; unchanged = u j }

    -- ---- a layer that the marked table calls unchanged

    flagged : (b : Bool) → not (eqb (cond b 1 0) 1) ≡ false → b ≡ true
    flagged true e = refl
    flagged false e = absurd (false≢true (sym e))

    since_at : (i : ℕ) → i < o'.table.count → not (layer_at new o'.table.floats i).is_unchanged ≡ false → is_since o revs o' revs' i ≡ true
    unfolding layer_at
    since_at i c e = flagged (is_since o revs o' revs' i) (ap (λ (w : Words). not (eqb w.unchanged 1)) (sym (same_words_lem i c)) ∙ e)

    module _ (t₀ : Table o.table.words o.table.floats o.table.count) (up : strictly_ascends (table_ids new o'.table.count) ≡ true) (first : o.from ≡ o'.from) where
      abbrev layers : List Layer
      layers = table_on (marked o revs o' revs')

      -- the same record and words, and the same revision
      abbrev Same : ℕ → Type 0
      Same id = SameIn id o (marked o revs o' revs') × (revision_on o revs id ≡ revision_on (marked o revs o' revs') revs' id)

      same_in : (id i : ℕ) → i < o'.table.count → id_at old i ≡ id → lookup layers id ≡ given (layer_at new o'.table.floats i)
          → record_place (table_ids new o'.table.count) id ≡ given i
          → is_since o revs o' revs' i ≡ true → Same id
      unfolding layer_at
      same_in id i c e looked placed h =
          let found = same_at o.table revs (record_place (table_ids o.table.words o.table.count) (id_at old i)) o'.table revs' i in
          let lists = same_list (layer_words (id_at old i) o.row) (layer_words (id_at old i) o'.row) in
          by (sought 0 (table_ids o.table.words o.table.count) id)
          (ap (λ (k : ℕ). same_at o.table revs (record_place (table_ids o.table.words o.table.count) k) o'.table revs' i) (sym e)
          ∙ left found lists h)
          (same_list_lem (layer_words id o.row) (layer_words id o'.row)
          (ap (λ (k : ℕ). same_list (layer_words k o.row) (layer_words k o'.row)) (sym e) ∙ right found lists h))
        where
          by : Sought 0 (table_ids o.table.words o.table.count) id
              → same_at o.table revs (record_place (table_ids o.table.words o.table.count) id) o'.table revs' i ≡ true
              → layer_words id o.row ≡ layer_words id o'.row
              → Same id
          by (missed n g) s w = absurd (false≢true (sym (ap (λ (a : Answer ℕ). same_at o.table revs a o'.table revs' i) g) ∙ s))
          by (held j p q g) s w =
              let low : j < o.table.count = omega (arith, p, length_ids o.table.words o.table.count) in
              let at : Place o.table.words o.table.floats o.table.count id j =
              place t₀.ascending low (sym (get_d_ids o.table.words o.table.count j low) ∙ q) in
              let zeroed : 0 + j ≡ j = omega arith in
              let there : record_place (table_ids o.table.words o.table.count) id ≡ given j = g ∙ ap given zeroed in
              let record_same = same_record o.table j o'.table i in
              let Holds-same = eqb (get_or revs j 0) (get_or revs' i 0) in
              let all_same : (record_same && Holds-same) ≡ true = sym (ap (λ (a : Answer ℕ). same_at o.table revs a o'.table revs' i) there) ∙ s in
              let wordy = same_words (words_at o.table.words j) (words_at old i) in
              let colours = not (reads_color (words_at old i)) || same_numbers (color_at o.table.floats j) (color_at o'.table.floats i) in
              let both-same = left record_same Holds-same all_same in
              let props : (layer_at o.table.words o.table.floats j).props ≡ (layer_at new o'.table.floats i).props =
              same_props (words_at o.table.words j) (words_at old i) (color_at o.table.floats j) (color_at o'.table.floats i)
              (left wordy colours both-same) (right wordy colours both-same)
              ∙ sym (ap (λ (v : Words). (layer_of v (color_at o'.table.floats i)).props) (same_words_lem i c)) in (
                record {
                  agree =
                      record {
                        first = first;
                        segments = λ v. ap (λ (ws : List ℕ). count_by (eqb v) (map below_tile_y ws)) w;
                        rule = ap rule_from at.looked ∙ ap (λ (x : Props). x.fill_rule) props ∙ sym (ap rule_from looked);
                      };
                  props = ap props_by at.looked ∙ ap given props ∙ sym (ap props_by looked);
                },
                ap (revision_at revs) there ∙ eqb-true (get_or revs j 0) (get_or revs' i 0) (right record_same Holds-same all_same) ∙ sym
                    (ap (revision_at revs') placed),
              )

      told : (id : ℕ) → is_changed layers id ≡ false → Same id
      told id c = by (sought 0 (table_ids new o'.table.count) id)
        where
          by : Sought 0 (table_ids new o'.table.count) id → Same id
          by (missed n g) =
              let gone : Missing new o'.table.floats o'.table.count id =
              missing (λ i p q. n i (rw (length_ids new o'.table.count) p) (get_d_ids new o'.table.count i p ∙ q)) in
              absurd (false≢true (sym (sym (ap is_changed_by gone.looked) ∙ c)))
          by (held i p q g) =
              let low : i < o'.table.count = omega (arith, p, length_ids new o'.table.count) in
              let here : id_at new i ≡ id = sym (get_d_ids new o'.table.count i low) ∙ q in
              let at : Place new o'.table.floats o'.table.count id i = place up low here in
              let zeroed : 0 + i ≡ i = omega arith in
              same_in id i low (sym (id_kept i low) ∙ here) at.looked (g ∙ ap given zeroed) (since_at i low (sym (ap is_changed_by at.looked) ∙ c))

all_tabulate : {A : Type 0} (p : A → Bool) (n : ℕ) (f : ℕ → A) → ((i : ℕ) → i < n → p (f i) ≡ true) → all p (tabulate n f) ≡ true
all_tabulate p zero f h = refl
all_tabulate p (suc n) f h =
    both (p (f 0)) (all p (tabulate n (λ i. f (suc i)))) (h 0 (omega arith)) (all_tabulate p n (λ i. f (suc i)) (λ i c. h (suc i) (omega (arith, c))))

pub marked_told : MarkedTold
marked_told o o' revs revs' t₀ t first =
    let judged = table t in
    let same = told o revs o' revs' (omega (arith, judged.words_long, same_length o revs o' revs')) (table t₀) judged.ascending first in
    ((λ id c. (same id c).0), (λ id c. (same id c).1))

-- ---- the marked table is none that 1 or 4 turns down

-- a record with another flag
abbrev flagged_as : Words → Bool → Words
flagged_as w b =
    record { id = w.id; rule = w.rule; func = w.func; span = w.span; clipped = w.clipped; fill = w.fill; mode = w.mode; unchanged = cond b 1 0 }

marked_range : (w : Words) (b : Bool) → in_range w ≡ true → in_range (flagged_as w b) ≡ true
marked_range w b h =
    let r = in_range_lem w h in
    rw (
      le-leb w.id 2097151 r.id_le,
      le-leb w.rule 1 r.rule_le,
      le-leb w.func 1 r.func_le,
      le-leb w.span 2097151 r.span_le,
      le-leb
          w.clipped 1 r.clipped_le,
      le-leb w.fill 2 r.fill_le,
      le-leb w.mode 15 r.mode_le,
    )
    (last b)
  where
    last : (t : Bool) → leb (cond t 1 0) 1 ≡ true
    last true = refl
    last false = refl

pub marked_table : MarkedTable
unfolding is_table is_table_short is_valid table_ids
marked_table o o' revs revs' t =
    let words = o'.table.words in
    let floats = o'.table.floats in
    let count = o'.table.count in
    let judged : Table words floats count = table {words = words} {floats = floats} t in
    let now = marked_words o revs o' revs' in
    let short = left (not (is_table_short words floats count)) (is_valid (tabulate count (words_at words))) t in
    let long = judged.words_long in
    both (not (is_table_short now floats count)) (is_valid (tabulate count (words_at now)))
    (ap (λ (n : ℕ). not (ltb (min (n / 8) (length floats / 4)) count)) (same_length o revs o' revs') ∙ short)
    (both (all in_range (tabulate count (words_at now))) (strictly_ascends (map (λ (w : Words). w.id) (tabulate count (words_at now))))
    (all_tabulate in_range count (words_at now)
    (λ i c. ap in_range (same_words_lem o revs o' revs' long i c) ∙ marked_range (words_at words i) (is_since o revs o' revs' i) (judged.in_range_lem i c)))
    (ap strictly_ascends (map_tabulate (λ (w : Words). w.id) count (words_at now) ∙ ids_kept o revs o' revs' long) ∙ judged.ascending))
