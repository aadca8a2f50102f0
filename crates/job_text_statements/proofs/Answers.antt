-- Each answer of `read_blocks`, from what its blocks give. An answer's text is `block_of s r`: of `Some (n, i)` the text from place i
-- on, of `None` none.
-- Assumes nothing.
use Rattle.std.specs.Prelude.{◌≡◌, ◌∷◌, ◌<◌, ◌≤◌}
use Rattle.laws.proofs.Prelude.{refl, sym, ap, ◌∙◌, List, [], Option, Some, None, ℕ, suc, ℤ, length, drop, get_or}
use Rattle.laws.proofs.Prelude.{drop_of_length-le, drop-cons}
use Rattle.lines.specs.Parse.{parse_block}
use Rattle.lines.specs.Read.{LinesRead, block_of}
use Rattle.job_text_statements.specs.Text.{head_names, layer_names, segment_names}
use Rattle.job_text_statements.specs.Parse.{after_segments, after_layers, after_head, parse_blocks}
use Rattle.job_text_statements.specs.Read.{BlocksStored}
use Rattle.job_text_statements.proofs.Forms.{not_long, one_line, other_lines}

module _ {s : List ℕ} (small : length s ≤ 65536) {head head' : List ℤ} where
  head_step : {r : Option (ℕ × ℕ)} → LinesRead (parse_block head_names 1 4 s) s head r head' → parse_blocks s ≡ after_head (parse_block head_names 1 4 s).lines (block_of s r)
  head_step b = not_long s small ∙ ap (after_head (parse_block head_names 1 4 s).lines) (sym b.answer)

  pub cut-head : LinesRead (parse_block head_names 1 4 s) s head None head' → parse_blocks s ≡ None
  cut-head b = head_step b

  module _ {n i : ℕ} (b : LinesRead (parse_block head_names 1 4 s) s head (Some (n, i)) head') where
    pub not-one : (n ≡ 1 → ⊥) → parse_blocks s ≡ None
    not-one h = head_step b ∙ other_lines (parse_block head_names 1 4 s).lines (drop i s) (λ e. h (b.count ∙ e))

    module _ (one : n ≡ 1) {layers layers' : List ℤ} where
      layers-step : {r : Option (ℕ × ℕ)} → LinesRead (parse_block layer_names 64 8 (drop i s)) s layers r layers'
          → parse_blocks s ≡ after_layers (parse_block head_names 1 4 s).lines (parse_block layer_names 64 8 (drop i s)).lines (block_of s r)
      layers-step q =
          head_step b
          ∙ one_line (parse_block head_names 1 4 s).lines (drop i s) (sym b.count ∙ one)
          ∙ ap (after_layers (parse_block head_names 1 4 s).lines (parse_block layer_names 64 8 (drop i s)).lines) (sym q.answer)

      pub cut-layers : LinesRead (parse_block layer_names 64 8 (drop i s)) s layers None layers' → parse_blocks s ≡ None
      cut-layers q = layers-step q

      module _ {m k : ℕ} (q : LinesRead (parse_block layer_names 64 8 (drop i s)) s layers (Some (m, k)) layers') {segments segments' : List ℤ} where
        segments-step : {r : Option (ℕ × ℕ)} → LinesRead (parse_block segment_names 512 7 (drop k s)) s segments r segments' → (t : Option (List ℕ)) → block_of s r ≡ t
            → parse_blocks s ≡ after_segments (parse_block head_names 1 4 s).lines (parse_block layer_names 64 8 (drop i s)).lines (parse_block segment_names 512 7 (drop k s)).lines t
        segments-step p t e =
            layers-step q
            ∙ ap (after_segments (parse_block head_names 1 4 s).lines (parse_block layer_names 64 8 (drop i s)).lines (parse_block segment_names 512 7 (drop k s)).lines) (sym p.answer ∙ e)

        pub cut-segments : LinesRead (parse_block segment_names 512 7 (drop k s)) s segments None segments' → parse_blocks s ≡ None
        cut-segments p = segments-step p None refl

        module _ {l end : ℕ} (p : LinesRead (parse_block segment_names 512 7 (drop k s)) s segments (Some (l, end)) segments') where
          pub left_over : end < length s → parse_blocks s ≡ None
          left_over h = segments-step p (Some (get_or s end 0 ∷ drop (suc end) s)) (ap Some (drop-cons s end 0 h))

          pub done : length s ≤ end → BlocksStored s head layers segments m l head' layers' segments'
          done h =
              record {
                blocks = record {
                  head = (parse_block head_names 1 4 s).lines;
                  layers = (parse_block layer_names 64 8 (drop i s)).lines;
                  segments = (parse_block segment_names 512 7 (drop k s)).lines;
                };
                parsed = segments-step p (Some []) (ap Some (drop_of_length-le s h));
                layer_lines = q.count;
                segment_lines = p.count;
                head_stored = b.stored;
                layers_stored = q.stored;
                segments_stored = p.stored;
              }
