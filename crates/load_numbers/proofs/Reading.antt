-- Each answer of `read_field` and of `read_input`, from the tests that lead to it.
-- Assumes nothing.
use Rattle.std.specs.Prelude.{◌≡◌, ◌&&◌, ◌+◌, ◌^◌, ◌≤◌, ◌<◌}
use Rattle.laws.proofs.Prelude.{sym, ap, ◌∙◌, true, false, List, [], Some, None, ℕ, add-one, arith, eq-eqb, ne_eqb}
use Rattle.laws.proofs.Prelude.{ltb, length, drop, get_or, drop_of_length-le, drop-cons}
use Rattle.decimal.specs.Parse.{parsed}
use Rattle.decimal.specs.Read.{UnsignedRead}
use Rattle.load_statements.specs.Load.{asked}
use Rattle.load_statements.specs.Input.{line_ended, parse_field, after_count, after_tiles, after_seed, ask}
use Rattle.load_numbers.specs.Read.{FieldRead}

-- ---- a field

module _ {limit : ℕ} (end : ℕ) {s : List ℕ} {at : ℕ} where
  pub missing : UnsignedRead limit s at None → FieldRead limit end s at None
  unfolding parse_field
  missing u = record { answer = ap (line_ended end) u.answer; within = omega arith }

  module _ {n next : ℕ} (u : UnsignedRead limit s at (Some (n, next))) where
    pub no_end : length s ≤ next → FieldRead limit end s at None
    unfolding parse_field
    no_end h = record {
      answer = ap (λ (t : List ℕ). line_ended end (parsed n t)) (sym (drop_of_length-le s h)) ∙ ap (line_ended end) u.answer;
      within = omega arith;
    }

    pub other_end : next < length s → (get_or s next 0 ≡ end → ⊥) → FieldRead limit end s at None
    unfolding parse_field
    other_end h e = record {
      answer = rw (drop-cons s next 0 h, ne_eqb (get_or s next 0) end e) at (ap (line_ended end) u.answer);
      within = omega arith;
    }

    pub number : next < length s → get_or s next 0 ≡ end → FieldRead limit end s at (Some (n, next + 1))
    unfolding parse_field
    number h e = record {
      answer = simp add-one (rw (drop-cons s next 0 h, eq-eqb (get_or s next 0) end e) at (ap (line_ended end) u.answer));
      within = omega arith;
    }

-- ---- the line

module _ {s : List ℕ} where
  pub no_seed : FieldRead (2 ^ 32) 32 s 0 None → None ≡ ask s
  unfolding ask
  no_seed f = ap after_seed f.answer

  module _ {seed second : ℕ} (f : FieldRead (2 ^ 32) 32 s 0 (Some (seed, second))) where
    pub no_tiles : FieldRead 4096 32 s second None → None ≡ ask s
    unfolding ask
    no_tiles g = ap (after_tiles seed) g.answer ∙ ap after_seed f.answer

    module _ {tiles third : ℕ} (g : FieldRead 4096 32 s second (Some (tiles, third))) where
      pub no_count : FieldRead 513 10 s third None → None ≡ ask s
      unfolding ask
      no_count k = ap (after_count seed tiles) k.answer ∙ ap (after_tiles seed) g.answer ∙ ap after_seed f.answer

      module _ {count last : ℕ} (k : FieldRead 513 10 s third (Some (count, last))) where
        line : after_count seed tiles (parsed count (drop last s)) ≡ ask s
        unfolding ask
        line = ap (after_count seed tiles) k.answer ∙ ap (after_tiles seed) g.answer ∙ ap after_seed f.answer

        pub more_behind : last < length s → None ≡ ask s
        more_behind h = rw (drop-cons s last 0 h) at line

        module _ (h : length s ≤ last) where
          ended_line : after_count seed tiles (parsed count []) ≡ ask s
          ended_line = rw (drop_of_length-le s h) at line

          pub numbers : (ltb 0 tiles && ltb 0 count) ≡ true → Some (asked seed tiles count) ≡ ask s
          numbers e = rw e at ended_line

          pub nothing : (ltb 0 tiles && ltb 0 count) ≡ false → None ≡ ask s
          nothing e = rw e at ended_line
