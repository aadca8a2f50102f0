-- Laws of the carry and of number 9. Assumes nothing.
use Rattle.std.specs.Prelude.{◌≡◌, ◌+◌, ◌≤◌, ◌<◌, ◌+ℤ◌}
use Rattle.laws.proofs.Prelude.{sym, ◌∙◌, true, List, [], ℕ, arith, leb-true, ℤ, pos, nat_abs, +ℤ_idr, ext_get_or, length}
use Rattle.laws.proofs.Prelude.{every_at, abs_add, length_tabulate, get_d_tabulate}
use Rattle.laws.proofs.Sums.{sum_abs}
use Rattle.pixel_segment.specs.Field.{cover_of}
use Rattle.cover_statements.specs.Carry.{in_row, cover_in, load_in, light_at, is_light, carry_of}
use Rattle.cover_statements.specs.Cover.{cover_at, no_cover}
use Rattle.cover_statements.proofs.Filled.{get_d_default}

-- a layer without a carry has 0 in each row
pub no_cover_at : (n y : ℕ) → cover_at (no_cover n) y ≡ pos 0
unfolding no_cover
no_cover_at n y = get_d_default n y

-- a carry by its rows
pub carry_length : (ws : List ℕ) (n : ℕ) (covers : List ℤ) (part : List ℕ) → length (carry_of ws n covers part) ≡ n
unfolding carry_of
carry_length ws n covers part = length_tabulate n _

pub carry_at_lem : (ws : List ℕ) (n : ℕ) (covers : List ℤ) (part : List ℕ) (y : ℕ) → y < n → cover_at (carry_of ws n covers part) y ≡ cover_at covers y +ℤ cover_in ws y part
unfolding carry_of
carry_at_lem ws n covers part y h = get_d_tabulate n (λ r. cover_at covers r +ℤ cover_in ws r part) (pos 0) y h

-- where number 9 does not apply, in each row the absolute incoming cover and the absolute covers of the part are within 127
pub record Light (ws : List ℕ) (n : ℕ) (covers : List ℤ) (part : List ℕ) : Type 0 where
  pub at : (y : ℕ) → y < n → nat_abs (cover_at covers y) + load_in ws y part ≤ 127

pub light : {ws : List ℕ} {n : ℕ} {covers : List ℤ} {part : List ℕ} → is_light ws n covers part ≡ true → Light ws n covers part
unfolding is_light
light {ws} {n} {covers} {part} e = record { at = λ y h. leb-true _ _ (every_at n (light_at ws covers part) e y h) }

-- a carry is again within 127
pub carry_small : {ws : List ℕ} {n : ℕ} {covers : List ℤ} {part : List ℕ} → Light ws n covers part → (y : ℕ) → y < n → nat_abs (cover_at (carry_of ws n covers part) y) ≤ 127
carry_small {ws} {n} {covers} {part} l y h =
    rw (carry_at_lem ws n covers part y h)
    (omega (arith, l.at y h, abs_add (cover_at covers y) (cover_in ws y part), sum_abs (in_row ws y) (cover_of ws) part))

-- with no segments it is the incoming cover
pub carry_none : (ws : List ℕ) (n : ℕ) (covers : List ℤ) → length covers ≡ n → carry_of ws n covers [] ≡ covers
carry_none ws n covers e =
    ext_get_or (pos 0) (carry_of ws n covers []) covers (carry_length ws n covers [] ∙ sym e)
    (λ y h. carry_at_lem ws n covers [] y (rw (carry_length ws n covers []) at h) ∙ +ℤ_idr (cover_at covers y))
