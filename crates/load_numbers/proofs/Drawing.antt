-- A segment's line by four draws: each number fits its width, and each draw starts from the state that the one before it left.
-- Assumes nothing.
use Rattle.std.specs.Prelude.{◌≡◌, ◌∷◌, ◌/◌, ◌%◌, ◌<◌, ◌-ℤ◌}
use Rattle.laws.proofs.Prelude.{ap, ◌∙◌, [], ℕ, arith, pos, to_z-of_z, w32, SFits, to_z, of_z, sfits}
use mir.ValLaws.{to_z_pos}
use Rattle.job_text_statements.specs.Job.{segment_values}
use Rattle.load_statements.specs.Draw.{next, draw_of_state, state_after, draw_at}
use Rattle.load_statements.specs.Load.{segment_from}
use Rattle.load_statements.proofs.Fields.{cover_small}

pub cover_fits : (v : ℕ) → SFits w32 (to_z w32 (v % 33) -ℤ pos 16)
cover_fits v =
    rw (to_z_pos w32 (v % 33) (omega arith))
    (sfits w32 (pos (v % 33) -ℤ pos 16) (record { above = omega (arith, cover_small v); below = omega (arith, cover_small v) }))

-- ---- the four draws

-- what a draw from the state s gives, and the state that it leaves
pub record Draws (s v t : ℕ) : Type 0 where
  pub value : v ≡ draw_of_state (next s)
  pub state : t ≡ next s

pub drawn : {s v t : ℕ} → (v ≡ draw_of_state (next s)) × (t ≡ next s) → Draws s v t
drawn e = record { value = e.0; state = e.1 }

module _ (s slot : ℕ) {v₁ v₂ v₃ v₄ s₁ s₂ s₃ s₄ : ℕ} (a : Draws s v₁ s₁) (b : Draws s₁ v₂ s₂) (c : Draws s₂ v₃ s₃) (d : Draws s₃ v₄ s₄) where
  pub state_after_lem : s₄ ≡ state_after s 4
  unfolding state_after
  state_after_lem = d.state ∙ ap next (c.state ∙ ap next (b.state ∙ ap next a.state))

  first : v₁ ≡ draw_at s 1
  unfolding state_after
  first = a.value

  second : v₂ ≡ draw_at s 2
  unfolding state_after
  second = b.value ∙ ap (λ (x : ℕ). draw_of_state (next x)) a.state

  third : v₃ ≡ draw_at s 3
  unfolding state_after
  third = c.value ∙ ap (λ (x : ℕ). draw_of_state (next x)) (b.state ∙ ap next a.state)

  fourth : v₄ ≡ draw_at s 4
  unfolding state_after
  fourth = d.value ∙ ap (λ (x : ℕ). draw_of_state (next x)) (c.state ∙ ap next (b.state ∙ ap next a.state))

  pub line_is : slot < 32760
      → to_z w32 (slot / 8) ∷ to_z w32 (slot % 8) ∷ to_z w32 (v₁ % 16) ∷ to_z w32 (v₂ % 16) ∷ pos 1 ∷ to_z w32 (v₃ % 33) ∷ to_z w32 (of_z w32 (to_z w32 (v₄ % 33) -ℤ pos 16)) ∷ []
      ≡ segment_values (segment_from s slot)
  unfolding segment_from
  line_is h =
      rw (
        to_z-of_z (cover_fits v₄),
        to_z_pos w32 (slot / 8) (omega arith),
        to_z_pos w32 (slot % 8) (omega arith),
        to_z_pos w32 (v₁ % 16) (omega arith),
        to_z_pos w32 (v₂ % 16) (omega arith),
        to_z_pos w32 (v₃ % 33) (omega arith),
        to_z_pos w32 (v₄ % 33) (omega arith),
        first,
        second,
        third,
        fourth,
      )
