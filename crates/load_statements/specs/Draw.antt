-- The generator of loads. Stands for document 02, W-204: 'the generator's state s starts as the seed (32 bits); each draw sets s to
-- (1,664,525 × s + 1,013,904,223) mod 4,294,967,296 and gives s divided by 65,536, rounded down'.
use Rattle.std.specs.Prelude.{◌+◌, ◌*◌, ◌/◌, ◌%◌, ◌^◌}
use Rattle.laws.specs.Prelude.{ℕ, zero, suc}

unfoldable pub next : ℕ → ℕ
next s = (1664525 * s + 1013904223) % 2 ^ 32

-- what a draw gives, of the state that it leaves
abbrev pub draw_of_state : ℕ → ℕ
draw_of_state s = s / 65536

-- the state after n draws, from the state s
unfoldable pub state_after : ℕ → ℕ → ℕ
state_after s zero = s
state_after s (suc n) = next (state_after s n)

-- what the n-th draw gives, the first being number 1
abbrev pub draw_at : ℕ → ℕ → ℕ
draw_at s n = draw_of_state (state_after s n)
