-- A line of the report, printed where there is room for the longest: its bytes, and the place after it.
-- Assumes nothing.
use Rattle.std.specs.Prelude.{◌≡◌, ◌+◌, ◌*◌, ◌≤◌, Option, None, unwrap_or}
use Rattle.laws.proofs.Prelude.{subst, ◌∙◌, List, Some, ℕ, arith, le-leb, length, get_or, length-append, w32, Fits}
use Rattle.decimal.specs.Print.{Printing}
use Rattle.decimal.proofs.Print.{ten}
use Rattle.report.specs.Text.{op_field, tile_text, refusal_text}
use Rattle.report.specs.Put.{Put}
use Rattle.report.specs.declared.Op.{Op}
use Rattle.report.specs.declared.Op.TheVariants as decision
use Rattle.report.specs.declared.TileLine.{TileLine}
use Rattle.row_printing.specs.Told.{tile_in}

-- ---- how long a line is at most

op_long : (o : Op) → length (op_field o) ≤ 6
op_long decision.None = omega arith
op_long decision.Solid = omega arith
op_long decision.Paint = omega arith

tile_long : (t : TileLine) → Fits w32 t.tile → Fits w32 t.listed → Fits w32 t.shown → Fits w32 t.octets → Fits w32 t.carried → length (tile_text t) ≤ 61
unfolding tile_text
tile_long t a b c d e =
    simp length-append
    (omega (arith, op_long t.op, ten t.tile a, ten t.listed b, ten t.shown c, ten t.octets d, ten t.carried e))

pub refusal_long : (n : ℕ) → Fits w32 n → length (refusal_text n) ≤ 19
unfolding refusal_text
refusal_long n h = simp length-append (omega (arith, ten n h))

-- ---- where there is room

module _ {text out out' : List ℕ} {at : ℕ} {p : Option ℕ} (q : Put text out at p out') where
  pub placed : {r : ℕ} → r ≡ unwrap_or p at → at + length text ≤ length out → Printing text out at r out'
  placed {r} e h =
      let room = le-leb (at + length text) (length out) h in
      record { answer = e ∙ by p (rw room at q.answer); printed = rw room at q.printed }
    where
      by : (x : Option ℕ) → x ≡ Some (at + length text) → unwrap_or x at ≡ at + length text
      by (Some i) z = cc
      by None z = absurd (let o : ◌≡◌ {A = ℕ} 0 1 = cc in omega arith)

  -- with room for k bytes
  pub placed_in : (k : ℕ) {r : ℕ} → r ≡ unwrap_or p at → length text ≤ k → at + k ≤ length out → Printing text out at r out' × (r ≤ at + k)
  placed_in k e l h =
      let w = placed e (omega arith) in
      (w, omega (arith, w.answer))

-- line i of the told words, as that of a tile
module _ (told : List ℕ) (i tile : ℕ) where
  pub tile_placed : {out out' : List ℕ} {at r : ℕ} {line : TileLine} {p : Option ℕ} → Put (tile_text line) out at p out' → line ≡ tile_in told i tile → r ≡ unwrap_or p at
      → Fits w32 tile → ((k : ℕ) → Fits w32 (get_or told k 0)) → at + 61 ≤ length out → Printing (tile_text (tile_in told i tile)) out at r out' × (r ≤ at + 61)
  tile_placed {out} {out'} {at} {r} {line} {p} q e f ft fw h =
      let long = tile_long (tile_in told i tile) ft (fw (i * 5 + 1)) (fw (i * 5 + 2)) (fw (i * 5 + 3)) (fw (i * 5 + 4)) in
      placed_in (subst (λ (t : TileLine). Put (tile_text t) out at p out') e q) 61 f long h
