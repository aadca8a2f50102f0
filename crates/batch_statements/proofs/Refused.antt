-- A batch that worked no tile stands where it began; so a refused one leaves everything as it was, and is refused as its first tile is. Assumes nothing.
use Rattle.std.specs.Prelude.{◌≡◌, ◌≤◌}
use Rattle.laws.proofs.Prelude.{refl, ap, ◌∙◌, Bool, true, false, cond, ℕ, zero, suc, arith, leb, Answer, refused, given}
use Rattle.row_statements.specs.TileWork.{TileAnswer}
use Rattle.batch_statements.specs.BatchLent.{BatchLent, has_room}
use Rattle.batch_statements.specs.Batch.{BatchRow, BatchAt, BatchEnd, BatchGiven, BatchCall, ended_at, work_at, tile_past, turn_by, turn_of, next_by, tiles_from, batch_start, batch_of, answer_of, BatchRefused}
use Rattle.batch_statements.specs.declared.Room as room

-- it stands where it was or works a tile more; and where it stands, a number that it ends with is the next tile's
pub record Stays (c : BatchRow) (s : BatchAt) (g : BatchGiven) : Type 0 where
  pub more : s.worked ≤ g.at.worked
  pub same : g.at.worked ≡ s.worked → g.at ≡ s
  pub number : g.at.worked ≡ s.worked → (n : ℕ) → g.end ≡ BatchEnd.next_refused n → (work_at c s).answer ≡ refused n

module _ (c : BatchRow) where
  ends : (s : BatchAt) (e : BatchEnd) → ((n : ℕ) → e ≡ BatchEnd.next_refused n → (work_at c s).answer ≡ refused n) → Stays c s (ended_at s e)
  ends s e h = record { more = omega arith; same = λ x. refl; number = λ x. h }

  module _ (r : room.Room) (k : ℕ) (go : (x : BatchAt) → Stays c x (tiles_from c r k x)) (s : BatchAt) where
    turned : (a : Answer TileAnswer) → (work_at c s).answer ≡ a → Stays c s (next_by c (turn_by c a s (work_at c s)).verdict s (tiles_from c r k (turn_by c a s (work_at c s)).at))
    turned (refused m) ea = ends s (BatchEnd.next_refused m) (λ n e. ea ∙ ap refused cc)
    turned (given t) ea =
        let rest = go (tile_past c s t (work_at c s)) in
        let more = rest.more in
        record { more = omega (arith, more); same = λ e. absurd (omega (arith, more, e)); number = λ e. absurd (omega (arith, more, e)) }

    by_room : (b : Bool) → Stays c s (cond b (next_by c (turn_of c s).verdict s (tiles_from c r k (turn_of c s).at)) (ended_at s BatchEnd.no_room))
    unfolding turn_of
    by_room true = turned (work_at c s).answer refl
    by_room false = ends s BatchEnd.no_room (λ n e. absurd (let z : ◌≡◌ {A = ℕ} 0 1 = cc in omega arith))

    by_end : (b : Bool) → Stays c s (cond b (ended_at s BatchEnd.row_end) (cond (has_room r s.worked s.used) (next_by c (turn_of c s).verdict s (tiles_from c r k (turn_of c s).at)) (ended_at s BatchEnd.no_room)))
    by_end true = ends s BatchEnd.row_end (λ n e. absurd (let z : ◌≡◌ {A = ℕ} 0 1 = cc in omega arith))
    by_end false = by_room (has_room r s.worked s.used)

  pub stays : (r : room.Room) (k : ℕ) (s : BatchAt) → Stays c s (tiles_from c r k s)
  unfolding tiles_from
  stays r zero s = ends s BatchEnd.asked (λ n e. absurd (let z : ◌≡◌ {A = ℕ} 0 1 = cc in omega arith))
  stays r (suc k) s = by_end r k (λ (x : BatchAt). stays r k x) s (leb s.state.to s.state.next)

pub batch_stays : (c : BatchCall) (m : BatchLent) → Stays c.over (batch_start c m) (batch_of c m)
unfolding batch_of
batch_stays c m = stays c.over _ c.tiles (batch_start c m)

-- a refusal says that no tile is worked, and which the next one's is
pub refusal_says : (worked : ℕ) (e : BatchEnd) (n : ℕ) → answer_of worked e ≡ refused n → (worked ≡ 0) × (e ≡ BatchEnd.next_refused n)
refusal_says worked BatchEnd.asked n h = absurd (let z : ◌≡◌ {A = ℕ} 0 1 = cc in omega arith)
refusal_says worked BatchEnd.row_end n h = absurd (let z : ◌≡◌ {A = ℕ} 0 1 = cc in omega arith)
refusal_says worked BatchEnd.no_room n h = absurd (let z : ◌≡◌ {A = ℕ} 0 1 = cc in omega arith)
refusal_says zero (BatchEnd.next_refused m) n h = (refl, ap BatchEnd.next_refused cc)
refusal_says (suc worked) (BatchEnd.next_refused m) n h = absurd (let z : ◌≡◌ {A = ℕ} 0 1 = cc in omega arith)

pub batch_refused : BatchRefused
batch_refused c m n h =
    let says = refusal_says (batch_of c m).at.worked (batch_of c m).end n h in
    let st = batch_stays c m in
    (st.same says.0, st.number says.0 n says.1)
