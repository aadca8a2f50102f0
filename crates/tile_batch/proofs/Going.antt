-- A batch as the loop over its tiles goes: what is left, from where it stands, gives what the whole batch gives. Assumes nothing.
use Rattle.std.specs.Prelude.{◌≡◌, ◌&&◌, ◌+◌, ◌-◌, ◌^◌, ◌≤◌, ◌<◌}
use Rattle.laws.proofs.Prelude.{refl, ap, ap₂, sym, subst, ◌∙◌, Bool, true, false, cond, List, ℕ, suc, arith}
use Rattle.laws.proofs.Prelude.{le-leb, lt-leb, ltb-false, ltb-true, leb-true, ltb, leb, pos, left, right}
use Rattle.refusals.specs.Refusal.{Judgement, pass, refuse, judgement_in}
use Rattle.segment_rows.specs.Search.{tile_part}
use Rattle.row_statements.specs.Lent.{ListColumns, is_list_short}
use Rattle.row_statements.specs.State.{State, state_in}
use Rattle.row_statements.proofs.Works.{in_row_lem}
use Rattle.batch_statements.specs.BatchLent.{BatchLent, sided, has_room}
use Rattle.batch_statements.specs.Batch.{BatchRow, BatchAt, BatchGiven, TurnGiven, next_refused, no_room, row_end, asked, ended_at, turn_of, next_by, tiles_from, GivesBatch}
use Rattle.batch_statements.specs.declared.Batch.{Batch}
use Rattle.batch_statements.specs.declared.Room.{Room}
use Rattle.batch_steps.specs.InnerStanding.{is_pass, end_at, end_by, Ends}
use Rattle.batch_steps.specs.declared.Standing.{Standing}
use Rattle.tile_batch.specs.InnerTurns.{batch_in, BatchStands, in_row, Turnable, GivesStanding, BatchRoom}
use Rattle.tile_batch.proofs.Turning.{SameRoom, verdict_of, stands_next, refused_by_turn}

-- memory as it lies, and as it stood
pub side_back : (b : Bool) (m : BatchLent) → sided b (sided b m) ≡ m
side_back true m = refl
side_back false m = refl

-- what the code's value stands for after a tile
pub at_is : (c : BatchRow) (s : BatchAt) {r : Standing} {back : BatchLent} → GivesStanding (turn_of c s) r back → BatchStands c (turn_of c s).at → batch_in r (sided r.first back) ≡ (turn_of c s).at
at_is c s {r} {back} g st =
    let tile : pos r.state.next ≡ (turn_of c s).at.tile = ap (λ (x : State). pos x.next) g.state ∙ sym st.is_tile in
    let lent : sided r.first back ≡ (turn_of c s).at.lent = ap₂ sided g.first g.lent_is ∙ side_back (turn_of c s).at.first (turn_of c s).at.lent in
    λ i. record { state = g.state i; tile = tile i; first = g.first i; worked = g.worked i; used = g.used i; lent = lent i }

-- another tile is worked: none is refused, it is asked for, it is left, and there is room
pub record Goes (v : Judgement) (worked used next to tiles : ℕ) (r : Room) : Type 0 where
  pub passes : v ≡ pass
  pub more : worked < tiles
  pub inside : next < to
  pub room : has_room r worked used ≡ true

pub goes : (v : Judgement) (worked used next to tiles : ℕ) (r : Room) → (is_pass v && ltb worked tiles && ltb next to && has_room r worked used) ≡ true → Goes v worked used next to tiles r
goes (refuse n) worked used next to tiles r e = absurd (let z : ◌≡◌ {A = ℕ} 0 1 = cc in omega arith)
goes pass worked used next to tiles r e =
    let two = ltb worked tiles in
    let three = ltb next to in
    let first = left (two && three) (has_room r worked used) e in
    record {
      passes = refl;
      more = ltb-true worked tiles (left two three first);
      inside = ltb-true next to (right two three first);
      room = right (two && three) (has_room r worked used) e;
    }

-- the next tile's number is narrow
module _ {c : BatchRow} {s : BatchAt} (stands : BatchStands c s) where
  pub narrow : s.state.next < 2 ^ 15
  narrow = let r = in_row_lem s.state stands.in_state in omega (arith, r.last, r.within)

-- ---- tiles from where it stands, k that are left

module _ (c : BatchRow) (r : Room) (s : BatchAt) where
  pub turned : (k : ℕ) → s.state.next < s.state.to → has_room r s.worked s.used ≡ true → tiles_from c r (suc k) s ≡ next_by c (turn_of c s).verdict s (tiles_from c r k (turn_of c s).at)
  unfolding tiles_from
  turned k inside room =
      let go = next_by c (turn_of c s).verdict s (tiles_from c r k (turn_of c s).at) in
      ap (λ (b : Bool). cond b (ended_at s row_end) (cond (has_room r s.worked s.used) go (ended_at s no_room))) (lt-leb s.state.to s.state.next inside)
      ∙ ap (λ (b : Bool). cond b go (ended_at s no_room)) room

  -- where no other tile is worked though none is refused
  pub ended : (k tiles : ℕ) → k ≡ tiles - s.worked → (true && ltb s.worked tiles && ltb s.state.next s.state.to && has_room r s.worked s.used) ≡ false → tiles_from c r k s ≡ ended_at s (end_at s.state s.worked tiles)
  unfolding tiles_from
  ended k tiles e h = by (ltb s.worked tiles) (ltb s.state.next s.state.to) (has_room r s.worked s.used) refl refl refl h
    where
      by : (a b d : Bool) → ltb s.worked tiles ≡ a → ltb s.state.next s.state.to ≡ b → has_room r s.worked s.used ≡ d → (true && a && b && d) ≡ false → tiles_from c r k s ≡ ended_at s (end_at s.state s.worked tiles)
      by false b d ea eb ed x =
          let few = ltb-false s.worked tiles ea in
          let none : k ≡ 0 = omega (arith, e, few) in
          ap (λ (n : ℕ). tiles_from c r n s) none ∙ sym (ap (λ (y : Bool). ended_at s (cond y asked (cond (leb s.state.to s.state.next) row_end no_room))) (le-leb tiles s.worked few))
      by true false d ea eb ed x =
          let more = ltb-true s.worked tiles ea in
          let past = ltb-false s.state.next s.state.to eb in
          let some : k ≡ suc (tiles - (s.worked + 1)) = omega (arith, e, more) in
          let end = le-leb s.state.to s.state.next past in
          ap (λ (n : ℕ). tiles_from c r n s) some
          ∙ ap (λ (y : Bool). cond y (ended_at s row_end) (cond (has_room r s.worked s.used) (next_by c (turn_of c s).verdict s (tiles_from c r (tiles - (s.worked + 1)) (turn_of c s).at)) (ended_at s no_room))) end
          ∙ sym (ap₂ (λ (y z : Bool). ended_at s (cond y asked (cond z row_end no_room))) (lt-leb tiles s.worked more) end)
      by true true false ea eb ed x =
          let more = ltb-true s.worked tiles ea in
          let inside = ltb-true s.state.next s.state.to eb in
          let some : k ≡ suc (tiles - (s.worked + 1)) = omega (arith, e, more) in
          let end = lt-leb s.state.to s.state.next inside in
          let go = next_by c (turn_of c s).verdict s (tiles_from c r (tiles - (s.worked + 1)) (turn_of c s).at) in
          ap (λ (n : ℕ). tiles_from c r n s) some
          ∙ ap₂ (λ (y z : Bool). cond y (ended_at s row_end) (cond z go (ended_at s no_room))) end ed
          ∙ sym (ap₂ (λ (y z : Bool). ended_at s (cond y asked (cond z row_end no_room))) (lt-leb tiles s.worked more) end)
      by true true true ea eb ed x = absurd (let z : ◌≡◌ {A = ℕ} 0 1 = cc in omega arith)

-- ---- the loop

-- what is left to be done, by the verdict
abbrev pub rest_by : Judgement → BatchRow → Room → ℕ → BatchAt → BatchGiven
rest_by pass c r tiles s = tiles_from c r (tiles - s.worked) s
rest_by (refuse n) c r tiles s = ended_at s (next_refused n)

pub record Going (c : BatchRow) (r : Room) (tiles : ℕ) (s₀ s : BatchAt) (v : Judgement) : Type 0 where
  pub stands : BatchStands c s
  pub room : BatchRoom c.keeps c.table.count r s.lent
  pub within : s.worked ≤ tiles
  pub rest : rest_by v c r tiles s ≡ tiles_from c r tiles s₀

-- how much is left of it
abbrev pub left_of : Judgement → ℕ → ℕ
left_of pass k = k + 1
left_of (refuse n) k = 0

module _ (c : BatchRow) (r : Room) (tiles : ℕ) (s₀ : BatchAt) where
  pub start : BatchStands c s₀ → BatchRoom c.keeps c.table.count r s₀.lent → s₀.worked ≡ 0 → Going c r tiles s₀ s₀ pass
  start stands room e =
      let all : tiles - s₀.worked ≡ tiles = omega (arith, e) in
      record { stands = stands; room = room; within = omega (arith, e); rest = ap (λ (k : ℕ). tiles_from c r k s₀) all }

  module _ (s : BatchAt) {v : Judgement} (g : Going c r tiles s₀ s v) (h : Goes v s.worked s.used s.state.next s.state.to tiles r) where
    room_left : (s.worked < r.tiles) × (s.used + r.needed ≤ r.planes)
    room_left =
        let a = ltb s.worked r.tiles in
        let b = leb (s.used + r.needed) r.planes in
        (ltb-true s.worked r.tiles (left a b h.room), leb-true (s.used + r.needed) r.planes (right a b h.room))

    pub turnable : (list : ListColumns) {part : List ℕ} → is_list_short list ≡ false → part ≡ tile_part s.tile c.row → Turnable (in_row part c) s list
    turnable list e own =
        let m = g.room in
        let p = room_left.0 in
        let u = room_left.1 in
        record {
          row = c.row;
          of_row = record { stands = g.stands; part_is = own };
          inside = h.inside;
          list_long = e;
          notes = record { kept_long = λ k. let x = m.kept k in omega (arith, x, p); told_long = omega (arith, m.told, p); bottoms_long = omega (arith, m.bottoms, p) };
          planes = record { planes_long = omega (arith, m.planes_long, m.needed, u); painted_long = omega (arith, m.painted_long, m.needed, u) };
        }

    by_turn : tiles_from c r tiles s₀ ≡ next_by c (turn_of c s).verdict s (tiles_from c r (tiles - (s.worked + 1)) (turn_of c s).at)
    by_turn =
        let some : tiles - s.worked ≡ suc (tiles - (s.worked + 1)) = let m = h.more in omega (arith, m) in
        sym g.rest ∙ ap (λ (j : Judgement). rest_by j c r tiles s) h.passes ∙ ap (λ (k : ℕ). tiles_from c r k s) some ∙ turned c r s (tiles - (s.worked + 1)) h.inside h.room

    -- past a tile, whether it is refused or accepted
    pub record Past : Type 0 where
      pub going : Going c r tiles s₀ (turn_of c s).at (turn_of c s).verdict
      pub less : left_of (turn_of c s).verdict (tiles - (turn_of c s).at.worked) < left_of v (tiles - s.worked)
      pub one_more : (turn_of c s).verdict ≡ pass → (turn_of c s).at.state.next ≡ s.state.next + 1

    same_room : {m : BatchLent} → SameRoom s.lent m → BatchRoom c.keeps c.table.count r m
    same_room same =
        let x = g.room in
        record {
          kept = λ k. let long = x.kept k in omega (arith, long, same.kept);
          told = omega (arith, x.told, same.told);
          bottoms = omega (arith, x.bottoms, same.bottoms);
          planes_long = omega (arith, x.planes_long, same.planes);
          painted_long = omega (arith, x.painted_long, same.painted);
          needed = x.needed;
        }

    pub past : (list : ListColumns) {part : List ℕ} → is_list_short list ≡ false → part ≡ tile_part s.tile c.row → Past
    past list {part} e own = by (turn_of c s).verdict refl
      where
        began : left_of v (tiles - s.worked) ≡ tiles - s.worked + 1
        began = ap (λ (j : Judgement). left_of j (tiles - s.worked)) h.passes

        by : (j : Judgement) → (turn_of c s).verdict ≡ j → Past
        by pass ev =
            let p = stands_next c s g.stands (verdict_of c s g.stands ev) (turnable list e own).planes in
            let one = p.2 in
            let m = h.more in
            record {
              going =
                  record {
                    stands = p.0;
                    room = same_room p.1;
                    within = omega (arith, one, m);
                    rest =
                        ap (λ (j : Judgement). rest_by j c r tiles (turn_of c s).at) ev
                        ∙ ap (λ (k : ℕ). tiles_from c r (tiles - k) (turn_of c s).at) one
                        ∙ sym (by_turn ∙ ap (λ (j : Judgement). next_by c j s (tiles_from c r (tiles - (s.worked + 1)) (turn_of c s).at)) ev);
                  };
              less =
                  let now : left_of (turn_of c s).verdict (tiles - (turn_of c s).at.worked) ≡ tiles - (turn_of c s).at.worked + 1 = ap (λ (j : Judgement). left_of j (tiles - (turn_of c s).at.worked)) ev in
                  omega (arith, now, began, one, m);
              one_more = λ x. p.3;
            }
        by (refuse n) ev =
            let same : turn_of c s ≡ record { at = s; verdict = refuse n } = refused_by_turn c s g.stands ev in
            let at_same = ap (λ (x : TurnGiven). x.at) same in
            record {
              going =
                  subst (λ (x : TurnGiven). Going c r tiles s₀ x.at x.verdict) (sym same)
                  (record {
                    stands = g.stands;
                    room = g.room;
                    within = g.within;
                    rest = sym (by_turn ∙ ap (λ (j : Judgement). next_by c j s (tiles_from c r (tiles - (s.worked + 1)) (turn_of c s).at)) ev);
                  });
              less =
                  let now : left_of (turn_of c s).verdict (tiles - (turn_of c s).at.worked) ≡ 0 = ap (λ (j : Judgement). left_of j (tiles - (turn_of c s).at.worked)) ev in
                  omega (arith, now, began);
              one_more = λ x. absurd (let clash : refuse n ≡ pass = sym ev ∙ x in let z : ◌≡◌ {A = ℕ} 0 1 = cc in omega arith);
            }

-- ---- the end

-- what is left where no other tile is worked
pub rest_ended : (v : Judgement) (c : BatchRow) (r : Room) (tiles : ℕ) (s : BatchAt) → (is_pass v && ltb s.worked tiles && ltb s.state.next s.state.to && has_room r s.worked s.used) ≡ false → rest_by v c r tiles s ≡ ended_at s (end_by v s.state s.worked tiles)
rest_ended pass c r tiles s h = ended c r s (tiles - s.worked) tiles refl h
rest_ended (refuse n) c r tiles s h = refl

pub ends_batch : (b : Standing) (m : BatchLent) (tiles : ℕ) {x : Batch} (g : BatchGiven) → Ends b tiles x → ended_at (batch_in b (sided b.first m)) (end_by (judgement_in b.verdict) (state_in b.state) b.worked tiles) ≡ g → GivesBatch g x m
ends_batch b m tiles {x} g e is =
    subst (λ (y : BatchGiven). GivesBatch y x m) is
    (record { state = ap state_in e.state; worked = e.worked; used = e.used; first = e.first; answer = e.answer; lent_is = sym (side_back b.first m) })
