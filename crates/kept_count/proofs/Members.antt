-- The members of a lent list, one after the other. Assumes nothing.
use Rattle.std.specs.Prelude.{◌≡◌, ◌∷◌, ◌+◌, ◌≤◌, ◌<◌}
use Rattle.laws.proofs.Prelude.{sym, ap, ◌∙◌, Bool, true, false, cond, List, [], ℕ, suc, arith, length, drop}
use Rattle.laws.proofs.Prelude.{drop_of_length-le, take, length_tabulate}
use Rattle.styling.specs.Ascending.{strictly_ascends}
use Rattle.layer_table.proofs.Listed.{drop_tabulate, map_tabulate}
use Rattle.queue_statements.specs.Queue.{carry_at, queue_of}
use Rattle.queue_statements.proofs.Queues.{ids_queue}
use Rattle.kept_frames.specs.Stays.{Member, same_member}
use Rattle.kept_count.specs.Keeping.{member_at, members_of}
use Rattle.kept_count.specs.InnerKeeping.{is_next, met_by}
use Rattle.kept_count.proofs.Walks.{Ascend}

module _ (ids kinds : List ℕ) (n : ℕ) where
  pub members_long : length (members_of ids kinds n) ≡ n
  unfolding members_of
  members_long = length_tabulate n (member_at ids kinds)

  pub members_next : (i : ℕ) → i < n → drop i (members_of ids kinds n) ≡ member_at ids kinds i ∷ drop (suc i) (members_of ids kinds n)
  unfolding members_of
  members_next i h = drop_tabulate n (member_at ids kinds) i h

  pub members_ascend : n ≤ length ids → strictly_ascends (take n ids) ≡ true → Ascend 0 (members_of ids kinds n)
  unfolding members_of queue_of
  members_ascend long up =
      ap strictly_ascends (map_tabulate (λ (m : Member). m.id) n (member_at ids kinds) ∙ sym (map_tabulate (λ c. c.id) n (carry_at ids [])) ∙ ids_queue n ids [] long) ∙ up

  -- what meeting a layer makes of the number of those met
  module _ (met : ℕ) (m : Member) where
    meets_by : (b : Bool) → is_next (drop met (members_of ids kinds n)) m ≡ b → cond b (met + 1) met ≡ met_by (members_of ids kinds n) met m
    meets_by b e = ap (λ (t : Bool). cond t (met + 1) met) (sym e)

    pub meets : met < n → (b : Bool) → same_member (member_at ids kinds met) m ≡ b → cond b (met + 1) met ≡ met_by (members_of ids kinds n) met m
    meets h b e = meets_by b (ap (λ (l : List Member). is_next l m) (members_next met h) ∙ e)

    pub meets_none : n ≤ met → met ≡ met_by (members_of ids kinds n) met m
    meets_none h =
        let past : length (members_of ids kinds n) ≤ met = omega (arith, h, members_long) in
        meets_by false (ap (λ (l : List Member). is_next l m) (drop_of_length-le (members_of ids kinds n) past))
