-- `queue_opening::open_queue` meets its contract. Assumes nothing.
use Rattle.std.specs.Prelude.{◌≡◌, ◌++◌, ◌≤◌}
use Rattle.laws.proofs.Prelude.{refl, ap, List, ℕ, arith, length, take, drop, length-take-le, nat_abs}
use Rattle.laws.specs.Lists.{over}
use Rattle.cover_statements.proofs.Filled.{get_d_default}
use Rattle.queue_statements.proofs.Gathering.{opens}
use Rattle.queue_opening.proofs.open_queue.Goals as goal

-- a front copied is a front written over
copied : {A : Type 0} (from to front : List A) (n : ℕ) → n ≤ length from → front ≡ take n from → front ++ drop n to ≡ over (take n from) to
unfolding over
copied from to front n h e = rw (e, length-take-le n from h)

pub gather-opening-requires : goal.gather-opening-requires
gather-opening-requires c = (refl, refl, record { at = λ k. ap nat_abs (get_d_default 4096 k) })

pub returns : goal.returns
returns c =
    let few = c.gather-opening.ensures.few in
    opens c.gather-opening.ensures c.count_of-count.ensures
    (copied _ _ _ _ (omega (arith, few, c.count_of-count.ensures)) c.copy_from_slice.ensures.after)
    (copied _ _ _ _ (omega (arith, few, c.count_of-count.ensures)) c.copy_from_slice-2.ensures.after)
