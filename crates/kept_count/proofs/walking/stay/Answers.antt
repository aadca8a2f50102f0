-- `walking::stay` meets its contract. Assumes nothing.
use Rattle.laws.proofs.Prelude.{sym, ap, ◌∙◌, arith, eqb}
use Rattle.kept_count.specs.Keeping.{member_at, members_of}
use Rattle.kept_count.proofs.Walks.{next, end}
use Rattle.kept_count.proofs.Members.{members_long, members_next, members_ascend}
use Rattle.kept_count.proofs.walking.stay.Goals as goal

pub loop-i-preserved : goal.loop-i-preserved
loop-i-preserved c =
    let a = c.args in
    let loop = c.loop-i in
    let up = members_ascend a.last_ids.now a.last_kinds.now a.last c.requires.0.ids_long c.requires.0.ascending in
    let up' = members_ascend a.ids.now a.kinds.now a.n c.requires.1.ids_long c.requires.1.ascending in
    rw c.meet-met.ensures (next (members_of a.last_ids.now a.last_kinds.now a.last) (members_of a.ids.now a.kinds.now a.n) up up' loop.invariant (member_at a.ids.now a.kinds.now loop.i) (members_next a.ids.now a.kinds.now a.n loop.i (omega arith)))

pub returns : goal.returns
returns c =
    let a = c.args in
    let loop = c.loop-i in
    ap (eqb loop.met) (sym (members_long a.last_ids.now a.last_kinds.now a.last))
    ∙ end loop.invariant (omega (arith, members_long a.ids.now a.kinds.now a.n))
