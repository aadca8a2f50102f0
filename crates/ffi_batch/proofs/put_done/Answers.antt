-- `put_done` meets its contract. Assumes nothing.
use Rattle.laws.proofs.Prelude.{refl}
use Rattle.ffi_batch.proofs.put_done.Goals as goal

pub returns : goal.returns
returns c =
    let state = c.put_state.ensures in
    rw (c.queue_number.ensures, c.why_number.ensures, c.next_number.ensures) (record { words_after = state.words_after; counts_after = state.counts_after; done_after = refl })
