-- What holds of every load, put together; and what reading a line tells.
-- Assumes nothing.
use Rattle.std.specs.Prelude.{◌≡◌}
use Rattle.laws.proofs.Prelude.{refl, List, Option, Some, None, ℕ}
use Rattle.load_statements.specs.declared.Asked.{Asked}
use Rattle.load_statements.specs.Input.{AskedInRange, ask}
use Rattle.load_statements.specs.Made.{LoadMade, LoadTells}
use Rattle.load_statements.proofs.Asking.{ask_sound, refused}
use Rattle.load_statements.proofs.Accepting.{accepted}
use Rattle.load_statements.proofs.Ascents.{ascending}
use Rattle.load_statements.proofs.Openings.{in_table, opens}
use Rattle.load_statements.proofs.Works.{works}

pub made : (a : Asked) → AskedInRange a → LoadMade a
made a h = record { accepted = accepted a h; ascends = ascending a h; table = in_table a; opens = opens a h; worked = works a h }

pub tells : (text : List ℕ) → LoadTells text (ask text)
tells text = by (ask text) refl
  where
    by : (o : Option Asked) → ask text ≡ o → LoadTells text o
    by None e = refused text e
    by (Some a) e = let q = ask_sound text a e in (q, made a q.range)
