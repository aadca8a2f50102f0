-- The claims of specs/Revisions, cited. Assumes nothing.
use Rattle.revision_statements.proofs.Laws as laws
use Rattle.revision_statements.proofs.Tables as tables
use Rattle.claims.specs.Revisions.{Revisions}

pub revisions : Revisions
revisions =
    record {
      ascending = laws.ascending;
      given_one = laws.given_one;
      highest = laws.highest;
      nothing_lost = laws.nothing_lost;
      withdrawn = laws.withdrawn;
      only_one = laws.only_one;
      any_order = laws.any_order;
      sent_again = laws.sent_again;
      is_table_lem = tables.is_table_lem;
    }
