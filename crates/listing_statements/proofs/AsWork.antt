-- A listing is the work on a tile that keeps nothing, without its decision: what is known of works is then known of listings. Assumes nothing.
use Rattle.std.specs.Prelude.{◌≡◌, ◌||◌, None}
use Rattle.laws.proofs.Prelude.{refl, ap, sym, ◌∙◌, Bool, true, false, ℕ, binary32, of_bits, replicate, Answer, refused, given}
use Rattle.refusals.specs.Refusal.{Judgement, pass, refuse, and_then}
use Rattle.styling.specs.declared.Color.{Color}
use Rattle.cached_tile.specs.Kept.{no_tile}
use Rattle.row_statements.specs.Lent.{list_columns}
use Rattle.row_statements.specs.State.{State}
use Rattle.row_statements.specs.TileWork.{WorkCall, WorkLent, WorkGiven, TileAnswer, TileSays, work_call, work_lent, args_verdict, layers_verdict, says_for, work_out, work_of}
use Rattle.listing_statements.specs.Listing.{ListCall, ListLent, ListGiven, is_tile_list_short, list_call_verdict, listing_verdict, listing_out, listing_of}
use Rattle.listing_statements.specs.Succession.{lent_part}

abbrev pub no_color : Color
no_color = record { r = of_bits binary32 0; g = of_bits binary32 0; b = of_bits binary32 0; a = of_bits binary32 0 }

abbrev pub as_work : ListCall → WorkCall
as_work c = work_call c.state c.tile c.row c.table no_tile no_color None c.queue

abbrev pub as_lent : ListLent → WorkLent
as_lent lent = work_lent lent.queue (list_columns lent.list.ids lent.list.covers lent.list.flags (replicate 256 false))

-- what a work gives, without what was decided
abbrev listed_told : Answer TileAnswer → Answer ℕ
listed_told (refused number) = refused number
listed_told (given t) = given t.listed

abbrev pub without_decision : WorkGiven → ListGiven
without_decision g = record { answer = listed_told g.answer; state = g.state; lent = lent_part g.lent }

pub or-false : (b : Bool) → (b || false) ≡ b
or-false true = refl
or-false false = refl

-- by the verdict, without the decision
pub out_same : (lent : ListLent) (t : TileSays) (s : State) (v : Judgement) → without_decision (work_out v t s no_tile (as_lent lent)) ≡ listing_out v t.table t.layers t.handed s lent
unfolding work_out listing_out
out_same lent t s (refuse n) = refl
out_same lent t s pass = refl

module _ (c : ListCall) (lent : ListLent) where
  -- 1 to 5 are judged alike, and 6 never applies
  pub args_same : args_verdict (as_work c) (as_lent lent) ≡ list_call_verdict c lent
  unfolding args_verdict list_call_verdict
  args_same = rw (or-false (is_tile_list_short lent.list))

  pub listing_is : listing_of c lent ≡ without_decision (work_of (as_work c) (as_lent lent))
  listing_is =
      sym (out_same lent (says_for (as_work c)) c.state (listing_verdict c lent))
      ∙ ap (λ (v : Judgement). without_decision (work_out (and_then v (layers_verdict (as_work c))) (says_for (as_work c)) c.state no_tile (as_lent lent))) (sym args_same)
