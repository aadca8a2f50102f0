-- What is told of an answer by numbers is told of an equal one. Assumes nothing.
use Rattle.std.specs.Prelude.{◌≡◌}
use Rattle.laws.proofs.Prelude.{ap, subst, ◌∙◌, Bool, List, Option, ℕ, Float, Answer}
use Rattle.refusals.specs.Refusal.{given_or_refused}
use Rattle.cached_tile.specs.declared.SolidColor.{SolidColor}
use Rattle.cached_tile.specs.declared.kept.Kept.{Kept}
use Rattle.cached_tile.specs.Kept.{Writing}
use Rattle.segment_rows.specs.Search.{Place}
use Rattle.row_statements.specs.Lent.{Columns}
use Rattle.row_statements.specs.State.{State, state_in}
use Rattle.row_statements.specs.Opening.{OpenGiven}
use Rattle.row_statements.specs.TileWork.{WorkCall, WorkLent, work_of, work_answer, GivesWork}
use Rattle.row_statements.specs.Painting.{PaintCall, paint_of, PaintsLayer}
use Rattle.row_statements.specs.declared.TileWorked.{TileWorked}
use Rattle.row_statements.specs.declared.Painted.{Painted}
use Rattle.listing_statements.specs.Listing.{ListCall, ListLent, listing_of, ListsTile}
use Rattle.listing_statements.specs.Deciding.{DecideGiven, decide_answer, DecidesTile}
use Rattle.listing_statements.specs.declared.TileListed.{TileListed}
use Rattle.listing_statements.specs.declared.TileDecided.{TileDecided}
use Rattle.kept_count.specs.Keeping.{CountGiven, count_answer, KeepsCount}
use Rattle.kept_count.specs.declared.CountKept.{CountKept}
use Rattle.batch_statements.specs.BatchLent.{BatchLent}
use Rattle.batch_statements.specs.Batch.{BatchCall, batch_of, GivesBatch, answer_in}
use Rattle.batch_statements.specs.declared.Batch.{Batch}
use Rattle.ffi_numbers.specs.Numbers.{refusal_number, value_or, is_found, place_number}
use Rattle.ffi_numbers.specs.Cached.{is_some, given_or, color_or, written_or, settled_bytes}
use Rattle.ffi_numbers.specs.Rows.{StateNumbers, open_numbers, OpenTold}
use Rattle.ffi_numbers.specs.Counts.{CountNumbers, counted_numbers, CountTold}
use Rattle.ffi_batch.specs.Batches.{BatchNumbers, numbers_by, BatchTold}
use Rattle.ffi.specs.Work.{WorkNumbers, worked_numbers, WorkTold}
use Rattle.ffi.specs.Listing.{ListNumbers, listed_numbers, ListTold}
use Rattle.ffi.specs.Deciding.{DecideNumbers, decided_numbers, DecideTold}
use Rattle.ffi.specs.Painting.{PaintNumbers, painted_numbers, PaintTold}

-- a search: whether the key was found, and the place
pub searched : {f g : Place} {r : Bool} {p : ℕ} → f ≡ g → (r ≡ is_found f) × (p ≡ place_number f) → (r ≡ is_found g) × (p ≡ place_number g)
searched {r = r} {p = p} e told = subst (λ (h : Place). (r ≡ is_found h) × (p ≡ place_number h)) e told

-- an operation that gives a value: the refusal, and what the lent value is, which was `old`
pub answered : {A : Type 0} {a b : Answer A} {r : ℕ} {p : A} (old : A) → a ≡ b → (r ≡ refusal_number a) × (p ≡ value_or a old) → (r ≡ refusal_number b) × (p ≡ value_or b old)
answered {A = A} {r = r} {p = p} old e told = subst (λ (h : Answer A). (r ≡ refusal_number h) × (p ≡ value_or h old)) e told

-- a value that may be given
pub optional : {A : Type 0} {a b : Option A} {r : Bool} {p : A} (old : A) → a ≡ b → (r ≡ is_some a) × (p ≡ given_or a old) → (r ≡ is_some b) × (p ≡ given_or b old)
optional {A = A} {r = r} {p = p} old e told = subst (λ (h : Option A). (r ≡ is_some h) × (p ≡ given_or h old)) e told

-- a colour that may be given
pub colored : {a b : SolidColor} {r : Bool} {p : List ℕ} (old : List ℕ) → a ≡ b → (r ≡ a.given) × (p ≡ color_or a old) → (r ≡ b.given) × (p ≡ color_or b old)
colored {r = r} {p = p} old e told = subst (λ (h : SolidColor). (r ≡ h.given) × (p ≡ color_or h old)) e told

-- settling: the refusal, whether to write, and the tile's bytes
pub settled : {a b : Answer Writing} {j k : Kept} {r : ℕ} {p : Bool} {bytes : List ℕ} (old : Bool) (oldBytes : List ℕ) → a ≡ b → j ≡ k → (r ≡ refusal_number a) × ((p ≡ written_or a old) × (bytes ≡ settled_bytes a j oldBytes)) → (r ≡ refusal_number b) × ((p ≡ written_or b old) × (bytes ≡ settled_bytes b k oldBytes))
settled old oldBytes e f told =
    (told.0 ∙ ap refusal_number e, (told.1.0 ∙ ap (λ (h : Answer Writing). written_or h old) e, told.1.1 ∙ λ i. settled_bytes (e i) (f i) oldBytes))

-- an opening
pub opened : {g : OpenGiven} {a : Answer State} {old new : StateNumbers} {r : ℕ} {back : Columns} → a ≡ g.answer → back ≡ g.lent → (r ≡ refusal_number a) × (new ≡ open_numbers a old) → OpenTold g old r new back
opened {old = old} e l told = record { number = told.0 ∙ ap refusal_number e; numbers = told.1 ∙ ap (λ (h : Answer State). open_numbers h old) e; lent_is = l }

-- tile work from a state that is read of numbers: the state and the cached tile stand beside the answer
pub worked : (call : State → WorkCall) (lent : WorkLent) {s t : State} {w : TileWorked} {old new : WorkNumbers} {r : ℕ} {back : WorkLent} → s ≡ t → GivesWork (work_of (call s) lent) w back → (r ≡ refusal_number (work_answer w.answer)) × (new ≡ worked_numbers (work_answer w.answer) (state_in w.state) w.kept old) → WorkTold (work_of (call t) lent) old r new back
worked call lent {w = w} {old = old} {back = back} e given told =
    let works = subst (λ (x : State). GivesWork (work_of (call x) lent) w back) e given in
    record {
      number = told.0 ∙ ap refusal_number works.answer;
      numbers = told.1 ∙ λ i. worked_numbers (works.answer i) (works.state i) (works.kept i) old;
      lent_is = works.lent_is;
    }

-- painting, the same
pub painted : (call : State → PaintCall) (plane : List Float) {s t : State} {p : Painted} {old new : PaintNumbers} {r : ℕ} {back : List Float} → s ≡ t → PaintsLayer (paint_of (call s) plane) p back → (r ≡ refusal_number (given_or_refused p.answer)) × (new ≡ painted_numbers (given_or_refused p.answer) (state_in p.state) old) → PaintTold (paint_of (call t) plane) old r new back
painted call plane {p = p} {old = old} {back = back} e given told =
    let paints = subst (λ (x : State). PaintsLayer (paint_of (call x) plane) p back) e given in
    record {
      number = told.0 ∙ ap refusal_number paints.answer;
      numbers = told.1 ∙ λ i. painted_numbers (paints.answer i) (paints.state i) old;
      plane_is = paints.plane;
    }

-- listing, the same
pub listed : (call : State → ListCall) (lent : ListLent) {s t : State} {w : TileListed} {old new : ListNumbers} {r : ℕ} {back : ListLent} → s ≡ t → ListsTile (listing_of (call s) lent) w back → (r ≡ refusal_number (given_or_refused w.answer)) × (new ≡ listed_numbers (given_or_refused w.answer) (state_in w.state) old) → ListTold (listing_of (call t) lent) old r new back
listed call lent {w = w} {old = old} {back = back} e given told =
    let lists = subst (λ (x : State). ListsTile (listing_of (call x) lent) w back) e given in
    record {
      number = told.0 ∙ ap refusal_number lists.answer;
      numbers = told.1 ∙ λ i. listed_numbers (lists.answer i) (lists.state i) old;
      lent_is = lists.lent_is;
    }

-- deciding, the same
pub decided : {g : DecideGiven} {w : TileDecided} {old new : DecideNumbers} {r : ℕ} {back : List Bool} → DecidesTile g w back → (r ≡ refusal_number (decide_answer w.answer)) × (new ≡ decided_numbers (decide_answer w.answer) w.kept old) → DecideTold g old r new back
decided {old = old} decides told =
    record {
      number = told.0 ∙ ap refusal_number decides.answer;
      numbers = told.1 ∙ λ i. decided_numbers (decides.answer i) (decides.kept i) old;
      unmasked_is = decides.unmasked_is;
    }

-- a batch of tiles, the same
pub batched : (call : State → BatchCall) (lent : BatchLent) {s t : State} {b : Batch} {old new : BatchNumbers} {r : ℕ} {back : BatchLent} → s ≡ t → GivesBatch (batch_of (call s) lent) b back → (r ≡ refusal_number (answer_in b.answer)) × (new ≡ numbers_by (answer_in b.answer) (state_in b.state) b.worked b.used b.first old) → BatchTold (batch_of (call t) lent) old r new back
batched call lent {b = b} {old = old} {back = back} e given told =
    let gives = subst (λ (x : State). GivesBatch (batch_of (call x) lent) b back) e given in
    record {
      number = told.0 ∙ ap refusal_number gives.answer;
      numbers = told.1 ∙ λ i. numbers_by (gives.answer i) (gives.state i) (gives.worked i) (gives.used i) (gives.first i) old;
      lent_is = gives.lent_is;
    }

-- whether a count may stay
pub counted : {g : CountGiven} {w : CountKept} {old new : CountNumbers} {r : ℕ} → KeepsCount g w → (r ≡ refusal_number (count_answer w.answer)) × (new ≡ counted_numbers (count_answer w.answer) w.kept old) → CountTold g old r new
counted {old = old} keeps told = record { number = told.0 ∙ ap refusal_number keeps.answer; numbers = told.1 ∙ λ i. counted_numbers (keeps.answer i) (keeps.kept i) old }
