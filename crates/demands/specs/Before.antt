-- What is taken to have happened just before a history starts at a page, written out as requests that were accepted (RULES 9): a loader
-- came, and a 13 named its bucket, if it has one; a 4 named the exclusive holder's, if it has one, and an 8 handed out what one that is
-- Obtained keeps. `start_of` says the same in fields: every word of a history is as if these stood at its end (`as_if_before`), but that they
-- are no arrivals. Whether each was really asked nobody knows; they are what the words look at.
use Rattle.std.specs.Prelude.{ℕ, Option, Some, None, ◌≡◌, false, List, [], ◌∷◌, ◌++◌}
use Rattle.kinds.specs.declared.{Bucket.Bucket, ExcState.ExcState, LoadingState.LoadingState}
use Rattle.page_record.specs.declared.Page.{Page}
use Rattle.page_record.specs.Holders.{loading_bucket}
use Rattle.page_record.specs.Pages.{number_at}
use Rattle.page_record.specs.References.{ref_at}
use Rattle.requests.specs.declared.Answer.{Answer}
use Rattle.demands.specs.History.{Event, Start, put_before, start_of, last_counted, counted_since, editor_named, departures, last_put}
use Rattle.demands.specs.History.{last_taken, last_withdrew, arrivals}

-- an accepted request
abbrev pub granted : ℕ → Bucket → Event
granted step bucket = record { request = record { step = step; bucket = bucket; clean = 0; value = 0 }; answer = Answer.Accepted }

abbrev pub plainly : ℕ → Event
plainly step = granted step (record { 0 = 0 })

-- .. and this value was handed out
abbrev pub handing : ℕ → ℕ → Event
handing step value = record { request = (plainly step).request; answer = Answer.Withdrew value }

-- it named the bucket, if there is one
abbrev pub named : ℕ → Option Bucket → List Event
named step None = []
named step (Some bucket) = granted step bucket ∷ []

abbrev pub loader_came : LoadingState → List Event
loader_came LoadingState.None = []
loader_came LoadingState.Pending = plainly 11 ∷ []
loader_came (LoadingState.PendingCounted bucket) = named 13 bucket ++ plainly 11 ∷ []
loader_came (LoadingState.Obtained bucket) = named 13 bucket ++ plainly 11 ∷ []

abbrev pub editor_came : ExcState → List Event
editor_came ExcState.None = []
editor_came (ExcState.Claim bucket value) = named 4 bucket
editor_came (ExcState.PendingAwaitWriteback bucket value) = named 4 bucket
editor_came (ExcState.Pending bucket visited clean value) = named 4 bucket
editor_came (ExcState.Obtained bucket clean value) = handing 8 value ∷ named 4 bucket

-- the newest first
abbrev pub before : Page → List Event
before p = loader_came p.loading_state ++ editor_came p.exc_state

-- a start before all this: the page's counts and what was put in last, nobody loads or edits, and the page is in
abbrev pub bare_start : Page → Start
bare_start p = record {
  counts = number_at p.ref_counts;
  value = put_before p;
  out = false;
  loader = None;
  editor = None;
}

-- each word of a history from this page is as if what came before stood at its end
pub record AsIf (p : Page) (past : List Event) : Type 0 where
  pub named_last : last_counted (start_of p) past ≡ last_counted (bare_start p) (past ++ before p)
  pub named_since : counted_since (start_of p) past ≡ counted_since (bare_start p) (past ++ before p)
  pub named_editor : editor_named (start_of p) past ≡ editor_named (bare_start p) (past ++ before p)
  pub departed : (b : ℕ) → departures (start_of p) b past ≡ departures (bare_start p) b (past ++ before p)
  pub put : last_put (start_of p) past ≡ last_put (bare_start p) (past ++ before p)
  pub taken : last_taken (start_of p) past ≡ last_taken (bare_start p) (past ++ before p)
  pub withdrew : last_withdrew (start_of p) past ≡ last_withdrew (bare_start p) (past ++ before p)
  -- and of what came before the loader's 13 alone reads as an arrival, at its bucket; it is counted as none, since the start's counts have it
  pub arrived : (b : ℕ) → arrivals b (before p) ≡ ref_at (loading_bucket p.loading_state) b
