-- Demand 3: what holds of a page after any requests, refused ones among them, from the page that its history starts at (RULES 9).
-- "Past the first check" means Pending2 or Obtained: a reader that is not past it is Pending.
use Rattle.std.specs.Prelude.{ℕ, Some, None, ◌+◌, ◌<◌, ◌≡◌, not, ◌||◌, List, T, length, get_or}
use Rattle.kinds.specs.declared.{Phase.Phase, Reader.Reader}
use Rattle.kinds.specs.Limits.{buckets}
use Rattle.readers.specs.Listed.{live, blank_reader}
use Rattle.page_record.specs.declared.Page.{Page}
use Rattle.page_record.specs.Holders.{is_stored, is_claim, is_await, is_pending, is_editing, exc_value}
use Rattle.page_record.specs.Pages.{number_at}
use Rattle.page_record.specs.References.{count_all_refs}
use Rattle.demands.specs.History.{Event, Start, arrivals, departures, last_put, last_taken, last_withdrew, HandedOut}
use Rattle.demands.specs.History.{HandOuts}

-- a listed reader: it stands at a place below the length
pub record Listed (p : Page) (r : Reader) : Type 0 where
  pub place : ℕ
  pub below : place < length (live p.readers)
  pub stands : get_or (live p.readers) place blank_reader ≡ r

pub record Demand3 (start : Start) (p : Page) (past : List Event) : Type 0 where
  -- each bucket's count is the start's and its accepted arrivals less departures ..
  pub counted : (b : ℕ) → b < buckets
      → number_at p.ref_counts b + departures start b past ≡ start.counts b + arrivals b past
  -- .. and the references held there
  pub referred : (b : ℕ) → b < buckets → number_at p.ref_counts b
      ≡ count_all_refs (live p.readers) p.exc_state p.loading_state b
  -- the page is out exactly when its last hand-over was a withdrawal
  pub out : is_stored p.storage ≡ not (last_withdrew start past)
  -- every value held is the one last put in, or the start's: by storage,
  pub stored : (v : ℕ) → p.storage ≡ Some v → v ≡ last_put start past
  -- by a reader that has come through,
  pub read : (r : Reader) → Listed p r → (v : ℕ) → r.phase ≡ Phase.Obtained v → v ≡ last_put start past
  -- by a claimant (Claim, PendingAwaitWriteback, Pending),
  pub claimed : T (is_claim p.exc_state || is_await p.exc_state || is_pending p.exc_state)
      → exc_value p.exc_state ≡ last_put start past
  -- by the writeback,
  pub written : (v : ℕ) → p.writeback_state ≡ Some v → v ≡ last_put start past
  -- and by an editor that has the page out, which keeps what it took:
  pub kept : T (is_editing p.exc_state) → exc_value p.exc_state ≡ last_put start past
  -- that is the last value taken, too;
  pub taken : T (is_editing p.exc_state) → exc_value p.exc_state ≡ last_taken start past
  -- and so is every value that was returned, at its moment;
  pub returned : HandedOut start past
  -- one was returned just where an 8, 11 or 12 was accepted
  pub returns : HandOuts past
  -- while the page is out nobody reads it,
  pub unread : p.storage ≡ None → (r : Reader) → Listed p r → (v : ℕ) → r.phase ≡ Phase.Obtained v → ⊥
  -- or writes it back,
  pub unwritten : p.storage ≡ None → p.writeback_state ≡ None
  -- and once an editor has it out no reader is past the first check
  pub alone : T (is_editing p.exc_state) → (r : Reader) → Listed p r → r.phase ≡ Phase.Pending
