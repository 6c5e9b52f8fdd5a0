-- Demand 2: a well-formed request on a sound record is accepted exactly when the source's transition, with the changes of
-- RULES 3.2, or one of the six that are ours allows it and the limits leave room; the next record and any withdrawn value are that
-- transition's. Requests read from bytes and written back agree both ways.
use Rattle.std.specs.Prelude.{ℕ, Option, Ok, ◌<◌, ◌≡◌, ◌↔◌, List, length, take}
use Rattle.kinds.specs.Limits.{line_size}
use Rattle.page_record.specs.declared.Page.{Page}
use Rattle.requests.specs.declared.{Request.Request, Answer.Answer}
use Rattle.requests.specs.Requests.{judged}
use Rattle.lock.specs.Step.{step_of}
use Rattle.lock.specs.Moves.{answer_of}
use Rattle.lock.specs.Allowed.{Allowed}
use Rattle.wire.specs.Bytes.{value_limit, Bytes}
use Rattle.wire.specs.Requests.{read_of, bytes_of, InRange, wrote_answer, wrote_to}
use Rattle.replay.specs.Turns.{turn_of}
use Rattle.replay.specs.Run.{line_at, page_at}

-- a step is accepted, hands this out and leaves this page just if all that acceptance is holds: on a sound record, of a
-- well-formed request, that is a transition of `Moves` and the limits' room
abbrev pub Demand2 : Type 0
Demand2 =
    (p p' : Page) (q : Request) (out : Option ℕ)
    → (step_of p q ≡ record { answer = answer_of out; page = p' }) ↔ Allowed p q p' out

-- the same for each line of a run that reads as a request: the page that it is answered from is the one that the requests before
-- it left
abbrev pub Demand2Run : Type 0
Demand2Run =
    (p : Page) (requests : List ℕ) (k : ℕ) (q : Request) → read_of (line_at k requests) ≡ Ok q
    → (p' : Page) (out : Option ℕ)
    → (turn_of (page_at k p requests) (line_at k requests) ≡ record { answer = answer_of out; page = p' })
    ↔ Allowed (page_at k p requests) q p' out

pub record Demand2Bytes : Type 0 where
  -- written and read again
  pub write_read : (q : Request) → judged q ≡ Ok tt → q.value < value_limit → read_of (bytes_of q) ≡ Ok q
  -- read and written again
  pub read_write : (l : List ℕ) (q : Request) → Bytes l → read_of l ≡ Ok q → bytes_of q ≡ l
  -- what reading accepts is exactly what writing produces
  pub accepts_written : (l : List ℕ) → Bytes l
      → ((q : Request) × (read_of l ≡ Ok q))
      ↔ ((q : Request) × (judged q ≡ Ok tt) × InRange q × (bytes_of q ≡ l))
  -- both at once, for the functions themselves: bytes are read as a request just if writing that request, whose fields the
  -- code can hold, into any buffer of sixteen bytes is accepted and leaves those bytes
  pub agree : (l buffer : List ℕ) (q : Request) → Bytes l → length buffer ≡ line_size
      → (read_of l ≡ Ok q) ↔ (InRange q × (wrote_answer q buffer ≡ Answer.Accepted) × (wrote_to q buffer ≡ l))
  -- what is written into a longer buffer stands in its first sixteen bytes
  pub first : (q : Request) (buffer : List ℕ) → wrote_answer q buffer ≡ Answer.Accepted
      → take line_size (wrote_to q buffer) ≡ bytes_of q
