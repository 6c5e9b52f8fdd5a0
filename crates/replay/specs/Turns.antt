-- One request of a run: its bytes are read, and what they ask for is answered by a step.
use Rattle.std.specs.Prelude.{ℕ, Result, Ok, Err, List}
use Rattle.page_record.specs.declared.Page.{Page}
use Rattle.lock.specs.declared.Outcome.{Outcome}
use Rattle.lock.specs.Step.{refused_by, step_of}
use Rattle.wire.specs.Requests.{read_of}
use Rattle.requests.specs.declared.Refusal.{Refusal}
use Rattle.requests.specs.declared.Request.{Request}

-- a request is answered by a step; what the reader refuses is refused for the reader's reason
abbrev pub on_reading : Page → Result Request Refusal → Outcome
on_reading page (Ok q) = step_of page q
on_reading page (Err why) = refused_by page why

unfoldable pub turn_of : Page → List ℕ → Outcome
turn_of page bytes = on_reading page (read_of bytes)
