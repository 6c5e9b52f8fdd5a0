-- A run: each request is answered from the page that those before it left, and each has its line of the answers. A run that
-- is refused as a whole touches neither the page nor the answer buffer.
use Rattle.std.specs.Prelude.{ℕ, Result, Ok, Err, ◌*◌, ◌/◌, ◌%◌, Bool, List, [], ◌∷◌, ◌++◌, eqb, leb, length, take, drop}
use Rattle.laws.specs.Lists.{cut}
use Rattle.kinds.specs.Limits.{line_size, most_requests}
use Rattle.page_record.specs.declared.Page.{Page}
use Rattle.soundness.specs.Soundness.{sound_of}
use Rattle.requests.specs.declared.{Refusal.Refusal, Answer.Answer}
use Rattle.requests.specs.Premises.{verdict}
use Rattle.lock.specs.declared.Outcome.{Outcome}
use Rattle.lock.specs.Step.{refused_by}
use Rattle.wire.specs.Answers.{line_of}
use Rattle.wire.specs.Buffers.{leaves}
use Rattle.replay.specs.Turns.{turn_of}

-- ---- the requests
-- sixteen bytes each
abbrev pub requests_of : List ℕ → List (List ℕ)
requests_of l = cut line_size (length l / line_size) l

-- ---- one after the other
-- the page that the requests leave
abbrev pub page_after : Page → List (List ℕ) → Page
page_after page [] = page
page_after page (q ∷ qs) = page_after (turn_of page q).page qs

-- their answer lines, in their order
abbrev pub lines_of : Page → List (List ℕ) → List ℕ
lines_of page [] = []
lines_of page (q ∷ qs) = line_of (turn_of page q).answer ++ lines_of (turn_of page q).page qs

-- ---- the k-th of them, counted from 0
-- the k-th line of sixteen bytes, of requests or of answers
abbrev pub line_at : ℕ → List ℕ → List ℕ
line_at k l = take line_size (drop (line_size * k) l)

-- the page that the first k requests leave
abbrev pub page_at : ℕ → Page → List ℕ → Page
page_at k page requests = page_after page (take k (requests_of requests))

-- ---- what is asked of the run as a whole
-- numbers 1, 12, 13 and 14, by how many bytes the requests and the answer space have
abbrev pub whole_premises : Bool → ℕ → ℕ → List (Refusal × Bool)
whole_premises sound bytes space =
    (Refusal.Unsound, sound)
    ∷ (Refusal.NotWhole, eqb (bytes % line_size) 0)
    ∷ (Refusal.TooMany, leb (bytes / line_size) most_requests)
    ∷ (Refusal.NoRoom, leb (line_size * (bytes / line_size)) space)
    ∷ []

unfoldable pub run_verdict : Page → ℕ → ℕ → Result (Unit {0}) Refusal
run_verdict page bytes space = verdict (whole_premises (sound_of page) bytes space)

-- ---- what the run answers
-- accepted, and the page after all requests; a refusal leaves the page
abbrev pub ends : Page → List ℕ → Result (Unit {0}) Refusal → Outcome
ends page requests (Ok _) = record { answer = Answer.Accepted; page = page_after page (requests_of requests) }
ends page requests (Err why) = refused_by page why

unfoldable pub ran_of : Page → List ℕ → List ℕ → Outcome
ran_of page requests answers = ends page requests (run_verdict page (length requests) (length answers))

-- the lines, as many bytes as the requests have, and what stood past them; a refusal leaves the buffer
abbrev pub fills : Page → List ℕ → List ℕ → Result (Unit {0}) Refusal → List ℕ
fills page requests answers v = leaves (length requests) v (lines_of page (requests_of requests)) answers

unfoldable pub answers_of : Page → List ℕ → List ℕ → List ℕ
answers_of page requests answers = fills page requests answers (run_verdict page (length requests) (length answers))
