-- What the program writes for its input: the answers of a run from a fresh page of value 0, or one answer line where the
-- input is refused as a whole. Of an input longer than a run only the length is kept, to tell 12 from 13.
use Rattle.std.specs.Prelude.{ℕ, Result, Ok, Err, ◌*◌, ◌%◌, cond, List, eqb, ltb, leb, length, take}
use Rattle.kinds.specs.Limits.{line_size, most_requests}
use Rattle.page_record.specs.Pages.{fresh_page}
use Rattle.requests.specs.declared.{Refusal.Refusal, Answer.Answer}
use Rattle.wire.specs.Answers.{line_of}
use Rattle.wire.specs.Buffers.{put_to}
use Rattle.replay.specs.Run.{run_verdict, answers_of}

-- the most bytes that a run takes
abbrev pub longest : ℕ
longest = line_size * most_requests

-- why an input with more bytes than that is refused
abbrev pub too_long : ℕ → Refusal
too_long total = cond (eqb (total % line_size) 0) Refusal.TooMany Refusal.NotWhole

-- whether an input is run: it has `total` bytes, and `kept` are those that are kept of it
unfoldable pub input_verdict : List ℕ → ℕ → ℕ → Result (Unit {0}) Refusal
input_verdict kept total space =
    cond (ltb longest total) (Err (too_long total)) (run_verdict (fresh_page 0) (length kept) space)

-- ---- one answer line for the whole input, where there is room for it
abbrev pub refusal_length : List ℕ → ℕ
refusal_length out = cond (leb line_size (length out)) line_size 0

abbrev pub refusal_bytes : Refusal → List ℕ → List ℕ
refusal_bytes why out = put_to (line_of (Answer.Refused why)) out

-- ---- how many bytes of the buffer are written out, and what the buffer holds then
abbrev pub length_for : List ℕ → List ℕ → Result (Unit {0}) Refusal → ℕ
length_for kept out (Ok _) = length kept
length_for kept out (Err why) = refusal_length out

abbrev pub bytes_for : List ℕ → List ℕ → Result (Unit {0}) Refusal → List ℕ
bytes_for kept out (Ok _) = answers_of (fresh_page 0) kept out
bytes_for kept out (Err why) = refusal_bytes why out

unfoldable pub reply_length : List ℕ → ℕ → List ℕ → ℕ
reply_length kept total out = length_for kept out (input_verdict kept total (length out))

unfoldable pub reply_bytes : List ℕ → ℕ → List ℕ → List ℕ
reply_bytes kept total out = bytes_for kept out (input_verdict kept total (length out))

-- what is written out
abbrev pub written : List ℕ → ℕ → List ℕ → List ℕ
written kept total out = take (reply_length kept total out) (reply_bytes kept total out)
