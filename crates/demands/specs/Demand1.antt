-- Demand 1: any record, any request bytes, any buffer get an answer. A bad one is refused by number, the checks run in the
-- written order, and a refusal changes nothing but its own answer line. That there is an answer needs no word: each public
-- function is proved to end and its promise is an equation (proofs/NoSecond.antt).
--
-- Each table of numbers is in the words of RULES 4.1: `applying` (lock) for a step, `applying_bytes` and `applying_write` (wire) for
-- one request read or written, `applying_run` and `applying_line` (replay) for a run and its lines. A number is given just if it is
-- the lowest that applies (`Lowest`), and 0 just if none does.
use Rattle.std.specs.Prelude.{ℕ, Ok, suc, ◌<◌, ◌≤◌, ◌/◌, ◌≡◌, ◌↔◌, false, List, length, drop}
use Rattle.laws.specs.Tables.{first_applying, applies_in, Lowest}
use Rattle.kinds.specs.Limits.{line_size}
use Rattle.page_record.specs.declared.Page.{Page}
use Rattle.requests.specs.declared.{Refusal.Refusal, Answer.Answer, Request.Request}
use Rattle.requests.specs.Answers.{answer_number}
use Rattle.lock.specs.Step.{step_of}
use Rattle.lock.specs.Applies.{applying}
use Rattle.wire.specs.Answers.{line_of}
use Rattle.wire.specs.Requests.{fields_of, reading_number, read_of, wrote_answer, wrote_to}
use Rattle.wire.specs.Applies.{applying_bytes, applying_write}
use Rattle.replay.specs.Turns.{turn_of}
use Rattle.replay.specs.Run.{line_at, page_at, ran_of, answers_of}
use Rattle.replay.specs.Applies.{applying_run, applying_line}

-- ---- one request on one page, whatever they are
pub record Demand1 (p : Page) (q : Request) : Type 0 where
  -- the number is the first of the table that applies, 0 where none does
  pub lowest : answer_number (step_of p q).answer ≡ first_applying (applying p q)
  -- number by number: n is given just if it applies and no lower one does, and 0 just if none applies
  pub given : (n : ℕ) → 1 ≤ n → (answer_number (step_of p q).answer ≡ n) ↔ Lowest (applying p q) n
  pub accepted : (answer_number (step_of p q).answer ≡ 0) ↔ ((n : ℕ) → applies_in (applying p q) n ≡ false)
  -- a refusal changes nothing
  pub untouched : (why : Refusal) → (step_of p q).answer ≡ Answer.Refused why → (step_of p q).page ≡ p

-- ---- any bytes that are read as one request
pub record Demand1Read (l : List ℕ) : Type 0 where
  -- 12 comes first: it is given just if there are not sixteen of them;
  pub ragged : (reading_number (read_of l) ≡ 12) ↔ (length l ≡ line_size → ⊥)
  -- of sixteen bytes, n is given just if it is the lowest of 2, 3 and 4 that applies,
  pub given : length l ≡ line_size → (n : ℕ) → 1 ≤ n → (reading_number (read_of l) ≡ n) ↔ Lowest (applying_bytes l) n
  -- and they are a request, the one that their fields say, just if none applies
  pub accepted : (read_of l ≡ Ok (fields_of l))
      ↔ ((length l ≡ line_size) × ((n : ℕ) → applies_in (applying_bytes l) n ≡ false))
  pub fields : (q : Request) → read_of l ≡ Ok q → fields_of l ≡ q

-- ---- any request that is written into any buffer
pub record Demand1Write (q : Request) (buffer : List ℕ) : Type 0 where
  -- n is given just if it is the lowest of 2, 3, 4 and 14 that applies, and it is accepted just if none applies
  pub given : (n : ℕ) → 1 ≤ n → (answer_number (wrote_answer q buffer) ≡ n) ↔ Lowest (applying_write q buffer) n
  pub accepted : (wrote_answer q buffer ≡ Answer.Accepted) ↔ ((n : ℕ) → applies_in (applying_write q buffer) n ≡ false)
  -- a refusal touches no byte, and what is accepted the first sixteen alone
  pub untouched : (why : Refusal) → wrote_answer q buffer ≡ Answer.Refused why → wrote_to q buffer ≡ buffer
  pub past : drop line_size (wrote_to q buffer) ≡ drop line_size buffer

-- ---- a run of any bytes on any page into any buffer
pub record Demand1Run (p : Page) (requests answers : List ℕ) : Type 0 where
  -- as a whole n is given just if it is the lowest of 1, 12, 13 and 14 that applies, and it is accepted just if none applies;
  pub whole : (n : ℕ) → 1 ≤ n → (answer_number (ran_of p requests answers).answer ≡ n) ↔ Lowest (applying_run p requests answers) n
  pub whole_accepted : ((ran_of p requests answers).answer ≡ Answer.Accepted)
      ↔ ((n : ℕ) → applies_in (applying_run p requests answers) n ≡ false)
  -- a refusal of the whole touches neither page nor buffer
  pub whole_untouched : (why : Refusal) → (ran_of p requests answers).answer ≡ Answer.Refused why
      → ((ran_of p requests answers).page ≡ p) × (answers_of p requests answers ≡ answers)
  -- otherwise each request has its own line, the answer from the page that those before it left,
  pub lines : (ran_of p requests answers).answer ≡ Answer.Accepted → (k : ℕ) → k < length requests / line_size
      → line_at k (answers_of p requests answers) ≡ line_of (turn_of (page_at k p requests) (line_at k requests)).answer
  -- whose number n is the lowest that applies to its bytes on that page, and 0 just if none applies;
  pub line : (ran_of p requests answers).answer ≡ Answer.Accepted → (k : ℕ) → k < length requests / line_size
      → (n : ℕ) → 1 ≤ n
      → (answer_number (turn_of (page_at k p requests) (line_at k requests)).answer ≡ n)
      ↔ Lowest (applying_line (page_at k p requests) (line_at k requests)) n
  pub line_accepted : (ran_of p requests answers).answer ≡ Answer.Accepted → (k : ℕ) → k < length requests / line_size
      → (answer_number (turn_of (page_at k p requests) (line_at k requests)).answer ≡ 0)
      ↔ ((n : ℕ) → applies_in (applying_line (page_at k p requests) (line_at k requests)) n ≡ false)
  -- each request leaves its page to the next, a refused one the page that it found,
  pub next : (k : ℕ) → k < length requests / line_size → page_at (suc k) p requests
      ≡ (turn_of (page_at k p requests) (line_at k requests)).page
  pub refused_line : (k : ℕ) → k < length requests / line_size → (why : Refusal)
      → (turn_of (page_at k p requests) (line_at k requests)).answer ≡ Answer.Refused why → page_at (suc k) p requests ≡ page_at k p requests
  -- and the run ends with the page that all of them left
  pub page : (ran_of p requests answers).answer ≡ Answer.Accepted → (ran_of p requests answers).page
      ≡ page_at (length requests / line_size) p requests
  -- the bytes past the last line stay, however the run was judged
  pub past : drop (length requests) (answers_of p requests answers) ≡ drop (length requests) answers
