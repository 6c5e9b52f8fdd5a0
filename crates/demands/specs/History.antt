-- What happened to a page, and what can be told from it, in the words of RULES 9. A history is the list of requests with the
-- answers that were given, the newest first, so that "the latest" is the first one found; and it starts from a page.
use Rattle.std.specs.Prelude.{ℕ, Option, Some, None, Result, Ok, Err, ◌+◌, ◌≡◌, Bool, true, false, cond, not, ◌&&◌, List, [], ◌∷◌, ◌++◌, T, eqb, length}
use Rattle.laws.specs.Lists.{among}
use Rattle.page_record.specs.declared.Page.{Page}
use Rattle.page_record.specs.Holders.{is_stored, value_of, has_bucket, exc_bucket, exc_value, loading_bucket}
use Rattle.page_record.specs.Pages.{number_at}
use Rattle.page_record.specs.References.{ref_at}
use Rattle.requests.specs.declared.{Request.Request, Answer.Answer}
use Rattle.requests.specs.declared.Refusal.{Refusal}
use Rattle.requests.specs.Answers.{answer_number, answer_value, withdraws}
use Rattle.lock.specs.Words.{raising, leaving, naming, giving_back, putting_in, handing_out, fetching}
use Rattle.lock.specs.Step.{step_of}
use Rattle.wire.specs.Answers.{line_of}
use Rattle.wire.specs.Requests.{fields_of}
use Rattle.replay.specs.Turns.{turn_of}
use Rattle.replay.specs.Run.{requests_of, run_verdict, ran_of}
use Rattle.kinds.specs.declared.Bucket.{Bucket}

-- a request and its answer
pub record Event : Type 0 where
  pub request : Request
  pub answer : Answer

-- what a request adds to the history
abbrev pub event : Page → Request → Event
event p q = record { request = q; answer = (step_of p q).answer }

-- ---- one after the other, refused ones among them
-- what can be asked of a page: the page that it leaves, and what it adds to the history
pub record Asking : Type 1 where
  pub Ask : Type 0
  pub page : Page → Ask → Page
  pub event : Page → Ask → Event

module _ (way : Asking) where
  -- the page that they leave
  abbrev pub left : Page → List way.Ask → Page
  left p [] = p
  left p (a ∷ asks) = left (way.page p a) asks

  -- the history that they make of an earlier one
  abbrev pub happened : Page → List way.Ask → List Event → List Event
  happened p [] past = past
  happened p (a ∷ asks) past = happened (way.page p a) asks (way.event p a ∷ past)

-- ---- requests
abbrev pub by_request : Asking
by_request = record { Ask = Request; page = λ p q. (step_of p q).page; event = event }

abbrev pub after : Page → List Request → Page
after = left by_request

abbrev pub history : Page → List Request → List Event → List Event
history = happened by_request

-- ---- the lines of a run: what cannot be read is a refused request too
abbrev pub line_event : Page → List ℕ → Event
line_event p bytes = record { request = fields_of bytes; answer = (turn_of p bytes).answer }

abbrev pub by_line : Asking
by_line = record { Ask = List ℕ; page = λ p bytes. (turn_of p bytes).page; event = line_event }

abbrev pub run_history : Page → List (List ℕ) → List Event → List Event
run_history = happened by_line

-- ---- run after run
-- what each is given, requests and a buffer for its answers
pub record Given : Type 0 where
  pub requests : List ℕ
  pub answers : List ℕ

-- the page that they leave, whether they were accepted or not
abbrev pub after_runs : Page → List Given → Page
after_runs p [] = p
after_runs p (g ∷ gs) = after_runs (ran_of p g.requests g.answers).page gs

-- a run that is refused as a whole has no lines
abbrev pub lines_in : List ℕ → Result (Unit {0}) Refusal → List (List ℕ)
lines_in requests (Ok _) = requests_of requests
lines_in requests (Err why) = []

-- a run adds its lines
abbrev pub added : Page → List ℕ → List Event → Result (Unit {0}) Refusal → List Event
added p requests past v = run_history p (lines_in requests v) past

abbrev pub runs_history : Page → List Given → List Event → List Event
runs_history p [] past = past
runs_history p (g ∷ gs) past =
    runs_history (ran_of p g.requests g.answers).page gs
    (added p g.requests past (run_verdict p (length g.requests) (length g.answers)))

-- the lines of any runs, one after the other
abbrev pub all_lines : Page → List Given → List (List ℕ)
all_lines p [] = []
all_lines p (g ∷ gs) =
    lines_in g.requests (run_verdict p (length g.requests) (length g.answers))
    ++ all_lines (ran_of p g.requests g.answers).page gs

-- runs are their lines: the page and the history of any runs are those of these
pub record AsLines (p : Page) (gs : List Given) : Type 0 where
  pub page : after_runs p gs ≡ left by_line p (all_lines p gs)
  pub history : (past : List Event) → runs_history p gs past ≡ run_history p (all_lines p gs) past

-- the answer lines that a history stands for, the oldest first
abbrev pub answer_lines : List Event → List ℕ
answer_lines [] = []
answer_lines (e ∷ past) = answer_lines past ++ line_of e.answer

-- ---- what a history starts from
-- what is taken to have happened just before: each bucket's count, which is no arrival; the value that was put in last; whether the
-- page was withdrawn since; the loader's bucket, which the latest 13 named, after the withdrawal; and the exclusive holder's, which
-- the latest 4 named
pub record Start : Type 0 where
  pub counts : ℕ → ℕ
  pub value : ℕ
  pub out : Bool
  pub loader : Option Bucket
  pub editor : Option Bucket

-- what was put in last, as a page has it: storage's value, else the one that its exclusive holder keeps. For a page that is out with a
-- loader it is not known, and any value will do (`demand3_unknown`)
abbrev pub put_before : Page → ℕ
put_before p = cond (is_stored p.storage) (value_of p.storage) (exc_value p.exc_state)

-- a history that starts at this page. A page that is out was withdrawn just before, and then its loader named its bucket by a 13. Its
-- exclusive holder named its bucket by a 4
abbrev pub start_of : Page → Start
start_of p = record {
  counts = number_at p.ref_counts;
  value = put_before p;
  out = not (is_stored p.storage);
  loader = loading_bucket p.loading_state;
  editor = exc_bucket p.exc_state;
}

-- the same, but that this value was put in last
abbrev pub start_with : ℕ → Page → Start
start_with v p = record {
  counts = (start_of p).counts;
  value = v;
  out = (start_of p).out;
  loader = (start_of p).loader;
  editor = (start_of p).editor;
}

-- ---- the words of RULES 9
-- an accepted request for one of these steps
abbrev pub accepted : List ℕ → Event → Bool
accepted steps e = eqb (answer_number e.answer) 0 && among steps e.request.step

-- it names bucket b
abbrev pub names_bucket : ℕ → Event → Bool
names_bucket b e = eqb e.request.bucket.0 b

-- arrivals at b: accepted 13, 18 and 19 naming b
abbrev pub arrivals : ℕ → List Event → ℕ
arrivals b [] = 0
arrivals b (e ∷ past) = cond (accepted raising e && names_bucket b e) 1 0 + arrivals b past

module _ (start : Start) where
  -- the bucket that the latest accepted 13 named
  abbrev pub last_counted : List Event → Option Bucket
  last_counted [] = start.loader
  last_counted (e ∷ past) = cond (accepted (13 ∷ []) e) (Some e.request.bucket) (last_counted past)

  -- a 13 was accepted since the latest accepted 11 or 12; before the start, just if there is a loader that has a bucket
  abbrev pub counted_since : List Event → Bool
  counted_since [] = has_bucket start.loader
  counted_since (e ∷ past) = cond (accepted (13 ∷ []) e) true (cond (accepted fetching e) false (counted_since past))

  -- the editor's bucket: the one that the latest accepted 4 or 18 named, unless a 3 was accepted since
  abbrev pub editor_named : List Event → Option Bucket
  editor_named [] = start.editor
  editor_named (e ∷ past) =
      cond (accepted naming e) (Some e.request.bucket)
      (cond (accepted (3 ∷ []) e) None (editor_named past))

  -- departures from b: accepted 20, 21, 22 naming b; accepted 17 where a 13 was accepted since the latest accepted 11 or 12, and the
  -- latest 13 named b; and accepted 25, 29 and 30 where b is the editor's bucket
  abbrev pub departures : ℕ → List Event → ℕ
  departures b [] = 0
  departures b (e ∷ past) =
      cond (accepted leaving e && names_bucket b e) 1 0
      + cond (accepted (17 ∷ []) e && counted_since past) (ref_at (last_counted past) b) 0
      + cond (accepted giving_back e) (ref_at (editor_named past) b) 0
      + departures b past

  -- the last value put in: of the latest accepted 9, 10, 16, 17, 29 or 30, else the start's
  abbrev pub last_put : List Event → ℕ
  last_put [] = start.value
  last_put (e ∷ past) = cond (accepted putting_in e) e.request.value (last_put past)

  -- the last value that an editor took: the one that the latest accepted 8 handed out, else the start's
  abbrev pub last_taken : List Event → ℕ
  last_taken [] = start.value
  last_taken (e ∷ past) = cond (accepted (8 ∷ []) e) (answer_value e.answer) (last_taken past)

  -- hand-overs are those six and 8, 11, 12: whether the last one was a withdrawal
  abbrev pub last_withdrew : List Event → Bool
  last_withdrew [] = start.out
  last_withdrew (e ∷ past) = cond (accepted handing_out e) true (cond (accepted putting_in e) false (last_withdrew past))

  -- every value that was handed out was the one last put in at that moment
  abbrev pub HandedOut : List Event → Type 0
  HandedOut [] = Unit {0}
  HandedOut (e ∷ past) = (T (withdraws e.answer) → answer_value e.answer ≡ last_put past) × HandedOut past

-- a value was handed out just where an 8, 11 or 12 was accepted
abbrev pub HandsOut : Event → Type 0
HandsOut e = withdraws e.answer ≡ accepted handing_out e

abbrev pub HandOuts : List Event → Type 0
HandOuts [] = Unit {0}
HandOuts (e ∷ past) = HandsOut e × HandOuts past
