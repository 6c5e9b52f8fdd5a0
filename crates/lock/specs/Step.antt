-- One request on one page: the page is judged (1), then the request's fields (2 to 4), then the step's own premises.
use Rattle.std.specs.Prelude.{cond, Option, Some, None, Result, Ok, Err, ℕ, List, [], ◌∷◌, ◌++◌, leb, length, set}
use Rattle.laws.specs.Lists.{without}
use Rattle.kinds.specs.declared.Reader.{Reader}
use Rattle.kinds.specs.Limits.{capacity}
use Rattle.readers.specs.declared.Readers.{Readers}
use Rattle.readers.specs.Listed.{live, find_in, pushed, after_push, put_at, removed_at}
use Rattle.page_record.specs.declared.{Head.Head, Page.Page}
use Rattle.page_record.specs.Pages.{head_of, page_of}
use Rattle.soundness.specs.Soundness.{sound_of}
use Rattle.requests.specs.declared.{Refusal.Refusal, Answer.Answer, Request.Request}
use Rattle.requests.specs.Requests.{judged}
use Rattle.heads.specs.declared.{Edit.Edit, Decision.Decision}
use Rattle.steps.specs.Decide.{decide_of, sought_of}
use Rattle.lock.specs.declared.Outcome.{Outcome}

-- ---- what an edit does, to the list and to the array that holds it
abbrev pub edited : Edit → List Reader → List Reader
edited Edit.Keep l = l
edited (Edit.Push r) l = l ++ r ∷ []
edited (Edit.Put place r) l = set l place r
edited (Edit.Remove place) l = without place l

unfoldable pub edited_in : Edit → Readers → Readers
edited_in Edit.Keep rs = rs
edited_in (Edit.Push r) rs = after_push (pushed rs r)
edited_in (Edit.Put place r) rs = put_at rs place r
edited_in (Edit.Remove place) rs = removed_at rs place

-- ---- one step
-- where the reader that is sought stands
unfoldable pub look_for : List Reader → Option Reader → Option ℕ
look_for l None = None
look_for l (Some x) = find_in l x

-- the decision on a head, its list of readers and the request
abbrev pub decided_on : Head → List Reader → Request → Decision
decided_on h l q = decide_of h q (look_for l (sought_of q)) (leb capacity (length l))

-- a refusal changes nothing
abbrev pub refused_by : Page → Refusal → Outcome
refused_by p why = record { answer = Answer.Refused why; page = p }

-- what a decision makes of a page
abbrev pub applied : Page → Decision → Outcome
applied p d = record { answer = d.answer; page = page_of d.head (edited_in d.edit p.readers) }

-- what is decided on a page, its fields judged
abbrev pub stepped : Page → Request → Result (Unit {0}) Refusal → Outcome
stepped p q (Ok _) =
    applied p (decide_of (head_of p) q (look_for (live p.readers) (sought_of q)) (leb capacity p.readers.len))
stepped p q (Err why) = refused_by p why

unfoldable pub step_of : Page → Request → Outcome
step_of p q = cond (sound_of p) (stepped p q (judged q)) (refused_by p Refusal.Unsound)
