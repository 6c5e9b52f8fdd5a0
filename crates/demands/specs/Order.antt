-- The order of the readers is not to be seen in what is answered (RULES 1.4). To be compared with: the same lock on a list that closes the
-- gap, where the readers behind a removed one move up. Its requests are judged and decided as ever; what it does to the list is its own.
use Rattle.std.specs.Prelude.{ℕ, Result, Ok, Err, ◌+◌, ◌≡◌, cond, List, [], ◌∷◌, ◌++◌, T, take, drop, set}
use Rattle.kinds.specs.declared.Reader.{Reader}
use Rattle.readers.specs.Listed.{live, listed}
use Rattle.page_record.specs.declared.Page.{Page}
use Rattle.page_record.specs.Pages.{head_of, page_of}
use Rattle.soundness.specs.Soundness.{sound_of}
use Rattle.census.specs.Census.{census_of}
use Rattle.requests.specs.declared.{Refusal.Refusal, Request.Request}
use Rattle.requests.specs.Requests.{judged}
use Rattle.heads.specs.declared.{Edit.Edit, Decision.Decision}
use Rattle.lock.specs.declared.Outcome.{Outcome}
use Rattle.lock.specs.Step.{decided_on, refused_by}
use Rattle.lock.specs.Order.{Alike}
use Rattle.replay.specs.Run.{ran_of, answers_of}
use Rattle.pieces.specs.declared.Carry.{Carry}
use Rattle.pieces.specs.Pieces.{taken_of, buffer_after}
use Rattle.demands.specs.History.{Event, Asking, left, happened, after, history}

-- ---- a list that closes the gap
-- the list without its entry at a place: the later ones move up
abbrev pub closed : {A : Type 0} → ℕ → List A → List A
closed place l = take place l ++ drop (place + 1) l

-- what an edit does to it
abbrev pub closing : Edit → List Reader → List Reader
closing Edit.Keep l = l
closing (Edit.Push r) l = l ++ r ∷ []
closing (Edit.Put place r) l = set l place r
closing (Edit.Remove place) l = closed place l

-- one request
abbrev pub decided_closing : List Reader → Decision → Outcome
decided_closing l d = record { answer = d.answer; page = page_of d.head (listed (closing d.edit l)) }

abbrev pub stepped_closing : Page → Request → Result (Unit {0}) Refusal → Outcome
stepped_closing p q (Ok _) = decided_closing (live p.readers) (decided_on (head_of p) (live p.readers) q)
stepped_closing p q (Err why) = refused_by p why

abbrev pub step_closing : Page → Request → Outcome
step_closing p q = cond (sound_of p) (stepped_closing p q (judged q)) (refused_by p Refusal.Unsound)

-- requests one after the other: the page that they leave, and the history
abbrev pub by_closing : Asking
by_closing = record {
  Ask = Request;
  page = λ p q. (step_closing p q).page;
  event = λ p q. record { request = q; answer = (step_closing p q).answer };
}

abbrev pub after_closing : Page → List Request → Page
after_closing = left by_closing

abbrev pub history_closing : Page → List Request → List Event → List Event
history_closing = happened by_closing

-- ---- two pages that differ in the order alone
-- a run of any bytes is answered alike, byte by byte, and leaves again such two
pub record RunsAlike (p p' : Page) (requests answers : List ℕ) : Type 0 where
  pub answer : (ran_of p requests answers).answer ≡ (ran_of p' requests answers).answer
  pub lines : answers_of p requests answers ≡ answers_of p' requests answers
  pub left : Alike (ran_of p requests answers).page (ran_of p' requests answers).page

-- and so is a piece, with any carry
pub record PiecesAlike (p p' : Page) (c : Carry) (piece answers : List ℕ) : Type 0 where
  pub answer : (taken_of p c piece answers).answer ≡ (taken_of p' c piece answers).answer
  pub carry : (taken_of p c piece answers).carry ≡ (taken_of p' c piece answers).carry
  pub count : (taken_of p c piece answers).lines ≡ (taken_of p' c piece answers).lines
  pub lines : buffer_after p c piece answers ≡ buffer_after p' c piece answers
  pub left : Alike (taken_of p c piece answers).page (taken_of p' c piece answers).page

-- ---- the lock, and the lock on a list that closes the gap: what is the same after any requests, from any page, sound or not
pub record Unseen (p : Page) (qs : List Request) : Type 0 where
  -- every answer,
  pub answers : (past : List Event) → history p qs past ≡ history_closing p qs past
  -- the counts and the census,
  pub counts : (after p qs).ref_counts ≡ (after_closing p qs).ref_counts
  pub census : census_of (after p qs) ≡ census_of (after_closing p qs)
  -- and from a sound page all that is left, but for the order of the readers
  pub alike : T (sound_of p) → Alike (after p qs) (after_closing p qs)
