-- The requests of a run, and the pages that they leave: each is answered from the page that those before it left, by a step
-- where its bytes are a request; a refused one leaves it, and a sound page stays sound. In order: one request, the requests, the
-- pages. Assumes nothing.
use Rattle.std.specs.Prelude.{Result, Ok, Err}
use Prim.Native.Nat.{ℕ, suc, ◌/◌, ◌<◌, ◌≤◌}
use mathlib.Core.Path.{◌≡◌, refl, ap, ◌∙◌}
use mathlib.Core.List.{List, [], ◌∷◌, ◌++◌}
use native.Mathlib.Omega.{arith}
use lib.Dec.{T}
use lib.ListN.{length, take, get_or}
use lib.Seq.{take_all, take-suc}
use Rattle.laws.proofs.Cuts.{length_cut, cut_at}
use Rattle.kinds.specs.Limits.{line_size}
use Rattle.page_record.specs.declared.Page.{Page}
use Rattle.soundness.specs.Soundness.{sound_of}
use Rattle.requests.specs.declared.{Refusal.Refusal, Answer.Answer, Request.Request}
use Rattle.lock.specs.Step.{refused_by, step_of}
use Rattle.lock.proofs.Keeps.{step_keeps, refused_keeps_all}
use Rattle.wire.specs.Requests.{read_of}
use Rattle.replay.specs.Turns.{on_reading, turn_of}
use Rattle.replay.specs.Run.{requests_of, page_after, line_at, page_at}

-- ---- one request
-- what the reader accepts is answered by a step, and what it refuses is refused for its reason
module _ (page : Page) (bytes : List ℕ) where
  pub turn_read : (q : Request) → read_of bytes ≡ Ok q → turn_of page bytes ≡ step_of page q
  unfolding turn_of
  turn_read q e = ap (on_reading page) e

  pub turn_refused : (why : Refusal) → read_of bytes ≡ Err why → turn_of page bytes ≡ refused_by page why
  unfolding turn_of
  turn_refused why e = ap (on_reading page) e

  -- one that is refused leaves the page, whether the reader or the step refused it
  pub refused_turn : (why : Refusal) → (turn_of page bytes).answer ≡ Answer.Refused why → (turn_of page bytes).page ≡ page
  unfolding turn_of
  refused_turn why = go (read_of bytes)
    where
      go : (r : Result Request Refusal) → (on_reading page r).answer ≡ Answer.Refused why → (on_reading page r).page ≡ page
      go (Ok q) e = refused_keeps_all page q why e
      go (Err other) e = refl

  -- a sound page stays sound
  pub turn_keeps : T (sound_of page) → T (sound_of (turn_of page bytes).page)
  unfolding turn_of
  turn_keeps sound = go (read_of bytes)
    where
      go : (r : Result Request Refusal) → T (sound_of (on_reading page r).page)
      go (Ok q) = step_keeps page q sound
      go (Err why) = sound

-- ---- the requests
pub length_requests : (l : List ℕ) → length (requests_of l) ≡ length l / line_size
length_requests l = length_cut line_size (length l / line_size) l

pub request_at : (l : List ℕ) (k : ℕ) → k < length l / line_size → get_or (requests_of l) k [] ≡ line_at k l
request_at l k h = cut_at line_size (length l / line_size) k l h

-- ---- the pages
pub page_append : (page : Page) (before after : List (List ℕ))
    → page_after page (before ++ after) ≡ page_after (page_after page before) after
page_append page [] after = refl
page_append page (q ∷ before) after = page_append (turn_of page q).page before after

-- a sound page stays sound
pub run_keeps : (page : Page) (qs : List (List ℕ)) → T (sound_of page) → T (sound_of (page_after page qs))
run_keeps page [] sound = sound
run_keeps page (q ∷ qs) sound = run_keeps (turn_of page q).page qs (turn_keeps page q sound)

-- the last request leaves the page
pub page_last : (page : Page) (before : List (List ℕ)) (q : List ℕ)
    → page_after page (before ++ q ∷ []) ≡ (turn_of (page_after page before) q).page
page_last page before q = page_append page before (q ∷ [])

module _ (page : Page) (requests : List ℕ) where
  -- each request leaves its page to the next
  pub page_next : (k : ℕ) → k < length requests / line_size
      → page_at (suc k) page requests ≡ (turn_of (page_at k page requests) (line_at k requests)).page
  page_next k h =
      let qs = requests_of requests in
      let in_range : k < length qs = rw length_requests h in
      ap (page_after page) (take-suc qs k [] in_range)
      ∙ page_last page (take k qs) (get_or qs k [])
      ∙ ap (λ (q : List ℕ). (turn_of (page_at k page requests) q).page) (request_at requests k h)

  -- all of them leave the page at the end
  pub page_all : page_at (length requests / line_size) page requests ≡ page_after page (requests_of requests)
  page_all =
      let h : length (requests_of requests) ≤ length requests / line_size = rw length_requests (omega arith) in
      ap (page_after page) (take_all (length requests / line_size) (requests_of requests) h)
