-- The answers of a run. In one that is accepted line k is the answer to request k, from the page that the first k requests
-- left, the page at the end is the one that all of them leave, and the bytes past the last line are as they were. In order:
-- the lines, the buffer, a run that is accepted. Assumes nothing.
use Rattle.std.specs.Prelude.{Result, Ok}
use Prim.Native.Nat.{ℕ, zero, suc, ◌+◌, ◌*◌, ◌/◌, ◌<◌, ◌≤◌}
use mathlib.Core.Path.{◌≡◌, refl, ap, ◌∙◌, sym}
use mathlib.Core.List.{List, [], ◌∷◌, ◌++◌, append_assoc}
use native.Mathlib.Omega.{arith}
use native.Mathlib.Nat.{mul-zero, mul-suc, mul-le-mul_left}
use lib.ListN.{length, take, drop, get_or, length-append, length-drop}
use lib.Seq.{take_at, take-append-le, drop-append-le, drop-append-add}
use Rattle.kinds.specs.Limits.{line_size}
use Rattle.page_record.specs.declared.Page.{Page}
use Rattle.requests.specs.declared.Answer.{Answer}
use Rattle.requests.specs.declared.Refusal.{Refusal}
use Rattle.wire.specs.Answers.{line_of}
use Rattle.wire.proofs.Lines.{length_line}
use Rattle.wire.proofs.Buffers.{leaves_past, leaves_long}
use Rattle.replay.specs.Turns.{turn_of}
use Rattle.replay.specs.Run.{requests_of, page_after, lines_of, line_at, page_at, run_verdict, ends, fills, ran_of}
use Rattle.replay.specs.Run.{answers_of}
use Rattle.replay.proofs.Judged.{fit, verdict_accepted}
use Rattle.replay.proofs.Pages.{length_requests, request_at}

-- ---- the lines
-- requests in two parts are answered as the second after the first (`page_append` says the same of the page): so a run may be cut
-- into shorter ones, and bytes into pieces
pub lines_append : (page : Page) (before after : List (List ℕ))
    → lines_of page (before ++ after) ≡ lines_of page before ++ lines_of (page_after page before) after
lines_append page [] after = refl
lines_append page (q ∷ before) after =
    let line = line_of (turn_of page q).answer in
    let next = (turn_of page q).page in
    ap (λ (l : List ℕ). line ++ l) (lines_append next before after)
    ∙ sym (append_assoc line (lines_of next before) (lines_of (page_after next before) after))

module _ (w : ℕ) (wide : (a : Answer) → length (line_of a) ≡ w) where
  length_of : (page : Page) (qs : List (List ℕ)) → length (lines_of page qs) ≡ w * length qs
  length_of page [] = sym (mul-zero w)
  length_of page (q ∷ qs) = simp (length-append, wide, length_of (turn_of page q).page qs, mul-suc) (omega arith)

  line_of_lem : (page : Page) (qs : List (List ℕ)) (k : ℕ) → k < length qs
      → take w (drop (w * k) (lines_of page qs)) ≡ line_of (turn_of (page_after page (take k qs)) (get_or qs k [])).answer
  line_of_lem page [] k h = absurd (omega arith)
  line_of_lem page (q ∷ qs) zero h =
      rw mul-zero (take_at (line_of (turn_of page q).answer) (lines_of (turn_of page q).page qs) w (wide (turn_of page q).answer))
  line_of_lem page (q ∷ qs) (suc k) h =
      let answer = (turn_of page q).answer in
      let e : w * suc k ≡ length (line_of answer) + w * k = simp mul-suc (omega (arith, wide answer)) in
      rw (e, drop-append-add) (line_of_lem (turn_of page q).page qs k (omega arith))

-- a line that stands whole in the first of two parts
line_in : (w n k : ℕ) (l rest : List ℕ) → length l ≡ w * n → k < n → take w (drop (w * k) (l ++ rest)) ≡ take w (drop (w * k) l)
line_in w n k l rest e h =
    let f : w * suc k ≤ w * n = mul-le-mul_left w h in
    let g : w * k + w ≤ length l = omega (arith, mul-suc w k) in
    let i : w ≤ length (drop (w * k) l) = simp length-drop (omega arith) in
    ap (take w) (drop-append-le (w * k) l rest (omega arith)) ∙ take-append-le w (drop (w * k) l) rest i

pub length_lines : (page : Page) (qs : List (List ℕ)) → length (lines_of page qs) ≡ line_size * length qs
length_lines = length_of line_size length_line

-- ---- the buffer
-- a run that passes has as many bytes of lines as of requests
module _ (page : Page) (requests : List ℕ) (space : ℕ) (passed : run_verdict page (length requests) space ≡ Ok tt) where
  pub lines_fit : length (lines_of page (requests_of requests)) ≡ length requests
  lines_fit =
      let a = fit passed in
      simp (length_lines page (requests_of requests), length_requests requests) (omega arith)

  pub requests_fit : length requests ≤ space
  requests_fit = let a = fit passed in omega arith

-- however it is judged, its length stays, and so do the bytes past the last line
module _ (page : Page) (requests answers : List ℕ) where
  abbrev judged : Result (Unit {0}) Refusal
  judged = run_verdict page (length requests) (length answers)

  pub length_answers : length (answers_of page requests answers) ≡ length answers
  unfolding answers_of
  length_answers =
      leaves_long (length requests) (lines_of page (requests_of requests)) answers judged
      (λ e. (lines_fit page requests (length answers) e, requests_fit page requests (length answers) e))

  pub past_lines : drop (length requests) (answers_of page requests answers) ≡ drop (length requests) answers
  unfolding answers_of
  past_lines =
      leaves_past (length requests) (lines_of page (requests_of requests)) answers judged (lines_fit page requests (length answers))

-- ---- a run that is accepted
module _ (page : Page) (requests answers : List ℕ) (accepted : (ran_of page requests answers).answer ≡ Answer.Accepted) where
  pub answers_are : answers_of page requests answers ≡ lines_of page (requests_of requests) ++ drop (length requests) answers
  unfolding answers_of
  answers_are = ap (fills page requests answers) (verdict_accepted page requests answers accepted)

  -- the page at the end is the one that the last request leaves
  pub page_end : (ran_of page requests answers).page ≡ page_after page (requests_of requests)
  unfolding ran_of
  page_end = ap (λ (v : Result (Unit {0}) Refusal). (ends page requests v).page) (verdict_accepted page requests answers accepted)

  -- line k is the answer to request k, from the page that the first k requests left
  pub line_at_lem : (k : ℕ) → k < length requests / line_size
      → line_at k (answers_of page requests answers) ≡ line_of (turn_of (page_at k page requests) (line_at k requests)).answer
  line_at_lem k h =
      let qs = requests_of requests in
      let in_range : k < length qs = rw length_requests h in
      ap (line_at k) answers_are
      ∙ line_in line_size (length qs) k (lines_of page qs) (drop (length requests) answers) (length_lines page qs) in_range
      ∙ line_of_lem line_size length_line page qs k in_range
      ∙ ap (λ (q : List ℕ). line_of (turn_of (page_at k page requests) q).answer) (request_at requests k h)
