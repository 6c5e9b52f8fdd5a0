-- What the judgement of a run as a whole says. A run that passes has all that is asked of it, and the other way round; the
-- answer of a run tells how it was judged; and the program judges its input as a run of all its bytes, though it keeps no more
-- of them than a run takes. Assumes nothing.
use Rattle.std.specs.Prelude.{Result, Ok, Err}
use Prim.Native.Nat.{ℕ, ◌*◌, ◌/◌, ◌%◌, ◌<◌, ◌≤◌}
use mathlib.Core.Path.{◌≡◌, refl, ◌∙◌}
use mathlib.Core.Bool.{Bool, true, false}
use mathlib.Core.List.{List}
use native.Mathlib.Omega.{arith}
use borrow.Author.Tests.{eq-eqb, le-leb, lt-leb, eqb-true, ltb-true, ltb-false}
use lib.Dec.{eqb, ltb, eqb→eq, leb→le}
use lib.ListN.{length, take}
use lib.Seq.{take_all}
use Rattle.laws.proofs.Tests.{to_true}
use Rattle.kinds.specs.Limits.{line_size, most_requests}
use Rattle.page_record.specs.declared.Page.{Page}
use Rattle.page_record.specs.Pages.{fresh_page}
use Rattle.soundness.specs.Soundness.{sound_of}
use Rattle.soundness.proofs.FreshPage.{fresh_sound}
use Rattle.requests.specs.declared.{Refusal.Refusal, Answer.Answer}
use Rattle.requests.proofs.Verdicts.{passed as all_hold}
use Rattle.wire.specs.Buffers.{answer_for}
use Rattle.wire.proofs.Premises.{answer_passed, answer_failed}
use Rattle.replay.specs.Run.{whole_premises, run_verdict, ends, ran_of}
use Rattle.replay.specs.Reply.{longest, too_long, input_verdict}

-- ---- what is asked of a run
-- a run of so many bytes, with so much space for its answers, is not refused as a whole
pub record Fit (page : Page) (bytes space : ℕ) : Type 0 where
  pub sound : sound_of page ≡ true
  pub whole : bytes % line_size ≡ 0
  pub few : bytes / line_size ≤ most_requests
  pub room : line_size * (bytes / line_size) ≤ space

module _ {page : Page} {bytes space : ℕ} where
  pub fit : run_verdict page bytes space ≡ Ok tt → Fit page bytes space
  unfolding run_verdict
  fit e =
      let p = all_hold (whole_premises (sound_of page) bytes space) e in
      record {
        sound = to_true (sound_of page) p.0;
        whole = eqb→eq (bytes % line_size) 0 p.1.0;
        few = leb→le (bytes / line_size) most_requests p.1.1.0;
        room = leb→le (line_size * (bytes / line_size)) space p.1.1.1.0;
      }

  pub passed : Fit page bytes space → run_verdict page bytes space ≡ Ok tt
  unfolding run_verdict
  passed a = simp (a.sound, eq-eqb _ _ a.whole, le-leb _ _ a.few, le-leb _ _ a.room)

-- ---- the answer tells the verdict
-- a run is answered as a writing is
pub ends_answer : (page : Page) (requests : List ℕ) (v : Result (Unit {0}) Refusal) → answer_for v ≡ (ends page requests v).answer
ends_answer page requests (Ok _) = refl
ends_answer page requests (Err why) = refl

module _ (page : Page) (requests answers : List ℕ) where
  pub verdict_accepted : (ran_of page requests answers).answer ≡ Answer.Accepted
      → run_verdict page (length requests) (length answers) ≡ Ok tt
  unfolding ran_of
  verdict_accepted e =
      let v = run_verdict page (length requests) (length answers) in
      answer_passed v (ends_answer page requests v ∙ e)

  pub verdict_refused : (why : Refusal) → (ran_of page requests answers).answer ≡ Answer.Refused why
      → run_verdict page (length requests) (length answers) ≡ Err why
  unfolding ran_of
  verdict_refused why e =
      let v = run_verdict page (length requests) (length answers) in
      answer_failed v why (ends_answer page requests v ∙ e)

-- ---- the program's input
module _ (total space : ℕ) (long : longest < total) where
  -- an input that is longer than a run is refused for what the run is refused for
  judged_long : (whole : Bool) → eqb (total % line_size) 0 ≡ whole
      → Err (too_long total) ≡ run_verdict (fresh_page 0) total space
  unfolding run_verdict
  judged_long true e =
      let many : most_requests < total / line_size = omega (arith, eqb-true (total % line_size) 0 e) in
      simp (to_true (sound_of (fresh_page 0)) (fresh_sound 0), e, lt-leb _ _ many)
  judged_long false e = simp (to_true (sound_of (fresh_page 0)) (fresh_sound 0), e)

-- the program's verdict on an input, of which it keeps as much as a run takes, is the verdict on a run of all of it
pub input_judged : (input : List ℕ) (space : ℕ)
    → input_verdict (take longest input) (length input) space ≡ run_verdict (fresh_page 0) (length input) space
unfolding input_verdict
input_judged input space = go (ltb longest (length input)) refl
  where
    go : (long : Bool) → ltb longest (length input) ≡ long
        → input_verdict (take longest input) (length input) space ≡ run_verdict (fresh_page 0) (length input) space
    go true e =
        let long = ltb-true longest (length input) e in
        rw e (judged_long (length input) space long (eqb (length input % line_size) 0) refl)
    go false e = rw (e, take_all longest input (ltb-false longest (length input) e))
