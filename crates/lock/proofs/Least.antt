-- The answer's number is the lowest of the numbers that apply (`least_number`), for every page and request, sound and well formed
-- or not. So a number is given just if it applies and no lower one does (`number_first`), and 0 just if none does
-- (`number_none`). 1 is the page's, 2 to 4 are the request's, 5 to 11 and 17 the step's own (Least/Tables.antt). Assumes nothing.
pub mod Numbered
pub mod Tables
use Rattle.std.specs.Prelude.{Result, Ok, Err}
use Prim.Native.Nat.{ℕ, ◌≤◌}
use mathlib.Core.Path.{◌≡◌, refl, sym, ap, ◌∙◌}
use mathlib.Core.Logic.{◌↔◌}
use mathlib.Core.Bool.{Bool, true, false}
use mathlib.Core.List.{◌++◌}
use native.Mathlib.Omega.{arith}
use lib.Dec.{T, leb}
use Rattle.laws.specs.Tables.{first_applying, applies_in, Lowest}
use Rattle.laws.proofs.Tests.{is_true}
use Rattle.laws.proofs.Tables.{first_lowest, first_none, first_before, first_after}
use Rattle.kinds.specs.Limits.{capacity}
use Rattle.readers.specs.Listed.{live}
use Rattle.page_record.specs.declared.Page.{Page}
use Rattle.page_record.specs.Pages.{head_of}
use Rattle.soundness.specs.Soundness.{sound_of}
use Rattle.requests.specs.declared.Request.{Request}
use Rattle.requests.specs.declared.Refusal.{Refusal}
use Rattle.requests.specs.Answers.{answer_number, verdict_number}
use Rattle.requests.specs.Requests.{is_step, formal, judged}
use Rattle.requests.specs.Applies.{applying_fields}
use Rattle.requests.proofs.Verdicts.{passed}
use Rattle.requests.proofs.Reasons.{refusal_above}
use Rattle.requests.proofs.Least.{judged_number}
use Rattle.steps.specs.Decide.{sought_of}
use Rattle.lock.specs.Step.{look_for, step_of, stepped}
use Rattle.lock.specs.Applies.{applying_step, applying}
use Rattle.lock.proofs.Least.Numbered.{decided_number}
use Rattle.lock.proofs.Least.Tables.{Bounds, bounds, tabled_at}

module _ (p : Page) (q : Request) where
  -- where page and fields are in order, the step's own number
  decided_no : Bounds p → T (is_step q.step) → answer_number (stepped p q (Ok tt)).answer ≡ first_applying (applying_step p q)
  decided_no within t =
      decided_number (head_of p) q (look_for (live p.readers) (sought_of q)) (leb capacity p.readers.len)
      ∙ tabled_at p within q t

  -- on a sound page, the fields' number comes first
  judged_no : Bounds p → (v : Result (Unit {0}) Refusal) → judged q ≡ v
      → answer_number (stepped p q v).answer ≡ first_applying (applying_fields q ++ applying_step p q)
  unfolding judged
  judged_no within (Ok _) e =
      let none = sym (judged_number q) ∙ ap verdict_number e in
      decided_no within (passed (formal q) e).0 ∙ sym (first_after (applying_fields q) (applying_step p q) tt none)
  judged_no within (Err why) e =
      let here = sym (judged_number q) ∙ ap verdict_number e in
      sym (first_before (applying_fields q) (applying_step p q) (omega (arith, here, refusal_above why)) ∙ here)

  -- ---- the theorem
  -- the answer's number is the first of the table that applies, 0 where none does
  pub least_number : answer_number (step_of p q).answer ≡ first_applying (applying p q)
  unfolding step_of
  least_number = go (sound_of p) refl
    where
      go : (t : Bool) → sound_of p ≡ t → answer_number (step_of p q).answer ≡ first_applying (applying p q)
      go true e = rw e (judged_no (bounds p (is_true e)) (judged q) refl)
      go false e = rw e

  -- ---- the same, number by number
  -- a number is given just if it applies and no lower one does
  pub number_first : (n : ℕ) → 1 ≤ n → answer_number (step_of p q).answer ≡ n ↔ Lowest (applying p q) n
  number_first n h = rw least_number (first_lowest (applying p q) tt n h)

  -- 0 is given just if none applies
  pub number_none : answer_number (step_of p q).answer ≡ 0 ↔ ((n : ℕ) → applies_in (applying p q) n ≡ false)
  number_none = rw least_number (first_none (applying p q) tt)
