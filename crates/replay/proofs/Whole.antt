-- The run as a whole: it is accepted exactly when all that is asked of it holds, a refusal touches nothing, and an empty run on a
-- sound page is accepted. Assumes nothing.
use Prim.Native.Nat.{ℕ}
use mathlib.Core.Path.{◌≡◌, refl, ap}
use mathlib.Core.Bool.{true}
use mathlib.Core.List.{List, []}
use native.Mathlib.Omega.{arith}
use lib.ListN.{length}
use Rattle.page_record.specs.declared.Page.{Page}
use Rattle.soundness.specs.Soundness.{sound_of}
use Rattle.requests.specs.declared.{Refusal.Refusal, Answer.Answer}
use Rattle.lock.specs.Step.{refused_by}
use Rattle.replay.specs.Run.{ends, fills, ran_of, answers_of}
use Rattle.replay.proofs.Judged.{Fit, fit, passed, verdict_accepted, verdict_refused}

module _ (page : Page) (requests answers : List ℕ) where
  -- ---- accepted
  pub accepted_has : (ran_of page requests answers).answer ≡ Answer.Accepted → Fit page (length requests) (length answers)
  accepted_has e = fit (verdict_accepted page requests answers e)

  -- ---- refused
  pub refused_untouched : (why : Refusal) → (ran_of page requests answers).answer ≡ Answer.Refused why
      → (ran_of page requests answers ≡ refused_by page why) × (answers_of page requests answers ≡ answers)
  unfolding ran_of answers_of
  refused_untouched why e =
      let v = verdict_refused page requests answers why e in
      (ap (ends page requests) v, ap (fills page requests answers) v)

-- ---- empty
pub empty_run : (page : Page) (answers : List ℕ) → sound_of page ≡ true
    → (ran_of page [] answers ≡ record { answer = Answer.Accepted; page = page }) × (answers_of page [] answers ≡ answers)
unfolding ran_of answers_of
empty_run page answers s =
    let a : Fit page 0 (length answers) = record { sound = s; whole = refl; few = omega arith; room = omega arith } in
    (ap (ends page []) (passed a), ap (fills page [] answers) (passed a))
