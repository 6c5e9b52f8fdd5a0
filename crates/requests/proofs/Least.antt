-- The numbers 2, 3 and 4, which speak of the request alone: what is asked of its fields is that the table's number does not apply
-- (`step_known`, `fields_fit_lem`, `bucket_fits_lem`), so the judgement gives the first of the three that applies (`judged_number`).
-- Which fields a step takes is compared for every step number at once, by computation. Assumes nothing.
use Prim.Native.Nat.{ℕ, zero, suc, ◌<◌}
use mathlib.Core.Path.{◌≡◌, refl, sym, ◌∙◌}
use mathlib.Core.Bool.{Bool, true, false, not, cond, ◌||◌, not-not}
use native.Mathlib.Omega.{arith}
use borrow.Author.Tests.{le-leb, ne_eqb, not-false}
use lib.Dec.{eqb, ltb, leb}
use Rattle.laws.specs.Tables.{first_applying}
use Rattle.laws.proofs.Tests.{is_true, not_both, not_either}
use Rattle.laws.proofs.Orders.{leb_ltb, leb_zero}
use Rattle.laws.proofs.Pick.{agree_below}
use Rattle.requests.specs.declared.Request.{Request}
use Rattle.requests.specs.Answers.{verdict_number}
use Rattle.requests.specs.Requests.{last_step, past_last, is_step, takes_bucket, takes_value, fields_fit, bucket_fits}
use Rattle.requests.specs.Requests.{formal, judged}
use Rattle.requests.specs.Applies.{bucket_taken, clean_taken, value_taken, applies2, applies3, applies4}
use Rattle.requests.specs.Applies.{applying_fields}
use Rattle.requests.proofs.Verdicts.{failing, verdict_number_lem}
use Rattle.requests.proofs.Formed.{step_below}

-- ---- 2
known : (n : ℕ) → is_step n ≡ not (eqb n 0 || ltb last_step n)
known zero = refl
known (suc n) = rw (le-leb 1 (suc n) (omega arith), ne_eqb (suc n) 0 (λ e. omega arith)) (leb_ltb (suc n) last_step)

pub step_known : (q : Request) → is_step q.step ≡ not (applies2 q)
step_known q = known q.step

-- ---- 3 and 4
clean_fits : (c : ℕ) (taken : Bool) → leb c (cond taken 1 0) ≡ not (cond taken (ltb 1 c) (not (eqb c 0)))
clean_fits c true = leb_ltb c 1
clean_fits c false = leb_zero c ∙ sym (not-not (eqb c 0))

module _ (q : Request) (below : q.step < past_last) where
  same_bucket : takes_bucket q.step ≡ bucket_taken q.step
  same_bucket = agree_below takes_bucket bucket_taken past_last tt q.step below

  same_value : takes_value q.step ≡ value_taken q.step
  same_value = agree_below takes_value value_taken past_last tt q.step below

  pub fields_fit_lem : fields_fit q ≡ not (applies3 q)
  fields_fit_lem =
      rw (same_bucket, same_value, clean_fits q.clean (clean_taken q.step)) (simp (not_both, not_either, not-not))

  pub bucket_fits_lem : bucket_fits q ≡ not (applies4 q)
  bucket_fits_lem = rw same_bucket (simp (not_both, not-not))

-- ---- the three together
pub judged_number : (q : Request) → verdict_number (judged q) ≡ first_applying (applying_fields q)
unfolding judged
judged_number q = verdict_number_lem (formal q) ∙ go (is_step q.step) refl
  where
    go : (t : Bool) → is_step q.step ≡ t → first_applying (failing (formal q)) ≡ first_applying (applying_fields q)
    go true e =
        let below = step_below q.step (is_true e) in
        rw (step_known q, fields_fit_lem q below, bucket_fits_lem q below) (simp not-not)
    go false e = rw (e, not-false (applies2 q) (sym (step_known q) ∙ e))
