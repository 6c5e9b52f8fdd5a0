-- The list of the steps has the same at 20, 21 and 22, and nothing past the last.
use Rattle.std.specs.Prelude.{Option, Err, ℕ}
use Rattle.std.proofs.Common.{◌≡◌, ◌≤◌, ℕ, suc, Bool, arith, ap, sym, ◌∙◌, get_or}
use lib.ListN.{get_or-eq_default}
use Rattle.page_record.specs.declared.Head.{Head}
use Rattle.requests.specs.declared.{Refusal.Refusal, Request.Request}
use Rattle.requests.specs.Requests.{last_step}
use Rattle.heads.specs.Decisions.{granted}
use Rattle.steps.specs.Decide.{step_at, steps, unknown}
use Rattle.steps.proofs.take.Goals as goal

module _ (h : Head) (q : Request) (found : Option ℕ) (full : Bool) where
  -- the step of a number
  at : (n : ℕ) → q.step ≡ n → granted (step_at h q found full) ≡ granted (get_or (steps h q found full) n (unknown h))
  at n e = ap (λ n. granted (get_or (steps h q found full) n (unknown h))) e

  -- no step has a number past the last
  past : suc last_step ≤ q.step → granted (step_at h q found full) ≡ Err Refusal.UnknownStep
  past e = ap granted (get_or-eq_default (steps h q found full) (unknown h) e)

pub returns-in-0-2 : goal.returns-in-0-2
returns-in-0-2 c =
    let a = c.args in
    let long : suc last_step ≤ a.request.step = omega arith in
    sym (past a.head a.request a.found a.full long)

pub returns-in-20-to-22 : goal.returns-in-20-to-22
returns-in-20-to-22 c =
    let a = c.args in
    let here = at a.head a.request a.found a.full in
    c.shared_dec_count.ensures ∙ sym (grind (arith, here 20, here 21, here 22))
