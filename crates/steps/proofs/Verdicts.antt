-- What a verdict makes of a step: a refusal changes nothing (`refused_keeps`, and `decide_keeps` for every step of the table).
-- Assumes nothing.
use Rattle.std.specs.Prelude.{Option, Result, Ok, Err, ℕ}
use mathlib.Core.Bool.{Bool, true, false}
use mathlib.Core.Path.{◌≡◌, ap, subst}
use lib.Dec.{T}
use Rattle.laws.proofs.Lists.{every_default}
use Rattle.page_record.specs.declared.Head.{Head}
use Rattle.requests.specs.declared.{Refusal.Refusal, Answer.Answer, Request.Request}
use Rattle.requests.specs.Premises.{verdict}
use Rattle.heads.specs.Decisions.{Step, refused, settled, decided}
use Rattle.steps.specs.Decide.{decide_of, step_at, steps, unknown}

-- ---- a step
-- where a step has no refusal for its own answer, what is answered with one is refused by a premise, and changes nothing
pub refused_keeps : (h : Head) (st : Step) (why : Refusal)
    → ((other : Refusal) → st.answer ≡ Answer.Refused other → ⊥)
    → (decided h st).answer ≡ Answer.Refused why → decided h st ≡ refused h why
refused_keeps h st why own e = go (verdict st.premises) e
  where
    go : (v : Result (Unit {0}) Refusal) → (settled h st v).answer ≡ Answer.Refused why → settled h st v ≡ refused h why
    go (Ok _) e = absurd (own why e)
    go (Err other) e = let same : other ≡ why = cc in ap (refused h) same

-- ---- every step of the table
-- an answer that is no refusal
abbrev plain : Answer → Bool
plain Answer.Accepted = true
plain (Answer.Withdrew value) = true
plain (Answer.Refused why) = false

-- what is refused changes nothing, and carries no value
pub decide_keeps : (h : Head) (q : Request) (found : Option ℕ) (full : Bool) (why : Refusal)
    → (decide_of h q found full).answer ≡ Answer.Refused why → decide_of h q found full ≡ refused h why
unfolding decide_of
decide_keeps h q found full why e =
    refused_keeps h (step_at h q found full) why
    (λ other r. subst (λ (a : Answer). T (plain a)) r (every_default (λ st. plain st.answer) (steps h q found full) q.step (unknown h) tt tt))
    e
