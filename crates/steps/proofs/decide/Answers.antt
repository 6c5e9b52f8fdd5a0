-- A step that is granted is what is decided, and so is the refusal that is left of one that isn't.
use Rattle.std.specs.Prelude.{Result, Ok, Err}
use Rattle.std.proofs.Common.{◌≡◌, sym, ◌∙◌}
use Rattle.page_record.specs.declared.Head.{Head}
use Rattle.requests.specs.declared.Refusal.{Refusal}
use Rattle.requests.specs.Premises.{verdict}
use Rattle.heads.specs.declared.Decision.{Decision}
use Rattle.heads.specs.Decisions.{Step, refused, settled, allowed}
use Rattle.steps.specs.Decide.{step_at, decide_of}
use Rattle.steps.proofs.decide.Goals as goal

module _ (h : Head) (st : Step) where
  goes_on : (v : Result (Unit {0}) Refusal) (d : Decision) → allowed st v ≡ Ok d → d ≡ settled h st v
  goes_on (Ok _) d e = cc
  goes_on (Err why) d e = absurd (let z : ◌≡◌ {A = Result Decision Refusal} (Err why) (Ok d) = e in cc)

  stays : (v : Result (Unit {0}) Refusal) (why : Refusal) → allowed st v ≡ Err why → refused h why ≡ settled h st v
  stays (Ok _) why e = absurd (let z : ◌≡◌ {A = Result Decision Refusal} (Ok _) (Err why) = e in cc)
  stays (Err w) why e = let same : why ≡ w = cc in rw same

pub returns-in-Ok : goal.returns-in-Ok
unfolding decide_of
returns-in-Ok c =
    let a = c.args in
    let st = step_at a.head a.request a.found a.full in
    goes_on a.head st (verdict st.premises) _ (sym c.take.ensures ∙ c.in-Ok.is)

pub returns-in-Err : goal.returns-in-Err
unfolding decide_of
returns-in-Err c =
    let a = c.args in
    let st = step_at a.head a.request a.found a.full in
    c.refuse.ensures ∙ stays a.head st (verdict st.premises) _ (sym c.take.ensures ∙ c.in-Err.is)
