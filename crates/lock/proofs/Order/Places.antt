-- What is decided depends on the place of the reader that was found in its edit alone (`place_alone`), and where none was found no edit is
-- at a place (`no_place`): both said of the whole table of steps at once. Assumes nothing.
use Rattle.std.specs.Prelude.{Some, None, Result, Ok, Err}
use Prim.Native.Nat.{ℕ}
use mathlib.Core.Path.{◌≡◌, refl, ap, ◌∙◌}
use mathlib.Core.Bool.{Bool, true, false, not, ◌||◌, or-true}
use lib.Dec.{T}
use lib.ListN.{get_or-map}
use Rattle.laws.specs.Lists.{every}
use Rattle.laws.proofs.Tests.{to_false}
use Rattle.laws.proofs.Lists.{every_default}
use Rattle.page_record.specs.declared.Head.{Head}
use Rattle.requests.specs.declared.Request.{Request}
use Rattle.requests.specs.declared.Refusal.{Refusal}
use Rattle.requests.specs.Premises.{verdict}
use Rattle.requests.proofs.Verdicts.{passed, fails, fails_not}
use Rattle.heads.specs.declared.{Edit.Edit, Decision.Decision}
use Rattle.heads.specs.Decisions.{Step, settled, decided}
use Rattle.steps.specs.Decide.{unknown, steps, step_at, decide_of}

-- an edit at this place, if it is at one
abbrev pub moved_to : ℕ → Edit → Edit
moved_to i Edit.Keep = Edit.Keep
moved_to i (Edit.Push r) = Edit.Push r
moved_to i (Edit.Put place r) = Edit.Put i r
moved_to i (Edit.Remove place) = Edit.Remove i

-- it is at a place
abbrev pub at_place : Edit → Bool
at_place Edit.Keep = false
at_place (Edit.Push r) = false
at_place (Edit.Put place r) = true
at_place (Edit.Remove place) = true

abbrev decision_at : ℕ → Decision → Decision
decision_at i d = record { answer = d.answer; head = d.head; edit = moved_to i d.edit }

abbrev step_with : ℕ → Step → Step
step_with i st = record { premises = st.premises; answer = st.answer; head = st.head; edit = moved_to i st.edit }

-- where one was found, wherever it stands
pub place_alone : (h : Head) (q : Request) (full : Bool) (i : ℕ)
    → decide_of h q (Some i) full ≡ decision_at i (decide_of h q (Some 0) full)
unfolding decide_of
place_alone h q full i =
    let row : step_at h q (Some i) full ≡ step_with i (step_at h q (Some 0) full) =
    get_or-map (step_with i) (steps h q (Some 0) full) q.step (unknown h) in
    ap (decided h) row ∙ go (verdict (step_at h q (Some 0) full).premises)
  where
    go : (v : Result (Unit {0}) Refusal) → settled h (step_with i (step_at h q (Some 0) full)) v
        ≡ decision_at i (settled h (step_at h q (Some 0) full) v)
    go (Ok _) = refl
    go (Err why) = refl

-- where none was found
abbrev calm : Step → Bool
calm st = not (at_place st.edit) || fails st.premises

all_calm : (h : Head) (q : Request) (full : Bool) → T (every calm (steps h q None full))
all_calm h q full = simp or-true tt

other_half : (a b : Bool) → T (a || b) → (T b → ⊥) → T a
other_half true b t never = tt
other_half false b t never = never t

calm_settles : (h : Head) (st : Step) → T (calm st) → at_place (decided h st).edit ≡ false
calm_settles h st t = go (verdict st.premises) refl
  where
    go : (v : Result (Unit {0}) Refusal) → verdict st.premises ≡ v → at_place (settled h st v).edit ≡ false
    go (Ok _) e =
        let none : T (fails st.premises) → ⊥ = λ u. fails_not st.premises u (passed st.premises e) in
        to_false (at_place st.edit) (other_half (not (at_place st.edit)) (fails st.premises) t none)
    go (Err why) e = refl

pub no_place : (h : Head) (q : Request) (full : Bool) → at_place (decide_of h q None full).edit ≡ false
unfolding decide_of
no_place h q full =
    calm_settles h (step_at h q None full)
    (every_default calm (steps h q None full) q.step (unknown h) (all_calm h q full) tt)
