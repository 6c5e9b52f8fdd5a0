-- The number that a decided step answers is the first of its premises' numbers that applies (`decided_number`). The numbers 5 to
-- 11 and 17 in the words of RULES 4.1 come to the same (`premised_tabled`). Assumes nothing.
use Rattle.std.specs.Prelude.{Option, Result, Ok, Err}
use Prim.Native.Nat.{ℕ}
use mathlib.Core.Path.{◌≡◌, refl, ◌∙◌}
use mathlib.Core.Bool.{Bool, true, false, not, ◌&&◌}
use mathlib.Core.List.{[], ◌∷◌}
use lib.Dec.{eqb, eqb→eq}
use Rattle.laws.specs.Tables.{first_applying}
use Rattle.laws.proofs.Lists.{every_default}
use Rattle.page_record.specs.declared.Head.{Head}
use Rattle.requests.specs.declared.{Refusal.Refusal, Request.Request}
use Rattle.requests.specs.Answers.{answer_number, verdict_number}
use Rattle.requests.specs.Premises.{verdict}
use Rattle.requests.proofs.Verdicts.{failing, verdict_number_lem}
use Rattle.heads.specs.Decisions.{Step, settled}
use Rattle.steps.specs.Decide.{unknown, steps, step_at, decide_of}

-- a step never answers with a refusal of its own, so what is answered is its premises' number
module _ (h : Head) (q : Request) (found : Option ℕ) (full : Bool) where
  abbrev accepting : Step → Bool
  accepting st = eqb (answer_number st.answer) 0

  pub accepts_all : answer_number (step_at h q found full).answer ≡ 0
  accepts_all = eqb→eq _ 0 (every_default accepting (steps h q found full) q.step (unknown h) tt tt)

  pub decided_number : answer_number (decide_of h q found full).answer ≡ first_applying (failing (step_at h q found full).premises)
  unfolding decide_of
  decided_number = go (verdict (step_at h q found full).premises) ∙ verdict_number_lem (step_at h q found full).premises
    where
      go : (v : Result (Unit {0}) Refusal) → answer_number (settled h (step_at h q found full) v).answer ≡ verdict_number v
      go (Ok _) = accepts_all
      go (Err why) = refl

-- ---- the numbers 5 to 11 and 17
-- as premises of a step: a premise that it doesn't have holds
abbrev premised : Bool → Bool → Bool → Bool → Bool → Bool → Bool → Bool → ℕ
premised flag holder bucket visited count under full same =
    first_applying
    (failing
    ((Refusal.WrongFlag, flag)
    ∷ (Refusal.NoHolder, holder)
    ∷ (Refusal.WrongBucket, bucket)
    ∷ (Refusal.WrongVisited, visited)
    ∷ (Refusal.OtherCount, count)
    ∷ (Refusal.AtCeiling, under)
    ∷ (Refusal.ListFull, not full)
    ∷ (Refusal.OtherValue, same)
    ∷ []))

-- as the table has them: 7, 8, 9 and 17 speak of the holder, so they apply only where it is there
abbrev pub tabled : Bool → Bool → Bool → Bool → Bool → Bool → Bool → Bool → ℕ
tabled flag holder bucket visited count ceiling room other =
    first_applying
    ((5, not flag)
    ∷ (6, not holder)
    ∷ (7, holder && bucket)
    ∷ (8, holder && visited)
    ∷ (9, holder && count)
    ∷ (10, ceiling)
    ∷ (11, room)
    ∷ (17, holder && other)
    ∷ [])

pub premised_tabled : (flag holder bucket visited count under full same : Bool)
    → premised flag holder bucket visited count under full same
    ≡ tabled flag holder (not bucket) (not visited) (not count) (not under) full (not same)
premised_tabled false h b v c u r o = refl
premised_tabled true false b v c u r o = refl
premised_tabled true true false v c u r o = refl
premised_tabled true true true false c u r o = refl
premised_tabled true true true true false u r o = refl
premised_tabled true true true true true false r o = refl
premised_tabled true true true true true true true o = refl
premised_tabled true true true true true true false true = refl
premised_tabled true true true true true true false false = refl

-- where a step asks for a flag and a holder alone
pub flag_holder : (flag holder : Bool)
    → premised flag holder true true true true false true ≡ tabled flag holder false false false false false false
flag_holder flag holder = premised_tabled flag holder true true true true false true
