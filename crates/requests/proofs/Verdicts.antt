-- What a list of premises comes to, by one induction each: where none fails, all hold (`passed`), and where one fails they can't
-- all hold (`fails_not`); two lists are judged one after the other (`verdict_append`); and the verdict's number is the first, in
-- the table of the premises' numbers, that applies (`verdict_number_lem`). Assumes nothing.
use Rattle.std.specs.Prelude.{Result, Ok, Err}
use Prim.Native.Nat.{ℕ}
use mathlib.Core.Path.{◌≡◌, refl}
use mathlib.Core.Bool.{Bool, true, false, not, ◌||◌}
use mathlib.Core.List.{List, [], ◌∷◌, ◌++◌}
use native.Mathlib.Omega.{arith}
use lib.Dec.{T}
use Rattle.laws.specs.Tables.{first_applying}
use Rattle.requests.specs.declared.Refusal.{Refusal}
use Rattle.requests.specs.Answers.{refusal_number, verdict_number}
use Rattle.requests.specs.Premises.{verdict, Passes}

-- ---- all hold
pub never : (why : Refusal) → ◌≡◌ {A = Result (Unit {0}) Refusal} (Err why) (Ok tt) → ⊥
never why e = let z : ◌≡◌ {A = ℕ} 0 1 = cc in omega arith

pub passed : (cs : List (Refusal × Bool)) → verdict cs ≡ Ok tt → Passes cs
passed [] e = tt
passed ((why, true) ∷ cs) e = (tt, passed cs e)
passed ((why, false) ∷ cs) e = absurd (never why e)

-- ---- one fails
abbrev pub fails : List (Refusal × Bool) → Bool
fails [] = false
fails (c ∷ cs) = not c.1 || fails cs

pub fails_not : (ps : List (Refusal × Bool)) → T (fails ps) → Passes ps → ⊥
fails_not [] t p = t
fails_not ((why, true) ∷ cs) t p = fails_not cs t p.1
fails_not ((why, false) ∷ cs) t p = p.0

-- ---- one list after another
abbrev pub and_then : Result (Unit {0}) Refusal → Result (Unit {0}) Refusal → Result (Unit {0}) Refusal
and_then (Ok _) v = v
and_then (Err why) v = Err why

pub verdict_append : (xs ys : List (Refusal × Bool)) → verdict (xs ++ ys) ≡ and_then (verdict xs) (verdict ys)
verdict_append [] ys = refl
verdict_append ((why, true) ∷ xs) ys = verdict_append xs ys
verdict_append ((why, false) ∷ xs) ys = refl

-- ---- the number
-- each premise's number, beside whether it applies: the premise fails
abbrev pub failing : List (Refusal × Bool) → List (ℕ × Bool)
failing [] = []
failing (c ∷ cs) = (refusal_number c.0, not c.1) ∷ failing cs

pub verdict_number_lem : (cs : List (Refusal × Bool)) → verdict_number (verdict cs) ≡ first_applying (failing cs)
verdict_number_lem [] = refl
verdict_number_lem ((why, true) ∷ cs) = verdict_number_lem cs
verdict_number_lem ((why, false) ∷ cs) = refl
