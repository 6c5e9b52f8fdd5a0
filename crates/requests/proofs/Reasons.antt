-- The number of a reason: it tells the reason (`reason_told`), and it is above 0, the number of what is accepted
-- (`refusal_positive` as a test, `refusal_above` as a comparison). Assumes nothing.
use Prim.Native.Nat.{ℕ, ◌<◌}
use mathlib.Core.Bool.{false}
use mathlib.Core.List.{List, [], ◌∷◌}
use mathlib.Core.Path.{◌≡◌, refl, ap, ◌∙◌, sym}
use native.Mathlib.Omega.{arith}
use borrow.Author.Tests.{ne_eqb, eqb-false}
use lib.Dec.{eqb}
use lib.ListN.{get_or}
use Rattle.requests.specs.declared.Refusal.{Refusal}
use Rattle.requests.specs.Answers.{refusal_number}

-- the reasons by their numbers, from 1; at 0 and past the last stands the first
abbrev reasons : List Refusal
reasons =
    Refusal.Unsound
    ∷ Refusal.Unsound
    ∷ Refusal.UnknownStep
    ∷ Refusal.BadField
    ∷ Refusal.BadBucket
    ∷ Refusal.WrongFlag
    ∷ Refusal.NoHolder
    ∷ Refusal.WrongBucket
    ∷ Refusal.WrongVisited
    ∷ Refusal.OtherCount
    ∷ Refusal.AtCeiling
    ∷ Refusal.ListFull
    ∷ Refusal.NotWhole
    ∷ Refusal.TooMany
    ∷ Refusal.NoRoom
    ∷ Refusal.WrongSize
    ∷ Refusal.NotAnImage
    ∷ Refusal.OtherValue
    ∷ []

abbrev pub reason_at : ℕ → Refusal
reason_at n = get_or reasons n Refusal.Unsound

pub reason_told : (why : Refusal) → reason_at (refusal_number why) ≡ why
reason_told Refusal.Unsound = refl
reason_told Refusal.UnknownStep = refl
reason_told Refusal.BadField = refl
reason_told Refusal.BadBucket = refl
reason_told Refusal.WrongFlag = refl
reason_told Refusal.NoHolder = refl
reason_told Refusal.WrongBucket = refl
reason_told Refusal.WrongVisited = refl
reason_told Refusal.OtherCount = refl
reason_told Refusal.AtCeiling = refl
reason_told Refusal.ListFull = refl
reason_told Refusal.NotWhole = refl
reason_told Refusal.TooMany = refl
reason_told Refusal.NoRoom = refl
reason_told Refusal.WrongSize = refl
reason_told Refusal.NotAnImage = refl
reason_told Refusal.OtherValue = refl

-- a reason with number 0 would be the first, whose number is 1
pub refusal_positive : (why : Refusal) → eqb (refusal_number why) 0 ≡ false
refusal_positive why = ne_eqb (refusal_number why) 0 none
  where
    none : refusal_number why ≡ 0 → ⊥
    none e =
        let first : why ≡ Refusal.Unsound = sym (reason_told why) ∙ ap reason_at e in
        omega (arith, ap refusal_number first)

pub refusal_above : (why : Refusal) → 0 < refusal_number why
refusal_above why =
    let other = eqb-false (refusal_number why) 0 (refusal_positive why) in
    omega arith
