-- Which flag follows which, step by step, in the words of RULES 7.5. The rows of Table.antt have the same as numbers.
use Rattle.std.specs.Prelude.{ℕ, cond, List, [], ◌∷◌, map, eqb, get_or}
use Rattle.kinds.specs.declared.Flag.{Flag}
use Rattle.kinds.specs.Numbers.{flag_number, flags}
use Rattle.table.specs.Table.{never}

-- the flag that follows, or none
pub data Next : Type 0 where
  to : (flag : Flag) → Next
  nowhere : Next

-- its number
abbrev pub next_number : Next → ℕ
next_number (Next.to f) = flag_number f
next_number Next.nowhere = never

-- ---- from a flag to a flag
abbrev pub Arms : Type 0
Arms = List (Flag × Flag)

-- the same flag
abbrev pub stays : List Flag → Arms
stays = map (λ (f : Flag). (f, f))

-- from an editor's lock, clean or dirty
abbrev pub locks : List Flag
locks = Flag.ExcLockClean ∷ Flag.ExcLockDirty ∷ []

abbrev pub unlocks : Flag → Arms
unlocks g = map (λ (f : Flag). (f, g)) locks

-- RULES 3.3: 2; 3 and 4; 5; 25 and 26; 27
abbrev pub releases : Arms
releases =
    (Flag.Writeback, Flag.Available)
    ∷ (Flag.WritebackAndClaimed, Flag.Claimed)
    ∷ (Flag.WritebackAndPendingExcLock, Flag.PendingExcLock)
    ∷ []

abbrev pub claims : Arms
claims = (Flag.Available, Flag.Claimed) ∷ (Flag.Writeback, Flag.WritebackAndClaimed) ∷ []

abbrev pub awaits : Arms
awaits = (Flag.Claimed, Flag.PendingExcLock) ∷ (Flag.WritebackAndClaimed, Flag.WritebackAndPendingExcLock) ∷ []

abbrev pub unclaims : Arms
unclaims = (Flag.Claimed, Flag.Available) ∷ (Flag.WritebackAndClaimed, Flag.Writeback) ∷ []

abbrev pub unawaits : Arms
unawaits = (Flag.PendingExcLock, Flag.Claimed) ∷ (Flag.WritebackAndPendingExcLock, Flag.WritebackAndClaimed) ∷ []

-- under which a reader passes the first check
abbrev pub open_flags : List Flag
open_flags = Flag.Loading ∷ Flag.Available ∷ Flag.Claimed ∷ Flag.Writeback ∷ Flag.WritebackAndClaimed ∷ []

-- under which one that has come through may stand, and one past the first check (Loading too)
abbrev pub read_flags : List Flag
read_flags =
    Flag.Available
    ∷ Flag.Claimed
    ∷ Flag.Writeback
    ∷ Flag.WritebackAndClaimed
    ∷ Flag.WritebackAndPendingExcLock
    ∷ Flag.PendingExcLock
    ∷ locks

abbrev pub passed_flags : List Flag
passed_flags = Flag.Loading ∷ read_flags

-- ---- by columns
abbrev pub arms : List Arms
arms =
    -- 1 to 5
    ((Flag.Available, Flag.Writeback) ∷ []) ∷ releases ∷ claims ∷ claims ∷ awaits
    -- 6 clean, 6 dirty
    ∷ ((Flag.PendingExcLock, Flag.ExcLockClean) ∷ []) ∷ ((Flag.PendingExcLock, Flag.ExcLockDirty) ∷ [])
    -- 7 to 10
    ∷ stays locks ∷ stays locks ∷ unlocks Flag.Available ∷ unlocks Flag.Claimed
    -- 11 and 12
    ∷ ((Flag.Unmapped, Flag.LoadingExcLock) ∷ []) ∷ ((Flag.Unmapped, Flag.Loading) ∷ [])
    -- 13 to 15
    ∷ stays (Flag.LoadingExcLock ∷ []) ∷ ((Flag.LoadingExcLock, Flag.Loading) ∷ []) ∷ ((Flag.LoadingExcLock, Flag.Loading) ∷ [])
    -- 16 and 17
    ∷ ((Flag.Loading, Flag.Available) ∷ []) ∷ ((Flag.Loading, Flag.Available) ∷ [])
    -- 18
    ∷ stays locks
    -- 19 to 24
    ∷ stays flags ∷ stays flags ∷ stays passed_flags ∷ stays read_flags ∷ stays open_flags ∷ stays read_flags
    -- 25 to 27
    ∷ unclaims ∷ unclaims ∷ unawaits
    -- 28 to 30
    ∷ unlocks Flag.Claimed ∷ unlocks Flag.Available ∷ unlocks Flag.Unmapped
    ∷ []

-- the arm of a flag, if there is one
abbrev pub arm_of : Flag → Arms → Next
arm_of f [] = Next.nowhere
arm_of f (a ∷ rest) = cond (eqb (flag_number a.0) (flag_number f)) (Next.to a.1) (arm_of f rest)

unfoldable pub next_flag : Flag → ℕ → Next
next_flag f c = arm_of f (get_or arms c [])
