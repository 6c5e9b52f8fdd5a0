-- The flags of the steps, in the relation's words and as tests: from the relation to the test and to the flag that follows
-- (`is_released`, `is_claimed`, `is_awaited`, `done`, `lock_flag_lem`, `is_open`, `unloaded`, `is_unclaimed`, `is_unawaited`), and back
-- where the other half asks for it (`releases`, `awaits`, `opened`, `unclaims`, `unawaits`). Assumes nothing.
use mathlib.Core.Path.{◌≡◌, refl, sym}
use mathlib.Core.Logic.{◌⊎◌, inl, inr, ◌≢◌}
use mathlib.Core.Bool.{Bool, true, false, cond}
use lib.Dec.{T}
use Rattle.kinds.specs.declared.Flag.{Flag}
use Rattle.kinds.specs.Flags.{claimable, writeback_done, open_to_readers, not_loading, released, claimed, awaited, lock_flag}
use Rattle.kinds.specs.Flags.{unclaimed, unawaited}

-- ---- the arms of `match pre.flag`
-- an arm: the flag is x, and becomes y
abbrev pub Turns : Flag → Flag → Flag → Flag → Type 0
Turns before after x y = (before ≡ x) × (after ≡ y)

-- two arms, and the flag that follows in each: from the relation to that flag, and back
module _ (next : Flag → Flag) (x y f : Flag) where
  turned : (g : Flag) → Turns f g x (next x) ⊎ Turns f g y (next y) → next f ≡ g
  turned g (inl m) = rw m.0 (sym m.1)
  turned g (inr m) = rw m.0 (sym m.1)

  turns : (f ≡ x) ⊎ (f ≡ y) → Turns f (next f) x (next x) ⊎ Turns f (next f) y (next y)
  turns (inl e) = inl (e, rw e)
  turns (inr e) = inr (e, rw e)

-- 2
abbrev pub Releases : Flag → Flag → Type 0
Releases f g =
    Turns f g Flag.Writeback Flag.Available
    ⊎ Turns f g Flag.WritebackAndPendingExcLock Flag.PendingExcLock
    ⊎ Turns f g Flag.WritebackAndClaimed Flag.Claimed

pub is_released : (f g : Flag) → Releases f g → released f ≡ g
is_released f g (inl m) = rw m.0 (sym m.1)
is_released f g (inr (inl m)) = rw m.0 (sym m.1)
is_released f g (inr (inr m)) = rw m.0 (sym m.1)

pub releases : (f : Flag) → (f ≡ Flag.Writeback) ⊎ (f ≡ Flag.WritebackAndClaimed) ⊎ (f ≡ Flag.WritebackAndPendingExcLock)
    → Releases f (released f)
releases f (inl e) = inl (e, rw e)
releases f (inr (inl e)) = inr (inr (e, rw e))
releases f (inr (inr e)) = inr (inl (e, rw e))

-- 3 and 4
abbrev pub Claims : Flag → Flag → Type 0
Claims f g = Turns f g Flag.Available Flag.Claimed ⊎ Turns f g Flag.Writeback Flag.WritebackAndClaimed

pub is_claimed : (f g : Flag) → Claims f g → (claimable f ≡ true) × (claimed f ≡ g)
is_claimed f g (inl m) = (rw m.0, rw m.0 (sym m.1))
is_claimed f g (inr m) = (rw m.0, rw m.0 (sym m.1))

-- 5
abbrev pub Awaits : Flag → Flag → Type 0
Awaits f g = Turns f g Flag.Claimed Flag.PendingExcLock ⊎ Turns f g Flag.WritebackAndClaimed Flag.WritebackAndPendingExcLock

pub is_awaited : (f g : Flag) → Awaits f g → awaited f ≡ g
is_awaited f g = turned awaited Flag.Claimed Flag.WritebackAndClaimed f g

pub awaits : (f : Flag) → (f ≡ Flag.Claimed) ⊎ (f ≡ Flag.WritebackAndClaimed) → Awaits f (awaited f)
awaits f = turns awaited Flag.Claimed Flag.WritebackAndClaimed f

-- 25 and 26
abbrev pub Unclaims : Flag → Flag → Type 0
Unclaims f g = Turns f g Flag.Claimed Flag.Available ⊎ Turns f g Flag.WritebackAndClaimed Flag.Writeback

pub is_unclaimed : (f g : Flag) → Unclaims f g → unclaimed f ≡ g
is_unclaimed f g = turned unclaimed Flag.Claimed Flag.WritebackAndClaimed f g

pub unclaims : (f : Flag) → (f ≡ Flag.Claimed) ⊎ (f ≡ Flag.WritebackAndClaimed) → Unclaims f (unclaimed f)
unclaims f = turns unclaimed Flag.Claimed Flag.WritebackAndClaimed f

-- 27
abbrev pub Unawaits : Flag → Flag → Type 0
Unawaits f g = Turns f g Flag.PendingExcLock Flag.Claimed ⊎ Turns f g Flag.WritebackAndPendingExcLock Flag.WritebackAndClaimed

pub is_unawaited : (f g : Flag) → Unawaits f g → unawaited f ≡ g
is_unawaited f g = turned unawaited Flag.PendingExcLock Flag.WritebackAndPendingExcLock f g

pub unawaits : (f : Flag) → (f ≡ Flag.PendingExcLock) ⊎ (f ≡ Flag.WritebackAndPendingExcLock) → Unawaits f (unawaited f)
unawaits f = turns unawaited Flag.PendingExcLock Flag.WritebackAndPendingExcLock f

-- ---- the other steps that ask for a flag
-- 6
pub done : (f : Flag) → f ≢ Flag.Writeback → f ≢ Flag.WritebackAndPendingExcLock → writeback_done f ≡ true
done Flag.Unmapped a b = refl
done Flag.Loading a b = refl
done Flag.LoadingExcLock a b = refl
done Flag.Available a b = refl
done Flag.Claimed a b = refl
done Flag.Writeback a b = absurd (a refl)
done Flag.WritebackAndClaimed a b = refl
done Flag.WritebackAndPendingExcLock a b = absurd (b refl)
done Flag.PendingExcLock a b = refl
done Flag.ExcLockClean a b = refl
done Flag.ExcLockDirty a b = refl

pub lock_flag_lem : (t : Bool) → lock_flag t ≡ cond t Flag.ExcLockClean Flag.ExcLockDirty
lock_flag_lem true = refl
lock_flag_lem false = refl

-- 23: its five flags
abbrev pub Open : Flag → Type 0
Open f = (f ≡ Flag.Available) ⊎ (f ≡ Flag.Writeback) ⊎ (f ≡ Flag.Claimed) ⊎ (f ≡ Flag.WritebackAndClaimed) ⊎ (f ≡ Flag.Loading)

pub is_open : (f : Flag) → Open f → open_to_readers f ≡ true
is_open f (inl e) = rw e
is_open f (inr (inl e)) = rw e
is_open f (inr (inr (inl e))) = rw e
is_open f (inr (inr (inr (inl e)))) = rw e
is_open f (inr (inr (inr (inr e)))) = rw e

pub opened : (f : Flag) → T (open_to_readers f) → Open f
opened Flag.Unmapped t = absurd t
opened Flag.Loading t = inr (inr (inr (inr refl)))
opened Flag.LoadingExcLock t = absurd t
opened Flag.Available t = inl refl
opened Flag.Claimed t = inr (inr (inl refl))
opened Flag.Writeback t = inr (inl refl)
opened Flag.WritebackAndClaimed t = inr (inr (inr (inl refl)))
opened Flag.WritebackAndPendingExcLock t = absurd t
opened Flag.PendingExcLock t = absurd t
opened Flag.ExcLockClean t = absurd t
opened Flag.ExcLockDirty t = absurd t

-- 24
pub unloaded : (f : Flag) → f ≢ Flag.Loading → not_loading f ≡ true
unloaded Flag.Unmapped a = refl
unloaded Flag.Loading a = absurd (a refl)
unloaded Flag.LoadingExcLock a = refl
unloaded Flag.Available a = refl
unloaded Flag.Claimed a = refl
unloaded Flag.Writeback a = refl
unloaded Flag.WritebackAndClaimed a = refl
unloaded Flag.WritebackAndPendingExcLock a = refl
unloaded Flag.PendingExcLock a = refl
unloaded Flag.ExcLockClean a = refl
unloaded Flag.ExcLockDirty a = refl
