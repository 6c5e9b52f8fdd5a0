-- What the steps ask of the flag (RULES 3.2), and which flag follows where that depends on the flag before (RULES 3.3). Each has a clause for each flag, in the source's order, so that a reader sees what is let through.
use Rattle.std.specs.Prelude.{Bool, true, false}
use Rattle.kinds.specs.declared.Flag.{Flag}

-- ---- premises
-- step 1, line 144: require pre.flag == Available
abbrev pub is_available : Flag → Bool
is_available Flag.Unmapped = false
is_available Flag.Loading = false
is_available Flag.LoadingExcLock = false
is_available Flag.Available = true
is_available Flag.Claimed = false
is_available Flag.Writeback = false
is_available Flag.WritebackAndClaimed = false
is_available Flag.WritebackAndPendingExcLock = false
is_available Flag.PendingExcLock = false
is_available Flag.ExcLockClean = false
is_available Flag.ExcLockDirty = false

-- steps 3 and 4, lines 170 to 172 and 187 to 189: Available or Writeback, else require false
abbrev pub claimable : Flag → Bool
claimable Flag.Unmapped = false
claimable Flag.Loading = false
claimable Flag.LoadingExcLock = false
claimable Flag.Available = true
claimable Flag.Claimed = false
claimable Flag.Writeback = true
claimable Flag.WritebackAndClaimed = false
claimable Flag.WritebackAndPendingExcLock = false
claimable Flag.PendingExcLock = false
claimable Flag.ExcLockClean = false
claimable Flag.ExcLockDirty = false

-- step 6, line 212: neither Writeback nor WritebackAndPendingExcLock
abbrev pub writeback_done : Flag → Bool
writeback_done Flag.Unmapped = true
writeback_done Flag.Loading = true
writeback_done Flag.LoadingExcLock = true
writeback_done Flag.Available = true
writeback_done Flag.Claimed = true
writeback_done Flag.Writeback = false
writeback_done Flag.WritebackAndClaimed = true
writeback_done Flag.WritebackAndPendingExcLock = false
writeback_done Flag.PendingExcLock = true
writeback_done Flag.ExcLockClean = true
writeback_done Flag.ExcLockDirty = true

-- steps 11 and 12, lines 268 and 277: require pre.flag == Unmapped
abbrev pub is_unmapped : Flag → Bool
is_unmapped Flag.Unmapped = true
is_unmapped Flag.Loading = false
is_unmapped Flag.LoadingExcLock = false
is_unmapped Flag.Available = false
is_unmapped Flag.Claimed = false
is_unmapped Flag.Writeback = false
is_unmapped Flag.WritebackAndClaimed = false
is_unmapped Flag.WritebackAndPendingExcLock = false
is_unmapped Flag.PendingExcLock = false
is_unmapped Flag.ExcLockClean = false
is_unmapped Flag.ExcLockDirty = false

-- step 23, lines 407 to 412: the five flags under which a reader passes the first check
abbrev pub open_to_readers : Flag → Bool
open_to_readers Flag.Unmapped = false
open_to_readers Flag.Loading = true
open_to_readers Flag.LoadingExcLock = false
open_to_readers Flag.Available = true
open_to_readers Flag.Claimed = true
open_to_readers Flag.Writeback = true
open_to_readers Flag.WritebackAndClaimed = true
open_to_readers Flag.WritebackAndPendingExcLock = false
open_to_readers Flag.PendingExcLock = false
open_to_readers Flag.ExcLockClean = false
open_to_readers Flag.ExcLockDirty = false

-- step 24, line 421: require pre.flag != Loading
abbrev pub not_loading : Flag → Bool
not_loading Flag.Unmapped = true
not_loading Flag.Loading = false
not_loading Flag.LoadingExcLock = true
not_loading Flag.Available = true
not_loading Flag.Claimed = true
not_loading Flag.Writeback = true
not_loading Flag.WritebackAndClaimed = true
not_loading Flag.WritebackAndPendingExcLock = true
not_loading Flag.PendingExcLock = true
not_loading Flag.ExcLockClean = true
not_loading Flag.ExcLockDirty = true

-- ---- the flag that follows
-- step 2, lines 158 to 161; the other arms are `assert false`, shown unreachable from a sound record
abbrev pub released : Flag → Flag
released Flag.Unmapped = Flag.Unmapped
released Flag.Loading = Flag.Loading
released Flag.LoadingExcLock = Flag.LoadingExcLock
released Flag.Available = Flag.Available
released Flag.Claimed = Flag.Claimed
released Flag.Writeback = Flag.Available
released Flag.WritebackAndClaimed = Flag.Claimed
released Flag.WritebackAndPendingExcLock = Flag.PendingExcLock
released Flag.PendingExcLock = Flag.PendingExcLock
released Flag.ExcLockClean = Flag.ExcLockClean
released Flag.ExcLockDirty = Flag.ExcLockDirty

-- steps 3 and 4, lines 170 to 172 and 187 to 189; under the other flags no claim is granted
abbrev pub claimed : Flag → Flag
claimed Flag.Unmapped = Flag.Unmapped
claimed Flag.Loading = Flag.Loading
claimed Flag.LoadingExcLock = Flag.LoadingExcLock
claimed Flag.Available = Flag.Claimed
claimed Flag.Claimed = Flag.Claimed
claimed Flag.Writeback = Flag.WritebackAndClaimed
claimed Flag.WritebackAndClaimed = Flag.WritebackAndClaimed
claimed Flag.WritebackAndPendingExcLock = Flag.WritebackAndPendingExcLock
claimed Flag.PendingExcLock = Flag.PendingExcLock
claimed Flag.ExcLockClean = Flag.ExcLockClean
claimed Flag.ExcLockDirty = Flag.ExcLockDirty

-- step 5, lines 203 to 205; the other arms are `assert false`, shown unreachable from a sound record
abbrev pub awaited : Flag → Flag
awaited Flag.Unmapped = Flag.Unmapped
awaited Flag.Loading = Flag.Loading
awaited Flag.LoadingExcLock = Flag.LoadingExcLock
awaited Flag.Available = Flag.Available
awaited Flag.Claimed = Flag.PendingExcLock
awaited Flag.Writeback = Flag.Writeback
awaited Flag.WritebackAndClaimed = Flag.WritebackAndPendingExcLock
awaited Flag.WritebackAndPendingExcLock = Flag.WritebackAndPendingExcLock
awaited Flag.PendingExcLock = Flag.PendingExcLock
awaited Flag.ExcLockClean = Flag.ExcLockClean
awaited Flag.ExcLockDirty = Flag.ExcLockDirty

-- step 6, line 217: ExcLockClean if clean, else ExcLockDirty
abbrev pub lock_flag : Bool → Flag
lock_flag true = Flag.ExcLockClean
lock_flag false = Flag.ExcLockDirty

-- steps 25 and 26, which are ours: a claim is given back; the other flags can't stand beside one, shown for a sound record
abbrev pub unclaimed : Flag → Flag
unclaimed Flag.Unmapped = Flag.Unmapped
unclaimed Flag.Loading = Flag.Loading
unclaimed Flag.LoadingExcLock = Flag.LoadingExcLock
unclaimed Flag.Available = Flag.Available
unclaimed Flag.Claimed = Flag.Available
unclaimed Flag.Writeback = Flag.Writeback
unclaimed Flag.WritebackAndClaimed = Flag.Writeback
unclaimed Flag.WritebackAndPendingExcLock = Flag.WritebackAndPendingExcLock
unclaimed Flag.PendingExcLock = Flag.PendingExcLock
unclaimed Flag.ExcLockClean = Flag.ExcLockClean
unclaimed Flag.ExcLockDirty = Flag.ExcLockDirty

-- step 27, ours: back to a claim; the other flags can't stand beside an editor that waits for the archive
abbrev pub unawaited : Flag → Flag
unawaited Flag.Unmapped = Flag.Unmapped
unawaited Flag.Loading = Flag.Loading
unawaited Flag.LoadingExcLock = Flag.LoadingExcLock
unawaited Flag.Available = Flag.Available
unawaited Flag.Claimed = Flag.Claimed
unawaited Flag.Writeback = Flag.Writeback
unawaited Flag.WritebackAndClaimed = Flag.WritebackAndClaimed
unawaited Flag.WritebackAndPendingExcLock = Flag.WritebackAndClaimed
unawaited Flag.PendingExcLock = Flag.Claimed
unawaited Flag.ExcLockClean = Flag.ExcLockClean
unawaited Flag.ExcLockDirty = Flag.ExcLockDirty
