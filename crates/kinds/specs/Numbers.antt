-- The number of each flag and of each kind of holder, in the source's order, and back: the bytes of a stored record (RULES 5.5).
-- Back, any number is taken: one that stands for no kind counts as 0. Of the exclusive kinds 4 is such a number: it was Obtained,
-- without the value that was taken.
use Rattle.std.specs.Prelude.{ℕ, Option, Some, None, Result, Ok, Err, Bool, cond, List, [], ◌∷◌, eqb, ltb, length, get_or}
use Rattle.kinds.specs.declared.{Flag.Flag, Visited.Visited, Phase.Phase}
use Rattle.kinds.specs.declared.{ExcState.ExcState, LoadingState.LoadingState}
use Rattle.kinds.specs.declared.Bucket.{Bucket}
use Rattle.kinds.specs.declared.numbers.UnknownFlag.{UnknownFlag}

-- ---- numbers

-- flags, 0 to 10
abbrev pub flag_number : Flag → ℕ
flag_number Flag.Unmapped = 0
flag_number Flag.Loading = 1
flag_number Flag.LoadingExcLock = 2
flag_number Flag.Available = 3
flag_number Flag.Claimed = 4
flag_number Flag.Writeback = 5
flag_number Flag.WritebackAndClaimed = 6
flag_number Flag.WritebackAndPendingExcLock = 7
flag_number Flag.PendingExcLock = 8
flag_number Flag.ExcLockClean = 9
flag_number Flag.ExcLockDirty = 10

-- a reader's phase, 1 to 3
abbrev pub phase_number : Phase → ℕ
phase_number Phase.Pending = 1
phase_number Phase.Pending2 = 2
phase_number (Phase.Obtained value) = 3

-- the exclusive holder, 0 where there is none
abbrev pub exc_number : ExcState → ℕ
exc_number ExcState.None = 0
exc_number (ExcState.Claim bucket value) = 1
exc_number (ExcState.PendingAwaitWriteback bucket value) = 2
exc_number (ExcState.Pending bucket visited clean value) = 3
exc_number (ExcState.Obtained bucket clean value) = 5

-- the loader, 0 where there is none
abbrev pub loading_number : LoadingState → ℕ
loading_number LoadingState.None = 0
loading_number LoadingState.Pending = 1
loading_number (LoadingState.PendingCounted bucket) = 2
loading_number (LoadingState.Obtained bucket) = 3

-- the writeback, 0 where there is none
abbrev pub writeback_number : Option ℕ → ℕ
writeback_number None = 0
writeback_number (Some value) = 1

-- storage, 0 where it is out
abbrev pub storage_number : Option ℕ → ℕ
storage_number None = 0
storage_number (Some value) = 1

-- what stands for no bucket
abbrev pub no_bucket : ℕ
no_bucket = 255

-- the bucket of a holder that can have one
abbrev pub bucket_number : Option Bucket → ℕ
bucket_number None = no_bucket
bucket_number (Some bucket) = bucket.0

-- ---- back
-- the flags by their numbers
abbrev pub flags : List Flag
flags =
    Flag.Unmapped
    ∷ Flag.Loading
    ∷ Flag.LoadingExcLock
    ∷ Flag.Available
    ∷ Flag.Claimed
    ∷ Flag.Writeback
    ∷ Flag.WritebackAndClaimed
    ∷ Flag.WritebackAndPendingExcLock
    ∷ Flag.PendingExcLock
    ∷ Flag.ExcLockClean
    ∷ Flag.ExcLockDirty
    ∷ []

unfoldable pub flag_from : ℕ → Flag
flag_from n = get_or flags n Flag.Unmapped

-- the same where the number is a flag's; one that is no flag's is refused, and told
unfoldable pub flag_tried : ℕ → Result Flag UnknownFlag
flag_tried n = cond (ltb n (length flags)) (Ok (flag_from n)) (Err (record { 0 = n }))

-- storage, with this value where it is in
unfoldable pub storage_from : ℕ → ℕ → Option ℕ
storage_from n value = cond (eqb n 1) (Some value) None

-- a bucket or none
unfoldable pub bucket_from : ℕ → Option Bucket
bucket_from n = cond (eqb n no_bucket) None (Some (record { 0 = n }))

-- a reader's phase, with this value where it has one; 0 and 1 are Pending
unfoldable pub phase_from : ℕ → ℕ → Phase
phase_from n value = cond (eqb n 2) Phase.Pending2 (cond (eqb n 3) (Phase.Obtained value) Phase.Pending)

-- the exclusive holders by their numbers, each with what its kind has of these; 4 is nobody's
abbrev pub excs : Option Bucket → Visited → Bool → ℕ → List ExcState
excs bucket visited clean value =
    ExcState.None
    ∷ ExcState.Claim bucket value
    ∷ ExcState.PendingAwaitWriteback bucket value
    ∷ ExcState.Pending bucket visited clean value
    ∷ ExcState.None
    ∷ ExcState.Obtained bucket clean value
    ∷ []

unfoldable pub exc_from : ℕ → Option Bucket → Visited → Bool → ℕ → ExcState
exc_from n bucket visited clean value = get_or (excs bucket visited clean value) n ExcState.None

-- the loaders by their numbers, with this bucket where the kind has one
abbrev pub loaders : Option Bucket → List LoadingState
loaders bucket =
    LoadingState.None ∷ LoadingState.Pending ∷ LoadingState.PendingCounted bucket ∷ LoadingState.Obtained bucket ∷ []

unfoldable pub loading_from : ℕ → Option Bucket → LoadingState
loading_from n bucket = get_or (loaders bucket) n LoadingState.None

-- the writeback, with this value where there is one
unfoldable pub writeback_from : ℕ → ℕ → Option ℕ
writeback_from n value = cond (eqb n 1) (Some value) None
