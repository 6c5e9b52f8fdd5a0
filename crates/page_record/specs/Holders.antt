-- What the rules and the steps ask of a holder, and what a holder carries. The accessors are total: where a kind carries no
-- such thing they give a value that nobody reads, and the rules show that a sound record never gets there.
use Rattle.std.specs.Prelude.{ℕ, Option, Some, None, Bool, true, false, eqb, ltb}
use Rattle.std.specs.Bool.{beq}
use Rattle.kinds.specs.declared.{Bucket.Bucket, Visited.Visited}
use Rattle.kinds.specs.declared.{ExcState.ExcState, LoadingState.LoadingState}
use Rattle.kinds.specs.Limits.{buckets}

-- ---- storage
abbrev pub is_stored : Option ℕ → Bool
is_stored None = false
is_stored (Some value) = true

-- storage has just this value
abbrev pub holds : Option ℕ → ℕ → Bool
holds None v = false
holds (Some value) v = eqb value v

-- the source's storage.get_Some_0()
abbrev pub value_of : Option ℕ → ℕ
value_of None = 0
value_of (Some value) = value

-- ---- a bucket or none
abbrev pub has_bucket : Option Bucket → Bool
has_bucket None = false
has_bucket (Some bucket) = true

-- the source's valid_bucket, line 433
abbrev pub valid_bucket : Option Bucket → Bool
valid_bucket None = true
valid_bucket (Some bucket) = ltb bucket.0 buckets

-- the source's bucket.get_Some_0()
abbrev pub bucket_of : Option Bucket → Bucket
bucket_of None = record { 0 = 0 }
bucket_of (Some bucket) = bucket

-- ---- the exclusive holder
abbrev pub no_exc : ExcState → Bool
no_exc ExcState.None = true
no_exc (ExcState.Claim bucket value) = false
no_exc (ExcState.PendingAwaitWriteback bucket value) = false
no_exc (ExcState.Pending bucket visited clean value) = false
no_exc (ExcState.Obtained bucket clean value) = false

abbrev pub is_claim : ExcState → Bool
is_claim ExcState.None = false
is_claim (ExcState.Claim bucket value) = true
is_claim (ExcState.PendingAwaitWriteback bucket value) = false
is_claim (ExcState.Pending bucket visited clean value) = false
is_claim (ExcState.Obtained bucket clean value) = false

abbrev pub is_await : ExcState → Bool
is_await ExcState.None = false
is_await (ExcState.Claim bucket value) = false
is_await (ExcState.PendingAwaitWriteback bucket value) = true
is_await (ExcState.Pending bucket visited clean value) = false
is_await (ExcState.Obtained bucket clean value) = false

abbrev pub is_pending : ExcState → Bool
is_pending ExcState.None = false
is_pending (ExcState.Claim bucket value) = false
is_pending (ExcState.PendingAwaitWriteback bucket value) = false
is_pending (ExcState.Pending bucket visited clean value) = true
is_pending (ExcState.Obtained bucket clean value) = false

-- an editor that has the page out
abbrev pub is_editing : ExcState → Bool
is_editing ExcState.None = false
is_editing (ExcState.Claim bucket value) = false
is_editing (ExcState.PendingAwaitWriteback bucket value) = false
is_editing (ExcState.Pending bucket visited clean value) = false
is_editing (ExcState.Obtained bucket clean value) = true

-- Pending or Obtained, and clean as said
abbrev pub is_locked : Bool → ExcState → Bool
is_locked said ExcState.None = false
is_locked said (ExcState.Claim bucket value) = false
is_locked said (ExcState.PendingAwaitWriteback bucket value) = false
is_locked said (ExcState.Pending bucket visited clean value) = beq said clean
is_locked said (ExcState.Obtained bucket clean value) = beq said clean

-- the source's get_bucket, line 72
abbrev pub exc_bucket : ExcState → Option Bucket
exc_bucket ExcState.None = None
exc_bucket (ExcState.Claim bucket value) = bucket
exc_bucket (ExcState.PendingAwaitWriteback bucket value) = bucket
exc_bucket (ExcState.Pending bucket visited clean value) = bucket
exc_bucket (ExcState.Obtained bucket clean value) = bucket

abbrev pub exc_visited : ExcState → Visited
exc_visited ExcState.None = record { 0 = 0 }
exc_visited (ExcState.Claim bucket value) = record { 0 = 0 }
exc_visited (ExcState.PendingAwaitWriteback bucket value) = record { 0 = 0 }
exc_visited (ExcState.Pending bucket visited clean value) = visited
exc_visited (ExcState.Obtained bucket clean value) = record { 0 = 0 }

abbrev pub exc_clean : ExcState → Bool
exc_clean ExcState.None = false
exc_clean (ExcState.Claim bucket value) = false
exc_clean (ExcState.PendingAwaitWriteback bucket value) = false
exc_clean (ExcState.Pending bucket visited clean value) = clean
exc_clean (ExcState.Obtained bucket clean value) = clean

-- storage's, until it is taken out; then the one that was taken
abbrev pub exc_value : ExcState → ℕ
exc_value ExcState.None = 0
exc_value (ExcState.Claim bucket value) = value
exc_value (ExcState.PendingAwaitWriteback bucket value) = value
exc_value (ExcState.Pending bucket visited clean value) = value
exc_value (ExcState.Obtained bucket clean value) = value

-- ---- the loader
abbrev pub no_load : LoadingState → Bool
no_load LoadingState.None = true
no_load LoadingState.Pending = false
no_load (LoadingState.PendingCounted bucket) = false
no_load (LoadingState.Obtained bucket) = false

abbrev pub is_waiting : LoadingState → Bool
is_waiting LoadingState.None = false
is_waiting LoadingState.Pending = true
is_waiting (LoadingState.PendingCounted bucket) = false
is_waiting (LoadingState.Obtained bucket) = false

abbrev pub is_counted : LoadingState → Bool
is_counted LoadingState.None = false
is_counted LoadingState.Pending = false
is_counted (LoadingState.PendingCounted bucket) = true
is_counted (LoadingState.Obtained bucket) = false

abbrev pub is_loading : LoadingState → Bool
is_loading LoadingState.None = false
is_loading LoadingState.Pending = false
is_loading (LoadingState.PendingCounted bucket) = false
is_loading (LoadingState.Obtained bucket) = true

-- a loader that has not come to Obtained
abbrev pub is_before_loading : LoadingState → Bool
is_before_loading LoadingState.None = false
is_before_loading LoadingState.Pending = true
is_before_loading (LoadingState.PendingCounted bucket) = true
is_before_loading (LoadingState.Obtained bucket) = false

abbrev pub loading_bucket : LoadingState → Option Bucket
loading_bucket LoadingState.None = None
loading_bucket LoadingState.Pending = None
loading_bucket (LoadingState.PendingCounted bucket) = bucket
loading_bucket (LoadingState.Obtained bucket) = bucket

-- ---- the writeback
abbrev pub no_writeback : Option ℕ → Bool
no_writeback None = true
no_writeback (Some value) = false

abbrev pub writeback_value : Option ℕ → ℕ
writeback_value None = 0
writeback_value (Some value) = value
