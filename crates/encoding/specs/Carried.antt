-- What a holder or a reader carries, as an image has it (RULES 5.5): zero where its kind carries no such thing.
use Rattle.std.specs.Prelude.{ℕ}
use Rattle.kinds.specs.declared.{Phase.Phase, ExcState.ExcState, LoadingState.LoadingState}
use Rattle.kinds.specs.Numbers.{bucket_number}

-- the value of a reader that has come through
abbrev pub phase_value : Phase → ℕ
phase_value Phase.Pending = 0
phase_value Phase.Pending2 = 0
phase_value (Phase.Obtained value) = value

-- the exclusive holder's bucket: each kind can have one
abbrev pub exc_bucket_number : ExcState → ℕ
exc_bucket_number ExcState.None = 0
exc_bucket_number (ExcState.Claim bucket value) = bucket_number bucket
exc_bucket_number (ExcState.PendingAwaitWriteback bucket value) = bucket_number bucket
exc_bucket_number (ExcState.Pending bucket visited clean value) = bucket_number bucket
exc_bucket_number (ExcState.Obtained bucket clean value) = bucket_number bucket

-- the loader's bucket: one that is Pending can't have one
abbrev pub loading_bucket_number : LoadingState → ℕ
loading_bucket_number LoadingState.None = 0
loading_bucket_number LoadingState.Pending = 0
loading_bucket_number (LoadingState.PendingCounted bucket) = bucket_number bucket
loading_bucket_number (LoadingState.Obtained bucket) = bucket_number bucket
