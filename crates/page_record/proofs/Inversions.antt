-- What a holder is, from the test of specs/Holders.antt that it passes: the exclusive holder, the loader, the writeback; then storage and
-- the bucket. Assumes nothing.
use Rattle.std.specs.Prelude.{Option, Some, None}
use Prim.Native.Nat.{ℕ}
use mathlib.Core.Path.{◌≡◌, refl}
use mathlib.Core.Logic.{◌⊎◌, inl, inr}
use mathlib.Core.Bool.{Bool, true, false, not, beq}
use lib.Dec.{T, eqb→eq}
use Rattle.laws.proofs.Tests.{alike}
use Rattle.kinds.specs.declared.{ExcState.ExcState, LoadingState.LoadingState}
use Rattle.kinds.specs.declared.Bucket.{Bucket}
use Rattle.page_record.specs.Holders.{is_stored, holds, value_of, has_bucket, bucket_of, no_exc, is_claim, is_await}
use Rattle.page_record.specs.Holders.{is_pending, is_editing, is_locked, exc_bucket, exc_visited, exc_clean, exc_value}
use Rattle.page_record.specs.Holders.{no_load, is_waiting, is_counted, is_loading, is_before_loading, loading_bucket}
use Rattle.page_record.specs.Holders.{no_writeback, writeback_value}

pub no_exc_lem : (e : ExcState) → T (no_exc e) → e ≡ ExcState.None
no_exc_lem ExcState.None t = refl
no_exc_lem _ t = absurd t

pub is_claim_lem : (e : ExcState) → T (is_claim e) → e ≡ ExcState.Claim (exc_bucket e) (exc_value e)
is_claim_lem (ExcState.Claim m v) t = refl
is_claim_lem _ t = absurd t

pub is_await_lem : (e : ExcState) → T (is_await e) → e ≡ ExcState.PendingAwaitWriteback (exc_bucket e) (exc_value e)
is_await_lem (ExcState.PendingAwaitWriteback m v) t = refl
is_await_lem _ t = absurd t

pub is_pending_lem : (e : ExcState) → T (is_pending e) → e ≡ ExcState.Pending (exc_bucket e) (exc_visited e) (exc_clean e) (exc_value e)
is_pending_lem (ExcState.Pending m n c v) t = refl
is_pending_lem _ t = absurd t

pub is_editing_lem : (e : ExcState) → T (is_editing e) → e ≡ ExcState.Obtained (exc_bucket e) (exc_clean e) (exc_value e)
is_editing_lem (ExcState.Obtained m c v) t = refl
is_editing_lem _ t = absurd t

pub is_locked_lem : (c : Bool) (e : ExcState) → T (is_locked c e)
    → (e ≡ ExcState.Pending (exc_bucket e) (exc_visited e) c (exc_value e)) ⊎ (e ≡ ExcState.Obtained (exc_bucket e) c (exc_value e))
is_locked_lem c (ExcState.Pending m n d v) t = inl (rw (alike c d t))
is_locked_lem c (ExcState.Obtained m d v) t = inr (rw (alike c d t))
is_locked_lem c _ t = absurd t

pub no_load_lem : (l : LoadingState) → T (no_load l) → l ≡ LoadingState.None
no_load_lem LoadingState.None t = refl
no_load_lem _ t = absurd t

pub is_before_loading_lem : (l : LoadingState) → T (is_before_loading l)
    → (l ≡ LoadingState.Pending) ⊎ (l ≡ LoadingState.PendingCounted (loading_bucket l))
is_before_loading_lem LoadingState.Pending t = inl refl
is_before_loading_lem (LoadingState.PendingCounted m) t = inr refl
is_before_loading_lem _ t = absurd t

pub is_waiting_lem : (l : LoadingState) → T (is_waiting l) → l ≡ LoadingState.Pending
is_waiting_lem LoadingState.Pending t = refl
is_waiting_lem _ t = absurd t

pub is_counted_lem : (l : LoadingState) → T (is_counted l) → l ≡ LoadingState.PendingCounted (loading_bucket l)
is_counted_lem (LoadingState.PendingCounted m) t = refl
is_counted_lem _ t = absurd t

pub is_loading_lem : (l : LoadingState) → T (is_loading l) → l ≡ LoadingState.Obtained (loading_bucket l)
is_loading_lem (LoadingState.Obtained m) t = refl
is_loading_lem _ t = absurd t

pub no_writeback_lem : (w : Option ℕ) → T (no_writeback w) → w ≡ None
no_writeback_lem None t = refl
no_writeback_lem (Some v) t = absurd t

pub is_held : (w : Option ℕ) → T (not (no_writeback w)) → w ≡ Some (writeback_value w)
is_held None t = absurd t
is_held (Some v) t = refl

pub is_stored_lem : (s : Option ℕ) → T (beq (is_stored s) true) → s ≡ Some (value_of s)
is_stored_lem None t = absurd t
is_stored_lem (Some v) t = refl

pub is_out_lem : (s : Option ℕ) → T (beq (is_stored s) false) → s ≡ None
is_out_lem None t = refl
is_out_lem (Some v) t = absurd t

pub is_holding : (s : Option ℕ) (v : ℕ) → T (holds s v) → s ≡ Some v
is_holding None v t = absurd t
is_holding (Some u) v t = rw (eqb→eq u v t)

pub no_bucket_lem : (m : Option Bucket) → T (not (has_bucket m)) → m ≡ None
no_bucket_lem None t = refl
no_bucket_lem (Some b) t = absurd t

pub has_bucket_lem : (m : Option Bucket) → T (has_bucket m) → m ≡ Some (bucket_of m)
has_bucket_lem None t = absurd t
has_bucket_lem (Some b) t = refl
