-- What is written of each part of a page is read back: a flag, storage, a holder, the counts, a reader. A bucket is read back where it is
-- below the number of none. Assumes nothing.
use Rattle.std.specs.Prelude.{Option, Some, None}
use Prim.Native.Nat.{ℕ, ◌+◌, ◌*◌, ◌/◌, ◌%◌, ◌<◌}
use mathlib.Core.Bool.{Bool, cond}
use mathlib.Core.List.{List, [], ◌∷◌}
use mathlib.Core.Path.{◌≡◌, refl, sym, ap, ◌∙◌}
use native.Mathlib.Omega.{arith}
use borrow.Author.Tests.{ne_eqb}
use lib.Dec.{T, eqb, ltb→lt}
use lib.ListN.{length}
use Rattle.laws.proofs.Lists.{four_are}
use Rattle.laws.proofs.Tests.{byte_back}
use Rattle.kinds.specs.declared.{Count.Count, Flag.Flag, Phase.Phase}
use Rattle.kinds.specs.declared.{ExcState.ExcState, LoadingState.LoadingState}
use Rattle.kinds.specs.declared.Bucket.{Bucket}
use Rattle.kinds.specs.Limits.{buckets}
use Rattle.kinds.specs.Numbers.{flag_number, storage_number, bucket_number, phase_number, exc_number, loading_number, writeback_number}
use Rattle.kinds.specs.Numbers.{flag_from, storage_from, bucket_from, phase_from, exc_from, loading_from, writeback_from, no_bucket}
use Rattle.page_record.specs.Holders.{valid_bucket, value_of, exc_bucket, exc_visited, exc_clean, exc_value, loading_bucket, writeback_value}
use Rattle.page_record.specs.Pages.{number_at}
use Rattle.encoding.specs.Carried.{phase_value, exc_bucket_number, loading_bucket_number}

pub flag_back : (f : Flag) → flag_from (flag_number f) ≡ f
unfolding flag_from
flag_back Flag.Unmapped = refl
flag_back Flag.Loading = refl
flag_back Flag.LoadingExcLock = refl
flag_back Flag.Available = refl
flag_back Flag.Claimed = refl
flag_back Flag.Writeback = refl
flag_back Flag.WritebackAndClaimed = refl
flag_back Flag.WritebackAndPendingExcLock = refl
flag_back Flag.PendingExcLock = refl
flag_back Flag.ExcLockClean = refl
flag_back Flag.ExcLockDirty = refl

pub storage_back : (s : Option ℕ) → storage_from (storage_number s) (value_of s) ≡ s
unfolding storage_from
storage_back None = refl
storage_back (Some v) = refl

pub writeback_back : (w : Option ℕ) → writeback_from (writeback_number w) (writeback_value w) ≡ w
unfolding writeback_from
writeback_back None = refl
writeback_back (Some v) = refl

pub phase_back : (p : Phase) → phase_from (phase_number p) (phase_value p) ≡ p
unfolding phase_from
phase_back Phase.Pending = refl
phase_back Phase.Pending2 = refl
phase_back (Phase.Obtained v) = refl

-- ---- a bucket or none, and who has one
bucket_back : (m : Option Bucket) → T (valid_bucket m) → bucket_from (bucket_number m) ≡ m
unfolding bucket_from
bucket_back None t = refl
bucket_back (Some b) t =
    let below = ltb→lt b.0 buckets t in
    let other : b.0 ≡ no_bucket → ⊥ = λ e. omega arith in
    rw (ne_eqb b.0 no_bucket other)

pub exc_back : (e : ExcState) → T (valid_bucket (exc_bucket e))
    → exc_from (exc_number e) (bucket_from (exc_bucket_number e)) (exc_visited e) (eqb (cond (exc_clean e) 1 0) 1) (exc_value e) ≡ e
unfolding exc_from
exc_back ExcState.None t = refl
exc_back (ExcState.Claim m v) t = ap (λ (x : Option Bucket). ExcState.Claim x v) (bucket_back m t)
exc_back (ExcState.PendingAwaitWriteback m v) t = ap (λ (x : Option Bucket). ExcState.PendingAwaitWriteback x v) (bucket_back m t)
exc_back (ExcState.Pending m n c v) t =
    ap (λ (x : Option Bucket). ExcState.Pending x n (eqb (cond c 1 0) 1) v) (bucket_back m t)
    ∙ ap (λ (x : Bool). ExcState.Pending m n x v) (byte_back c)
exc_back (ExcState.Obtained m c v) t =
    ap (λ (x : Option Bucket). ExcState.Obtained x (eqb (cond c 1 0) 1) v) (bucket_back m t)
    ∙ ap (λ (x : Bool). ExcState.Obtained m x v) (byte_back c)

pub loading_back : (l : LoadingState) → T (valid_bucket (loading_bucket l))
    → loading_from (loading_number l) (bucket_from (loading_bucket_number l)) ≡ l
unfolding loading_from
loading_back LoadingState.None t = refl
loading_back LoadingState.Pending t = refl
loading_back (LoadingState.PendingCounted m) t = ap (λ (x : Option Bucket). LoadingState.PendingCounted x) (bucket_back m t)
loading_back (LoadingState.Obtained m) t = ap (λ (x : Option Bucket). LoadingState.Obtained x) (bucket_back m t)

-- ---- the counts, and the list's length
pub counts_back : (cs : List Count) → length cs ≡ buckets
    → ◌≡◌ {A = List Count}
    (record { 0 = number_at cs 0 } ∷ record { 0 = number_at cs 1 } ∷ record { 0 = number_at cs 2 } ∷ record { 0 = number_at cs 3 } ∷ [])
    cs
counts_back cs e = sym (four_are cs (record { 0 = 0 }) e)

pub length_back : (n : ℕ) → n < 256 * 256 → n % 256 + 256 * ((n / 256) % 256) ≡ n
length_back n h = omega arith
