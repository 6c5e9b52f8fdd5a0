-- The transitions by which a holder gives back what it has, steps 25 to 30 (RULES 3.2), on the head. The source has none of them; they
-- are written as its own are. Each lists its premises in the order of their numbers (RULES 4.1), and then what it leaves. Whether the
-- list of readers is full is given to 26; what it does to the list is its edit.
use Rattle.std.specs.Prelude.{Bool, not, Some, [], ◌∷◌}
use Rattle.kinds.specs.declared.{Flag.Flag, Phase.Phase, ExcState.ExcState}
use Rattle.kinds.specs.Flags.{unclaimed, unawaited}
use Rattle.page_record.specs.declared.Head.{Head}
use Rattle.page_record.specs.Holders.{has_bucket, bucket_of, is_claim, is_await, is_pending, is_editing, exc_bucket, exc_clean}
use Rattle.page_record.specs.Holders.{exc_value}
use Rattle.requests.specs.declared.{Refusal.Refusal, Request.Request}
use Rattle.heads.specs.declared.Edit.{Edit}
use Rattle.heads.specs.Decisions.{Step, accepts, reader, may_put_in}
use Rattle.heads.specs.Setters.{with_storage, with_flag, with_exc, lowered_if}

-- ---- claims
-- 25: the claimant leaves
abbrev pub discard_claim : Head → Step
discard_claim h =
    let e = h.exc_state in
    accepts ((Refusal.NoHolder, is_claim e) ∷ [])
    (lowered_if (exc_bucket e) (with_flag (unclaimed h.flag) (with_exc ExcState.None h)))
    Edit.Keep

-- 26: the claimant reads on, at its own bucket and with its own value
abbrev pub claim_to_shared : Head → Bool → Step
claim_to_shared h full =
    let e = h.exc_state in
    accepts
    ((Refusal.NoHolder, is_claim e) ∷ (Refusal.WrongBucket, has_bucket (exc_bucket e)) ∷ (Refusal.ListFull, not full) ∷ [])
    (with_flag (unclaimed h.flag) (with_exc ExcState.None h))
    (Edit.Push (reader (Phase.Obtained (exc_value e)) (bucket_of (exc_bucket e))))

-- 27: the reverse of 5
abbrev pub pending_to_claim : Head → Step
pending_to_claim h =
    let e = h.exc_state in
    accepts ((Refusal.NoHolder, is_await e) ∷ [])
    (with_flag (unawaited h.flag) (with_exc (ExcState.Claim (exc_bucket e) (exc_value e)) h))
    Edit.Keep

-- ---- the editor
-- 28: at any visited number
abbrev pub cancel_exc_lock_to_claim : Head → Step
cancel_exc_lock_to_claim h =
    let e = h.exc_state in
    accepts ((Refusal.NoHolder, is_pending e) ∷ [])
    (with_flag Flag.Claimed (with_exc (ExcState.Claim (exc_bucket e) (exc_value e)) h))
    Edit.Keep

-- what 29 and 30 share: the editor puts the value in and leaves the page under a flag
abbrev pub deposit_to : Head → Request → Flag → Step
deposit_to h q flag =
    let e = h.exc_state in
    accepts ((Refusal.NoHolder, is_editing e) ∷ (Refusal.OtherValue, may_put_in (exc_clean e) (exc_value e) q.value) ∷ [])
    (lowered_if (exc_bucket e) (with_flag flag (with_storage (Some q.value) (with_exc ExcState.None h))))
    Edit.Keep

-- 29
abbrev pub deposit_exc_lock_to_done : Head → Request → Step
deposit_exc_lock_to_done h q = deposit_to h q Flag.Available

-- 30: readers that are Pending stay
abbrev pub deposit_exc_lock_to_unmapped : Head → Request → Step
deposit_exc_lock_to_unmapped h q = deposit_to h q Flag.Unmapped
