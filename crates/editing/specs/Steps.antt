-- The transitions of the archive, of claims and of the editor on the head, steps 1 to 10 and 18, in the source's order and by its
-- names, with the changes of RULES 3.2. Each lists its premises in the order of their numbers (RULES 4.1), and then what it leaves. What it looks for in
-- the list of readers, and whether the list is full, is given to it; what it does to the list is its edit.
use Rattle.std.specs.Prelude.{◌+◌, Option, Some, None, ℕ, Bool, not, [], ◌∷◌, eqb, ltb}
use Rattle.kinds.specs.declared.{Flag.Flag, Phase.Phase, ExcState.ExcState}
use Rattle.kinds.specs.Limits.{buckets}
use Rattle.kinds.specs.Flags.{is_available, claimable, writeback_done, released, claimed, awaited, lock_flag}
use Rattle.page_record.specs.declared.Head.{Head}
use Rattle.page_record.specs.Holders.{value_of, has_bucket, bucket_of, is_claim, is_await, is_pending, is_editing, exc_bucket}
use Rattle.page_record.specs.Holders.{exc_visited, exc_clean, exc_value, no_writeback}
use Rattle.page_record.specs.Pages.{number_at}
use Rattle.page_record.specs.References.{ref_at}
use Rattle.requests.specs.declared.{Refusal.Refusal, Request.Request}
use Rattle.heads.specs.declared.Edit.{Edit}
use Rattle.heads.specs.Decisions.{Step, accepts, hands_out, is_found, place_of, reader, under, may_put_in}
use Rattle.heads.specs.Setters.{with_storage, with_flag, with_exc, with_writeback, raised}

-- ---- the archive
-- 1, line 143
abbrev pub take_writeback : Head → Step
take_writeback h =
    accepts ((Refusal.WrongFlag, is_available h.flag) ∷ [])
    (with_flag Flag.Writeback (with_writeback (Some (value_of h.storage)) h))
    Edit.Keep

-- 2, line 152
abbrev pub release_writeback : Head → Step
release_writeback h =
    accepts ((Refusal.NoHolder, not (no_writeback h.writeback_state)) ∷ [])
    (with_flag (released h.flag) (with_writeback None h))
    Edit.Keep

-- ---- claims
-- 3, line 167
abbrev pub bucketless_claim : Head → Step
bucketless_claim h =
    accepts ((Refusal.WrongFlag, claimable h.flag) ∷ [])
    (with_flag (claimed h.flag) (with_exc (ExcState.Claim None (value_of h.storage)) h))
    Edit.Keep

-- 4, line 180: the reader that is found becomes the claimant
abbrev pub shared_to_claim : Head → Request → Option ℕ → Step
shared_to_claim h q found =
    accepts ((Refusal.WrongFlag, claimable h.flag) ∷ (Refusal.NoHolder, is_found found) ∷ [])
    (with_flag (claimed h.flag) (with_exc (ExcState.Claim (Some q.bucket) q.value) h))
    (Edit.Remove (place_of found))

-- 5, line 197
abbrev pub claim_to_pending : Head → Step
claim_to_pending h =
    let e = h.exc_state in
    accepts ((Refusal.NoHolder, is_claim e) ∷ [])
    (with_flag (awaited h.flag) (with_exc (ExcState.PendingAwaitWriteback (exc_bucket e) (exc_value e)) h))
    Edit.Keep

-- ---- the editor
-- 6, line 211
abbrev pub take_exc_lock_finish_writeback : Head → Request → Step
take_exc_lock_finish_writeback h q =
    let e = h.exc_state in
    let clean = eqb q.clean 1 in
    accepts ((Refusal.WrongFlag, writeback_done h.flag) ∷ (Refusal.NoHolder, is_await e) ∷ [])
    (with_flag (lock_flag clean) (with_exc (ExcState.Pending (exc_bucket e) (record { 0 = 0 }) clean (exc_value e)) h))
    Edit.Keep

-- 7, line 224: one reference, its own, at its own bucket, and none elsewhere
abbrev pub take_exc_lock_check_ref_count : Head → Step
take_exc_lock_check_ref_count h =
    let e = h.exc_state in
    let visited = (exc_visited e).0 in
    accepts
    ((Refusal.NoHolder, is_pending e)
    ∷ (Refusal.WrongVisited, ltb visited buckets)
    ∷ (Refusal.OtherCount, eqb (number_at h.ref_counts visited) (ref_at (exc_bucket e) visited))
    ∷ [])
    (with_exc (ExcState.Pending (exc_bucket e) (record { 0 = visited + 1 }) (exc_clean e) (exc_value e)) h)
    Edit.Keep

-- 8, line 237; changed: it hands the page out, and keeps its value
abbrev pub withdraw_take_exc_lock_finish : Head → Step
withdraw_take_exc_lock_finish h =
    let e = h.exc_state in
    hands_out ((Refusal.NoHolder, is_pending e) ∷ (Refusal.WrongVisited, eqb (exc_visited e).0 buckets) ∷ [])
    (with_storage None (with_exc (ExcState.Obtained (exc_bucket e) (exc_clean e) (exc_value e)) h))
    (exc_value e)

-- 9, line 247; changed: a clean holder puts in no other value than it keeps
abbrev pub deposit_downgrade_exc_lock : Head → Request → Bool → Step
deposit_downgrade_exc_lock h q full =
    let e = h.exc_state in
    accepts
    ((Refusal.NoHolder, is_editing e)
    ∷ (Refusal.WrongBucket, has_bucket (exc_bucket e))
    ∷ (Refusal.ListFull, not full)
    ∷ (Refusal.OtherValue, may_put_in (exc_clean e) (exc_value e) q.value)
    ∷ [])
    (with_flag Flag.Available (with_storage (Some q.value) (with_exc ExcState.None h)))
    (Edit.Push (reader (Phase.Obtained q.value) (bucket_of (exc_bucket e))))

-- 10, line 257; changed: likewise
abbrev pub deposit_downgrade_exc_lock_to_claim : Head → Request → Step
deposit_downgrade_exc_lock_to_claim h q =
    let e = h.exc_state in
    accepts
    ((Refusal.NoHolder, is_editing e)
    ∷ (Refusal.WrongBucket, has_bucket (exc_bucket e))
    ∷ (Refusal.OtherValue, may_put_in (exc_clean e) (exc_value e) q.value)
    ∷ [])
    (with_flag Flag.Claimed (with_storage (Some q.value) (with_exc (ExcState.Claim (exc_bucket e) q.value) h)))
    Edit.Keep

-- 18, line 356; changed: an editor that has no bucket gets one, and keeps its value
abbrev pub exc_inc_count : Head → Request → Step
exc_inc_count h q =
    let e = h.exc_state in
    accepts
    ((Refusal.NoHolder, is_editing e)
    ∷ (Refusal.WrongBucket, not (has_bucket (exc_bucket e)))
    ∷ (Refusal.AtCeiling, under h q.bucket.0)
    ∷ [])
    (raised q.bucket.0 (with_exc (ExcState.Obtained (Some q.bucket) (exc_clean e) (exc_value e)) h))
    Edit.Keep
