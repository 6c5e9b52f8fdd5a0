-- The transitions of the loader and of readers on the head, steps 11 to 17 and 19 to 24, in the source's order and by its names, with
-- the changes of RULES 3.2. Each lists its premises in the order of their numbers (RULES 4.1), and then what it leaves. What it looks
-- for in the list of readers, and whether the list is full, is given to it; what it does to the list is its edit.
use Rattle.std.specs.Prelude.{Bool, Option, Some, None, ℕ, not, [], ◌∷◌}
use Rattle.kinds.specs.declared.{Flag.Flag, Phase.Phase}
use Rattle.kinds.specs.declared.LoadingState.{LoadingState}
use Rattle.kinds.specs.Flags.{is_unmapped, open_to_readers, not_loading}
use Rattle.page_record.specs.declared.Head.{Head}
use Rattle.page_record.specs.Holders.{value_of, has_bucket, bucket_of, is_waiting, is_counted, is_loading, loading_bucket}
use Rattle.requests.specs.declared.{Refusal.Refusal, Request.Request}
use Rattle.heads.specs.declared.Edit.{Edit}
use Rattle.heads.specs.Decisions.{Step, accepts, hands_out, is_found, place_of, reader, under}
use Rattle.heads.specs.Setters.{with_storage, with_flag, with_loading, raised, lowered, lowered_if}

-- ---- the loader
-- what 11 and 12 share: an unmapped page is handed out to a loader, which stands there under a flag
abbrev pub withdraw_to : Head → Flag → LoadingState → Step
withdraw_to h flag loader =
    hands_out ((Refusal.WrongFlag, is_unmapped h.flag) ∷ [])
    (with_flag flag (with_storage None (with_loading loader h)))
    (value_of h.storage)

-- 11, line 267: hands the page out
abbrev pub withdraw_alloc : Head → Step
withdraw_alloc h = withdraw_to h Flag.LoadingExcLock LoadingState.Pending

-- 12, line 276: hands the page out
abbrev pub withdraw_alloc_no_refcount : Head → Step
withdraw_alloc_no_refcount h = withdraw_to h Flag.Loading (LoadingState.Obtained None)

-- 13, line 285
abbrev pub loading_inc_count : Head → Request → Step
loading_inc_count h q =
    accepts ((Refusal.NoHolder, is_waiting h.loading_state) ∷ (Refusal.AtCeiling, under h q.bucket.0) ∷ [])
    (raised q.bucket.0 (with_loading (LoadingState.PendingCounted (Some q.bucket)) h))
    Edit.Keep

-- 14, line 296
abbrev pub obtain_loading : Head → Step
obtain_loading h =
    let l = h.loading_state in
    accepts ((Refusal.NoHolder, is_counted l) ∷ [])
    (with_flag Flag.Loading (with_loading (LoadingState.Obtained (loading_bucket l)) h))
    Edit.Keep

-- 15, line 329
abbrev pub obtain_loading_no_refcount : Head → Step
obtain_loading_no_refcount h =
    accepts ((Refusal.NoHolder, is_waiting h.loading_state) ∷ [])
    (with_flag Flag.Loading (with_loading (LoadingState.Obtained None) h))
    Edit.Keep

-- 16, line 337
abbrev pub deposit_loading_to_shared : Head → Request → Bool → Step
deposit_loading_to_shared h q full =
    let l = h.loading_state in
    accepts
    ((Refusal.NoHolder, is_loading l) ∷ (Refusal.WrongBucket, has_bucket (loading_bucket l)) ∷ (Refusal.ListFull, not full) ∷ [])
    (with_flag Flag.Available (with_storage (Some q.value) (with_loading LoadingState.None h)))
    (Edit.Push (reader (Phase.Obtained q.value) (bucket_of (loading_bucket l))))

-- 17, line 347; changed: it asks for no bucket, and takes one off the loader's, if it has one
abbrev pub deposit_loading_to_done : Head → Request → Step
deposit_loading_to_done h q =
    let l = h.loading_state in
    accepts ((Refusal.NoHolder, is_loading l) ∷ [])
    (lowered_if (loading_bucket l)
    (with_flag Flag.Available (with_storage (Some q.value) (with_loading LoadingState.None h))))
    Edit.Keep

-- ---- readers
-- 19, line 369
abbrev pub shared_inc_count : Head → Request → Bool → Step
shared_inc_count h q full =
    accepts ((Refusal.AtCeiling, under h q.bucket.0) ∷ (Refusal.ListFull, not full) ∷ [])
    (raised q.bucket.0 h)
    (Edit.Push (reader Phase.Pending q.bucket))

-- 20, 21 and 22, lines 378, 387 and 396: they differ in the reader that is sought
abbrev pub shared_dec_count : Head → Request → Option ℕ → Step
shared_dec_count h q found =
    accepts ((Refusal.NoHolder, is_found found) ∷ []) (lowered q.bucket.0 h) (Edit.Remove (place_of found))

-- 23, line 405; changed: no value
abbrev pub shared_check_exc : Head → Request → Option ℕ → Step
shared_check_exc h q found =
    accepts ((Refusal.WrongFlag, open_to_readers h.flag) ∷ (Refusal.NoHolder, is_found found) ∷ [])
    h
    (Edit.Put (place_of found) (reader Phase.Pending2 q.bucket))

-- 24, line 419
abbrev pub shared_check_loading : Head → Request → Option ℕ → Step
shared_check_loading h q found =
    accepts ((Refusal.WrongFlag, not_loading h.flag) ∷ (Refusal.NoHolder, is_found found) ∷ [])
    h
    (Edit.Put (place_of found) (reader (Phase.Obtained (value_of h.storage)) q.bucket))
