-- Which step a request names, which reader it looks for, and what is decided.
use Rattle.std.specs.Prelude.{Bool, Option, Some, None, ℕ, false, List, [], ◌∷◌, get_or}
use Rattle.kinds.specs.declared.Phase.{Phase}
use Rattle.kinds.specs.declared.Reader.{Reader}
use Rattle.page_record.specs.declared.Head.{Head}
use Rattle.requests.specs.declared.{Refusal.Refusal, Request.Request}
use Rattle.heads.specs.declared.{Edit.Edit, Decision.Decision}
use Rattle.heads.specs.Decisions.{Step, decided, accepts, reader}
use Rattle.editing.specs.Steps.{take_writeback, release_writeback, bucketless_claim, shared_to_claim, claim_to_pending}
use Rattle.editing.specs.Steps.{take_exc_lock_finish_writeback, take_exc_lock_check_ref_count, withdraw_take_exc_lock_finish}
use Rattle.editing.specs.Steps.{deposit_downgrade_exc_lock, deposit_downgrade_exc_lock_to_claim, exc_inc_count}
use Rattle.reading.specs.Steps.{withdraw_alloc, withdraw_alloc_no_refcount, loading_inc_count, obtain_loading}
use Rattle.reading.specs.Steps.{obtain_loading_no_refcount, deposit_loading_to_shared, deposit_loading_to_done, shared_inc_count}
use Rattle.reading.specs.Steps.{shared_dec_count, shared_check_exc, shared_check_loading}
use Rattle.returning.specs.Steps.{discard_claim, claim_to_shared, pending_to_claim, cancel_exc_lock_to_claim}
use Rattle.returning.specs.Steps.{deposit_exc_lock_to_done, deposit_exc_lock_to_unmapped}

-- a number that names no step is refused
abbrev pub unknown : Head → Step
unknown h = accepts ((Refusal.UnknownStep, false) ∷ []) h Edit.Keep

-- the steps by their numbers, from 0
abbrev pub steps : Head → Request → Option ℕ → Bool → List Step
steps h q found full =
    unknown h
    ∷ take_writeback h
    ∷ release_writeback h
    ∷ bucketless_claim h
    ∷ shared_to_claim h q found
    ∷ claim_to_pending h
    ∷ take_exc_lock_finish_writeback h q
    ∷ take_exc_lock_check_ref_count h
    ∷ withdraw_take_exc_lock_finish h
    ∷ deposit_downgrade_exc_lock h q full
    ∷ deposit_downgrade_exc_lock_to_claim h q
    ∷ withdraw_alloc h
    ∷ withdraw_alloc_no_refcount h
    ∷ loading_inc_count h q
    ∷ obtain_loading h
    ∷ obtain_loading_no_refcount h
    ∷ deposit_loading_to_shared h q full
    ∷ deposit_loading_to_done h q
    ∷ exc_inc_count h q
    ∷ shared_inc_count h q full
    ∷ shared_dec_count h q found
    ∷ shared_dec_count h q found
    ∷ shared_dec_count h q found
    ∷ shared_check_exc h q found
    ∷ shared_check_loading h q found
    ∷ discard_claim h
    ∷ claim_to_shared h full
    ∷ pending_to_claim h
    ∷ cancel_exc_lock_to_claim h
    ∷ deposit_exc_lock_to_done h q
    ∷ deposit_exc_lock_to_unmapped h q
    ∷ []

abbrev pub step_at : Head → Request → Option ℕ → Bool → Step
step_at h q found full = get_or (steps h q found full) q.step (unknown h)

unfoldable pub decide_of : Head → Request → Option ℕ → Bool → Decision
decide_of h q found full = decided h (step_at h q found full)

-- the readers that the steps look for, by their numbers, from 0: 4 and 22 an Obtained one with the request's value, 20 and
-- 23 a Pending one, 21 and 24 a Pending2 one
abbrev pub sought : Request → List (Option Reader)
sought q =
    let nobody = None in
    let pending = Some (reader Phase.Pending q.bucket) in
    let pending2 = Some (reader Phase.Pending2 q.bucket) in
    let obtained = Some (reader (Phase.Obtained q.value) q.bucket) in
    nobody ∷ nobody ∷ nobody ∷ nobody ∷ obtained
    ∷ nobody ∷ nobody ∷ nobody ∷ nobody ∷ nobody
    ∷ nobody ∷ nobody ∷ nobody ∷ nobody ∷ nobody
    ∷ nobody ∷ nobody ∷ nobody ∷ nobody ∷ nobody
    ∷ pending ∷ pending2 ∷ obtained ∷ pending ∷ pending2
    ∷ nobody ∷ nobody ∷ nobody ∷ nobody ∷ nobody ∷ nobody
    ∷ []

unfoldable pub sought_of : Request → Option Reader
sought_of q = get_or (sought q) q.step None
