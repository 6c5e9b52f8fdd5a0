-- Where the source takes a value apart or asserts false, a sound record has what it expects: the `assert false` arms of
-- steps 2 and 5 are not reached (`release_flags`, `claim_flags`), and neither are the flags that 25, 26 and 27 have no arm for
-- (`discard_flags`, `share_flags`, `pending_flags`); `get_Some_0` in 1, 3 and 24 finds a value in storage; and 8, 11 and 12 hand
-- out the value that is in storage. Each from the step's own premises. Assumes nothing.
use Rattle.std.specs.Prelude.{Some}
use mathlib.Core.Path.{◌≡◌, ap}
use mathlib.Core.Logic.{◌⊎◌}
use mathlib.Core.Bool.{Bool}
use mathlib.Core.List.{List}
use Rattle.kinds.specs.declared.{Flag.Flag, Phase.Phase, Reader.Reader}
use Rattle.readers.specs.Listed.{find_in}
use Rattle.page_record.specs.declared.Head.{Head}
use Rattle.soundness.proofs.Facts.{Sound}
use Rattle.soundness.proofs.Known.{Stored, known, pending2_in}
use Rattle.requests.specs.declared.Request.{Request}
use Rattle.requests.specs.Answers.{answer_value}
use Rattle.requests.specs.Premises.{Passes}
use Rattle.heads.specs.Decisions.{place_of, reader}
use Rattle.editing.specs.Steps.{take_writeback, release_writeback, bucketless_claim, claim_to_pending}
use Rattle.editing.specs.Steps.{withdraw_take_exc_lock_finish}
use Rattle.reading.specs.Steps.{withdraw_alloc, withdraw_alloc_no_refcount, shared_check_loading}
use Rattle.returning.specs.Steps.{discard_claim, claim_to_shared, pending_to_claim}
use Rattle.lock.proofs.Keeps.Cells.{found_first}
use Rattle.lock.proofs.Exact.Granted.{granted}

module _ (h : Head) (l : List Reader) (s : Sound h l) where
  -- ---- no `assert false`
  -- 2, lines 158 to 161
  pub release_flags : Passes (release_writeback h).premises
      → (h.flag ≡ Flag.Writeback) ⊎ (h.flag ≡ Flag.WritebackAndClaimed) ⊎ (h.flag ≡ Flag.WritebackAndPendingExcLock)
  release_flags p = (known s).writes p.0

  -- 5, lines 203 to 205
  pub claim_flags : Passes (claim_to_pending h).premises → (h.flag ≡ Flag.Claimed) ⊎ (h.flag ≡ Flag.WritebackAndClaimed)
  claim_flags p = (known s).claims p.0

  -- 25
  pub discard_flags : Passes (discard_claim h).premises → (h.flag ≡ Flag.Claimed) ⊎ (h.flag ≡ Flag.WritebackAndClaimed)
  discard_flags p = (known s).claims p.0

  -- 26
  pub share_flags : (full : Bool) → Passes (claim_to_shared h full).premises
      → (h.flag ≡ Flag.Claimed) ⊎ (h.flag ≡ Flag.WritebackAndClaimed)
  share_flags full p = (known s).claims p.0

  -- 27
  pub pending_flags : Passes (pending_to_claim h).premises
      → (h.flag ≡ Flag.PendingExcLock) ⊎ (h.flag ≡ Flag.WritebackAndPendingExcLock)
  pending_flags p = (granted h s.head).awaiting p.0

  -- ---- a value in storage
  -- 1, line 146
  pub writeback_stored : Passes (take_writeback h).premises → Stored h.storage
  writeback_stored p = (known s).available_in p.0

  -- 3, line 174
  pub claim_stored : Passes (bucketless_claim h).premises → Stored h.storage
  claim_stored p = (known s).claimable_in p.0

  -- 24, line 424
  pub read_stored : (q : Request) → Passes (shared_check_loading h q (find_in l (reader Phase.Pending2 q.bucket))).premises
      → Stored h.storage
  read_stored q p =
      let x = reader Phase.Pending2 q.bucket in
      let first = found_first l x p.1.0 in
      pending2_in s (place_of (find_in l x)) first.inside (ap (λ (r : Reader). r.phase) first.equal) p.0

  -- ---- the value that is handed out
  -- 8, line 241
  pub lock_withdraws : Passes (withdraw_take_exc_lock_finish h).premises
      → h.storage ≡ Some (answer_value (withdraw_take_exc_lock_finish h).answer)
  lock_withdraws p = (known s).pending_in p.0

  -- 11 and 12, lines 271 and 280
  pub alloc_withdraws : Passes (withdraw_alloc h).premises → h.storage ≡ Some (answer_value (withdraw_alloc h).answer)
  alloc_withdraws p = (known s).unmapped_in p.0

  pub alloc_no_refcount_withdraws : Passes (withdraw_alloc_no_refcount h).premises
      → h.storage ≡ Some (answer_value (withdraw_alloc_no_refcount h).answer)
  alloc_no_refcount_withdraws p = (known s).unmapped_in p.0
