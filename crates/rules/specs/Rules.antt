-- The eight rules of a sound record (RULES 2): 1 to 7 clause for clause as in the source, and rule 8, the limits. Each rule takes
-- the parts that it reads, so that a step which leaves these alone keeps the rule for nothing.
use Rattle.std.specs.Prelude.{ℕ, Option, Some, None, Bool, true, false, not, ◌&&◌, ◌||◌, List, [], ◌∷◌, eqb, ltb, leb, length}
use Rattle.std.specs.Bool.{beq}
use Rattle.laws.specs.Lists.{every}
use Rattle.kinds.specs.declared.{Count.Count, Flag.Flag, Phase.Phase, Reader.Reader, ExcState.ExcState}
use Rattle.kinds.specs.declared.LoadingState.{LoadingState}
use Rattle.kinds.specs.Limits.{buckets, capacity, Limits, today}
use Rattle.kinds.specs.Flags.{is_unmapped}
use Rattle.readers.specs.declared.Readers.{Readers}
use Rattle.readers.specs.Listed.{live, blank_past}
use Rattle.page_record.specs.declared.Head.{Head}
use Rattle.page_record.specs.Holders.{is_stored, holds, has_bucket, valid_bucket, no_exc, is_claim, is_await, is_editing}
use Rattle.page_record.specs.Holders.{is_locked, exc_bucket, exc_visited, no_load, is_loading, is_before_loading}
use Rattle.page_record.specs.Holders.{loading_bucket, no_writeback}
use Rattle.page_record.specs.Pages.{number_at}
use Rattle.page_record.specs.References.{count_all_refs}

-- ---- rule 1: storage_some_invariant, line 441
-- somebody has the page out: a loader, or an editor that has come to Obtained (lines 443 and 444)
abbrev pub withdrawn : ExcState → LoadingState → Bool
withdrawn e l = not (no_load l) || is_editing e

-- storage has a value just if nobody has it out (line 446)
abbrev pub storage_some_invariant : Option ℕ → ExcState → LoadingState → Bool
storage_some_invariant s e l = beq (is_stored s) (not (withdrawn e l))

-- ---- rule 2: exc_state_invariants, line 450
-- Claim: lines 458 to 460; PendingAwaitWriteback: 453 to 455; Pending: 463 to 467; Obtained: 470 to 472; none: 474
abbrev pub exc_state_invariants : ExcState → Option ℕ → LoadingState → Option ℕ → Bool
exc_state_invariants ExcState.None s l w = true
exc_state_invariants (ExcState.Claim bucket value) s l w = no_load l && valid_bucket bucket && holds s value
exc_state_invariants (ExcState.PendingAwaitWriteback bucket value) s l w = no_load l && valid_bucket bucket && holds s value
exc_state_invariants (ExcState.Pending bucket visited clean value) s l w =
    no_load l && no_writeback w && leb visited.0 buckets && valid_bucket bucket && holds s value
exc_state_invariants (ExcState.Obtained bucket clean value) s l w = no_load l && no_writeback w && valid_bucket bucket

-- ---- rule 3: writeback_state_invariants, line 479
abbrev pub writeback_state_invariants : Option ℕ → Option ℕ → LoadingState → Bool
writeback_state_invariants None s l = true
writeback_state_invariants (Some value) s l = no_load l && holds s value

-- ---- rule 4: loading_state_invariants, line 490
-- a loader that is counted has a bucket (lines 496 to 503)
abbrev pub loading_state_invariants : LoadingState → Option ℕ → Bool
loading_state_invariants LoadingState.None w = true
loading_state_invariants LoadingState.Pending w = no_writeback w
loading_state_invariants (LoadingState.PendingCounted bucket) w = has_bucket bucket && no_writeback w && valid_bucket bucket
loading_state_invariants (LoadingState.Obtained bucket) w = valid_bucket bucket

-- ---- rule 5: ref_count_invariant, line 543
abbrev pub every_bucket : List ℕ
every_bucket = 0 ∷ 1 ∷ 2 ∷ 3 ∷ []

-- there is a count for each bucket (line 549), and it is the number of references there (line 551)
abbrev pub ref_count_invariant : List Count → List Reader → ExcState → LoadingState → Bool
ref_count_invariant cs readers e l =
    eqb (length cs) buckets && every (λ b. eqb (number_at cs b) (count_all_refs readers e l b)) every_bucket

-- ---- rule 6: flag_invariant, line 556
abbrev pub flag_invariant : Flag → ExcState → LoadingState → Option ℕ → Bool
flag_invariant Flag.Unmapped e l w = no_exc e && no_load l && no_writeback w
flag_invariant Flag.Loading e l w = is_loading l && no_writeback w
flag_invariant Flag.LoadingExcLock e l w = is_before_loading l && no_writeback w
flag_invariant Flag.Available e l w = no_exc e && no_load l && no_writeback w
flag_invariant Flag.Claimed e l w = is_claim e && no_writeback w
flag_invariant Flag.Writeback e l w = no_exc e && no_load l && not (no_writeback w)
flag_invariant Flag.WritebackAndClaimed e l w = is_claim e && not (no_writeback w)
flag_invariant Flag.WritebackAndPendingExcLock e l w = is_await e && not (no_writeback w)
flag_invariant Flag.PendingExcLock e l w = is_await e && no_writeback w
flag_invariant Flag.ExcLockClean e l w = is_locked true e && no_writeback w
flag_invariant Flag.ExcLockDirty e l w = is_locked false e && no_writeback w

-- ---- rule 7: shared_storage_invariant, line 658, of each reader as in shared_state_valid, line 627
-- the editor has not yet closed this bucket (lines 632 to 636 and 646 to 650)
abbrev pub exc_lets : ExcState → ℕ → Bool
exc_lets ExcState.None b = true
exc_lets (ExcState.Claim bucket value) b = true
exc_lets (ExcState.PendingAwaitWriteback bucket value) b = true
exc_lets (ExcState.Pending bucket visited clean value) b = leb visited.0 b
exc_lets (ExcState.Obtained bucket clean value) b = false

-- a reader past the first check may stand at this bucket (Pending2)
abbrev pub may_pass : Flag → ExcState → LoadingState → ℕ → Bool
may_pass f e l b = exc_lets e b && not (is_before_loading l) && not (is_unmapped f)

-- a reader may hold this value at this bucket (Obtained)
abbrev pub may_hold : Flag → ExcState → LoadingState → Option ℕ → ℕ → ℕ → Bool
may_hold f e l s b value = holds s value && exc_lets e b && no_load l && not (is_unmapped f)

abbrev pub phase_valid : Phase → Bool → (ℕ → Bool) → Bool
phase_valid Phase.Pending pass hold = true
phase_valid Phase.Pending2 pass hold = pass
phase_valid (Phase.Obtained value) pass hold = hold value

abbrev pub shared_state_valid : Head → Reader → Bool
shared_state_valid h r =
    ltb r.bucket.0 buckets
    && phase_valid r.phase
    (may_pass h.flag h.exc_state h.loading_state r.bucket.0)
    (may_hold h.flag h.exc_state h.loading_state h.storage r.bucket.0)

abbrev pub shared_storage_invariant : Head → List Reader → Bool
shared_storage_invariant h readers = every (shared_state_valid h) readers

-- ---- rule 8: the limits. `Limits` is asked for by the counts and the list's length alone
-- each count at most the highest
abbrev pub counts_under : ℕ → List Count → Bool
counts_under highest cs = every (λ (c : Count). leb c.0 highest) cs

-- every holder's bucket 0 to 3, visited at most 4
abbrev pub holders_within : ExcState → LoadingState → Bool
holders_within e l = valid_bucket (exc_bucket e) && valid_bucket (loading_bucket l) && leb (exc_visited e).0 buckets

-- every listed reader's bucket 0 to 3
abbrev pub buckets_within : List Reader → Bool
buckets_within l = every (λ (r : Reader). ltb r.bucket.0 buckets) l

-- no more listed than may be, each at a bucket 0 to 3, and blanks past them (the array always has all its entries)
abbrev pub readers_under : ℕ → Readers → Bool
readers_under most rs =
    leb rs.len most
    && eqb (length rs.items) capacity
    && buckets_within (live rs)
    && blank_past rs

abbrev pub limits_under : Limits → Head → Readers → Bool
limits_under limits h rs =
    counts_under limits.count h.ref_counts
    && holders_within h.exc_state h.loading_state
    && readers_under limits.readers rs

-- under the limits that the code keeps
abbrev pub limits_kept : Head → Readers → Bool
limits_kept = limits_under today
