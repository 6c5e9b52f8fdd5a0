-- When each of the numbers 1 to 11 and 17 applies to a request on a page, by the replies of RULES 4.1 and the steps of RULES 3.2, in
-- words of their own: no premise list stands here, and the table's order is that of the numbers alone. 2 to 4, which speak of the
-- request, stand in `requests`. The answer is the lowest number that applies, and none is given otherwise (`least_number`,
-- `number_first` and `number_none` in proofs/Least.antt).
use Rattle.std.specs.Prelude.{ℕ, Bool, true, false, not, cond, ◌&&◌, List, [], ◌∷◌, map, eqb}
use Rattle.laws.specs.Lists.{every, among}
use Rattle.kinds.specs.declared.{Bucket.Bucket, Flag.Flag, Phase.Phase, Reader.Reader}
use Rattle.kinds.specs.Limits.{buckets, capacity, ceiling}
use Rattle.kinds.specs.Numbers.{flag_number}
use Rattle.readers.specs.Same.{same_reader}
use Rattle.readers.specs.Listed.{live}
use Rattle.page_record.specs.declared.Page.{Page}
use Rattle.page_record.specs.Holders.{has_bucket, is_claim, is_await, is_pending, is_editing, exc_bucket, exc_visited, exc_clean}
use Rattle.page_record.specs.Holders.{exc_value, is_waiting, is_counted, is_loading, loading_bucket, no_writeback}
use Rattle.page_record.specs.Pages.{number_at}
use Rattle.page_record.specs.References.{ref_at}
use Rattle.soundness.specs.Soundness.{sound_of}
use Rattle.requests.specs.declared.Request.{Request}
use Rattle.requests.specs.Applies.{applies2, applies3, applies4}
use Rattle.lock.specs.Words.{raising, listing, putting_back}

-- ---- words
-- the flag is one of these
abbrev pub flag_in : List Flag → Flag → Bool
flag_in fs f = among (map flag_number fs) (flag_number f)

-- this reader is listed
abbrev pub lists : List Reader → Phase → Bucket → Bool
lists l phase bucket = not (every (λ r. not (same_reader r (record { phase = phase; bucket = bucket }))) l)

-- ---- the steps
-- the flags under which steps 1, 3, 4, 6, 11, 12, 23 and 24 are let through; the others ask nothing of the flag
abbrev pub flag_lets : ℕ → Flag → Bool
flag_lets n f =
    cond (eqb n 1) (flag_in (Flag.Available ∷ []) f)
    (cond (among (3 ∷ 4 ∷ []) n) (flag_in (Flag.Available ∷ Flag.Writeback ∷ []) f)
    (cond (eqb n 6) (not (flag_in (Flag.Writeback ∷ Flag.WritebackAndPendingExcLock ∷ []) f))
    (cond (among (11 ∷ 12 ∷ []) n) (flag_in (Flag.Unmapped ∷ []) f)
    (cond (eqb n 23) (flag_in (Flag.Available ∷ Flag.Writeback ∷ Flag.Claimed ∷ Flag.WritebackAndClaimed ∷ Flag.Loading ∷ []) f)
    (cond (eqb n 24) (not (flag_in (Flag.Loading ∷ []) f))
    true)))))

-- the entry or state that the step removes is there; steps 1, 3, 11, 12 and 19 remove nothing
abbrev pub holder_there : Page → Request → Bool
holder_there p q =
    let n = q.step in
    cond (eqb n 2) (not (no_writeback p.writeback_state))
    (cond (among (4 ∷ 22 ∷ []) n) (lists (live p.readers) (Phase.Obtained q.value) q.bucket)
    (cond (among (5 ∷ 25 ∷ 26 ∷ []) n) (is_claim p.exc_state)
    (cond (among (6 ∷ 27 ∷ []) n) (is_await p.exc_state)
    (cond (among (7 ∷ 8 ∷ 28 ∷ []) n) (is_pending p.exc_state)
    (cond (among (9 ∷ 10 ∷ 18 ∷ 29 ∷ 30 ∷ []) n) (is_editing p.exc_state)
    (cond (among (13 ∷ 15 ∷ []) n) (is_waiting p.loading_state)
    (cond (eqb n 14) (is_counted p.loading_state)
    (cond (among (16 ∷ 17 ∷ []) n) (is_loading p.loading_state)
    (cond (among (20 ∷ 23 ∷ []) n) (lists (live p.readers) Phase.Pending q.bucket)
    (cond (among (21 ∷ 24 ∷ []) n) (lists (live p.readers) Phase.Pending2 q.bucket)
    true))))))))))

-- ---- when each number applies
-- 1: the record is not sound
abbrev pub applies1 : Page → Bool
applies1 p = not (sound_of p)

-- 5: a flag premise fails
abbrev pub applies5 : Page → Request → Bool
applies5 p q = not (flag_lets q.step p.flag)

-- 6: its holder isn't there
abbrev pub applies6 : Page → Request → Bool
applies6 p q = not (holder_there p q)

-- 7: the holder lacks a bucket (9, 10, 16, 26) or has one (18)
abbrev pub bucket_wrong : Page → ℕ → Bool
bucket_wrong p n =
    cond (among (9 ∷ 10 ∷ 26 ∷ []) n) (not (has_bucket (exc_bucket p.exc_state)))
    (cond (eqb n 16) (not (has_bucket (loading_bucket p.loading_state)))
    (cond (eqb n 18) (has_bucket (exc_bucket p.exc_state))
    false))

abbrev pub applies7 : Page → Request → Bool
applies7 p q = holder_there p q && bucket_wrong p q.step

-- 8: visited is 4 for step 7, or not 4 for step 8
abbrev pub visited_wrong : Page → ℕ → Bool
visited_wrong p n =
    cond (eqb n 7) (eqb (exc_visited p.exc_state).0 buckets)
    (cond (eqb n 8) (not (eqb (exc_visited p.exc_state).0 buckets))
    false)

abbrev pub applies8 : Page → Request → Bool
applies8 p q = holder_there p q && visited_wrong p q.step

-- 9: step 7 finds another count than one at the holder's own bucket, or none elsewhere
abbrev pub count_other : Page → ℕ → Bool
count_other p n =
    let visited = (exc_visited p.exc_state).0 in
    cond (eqb n 7) (not (eqb (number_at p.ref_counts visited) (ref_at (exc_bucket p.exc_state) visited))) false

abbrev pub applies9 : Page → Request → Bool
applies9 p q = holder_there p q && count_other p q.step

-- 10: the count at b is the highest that there may be (13, 18, 19)
abbrev pub applies10 : Page → Request → Bool
applies10 p q = among raising q.step && eqb (number_at p.ref_counts q.bucket.0) ceiling

-- 11: the list holds as many as it can (9, 16, 19, 26)
abbrev pub applies11 : Page → Request → Bool
applies11 p q = among listing q.step && eqb p.readers.len capacity

-- 17: the holder is clean, and the value is another than it keeps (9, 10, 29, 30)
abbrev pub value_other : Page → ℕ → ℕ → Bool
value_other p n value =
    among putting_back n && exc_clean p.exc_state && not (eqb value (exc_value p.exc_state))

abbrev pub applies17 : Page → Request → Bool
applies17 p q = holder_there p q && value_other p q.step q.value

-- ---- the table
-- 5 to 11 and 17, which are the step's own; 12 to 16 are never given to a step
abbrev pub applying_step : Page → Request → List (ℕ × Bool)
applying_step p q =
    (5, applies5 p q)
    ∷ (6, applies6 p q)
    ∷ (7, applies7 p q)
    ∷ (8, applies8 p q)
    ∷ (9, applies9 p q)
    ∷ (10, applies10 p q)
    ∷ (11, applies11 p q)
    ∷ (17, applies17 p q)
    ∷ []

-- all of them
abbrev pub applying : Page → Request → List (ℕ × Bool)
applying p q = (1, applies1 p) ∷ (2, applies2 q) ∷ (3, applies3 q) ∷ (4, applies4 q) ∷ applying_step p q
