-- The source's state machine `RwLock` as a relation: a constructor for each `transition!{ .. }`, in the source's order and by
-- its name, and then the six transitions that are ours, in the same words. Written from examples/scache/rwlock.rs, and to be read
-- beside it; proofs/Exact.antt shows that a step is accepted exactly where this relation allows it. `pre` is the state before,
-- `post` the state after, `q` the request, and `out` what is handed out (`None`: nothing).
--
-- A transition is taken just if every line (name : fact) of its constructor holds. The lines stand in the order of the
-- source's clauses and have their names, with the field's name where one alone would not tell them apart. What stands before
-- the line `step` is what the source binds (`any` for its `let _`), `before` and `after`, the list around a reader, and `taken`, the
-- value that an Obtained exclusive holder keeps here. A
-- transition's own bucket and value are the request's. A × B: both; A ⊎ B: one of them; x ≢ y: they differ.
--
--   the source                                       a line of the constructor
--   transition!{ take_writeback() { .. } }           (step : q.step ≡ 1), its number (RULES 3.2)
--   take_exc_lock_finish_writeback(clean: bool)      (named : q.clean ≡ cond clean 1 0)
--   require P;                                       (require : P)
--   require bucket.is_Some(); .. get_Some_0()        (require : bucket ≡ some get_some)
--   require let Obtained{bucket, value} = x;         (require_let : x ≡ obtained q.bucket q.value)
--   update flag = x;                                 (update : post.flag ≡ x)
--   match pre.flag { x => { update flag = y; } .. }  (match_flag : Arm pre post x y ⊎ ..); an arm `require false` or
--                                                    `assert false` is one that isn't there
--   remove exc_state -= Some(x);                     (remove : x before, and nobody after unless an `add` follows)
--   add exc_state += Some(x);                        (add : x after, and nobody before unless a `remove` went first)
--   remove shared_state -= { x };                    (remove : pre.shared_state ≡ before ++ x ∷ after)
--                                                    (the_first : Absent x before), the first equal entry is taken
--                                                    (removed : post.shared_state ≡ before ++ last_first after), the last one
--                                                    stands in its place
--   add shared_state += { x };                       (add : post.shared_state ≡ pre.shared_state ++ x ∷ []), at the end;
--     after a `remove`: in its place                 (add : post.shared_state ≡ before ++ x ∷ after)
--   remove ref_counts -= [b => let n];               (remove_ref_counts : count_of pre b ≡ n)
--   add ref_counts += [b => n + 1];                  (add_ref_counts : count_of post b ≡ n + 1)
--                                                    (elsewhere : Elsewhere pre post b), the other counts stay
--   (n - 1) as nat                                   (as_nat : 1 ≤ n)
--   (no such line)                                   (one_less : OneLess pre post bucket), at a holder's bucket, if it has one
--   (no such line)                                   (unchanged_if_clean : Unchanged clean taken q.value), what a clean holder
--                                                    puts in is what it took
--   have ref_counts >= [b => n];                     (have : count_of pre b ≡ n)
--   let expected_rc = if P { 1 } else { 0 };         (let_expected_rc : (P × (expected_rc ≡ 1)) ⊎ ..)
--   birds_eye let v = pre.storage.get_Some_0();      (birds_eye_let : pre.storage ≡ Some v)
--   withdraw storage -= Some(v);                     (withdraw : v is in before, nothing after, and v is handed out)
--   deposit storage += Some(v);                      (deposit : nothing is in before, and v after)
--   what no clause names                             (only : Only fields pre post out), the other fields stay
use Rattle.std.specs.Prelude.{ℕ, Option, Some, None, ◌+◌, ◌-◌, ◌<◌, ◌≤◌, ◌≡◌, ◌⊎◌, ◌≢◌, Bool, true, false, cond, ◌||◌, List, [], ◌∷◌, ◌++◌, T, eqb, length, get_or}
use Rattle.laws.specs.Lists.{among, last_first}
use Rattle.kinds.specs.declared.{Bucket.Bucket, Visited.Visited, Count.Count, Flag.Flag}
use Rattle.kinds.specs.declared.{Phase.Phase, Reader.Reader, ExcState.ExcState}
use Rattle.kinds.specs.declared.LoadingState.{LoadingState}
use Rattle.kinds.specs.Limits.{buckets, ceiling, capacity}
use Rattle.readers.specs.Listed.{live}
use Rattle.page_record.specs.declared.{Head.Head, Page.Page}
use Rattle.page_record.specs.Pages.{head_of}
use Rattle.requests.specs.declared.{Answer.Answer, Request.Request}
use Rattle.lock.specs.Words.{raising, listing}

-- ---- the source's words
-- fields { .. }, line 107; the multiset of readers is a list
pub record RwLock : Type 0 where
  pub storage : Option ℕ
  pub flag : Flag
  pub ref_counts : List Count
  pub shared_state : List Reader
  pub exc_state : ExcState
  pub loading_state : LoadingState
  pub writeback_state : Option ℕ

-- a head and the list of its readers are such a state
abbrev pub state_with : Head → List Reader → RwLock
state_with h l = record {
  storage = h.storage;
  flag = h.flag;
  ref_counts = h.ref_counts;
  shared_state = l;
  exc_state = h.exc_state;
  loading_state = h.loading_state;
  writeback_state = h.writeback_state;
}

-- and so is a page: its readers are the first `len` of its array
abbrev pub state_of : Page → RwLock
state_of p = state_with (head_of p) (live p.readers)

-- Some(bucket)
abbrev pub some : Bucket → Option Bucket
some b = Some b

-- SharedState, line 43
abbrev pub pending : Bucket → Reader
pending b = record { phase = Phase.Pending; bucket = b }

abbrev pub pending2 : Bucket → Reader
pending2 b = record { phase = Phase.Pending2; bucket = b }

abbrev pub obtained : Bucket → ℕ → Reader
obtained b v = record { phase = Phase.Obtained v; bucket = b }

-- the bucket that has this number: the source counts buckets and visited buckets alike
abbrev pub as_bucket : Visited → Bucket
as_bucket n = record { 0 = n.0 }

-- ref_counts[bucket]
abbrev pub count_of : RwLock → Bucket → ℕ
count_of s b = (get_or s.ref_counts b.0 (record { 0 = 0 })).0

-- the counts at every other bucket stay, and no bucket is added or lost
pub record Elsewhere (pre post : RwLock) (bucket : Bucket) : Type 0 where
  pub as_many : length post.ref_counts ≡ length pre.ref_counts
  pub others : (b : Bucket) → b ≢ bucket → count_of post b ≡ count_of pre b

-- one less at a bucket: remove ref_counts -= [bucket => let n]; add ref_counts += [bucket => (n - 1) as nat];
pub record Fewer (pre post : RwLock) (bucket : Bucket) : Type 0 where
  pub pre_count : ℕ
  pub remove_ref_counts : count_of pre bucket ≡ pre_count
  pub as_nat : 1 ≤ pre_count
  pub add_ref_counts : count_of post bucket ≡ pre_count - 1
  pub elsewhere : Elsewhere pre post bucket

-- one less at a holder's bucket; where it has none, the counts are the same list
abbrev pub OneLess : RwLock → RwLock → Option Bucket → Type 0
OneLess pre post None = post.ref_counts ≡ pre.ref_counts
OneLess pre post (Some bucket) = Fewer pre post bucket

-- what a clean holder puts in is what it took; one that is not clean puts in any value
abbrev pub Unchanged : Bool → ℕ → ℕ → Type 0
Unchanged clean taken value = clean ≡ true → value ≡ taken

-- x is not in the list: what stands after the list is the first equal entry
abbrev pub Absent : Reader → List Reader → Type 0
Absent x [] = Unit {0}
Absent x (r ∷ rs) = (r ≢ x) × Absent x rs

-- match pre.flag { .. x => { update flag = y; } .. }
abbrev pub Arm : RwLock → RwLock → Flag → Flag → Type 0
Arm pre post x y = (pre.flag ≡ x) × (post.flag ≡ y)

-- ---- what no clause names stays
pub data Field : Type 0 where
  storage flag ref_counts shared_state exc_state loading_state writeback_state withdrawn : Field

abbrev pub place : Field → ℕ
place storage = 0
place flag = 1
place ref_counts = 2
place shared_state = 3
place exc_state = 4
place loading_state = 5
place writeback_state = 6
place withdrawn = 7

abbrev pub names : List Field → Field → Bool
names [] f = false
names (g ∷ gs) f = eqb (place g) (place f) || names gs f

-- the fact, or nothing where the field is listed
abbrev pub Unless : Bool → Type 0 → Type 0
Unless true A = Unit {0}
Unless false A = A

-- only the fields listed may differ, and only where `withdrawn` is listed is a value handed out
pub record Only (fields : List Field) (pre post : RwLock) (out : Option ℕ) : Type 0 where
  pub storage_stays : Unless (names fields storage) (post.storage ≡ pre.storage)
  pub flag_stays : Unless (names fields flag) (post.flag ≡ pre.flag)
  pub ref_counts_stay : Unless (names fields ref_counts) (post.ref_counts ≡ pre.ref_counts)
  pub shared_state_stays : Unless (names fields shared_state) (post.shared_state ≡ pre.shared_state)
  pub exc_state_stays : Unless (names fields exc_state) (post.exc_state ≡ pre.exc_state)
  pub loading_state_stays : Unless (names fields loading_state) (post.loading_state ≡ pre.loading_state)
  pub writeback_state_stays : Unless (names fields writeback_state) (post.writeback_state ≡ pre.writeback_state)
  pub nothing_withdrawn : Unless (names fields withdrawn) (out ≡ None)

-- ---- the transitions
pub data Moves (pre : RwLock) (q : Request) (post : RwLock) (out : Option ℕ) : Type 0 where
  -- 1 take_writeback, line 143
  take_writeback : (value : ℕ)
      (step : q.step ≡ 1)
      (require : pre.flag ≡ Flag.Available)
      (update : post.flag ≡ Flag.Writeback)
      (birds_eye_let : pre.storage ≡ Some value)
      (add : (pre.writeback_state ≡ None) × (post.writeback_state ≡ Some value))
      (only : Only (flag ∷ writeback_state ∷ []) pre post out)
      → Moves pre q post out
  -- 2 release_writeback, line 152
  release_writeback : (any : ℕ)
      (step : q.step ≡ 2)
      (remove : (pre.writeback_state ≡ Some any) × (post.writeback_state ≡ None))
      (match_flag : Arm pre post Flag.Writeback Flag.Available
      ⊎ Arm pre post Flag.WritebackAndPendingExcLock Flag.PendingExcLock
      ⊎ Arm pre post Flag.WritebackAndClaimed Flag.Claimed)
      (only : Only (writeback_state ∷ flag ∷ []) pre post out)
      → Moves pre q post out
  -- 3 bucketless_claim, line 167
  bucketless_claim : (value : ℕ)
      (step : q.step ≡ 3)
      (match_flag : Arm pre post Flag.Available Flag.Claimed
      ⊎ Arm pre post Flag.Writeback Flag.WritebackAndClaimed)
      (birds_eye_let : pre.storage ≡ Some value)
      (add : (pre.exc_state ≡ ExcState.None) × (post.exc_state ≡ ExcState.Claim None value))
      (only : Only (flag ∷ exc_state ∷ []) pre post out)
      → Moves pre q post out
  -- 4 shared_to_claim, line 180; the reader that it is given is the one that the request names
  shared_to_claim : (reader : Reader) (before after : List Reader)
      (step : q.step ≡ 4)
      (require_let : reader ≡ obtained q.bucket q.value)
      (remove : pre.shared_state ≡ before ++ reader ∷ after)
      (the_first : Absent reader before)
      (removed : post.shared_state ≡ before ++ last_first after)
      (match_flag : Arm pre post Flag.Available Flag.Claimed
      ⊎ Arm pre post Flag.Writeback Flag.WritebackAndClaimed)
      (add : (pre.exc_state ≡ ExcState.None) × (post.exc_state ≡ ExcState.Claim (some q.bucket) q.value))
      (only : Only (shared_state ∷ flag ∷ exc_state ∷ []) pre post out)
      → Moves pre q post out
  -- 5 claim_to_pending, line 197
  claim_to_pending : (bucket : Option Bucket) (value : ℕ)
      (step : q.step ≡ 5)
      (remove : pre.exc_state ≡ ExcState.Claim bucket value)
      (add : post.exc_state ≡ ExcState.PendingAwaitWriteback bucket value)
      (match_flag : Arm pre post Flag.Claimed Flag.PendingExcLock
      ⊎ Arm pre post Flag.WritebackAndClaimed Flag.WritebackAndPendingExcLock)
      (only : Only (exc_state ∷ flag ∷ []) pre post out)
      → Moves pre q post out
  -- 6 take_exc_lock_finish_writeback, line 211
  take_exc_lock_finish_writeback : (clean : Bool) (bucket : Option Bucket) (value : ℕ)
      (step : q.step ≡ 6)
      (named : q.clean ≡ cond clean 1 0)
      (require : (pre.flag ≢ Flag.Writeback) × (pre.flag ≢ Flag.WritebackAndPendingExcLock))
      (remove : pre.exc_state ≡ ExcState.PendingAwaitWriteback bucket value)
      (add : post.exc_state ≡ ExcState.Pending bucket (record { 0 = 0 }) clean value)
      (update : post.flag ≡ cond clean Flag.ExcLockClean Flag.ExcLockDirty)
      (only : Only (exc_state ∷ flag ∷ []) pre post out)
      → Moves pre q post out
  -- 7 take_exc_lock_check_ref_count, line 224
  take_exc_lock_check_ref_count : (bucket : Option Bucket) (visited_count : Visited) (clean : Bool) (value expected_rc : ℕ)
      (step : q.step ≡ 7)
      (remove : pre.exc_state ≡ ExcState.Pending bucket visited_count clean value)
      (require : visited_count.0 < buckets)
      (add : post.exc_state ≡ ExcState.Pending bucket (record { 0 = visited_count.0 + 1 }) clean value)
      (let_expected_rc : ((some (as_bucket visited_count) ≡ bucket) × (expected_rc ≡ 1))
      ⊎ ((some (as_bucket visited_count) ≢ bucket) × (expected_rc ≡ 0)))
      (have : count_of pre (as_bucket visited_count) ≡ expected_rc)
      (only : Only (exc_state ∷ []) pre post out)
      → Moves pre q post out
  -- 8 withdraw_take_exc_lock_finish, line 237; changed: the holder keeps the value that it takes
  withdraw_take_exc_lock_finish : (bucket : Option Bucket) (visited_count : Visited) (clean : Bool) (value : ℕ)
      (step : q.step ≡ 8)
      (remove : pre.exc_state ≡ ExcState.Pending bucket visited_count clean value)
      (require : visited_count.0 ≡ buckets)
      (add : post.exc_state ≡ ExcState.Obtained bucket clean value)
      (withdraw : (pre.storage ≡ Some value) × (post.storage ≡ None) × (out ≡ Some value))
      (only : Only (exc_state ∷ storage ∷ withdrawn ∷ []) pre post out)
      → Moves pre q post out
  -- 9 deposit_downgrade_exc_lock, line 247; changed: a clean holder puts in what it took
  deposit_downgrade_exc_lock : (bucket : Option Bucket) (clean : Bool) (taken : ℕ) (get_some : Bucket)
      (step : q.step ≡ 9)
      (remove : (pre.exc_state ≡ ExcState.Obtained bucket clean taken) × (post.exc_state ≡ ExcState.None))
      (require : bucket ≡ some get_some)
      (unchanged_if_clean : Unchanged clean taken q.value)
      (update : post.flag ≡ Flag.Available)
      (deposit : (pre.storage ≡ None) × (post.storage ≡ Some q.value))
      (add : post.shared_state ≡ pre.shared_state ++ obtained get_some q.value ∷ [])
      (only : Only (exc_state ∷ flag ∷ storage ∷ shared_state ∷ []) pre post out)
      → Moves pre q post out
  -- 10 deposit_downgrade_exc_lock_to_claim, line 257; changed: likewise
  deposit_downgrade_exc_lock_to_claim : (bucket : Option Bucket) (clean : Bool) (taken : ℕ) (get_some : Bucket)
      (step : q.step ≡ 10)
      (remove : pre.exc_state ≡ ExcState.Obtained bucket clean taken)
      (require : bucket ≡ some get_some)
      (unchanged_if_clean : Unchanged clean taken q.value)
      (update : post.flag ≡ Flag.Claimed)
      (deposit : (pre.storage ≡ None) × (post.storage ≡ Some q.value))
      (add : post.exc_state ≡ ExcState.Claim bucket q.value)
      (only : Only (exc_state ∷ flag ∷ storage ∷ []) pre post out)
      → Moves pre q post out
  -- 11 withdraw_alloc, line 267
  withdraw_alloc : (any : ℕ)
      (step : q.step ≡ 11)
      (require : pre.flag ≡ Flag.Unmapped)
      (update : post.flag ≡ Flag.LoadingExcLock)
      (add : (pre.loading_state ≡ LoadingState.None) × (post.loading_state ≡ LoadingState.Pending))
      (withdraw : (pre.storage ≡ Some any) × (post.storage ≡ None) × (out ≡ Some any))
      (only : Only (flag ∷ loading_state ∷ storage ∷ withdrawn ∷ []) pre post out)
      → Moves pre q post out
  -- 12 withdraw_alloc_no_refcount, line 276
  withdraw_alloc_no_refcount : (any : ℕ)
      (step : q.step ≡ 12)
      (require : pre.flag ≡ Flag.Unmapped)
      (update : post.flag ≡ Flag.Loading)
      (add : (pre.loading_state ≡ LoadingState.None) × (post.loading_state ≡ LoadingState.Obtained None))
      (withdraw : (pre.storage ≡ Some any) × (post.storage ≡ None) × (out ≡ Some any))
      (only : Only (flag ∷ loading_state ∷ storage ∷ withdrawn ∷ []) pre post out)
      → Moves pre q post out
  -- 13 loading_inc_count, line 285
  loading_inc_count : (pre_count : ℕ)
      (step : q.step ≡ 13)
      (require : q.bucket.0 < buckets)
      (remove_loading_state : pre.loading_state ≡ LoadingState.Pending)
      (remove_ref_counts : count_of pre q.bucket ≡ pre_count)
      (add_loading_state : post.loading_state ≡ LoadingState.PendingCounted (some q.bucket))
      (add_ref_counts : count_of post q.bucket ≡ pre_count + 1)
      (elsewhere : Elsewhere pre post q.bucket)
      (only : Only (loading_state ∷ ref_counts ∷ []) pre post out)
      → Moves pre q post out
  -- 14 obtain_loading, line 296
  obtain_loading : (bucket : Option Bucket)
      (step : q.step ≡ 14)
      (remove : pre.loading_state ≡ LoadingState.PendingCounted bucket)
      (add : post.loading_state ≡ LoadingState.Obtained bucket)
      (update : post.flag ≡ Flag.Loading)
      (only : Only (loading_state ∷ flag ∷ []) pre post out)
      → Moves pre q post out
  -- 15 obtain_loading_no_refcount, line 329
  obtain_loading_no_refcount :
      (step : q.step ≡ 15)
      (remove : pre.loading_state ≡ LoadingState.Pending)
      (add : post.loading_state ≡ LoadingState.Obtained None)
      (update : post.flag ≡ Flag.Loading)
      (only : Only (loading_state ∷ flag ∷ []) pre post out)
      → Moves pre q post out
  -- 16 deposit_loading_to_shared, line 337
  deposit_loading_to_shared : (bucket : Option Bucket) (get_some : Bucket)
      (step : q.step ≡ 16)
      (remove : (pre.loading_state ≡ LoadingState.Obtained bucket) × (post.loading_state ≡ LoadingState.None))
      (require : bucket ≡ some get_some)
      (update : post.flag ≡ Flag.Available)
      (deposit : (pre.storage ≡ None) × (post.storage ≡ Some q.value))
      (add : post.shared_state ≡ pre.shared_state ++ obtained get_some q.value ∷ [])
      (only : Only (loading_state ∷ flag ∷ storage ∷ shared_state ∷ []) pre post out)
      → Moves pre q post out
  -- 17 deposit_loading_to_done, line 347; changed: it asks for no bucket, and takes one off the loader's, if it has one
  deposit_loading_to_done : (bucket : Option Bucket)
      (step : q.step ≡ 17)
      (remove : (pre.loading_state ≡ LoadingState.Obtained bucket) × (post.loading_state ≡ LoadingState.None))
      (update : post.flag ≡ Flag.Available)
      (deposit : (pre.storage ≡ None) × (post.storage ≡ Some q.value))
      (one_less : OneLess pre post bucket)
      (only : Only (loading_state ∷ flag ∷ storage ∷ ref_counts ∷ []) pre post out)
      → Moves pre q post out
  -- 18 exc_inc_count, line 356; changed: the holder keeps what it took
  exc_inc_count : (none_bucket : Option Bucket) (clean : Bool) (taken pre_count : ℕ)
      (step : q.step ≡ 18)
      (require : q.bucket.0 < buckets)
      (remove_exc_state : pre.exc_state ≡ ExcState.Obtained none_bucket clean taken)
      (require_none : none_bucket ≡ None)
      (remove_ref_counts : count_of pre q.bucket ≡ pre_count)
      (add_exc_state : post.exc_state ≡ ExcState.Obtained (some q.bucket) clean taken)
      (add_ref_counts : count_of post q.bucket ≡ pre_count + 1)
      (elsewhere : Elsewhere pre post q.bucket)
      (only : Only (exc_state ∷ ref_counts ∷ []) pre post out)
      → Moves pre q post out
  -- 19 shared_inc_count, line 369
  shared_inc_count : (pre_count : ℕ)
      (step : q.step ≡ 19)
      (require : q.bucket.0 < buckets)
      (remove_ref_counts : count_of pre q.bucket ≡ pre_count)
      (add_ref_counts : count_of post q.bucket ≡ pre_count + 1)
      (elsewhere : Elsewhere pre post q.bucket)
      (add_shared_state : post.shared_state ≡ pre.shared_state ++ pending q.bucket ∷ [])
      (only : Only (ref_counts ∷ shared_state ∷ []) pre post out)
      → Moves pre q post out
  -- 20 shared_dec_count_pending, line 378
  shared_dec_count_pending : (pre_count : ℕ) (before after : List Reader)
      (step : q.step ≡ 20)
      (require : q.bucket.0 < buckets)
      (remove_ref_counts : count_of pre q.bucket ≡ pre_count)
      (remove_shared_state : pre.shared_state ≡ before ++ pending q.bucket ∷ after)
      (the_first : Absent (pending q.bucket) before)
      (removed : post.shared_state ≡ before ++ last_first after)
      (as_nat : 1 ≤ pre_count)
      (add_ref_counts : count_of post q.bucket ≡ pre_count - 1)
      (elsewhere : Elsewhere pre post q.bucket)
      (only : Only (ref_counts ∷ shared_state ∷ []) pre post out)
      → Moves pre q post out
  -- 21 shared_dec_count_pending2, line 387
  shared_dec_count_pending2 : (pre_count : ℕ) (before after : List Reader)
      (step : q.step ≡ 21)
      (require : q.bucket.0 < buckets)
      (remove_ref_counts : count_of pre q.bucket ≡ pre_count)
      (remove_shared_state : pre.shared_state ≡ before ++ pending2 q.bucket ∷ after)
      (the_first : Absent (pending2 q.bucket) before)
      (removed : post.shared_state ≡ before ++ last_first after)
      (as_nat : 1 ≤ pre_count)
      (add_ref_counts : count_of post q.bucket ≡ pre_count - 1)
      (elsewhere : Elsewhere pre post q.bucket)
      (only : Only (ref_counts ∷ shared_state ∷ []) pre post out)
      → Moves pre q post out
  -- 22 shared_dec_count_obtained, line 396
  shared_dec_count_obtained : (pre_count : ℕ) (before after : List Reader)
      (step : q.step ≡ 22)
      (require : q.bucket.0 < buckets)
      (remove_ref_counts : count_of pre q.bucket ≡ pre_count)
      (remove_shared_state : pre.shared_state ≡ before ++ obtained q.bucket q.value ∷ after)
      (the_first : Absent (obtained q.bucket q.value) before)
      (removed : post.shared_state ≡ before ++ last_first after)
      (as_nat : 1 ≤ pre_count)
      (add_ref_counts : count_of post q.bucket ≡ pre_count - 1)
      (elsewhere : Elsewhere pre post q.bucket)
      (only : Only (ref_counts ∷ shared_state ∷ []) pre post out)
      → Moves pre q post out
  -- 23 shared_check_exc, line 405; changed: no value
  shared_check_exc : (before after : List Reader)
      (step : q.step ≡ 23)
      (require : (pre.flag ≡ Flag.Available)
      ⊎ (pre.flag ≡ Flag.Writeback)
      ⊎ (pre.flag ≡ Flag.Claimed)
      ⊎ (pre.flag ≡ Flag.WritebackAndClaimed)
      ⊎ (pre.flag ≡ Flag.Loading))
      (remove : pre.shared_state ≡ before ++ pending q.bucket ∷ after)
      (the_first : Absent (pending q.bucket) before)
      (add : post.shared_state ≡ before ++ pending2 q.bucket ∷ after)
      (only : Only (shared_state ∷ []) pre post out)
      → Moves pre q post out
  -- 24 shared_check_loading, line 419
  shared_check_loading : (value : ℕ) (before after : List Reader)
      (step : q.step ≡ 24)
      (require : q.bucket.0 < buckets)
      (require_flag : pre.flag ≢ Flag.Loading)
      (remove : pre.shared_state ≡ before ++ pending2 q.bucket ∷ after)
      (the_first : Absent (pending2 q.bucket) before)
      (birds_eye_let : pre.storage ≡ Some value)
      (add : post.shared_state ≡ before ++ obtained q.bucket value ∷ after)
      (only : Only (shared_state ∷ []) pre post out)
      → Moves pre q post out
  -- ---- ours
  -- The source has none of these; they are in its words. 25 to 27 match the flag as 2 and 5 do: a flag that no arm names is one that a
  -- sound record does not have there.
  -- 25 discard_claim
  discard_claim : (bucket : Option Bucket) (any : ℕ)
      (step : q.step ≡ 25)
      (remove : (pre.exc_state ≡ ExcState.Claim bucket any) × (post.exc_state ≡ ExcState.None))
      (match_flag : Arm pre post Flag.Claimed Flag.Available
      ⊎ Arm pre post Flag.WritebackAndClaimed Flag.Writeback)
      (one_less : OneLess pre post bucket)
      (only : Only (exc_state ∷ flag ∷ ref_counts ∷ []) pre post out)
      → Moves pre q post out
  -- 26 claim_to_shared
  claim_to_shared : (bucket : Option Bucket) (value : ℕ) (get_some : Bucket)
      (step : q.step ≡ 26)
      (remove : (pre.exc_state ≡ ExcState.Claim bucket value) × (post.exc_state ≡ ExcState.None))
      (require : bucket ≡ some get_some)
      (match_flag : Arm pre post Flag.Claimed Flag.Available
      ⊎ Arm pre post Flag.WritebackAndClaimed Flag.Writeback)
      (add : post.shared_state ≡ pre.shared_state ++ obtained get_some value ∷ [])
      (only : Only (exc_state ∷ flag ∷ shared_state ∷ []) pre post out)
      → Moves pre q post out
  -- 27 pending_to_claim
  pending_to_claim : (bucket : Option Bucket) (value : ℕ)
      (step : q.step ≡ 27)
      (remove : pre.exc_state ≡ ExcState.PendingAwaitWriteback bucket value)
      (add : post.exc_state ≡ ExcState.Claim bucket value)
      (match_flag : Arm pre post Flag.PendingExcLock Flag.Claimed
      ⊎ Arm pre post Flag.WritebackAndPendingExcLock Flag.WritebackAndClaimed)
      (only : Only (exc_state ∷ flag ∷ []) pre post out)
      → Moves pre q post out
  -- 28 cancel_exc_lock_to_claim
  cancel_exc_lock_to_claim : (bucket : Option Bucket) (visited_count : Visited) (clean : Bool) (value : ℕ)
      (step : q.step ≡ 28)
      (remove : pre.exc_state ≡ ExcState.Pending bucket visited_count clean value)
      (add : post.exc_state ≡ ExcState.Claim bucket value)
      (update : post.flag ≡ Flag.Claimed)
      (only : Only (exc_state ∷ flag ∷ []) pre post out)
      → Moves pre q post out
  -- 29 deposit_exc_lock_to_done
  deposit_exc_lock_to_done : (bucket : Option Bucket) (clean : Bool) (taken : ℕ)
      (step : q.step ≡ 29)
      (remove : (pre.exc_state ≡ ExcState.Obtained bucket clean taken) × (post.exc_state ≡ ExcState.None))
      (unchanged_if_clean : Unchanged clean taken q.value)
      (update : post.flag ≡ Flag.Available)
      (deposit : (pre.storage ≡ None) × (post.storage ≡ Some q.value))
      (one_less : OneLess pre post bucket)
      (only : Only (exc_state ∷ flag ∷ storage ∷ ref_counts ∷ []) pre post out)
      → Moves pre q post out
  -- 30 deposit_exc_lock_to_unmapped
  deposit_exc_lock_to_unmapped : (bucket : Option Bucket) (clean : Bool) (taken : ℕ)
      (step : q.step ≡ 30)
      (remove : (pre.exc_state ≡ ExcState.Obtained bucket clean taken) × (post.exc_state ≡ ExcState.None))
      (unchanged_if_clean : Unchanged clean taken q.value)
      (update : post.flag ≡ Flag.Unmapped)
      (deposit : (pre.storage ≡ None) × (post.storage ≡ Some q.value))
      (one_less : OneLess pre post bucket)
      (only : Only (exc_state ∷ flag ∷ storage ∷ ref_counts ∷ []) pre post out)
      → Moves pre q post out

-- ---- what the source doesn't have: the limits
pub record Room (pre : RwLock) (q : Request) : Type 0 where
  pub under : T (among raising q.step) → count_of pre q.bucket < ceiling
  pub free : T (among listing q.step) → length pre.shared_state < capacity

-- ---- the answer that hands this out
abbrev pub answer_of : Option ℕ → Answer
answer_of None = Answer.Accepted
answer_of (Some value) = Answer.Withdrew value
