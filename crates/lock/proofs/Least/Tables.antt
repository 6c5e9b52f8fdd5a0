-- Each step's premises are the numbers 5 to 11 and 17 of the table in specs/Applies.antt, a line a step; `tabled_at` picks the line of
-- the step that a request names. A reader is found just if the table finds it listed (`found_listed`), a flag's test
-- is the table's list of flags (`available_lets` and the like), and soundness keeps counts, visited number and length within
-- their limits (`bounds`). Assumes nothing.
use Rattle.std.specs.Prelude.{Option, Some, None}
use Prim.Native.Nat.{ℕ, ◌≤◌}
use mathlib.Core.Path.{◌≡◌, refl, sym, ap, ◌∙◌}
use mathlib.Core.Bool.{Bool, true, false, not, ◌&&◌, not-not}
use mathlib.Core.List.{List}
use native.Mathlib.Omega.{arith}
use lib.Dec.{T, eqb, ltb, leb}
use Rattle.laws.specs.Tables.{first_applying}
use Rattle.laws.specs.Lists.{among}
use Rattle.laws.proofs.Tests.{is_true, not_either}
use Rattle.laws.proofs.Pick.{Below, ◌&◌, pick}
use Rattle.laws.proofs.Orders.{limit_not_below, limit_reached}
use Rattle.kinds.specs.declared.{Bucket.Bucket, Flag.Flag, Phase.Phase, Reader.Reader}
use Rattle.kinds.specs.Limits.{buckets, capacity, ceiling}
use Rattle.kinds.specs.Flags.{is_available, claimable, writeback_done, is_unmapped, open_to_readers, not_loading}
use Rattle.readers.specs.declared.Readers.{Readers}
use Rattle.readers.specs.Listed.{live, find_in}
use Rattle.readers.proofs.First.{absent, nowhere, find_none}
use Rattle.page_record.specs.declared.Page.{Page}
use Rattle.page_record.specs.Holders.{has_bucket, is_claim, is_await, is_pending, is_editing, exc_bucket, exc_visited}
use Rattle.page_record.specs.Holders.{exc_clean, exc_value, is_waiting, is_counted, is_loading, loading_bucket, no_writeback}
use Rattle.page_record.specs.Pages.{head_of, number_at}
use Rattle.page_record.specs.References.{ref_at}
use Rattle.soundness.specs.Soundness.{sound_of}
use Rattle.soundness.proofs.Known.{visited_within}
use Rattle.soundness.proofs.Tested.{facts}
use Rattle.requests.specs.declared.Request.{Request}
use Rattle.requests.specs.Requests.{is_step, past_last}
use Rattle.requests.proofs.Verdicts.{failing}
use Rattle.requests.proofs.Formed.{step_most}
use Rattle.heads.specs.Decisions.{Step, is_found, reader, may_put_in}
use Rattle.steps.specs.Decide.{step_at, sought_of}
use Rattle.lock.specs.Words.{raising, listing}
use Rattle.lock.specs.Step.{look_for}
use Rattle.lock.specs.Applies.{flag_lets, lists, holder_there, bucket_wrong, visited_wrong, count_other, value_other}
use Rattle.lock.specs.Applies.{applying_step}
use Rattle.lock.proofs.Least.Numbered.{tabled, premised_tabled, flag_holder}

-- ---- what soundness adds: counts, visited number and length are within their limits
pub record Bounds (p : Page) : Type 0 where
  pub closed : (exc_visited p.exc_state).0 ≤ buckets
  pub few : (b : ℕ) → number_at p.ref_counts b ≤ ceiling
  pub room : p.readers.len ≤ capacity

pub bounds : (p : Page) → T (sound_of p) → Bounds p
bounds p sound =
    let f = facts p sound in
    record {
      closed = visited_within f.parts;
      few = f.parts.few;
      room = omega (arith, f.parts.room, ap (λ (rs : Readers). rs.len) f.neat);
    }

-- ---- a reader is found just if it is listed
found_listed : (l : List Reader) (x : Reader) → is_found (find_in l x) ≡ not (absent x l)
found_listed l x = go (absent x l) refl (find_in l x) refl
  where
    go : (t : Bool) → absent x l ≡ t → (o : Option ℕ) → find_in l x ≡ o → is_found o ≡ not t
    go true a o e = ap is_found (sym e ∙ find_none x l (is_true a))
    go false a None e = absurd (rw a at (nowhere x l e))
    go false a (Some i) e = refl

-- ---- a flag's test is the table's list of flags
by_flag : (P : Flag → Type 0)
    → P Flag.Unmapped → P Flag.Loading → P Flag.LoadingExcLock → P Flag.Available → P Flag.Claimed → P Flag.Writeback
    → P Flag.WritebackAndClaimed → P Flag.WritebackAndPendingExcLock → P Flag.PendingExcLock → P Flag.ExcLockClean
    → P Flag.ExcLockDirty
    → (f : Flag) → P f
by_flag P a b c d e f g h i j k Flag.Unmapped = a
by_flag P a b c d e f g h i j k Flag.Loading = b
by_flag P a b c d e f g h i j k Flag.LoadingExcLock = c
by_flag P a b c d e f g h i j k Flag.Available = d
by_flag P a b c d e f g h i j k Flag.Claimed = e
by_flag P a b c d e f g h i j k Flag.Writeback = f
by_flag P a b c d e f g h i j k Flag.WritebackAndClaimed = g
by_flag P a b c d e f g h i j k Flag.WritebackAndPendingExcLock = h
by_flag P a b c d e f g h i j k Flag.PendingExcLock = i
by_flag P a b c d e f g h i j k Flag.ExcLockClean = j
by_flag P a b c d e f g h i j k Flag.ExcLockDirty = k

pub available_lets : (f : Flag) → is_available f ≡ flag_lets 1 f
available_lets = by_flag (λ f. is_available f ≡ flag_lets 1 f) refl refl refl refl refl refl refl refl refl refl refl

pub claimable_lets : (f : Flag) → claimable f ≡ flag_lets 3 f
claimable_lets = by_flag (λ f. claimable f ≡ flag_lets 3 f) refl refl refl refl refl refl refl refl refl refl refl

pub writeback_lets : (f : Flag) → writeback_done f ≡ flag_lets 6 f
writeback_lets = by_flag (λ f. writeback_done f ≡ flag_lets 6 f) refl refl refl refl refl refl refl refl refl refl refl

pub unmapped_lets : (f : Flag) → is_unmapped f ≡ flag_lets 11 f
unmapped_lets = by_flag (λ f. is_unmapped f ≡ flag_lets 11 f) refl refl refl refl refl refl refl refl refl refl refl

pub open_lets : (f : Flag) → open_to_readers f ≡ flag_lets 23 f
open_lets = by_flag (λ f. open_to_readers f ≡ flag_lets 23 f) refl refl refl refl refl refl refl refl refl refl refl

pub loading_lets : (f : Flag) → not_loading f ≡ flag_lets 24 f
loading_lets = by_flag (λ f. not_loading f ≡ flag_lets 24 f) refl refl refl refl refl refl refl refl refl refl refl

-- ---- each step's premises are the numbers 5 to 11 and 17 of the table
module _ (p : Page) (within : Bounds p) (b : Bucket) (clean value : ℕ) where
  abbrev ask : ℕ → Request
  ask n = record { step = n; bucket = b; clean = clean; value = value }

  abbrev step_no : ℕ → Step
  step_no n = step_at (head_of p) (ask n) (look_for (live p.readers) (sought_of (ask n))) (leb capacity p.readers.len)

  -- in the table's words
  abbrev at_ceiling : Bool
  at_ceiling = eqb (number_at p.ref_counts b.0) ceiling

  abbrev is_full : Bool
  is_full = eqb p.readers.len capacity

  abbrev reads : Phase → Bool
  reads phase = lists (live p.readers) phase b

  abbrev Tabled : ℕ → Type 0
  Tabled n =
      first_applying (failing (step_no n).premises)
      ≡ tabled (flag_lets n p.flag) (holder_there p (ask n)) (bucket_wrong p n) (visited_wrong p n) (count_other p n)
      (among raising n && at_ceiling) (among listing n && is_full) (value_other p n value)

  -- in the step's words: the count is below the ceiling, the list is full, the holder has a bucket, what it has visited
  abbrev under : Bool
  under = ltb (number_at p.ref_counts b.0) ceiling

  abbrev full : Bool
  full = leb capacity p.readers.len

  abbrev exc_bucket_lem : Bool
  exc_bucket_lem = has_bucket (exc_bucket p.exc_state)

  abbrev load_bucket : Bool
  load_bucket = has_bucket (loading_bucket p.loading_state)

  abbrev visited : ℕ
  visited = (exc_visited p.exc_state).0

  abbrev kept : Bool
  kept = may_put_in (exc_clean p.exc_state) (exc_value p.exc_state) value

  -- the two agree
  at_ceiling_lem : at_ceiling ≡ not under
  at_ceiling_lem = limit_not_below (number_at p.ref_counts b.0) ceiling (within.few b.0)

  is_full_lem : is_full ≡ full
  is_full_lem = limit_reached p.readers.len capacity within.room

  is_other : (exc_clean p.exc_state && not (eqb value (exc_value p.exc_state))) ≡ not kept
  is_other = simp (not_either, not-not)

  finds : (phase : Phase) → is_found (find_in (live p.readers) (reader phase b)) ≡ reads phase
  finds phase = found_listed (live p.readers) (reader phase b)

  tabled1 : Tabled 1
  tabled1 = rw (available_lets p.flag) (flag_holder (flag_lets 1 p.flag) true)

  tabled2 : Tabled 2
  tabled2 = flag_holder true (not (no_writeback p.writeback_state))

  tabled3 : Tabled 3
  tabled3 = rw (claimable_lets p.flag) (flag_holder (flag_lets 3 p.flag) true)

  tabled4 : Tabled 4
  unfolding look_for sought_of
  tabled4 =
      let x = Phase.Obtained value in
      rw (claimable_lets p.flag, finds x) (flag_holder (flag_lets 4 p.flag) (reads x))

  tabled5 : Tabled 5
  tabled5 = flag_holder true (is_claim p.exc_state)

  tabled6 : Tabled 6
  tabled6 = rw (writeback_lets p.flag) (flag_holder (flag_lets 6 p.flag) (is_await p.exc_state))

  tabled7 : Tabled 7
  tabled7 =
      let expected = eqb (number_at p.ref_counts visited) (ref_at (exc_bucket p.exc_state) visited) in
      rw (limit_not_below visited buckets within.closed)
      (premised_tabled true (is_pending p.exc_state) true (ltb visited buckets) expected true false true)

  tabled8 : Tabled 8
  tabled8 = premised_tabled true (is_pending p.exc_state) true (eqb visited buckets) true true false true

  tabled9 : Tabled 9
  tabled9 = rw (is_full_lem, is_other) (premised_tabled true (is_editing p.exc_state) exc_bucket_lem true true true full kept)

  tabled10 : Tabled 10
  tabled10 = rw is_other (premised_tabled true (is_editing p.exc_state) exc_bucket_lem true true true false kept)

  tabled11 : Tabled 11
  tabled11 = rw (unmapped_lets p.flag) (flag_holder (flag_lets 11 p.flag) true)

  tabled12 : Tabled 12
  tabled12 = rw (unmapped_lets p.flag) (flag_holder (flag_lets 12 p.flag) true)

  tabled13 : Tabled 13
  tabled13 = rw at_ceiling_lem (premised_tabled true (is_waiting p.loading_state) true true true under false true)

  tabled14 : Tabled 14
  tabled14 = flag_holder true (is_counted p.loading_state)

  tabled15 : Tabled 15
  tabled15 = flag_holder true (is_waiting p.loading_state)

  tabled16 : Tabled 16
  tabled16 = rw is_full_lem (premised_tabled true (is_loading p.loading_state) load_bucket true true true full true)

  tabled17 : Tabled 17
  tabled17 = flag_holder true (is_loading p.loading_state)

  tabled18 : Tabled 18
  tabled18 =
      let line = premised_tabled true (is_editing p.exc_state) (not exc_bucket_lem) true true under false true in
      rw at_ceiling_lem (simp not-not (simp not-not at line))

  tabled19 : Tabled 19
  tabled19 = rw (at_ceiling_lem, is_full_lem) (premised_tabled true true true true true under full true)

  tabled20 : Tabled 20
  unfolding look_for sought_of
  tabled20 = rw (finds Phase.Pending) (flag_holder true (reads Phase.Pending))

  tabled21 : Tabled 21
  unfolding look_for sought_of
  tabled21 = rw (finds Phase.Pending2) (flag_holder true (reads Phase.Pending2))

  tabled22 : Tabled 22
  unfolding look_for sought_of
  tabled22 = let x = Phase.Obtained value in rw (finds x) (flag_holder true (reads x))

  tabled23 : Tabled 23
  unfolding look_for sought_of
  tabled23 = rw (open_lets p.flag, finds Phase.Pending) (flag_holder (flag_lets 23 p.flag) (reads Phase.Pending))

  tabled24 : Tabled 24
  unfolding look_for sought_of
  tabled24 = rw (loading_lets p.flag, finds Phase.Pending2) (flag_holder (flag_lets 24 p.flag) (reads Phase.Pending2))

  tabled25 : Tabled 25
  tabled25 = flag_holder true (is_claim p.exc_state)

  tabled26 : Tabled 26
  tabled26 = rw is_full_lem (premised_tabled true (is_claim p.exc_state) exc_bucket_lem true true true full true)

  tabled27 : Tabled 27
  tabled27 = flag_holder true (is_await p.exc_state)

  tabled28 : Tabled 28
  tabled28 = flag_holder true (is_pending p.exc_state)

  tabled29 : Tabled 29
  tabled29 = rw is_other (premised_tabled true (is_editing p.exc_state) true true true true false kept)

  tabled30 : Tabled 30
  tabled30 = rw is_other (premised_tabled true (is_editing p.exc_state) true true true true false kept)

  -- no step has number 0
  entries : Below past_last (λ n. T (is_step n) → Tabled n)
  entries =
      absurd
      & (λ _. tabled1) & (λ _. tabled2) & (λ _. tabled3) & (λ _. tabled4) & (λ _. tabled5) & (λ _. tabled6)
      & (λ _. tabled7) & (λ _. tabled8) & (λ _. tabled9) & (λ _. tabled10) & (λ _. tabled11) & (λ _. tabled12)
      & (λ _. tabled13) & (λ _. tabled14) & (λ _. tabled15) & (λ _. tabled16) & (λ _. tabled17) & (λ _. tabled18)
      & (λ _. tabled19) & (λ _. tabled20) & (λ _. tabled21) & (λ _. tabled22) & (λ _. tabled23) & (λ _. tabled24)
      & (λ _. tabled25) & (λ _. tabled26) & (λ _. tabled27) & (λ _. tabled28) & (λ _. tabled29) & (λ _. tabled30)
      & tt

-- the step that a request names
pub tabled_at : (p : Page) → Bounds p → (q : Request) → T (is_step q.step)
    → first_applying
    (failing (step_at (head_of p) q (look_for (live p.readers) (sought_of q)) (leb capacity p.readers.len)).premises)
    ≡ first_applying (applying_step p q)
tabled_at p within q t =
    pick past_last (λ (n : ℕ). T (is_step n) → Tabled p within q.bucket q.clean q.value n)
    (entries p within q.bucket q.clean q.value) q.step (omega (arith, step_most q.step t)) t
