-- The twelve shapes of a sound head. Rules 1 to 4 and 6 leave these of the 880 combinations of flag, holders and storage: a head
-- keeps those rules just if it has one of the shapes. `shape` takes a sound head to its shape, `shaped` a valid shape back to a
-- sound head, and `by_shape` proves a fact of every sound head from the twelve. The flag's rule names the holders, and the others
-- fill in bucket, value and storage. Assumes nothing.
use Rattle.std.specs.Prelude.{Option, Some, None}
use Prim.Native.Nat.{ℕ}
use mathlib.Core.Path.{◌≡◌, refl, sym, subst}
use mathlib.Core.Logic.{◌⊎◌, inl, inr}
use mathlib.Core.Bool.{Bool, true, false, not, ◌&&◌}
use mathlib.Core.List.{List}
use borrow.Author.Tests.{eq-eqb}
use lib.Dec.{T, leb, ltb}
use Rattle.laws.proofs.Tests.{to_true, both, halves, and_iff}
use Rattle.kinds.specs.declared.{Count.Count, Flag.Flag, ExcState.ExcState}
use Rattle.kinds.specs.declared.{LoadingState.LoadingState, Bucket.Bucket}
use Rattle.kinds.specs.declared.Visited.{Visited}
use Rattle.kinds.specs.Limits.{buckets}
use Rattle.kinds.specs.Flags.{lock_flag}
use Rattle.page_record.specs.declared.Head.{Head}
use Rattle.page_record.specs.Holders.{holds, value_of, valid_bucket, bucket_of, no_exc, exc_bucket, exc_visited, exc_value}
use Rattle.page_record.specs.Holders.{no_load, loading_bucket, no_writeback, writeback_value}
use Rattle.page_record.specs.Pages.{head_with}
use Rattle.page_record.proofs.Inversions.{no_exc_lem, is_claim_lem, is_await_lem, is_locked_lem, no_load_lem, is_loading_lem, is_before_loading_lem}
use Rattle.page_record.proofs.Inversions.{no_writeback_lem, is_held, is_stored_lem, is_out_lem, is_holding, has_bucket_lem}
use Rattle.rules.specs.Rules.{storage_some_invariant, exc_state_invariants, writeback_state_invariants}
use Rattle.rules.specs.Rules.{loading_state_invariants, flag_invariant}
use Rattle.soundness.proofs.Facts.{head_rules, head_sound}

-- ---- the shapes
pub data Shape : Type 0 where
  unmapped : (value : ℕ) → Shape
  waiting : Shape
  counted : (bucket : Bucket) → Shape
  loading : (bucket : Option Bucket) → Shape
  available : (value : ℕ) → Shape
  claimed : (bucket : Option Bucket) (value : ℕ) → Shape
  writeback : (value : ℕ) → Shape
  writeback_claimed : (bucket : Option Bucket) (value : ℕ) → Shape
  writeback_await : (bucket : Option Bucket) (value : ℕ) → Shape
  await : (bucket : Option Bucket) (value : ℕ) → Shape
  pending : (bucket : Option Bucket) (visited : Visited) (clean : Bool) (value : ℕ) → Shape
  editing : (bucket : Option Bucket) (clean : Bool) (value : ℕ) → Shape

-- the head of a shape, with these counts
abbrev pub head_at : Shape → List Count → Head
head_at (unmapped v) cs = head_with (Some v) Flag.Unmapped cs ExcState.None LoadingState.None None
head_at waiting cs = head_with None Flag.LoadingExcLock cs ExcState.None LoadingState.Pending None
head_at (counted b) cs = head_with None Flag.LoadingExcLock cs ExcState.None (LoadingState.PendingCounted (Some b)) None
head_at (loading m) cs = head_with None Flag.Loading cs ExcState.None (LoadingState.Obtained m) None
head_at (available v) cs = head_with (Some v) Flag.Available cs ExcState.None LoadingState.None None
head_at (claimed m v) cs = head_with (Some v) Flag.Claimed cs (ExcState.Claim m v) LoadingState.None None
head_at (writeback v) cs = head_with (Some v) Flag.Writeback cs ExcState.None LoadingState.None (Some v)
head_at (writeback_claimed m v) cs = head_with (Some v) Flag.WritebackAndClaimed cs (ExcState.Claim m v) LoadingState.None (Some v)
head_at (writeback_await m v) cs = head_with (Some v) Flag.WritebackAndPendingExcLock cs (ExcState.PendingAwaitWriteback m v) LoadingState.None (Some v)
head_at (await m v) cs = head_with (Some v) Flag.PendingExcLock cs (ExcState.PendingAwaitWriteback m v) LoadingState.None None
head_at (pending m n clean v) cs = head_with (Some v) (lock_flag clean) cs (ExcState.Pending m n clean v) LoadingState.None None
head_at (editing m clean v) cs = head_with None (lock_flag clean) cs (ExcState.Obtained m clean v) LoadingState.None None

-- its bucket is 0 to 3, and its visited number at most 4
abbrev pub valid : Shape → Bool
valid (unmapped v) = true
valid waiting = true
valid (counted b) = ltb b.0 buckets
valid (loading m) = valid_bucket m
valid (available v) = true
valid (claimed m v) = valid_bucket m
valid (writeback v) = true
valid (writeback_claimed m v) = valid_bucket m
valid (writeback_await m v) = valid_bucket m
valid (await m v) = valid_bucket m
valid (pending m n clean v) = leb n.0 buckets && valid_bucket m
valid (editing m clean v) = valid_bucket m

-- beside a loader there is no exclusive holder
pub loads_alone : (e : ExcState) (s : Option ℕ) (l : LoadingState) (w : Option ℕ)
    → T (exc_state_invariants e s l w) → no_load l ≡ false → e ≡ ExcState.None
loads_alone ExcState.None s l w t n = refl
loads_alone (ExcState.Claim m v) s l w t n = absurd (rw n at t)
loads_alone (ExcState.PendingAwaitWriteback m v) s l w t n = absurd (rw n at t)
loads_alone (ExcState.Pending m k c v) s l w t n = absurd (rw n at t)
loads_alone (ExcState.Obtained m c v) s l w t n = absurd (rw n at t)

-- ---- a sound head has a shape
-- the rules of the head, apart
pub record HeadRules (s : Option ℕ) (f : Flag) (e : ExcState) (l : LoadingState) (w : Option ℕ) : Type 0 where
  pub flag : T (flag_invariant f e l w)
  pub storage : T (storage_some_invariant s e l)
  pub exc : T (exc_state_invariants e s l w)
  pub writeback : T (writeback_state_invariants w s l)
  pub loading : T (loading_state_invariants l w)

module _ (s : Option ℕ) (e : ExcState) (l : LoadingState) (w : Option ℕ) where
  pub rules_of : (f : Flag) → T (head_rules s f e l w) → HeadRules s f e l w
  rules_of f t =
      let u = simp and_iff at t in
      record { flag = u.0.0.0.0; storage = u.0.0.0.1; exc = u.0.0.1; writeback = u.0.1; loading = u.1 }

  abbrev Shaped : Flag → Type 0
  Shaped f = (z : Shape) × T (valid z) × ((cs : List Count) → head_with s f cs e l w ≡ head_at z cs)

  -- nobody has the page out
  idle : T (no_exc e) → T (no_load l) → T (storage_some_invariant s e l)
      → (e ≡ ExcState.None) × (l ≡ LoadingState.None) × (s ≡ Some (value_of s))
  idle x y t =
      let a = no_exc_lem e x in
      let b = no_load_lem l y in
      (a, b, is_stored_lem s (rw (a, b) at t))

  -- a claimant: nobody loads, its bucket is in range, and its value is in storage
  claims : T (no_load l && valid_bucket (exc_bucket e) && holds s (exc_value e))
      → (l ≡ LoadingState.None) × T (valid_bucket (exc_bucket e)) × (s ≡ Some (exc_value e))
  claims t =
      let u = simp and_iff at t in
      (no_load_lem l u.0.0, u.0.1, is_holding s (exc_value e) u.1)

  -- a writeback: its value is the one in storage
  writes : (v : ℕ) → T (not (no_writeback w)) → T (writeback_state_invariants w s l) → s ≡ Some v → w ≡ Some v
  writes v x t a =
      let b = is_held w x in
      let c = is_holding s (writeback_value w) (halves (no_load l) (holds s (writeback_value w)) (rw b at t)).1 in
      cc

  -- a loader that has not come to Obtained
  loads : HeadRules s Flag.LoadingExcLock e l w → w ≡ None
      → (l ≡ LoadingState.Pending) ⊎ (l ≡ LoadingState.PendingCounted (loading_bucket l)) → Shaped Flag.LoadingExcLock
  loads r c (inl b) =
      let a = loads_alone e s l w r.exc (rw b) in
      rw (a, b, c, is_out_lem s (rw (a, b) at r.storage)) (waiting, tt, λ cs. refl)
  loads r c (inr b) =
      let a = loads_alone e s l w r.exc (rw b) in
      let k = simp and_iff at (rw b at r.loading) in
      let d = has_bucket_lem (loading_bucket l) k.0.0 in
      rw (a, b, c, d, is_out_lem s (rw (a, b) at r.storage)) (counted (bucket_of (loading_bucket l)), rw d at k.1, λ cs. refl)

  -- an editor that is Pending or Obtained
  locks : (clean : Bool) → HeadRules s (lock_flag clean) e l w → w ≡ None
      → (e ≡ ExcState.Pending (exc_bucket e) (exc_visited e) clean (exc_value e)) ⊎ (e ≡ ExcState.Obtained (exc_bucket e) clean (exc_value e))
      → Shaped (lock_flag clean)
  locks clean r c (inl a) =
      let k = simp and_iff at (rw a at r.exc) in
      let ok = both (leb (exc_visited e).0 buckets) (valid_bucket (exc_bucket e)) k.0.0.1 k.0.1 in
      rw (a, c, no_load_lem l k.0.0.0.0, is_holding s (exc_value e) k.1)
      (pending (exc_bucket e) (exc_visited e) clean (exc_value e), ok, λ cs. refl)
  locks clean r c (inr a) =
      let k = simp and_iff at (rw a at r.exc) in
      let b = no_load_lem l k.0.0 in
      rw (a, c, b, is_out_lem s (rw (a, b) at r.storage)) (editing (exc_bucket e) clean (exc_value e), k.1, λ cs. refl)

  view : (f : Flag) → HeadRules s f e l w → Shaped f
  view Flag.Unmapped r =
      let u = simp and_iff at r.flag in
      let k = idle u.0.0 u.0.1 r.storage in
      rw (k.0, k.1, no_writeback_lem w u.1, k.2) (unmapped (value_of s), tt, λ cs. refl)
  view Flag.Loading r =
      let u = simp and_iff at r.flag in
      let b = is_loading_lem l u.0 in
      let a = loads_alone e s l w r.exc (rw b) in
      rw (a, b, no_writeback_lem w u.1, is_out_lem s (rw (a, b) at r.storage))
      (loading (loading_bucket l), rw b at r.loading, λ cs. refl)
  view Flag.LoadingExcLock r = let u = simp and_iff at r.flag in loads r (no_writeback_lem w u.1) (is_before_loading_lem l u.0)
  view Flag.Available r =
      let u = simp and_iff at r.flag in
      let k = idle u.0.0 u.0.1 r.storage in
      rw (k.0, k.1, no_writeback_lem w u.1, k.2) (available (value_of s), tt, λ cs. refl)
  view Flag.Claimed r =
      let u = simp and_iff at r.flag in
      let a = is_claim_lem e u.0 in
      let k = claims (rw a at r.exc) in
      rw (a, no_writeback_lem w u.1, k.0, k.2) (claimed (exc_bucket e) (exc_value e), k.1, λ cs. refl)
  view Flag.Writeback r =
      let u = simp and_iff at r.flag in
      let k = idle u.0.0 u.0.1 r.storage in
      rw (k.0, k.1, writes (value_of s) u.1 r.writeback k.2, k.2) (writeback (value_of s), tt, λ cs. refl)
  view Flag.WritebackAndClaimed r =
      let u = simp and_iff at r.flag in
      let a = is_claim_lem e u.0 in
      let k = claims (rw a at r.exc) in
      rw (a, writes (exc_value e) u.1 r.writeback k.2, k.0, k.2)
      (writeback_claimed (exc_bucket e) (exc_value e), k.1, λ cs. refl)
  view Flag.WritebackAndPendingExcLock r =
      let u = simp and_iff at r.flag in
      let a = is_await_lem e u.0 in
      let k = claims (rw a at r.exc) in
      rw (a, writes (exc_value e) u.1 r.writeback k.2, k.0, k.2)
      (writeback_await (exc_bucket e) (exc_value e), k.1, λ cs. refl)
  view Flag.PendingExcLock r =
      let u = simp and_iff at r.flag in
      let a = is_await_lem e u.0 in
      let k = claims (rw a at r.exc) in
      rw (a, no_writeback_lem w u.1, k.0, k.2) (await (exc_bucket e) (exc_value e), k.1, λ cs. refl)
  view Flag.ExcLockClean r = let u = simp and_iff at r.flag in locks true r (no_writeback_lem w u.1) (is_locked_lem true e u.0)
  view Flag.ExcLockDirty r = let u = simp and_iff at r.flag in locks false r (no_writeback_lem w u.1) (is_locked_lem false e u.0)

pub shape : (h : Head) → T (head_sound h) → (z : Shape) × T (valid z) × (h ≡ head_at z h.ref_counts)
shape h t =
    let r = rules_of h.storage h.exc_state h.loading_state h.writeback_state h.flag t in
    let z = view h.storage h.exc_state h.loading_state h.writeback_state h.flag r in
    (z.0, z.1, z.2 h.ref_counts)

-- ---- a valid shape is sound
-- its bucket and its own value pass their tests; all else computes
pub shaped : (z : Shape) (cs : List Count) → T (valid z) → T (head_sound (head_at z cs))
shaped (unmapped v) cs t = tt
shaped waiting cs t = tt
shaped (counted b) cs t = t
shaped (loading m) cs t = t
shaped (available v) cs t = tt
shaped (claimed m v) cs t = simp (eq-eqb v v refl, to_true (valid_bucket m) t) tt
shaped (writeback v) cs t = simp (eq-eqb v v refl) tt
shaped (writeback_claimed m v) cs t = simp (eq-eqb v v refl, to_true (valid_bucket m) t) tt
shaped (writeback_await m v) cs t = simp (eq-eqb v v refl, to_true (valid_bucket m) t) tt
shaped (await m v) cs t = simp (eq-eqb v v refl, to_true (valid_bucket m) t) tt
shaped (pending m n true v) cs t = simp (eq-eqb v v refl, to_true (leb n.0 buckets && valid_bucket m) t) tt
shaped (pending m n false v) cs t = simp (eq-eqb v v refl, to_true (leb n.0 buckets && valid_bucket m) t) tt
shaped (editing m true v) cs t = simp (to_true (valid_bucket m) t) tt
shaped (editing m false v) cs t = simp (to_true (valid_bucket m) t) tt

-- what holds of every valid shape holds of every sound head
pub by_shape : (P : Head → Type 0) → ((z : Shape) (cs : List Count) → T (valid z) → P (head_at z cs))
    → (h : Head) → T (head_sound h) → P h
by_shape P f h t = let r = shape h t in subst P (sym r.2) (f r.0 h.ref_counts r.1)
