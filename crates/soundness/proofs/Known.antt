-- What a sound record says, beyond its rules one by one: the facts that the steps and the demands use. First of one reader,
-- by rule 7; then of flag, holders and storage, read off the twelve shapes (`known`, `holders_within_lem`); then of the list and
-- the counts, by rules 5 and 7. Assumes nothing.
use Rattle.std.specs.Prelude.{Option, Some, None}
use Prim.Native.Nat.{ℕ, ◌≤◌, ◌<◌}
use mathlib.Core.Path.{◌≡◌, subst}
use mathlib.Core.Logic.{◌↔◌, ◌⊎◌, inl, inr}
use mathlib.Core.Bool.{Bool, true, false, not, ◌&&◌, ◌||◌}
use mathlib.Core.List.{List}
use native.Mathlib.Omega.{arith}
use lib.Dec.{T, eqb, ltb, eqb→eq, eqb_refl, leb→le, ltb→lt}
use lib.ListN.{length, get_or}
use Rattle.laws.specs.Lists.{every}
use Rattle.laws.proofs.Tests.{both, halves, and_iff}
use Rattle.laws.proofs.Lists.{every_mono, every_at, tally_positive}
use Rattle.kinds.specs.declared.{Count.Count, Flag.Flag, Phase.Phase, Reader.Reader, ExcState.ExcState}
use Rattle.kinds.specs.declared.LoadingState.{LoadingState}
use Rattle.kinds.specs.Limits.{buckets}
use Rattle.kinds.specs.Flags.{is_available, claimable, is_unmapped, open_to_readers, not_loading}
use Rattle.kinds.specs.Numbers.{phase_number}
use Rattle.readers.specs.Listed.{is_at, count_at, blank_reader}
use Rattle.readers.proofs.First.{First}
use Rattle.page_record.specs.declared.Head.{Head}
use Rattle.page_record.specs.Holders.{holds, value_of, is_claim, is_await, is_pending, is_editing, exc_bucket, exc_visited}
use Rattle.page_record.specs.Holders.{exc_value, no_load, is_before_loading, no_writeback}
use Rattle.page_record.specs.Pages.{number_at}
use Rattle.page_record.specs.References.{ref_at}
use Rattle.page_record.proofs.Inversions.{no_load_lem}
use Rattle.rules.specs.Rules.{shared_state_valid, phase_valid, exc_lets, may_pass, may_hold, holders_within}
use Rattle.soundness.proofs.Facts.{Sound}
use Rattle.soundness.proofs.Shapes.{Shape, unmapped, waiting, counted, loading, available, claimed, writeback}
use Rattle.soundness.proofs.Shapes.{writeback_claimed, writeback_await, await, pending, editing, head_at, valid}
use Rattle.soundness.proofs.Shapes.{by_shape}

-- ---- one reader
-- a reader past the first check may stand at b, and one that has come through may hold v there
abbrev pub passing : Head → ℕ → Bool
passing h b = may_pass h.flag h.exc_state h.loading_state b

abbrev pub holding : Head → ℕ → ℕ → Bool
holding h b v = may_hold h.flag h.exc_state h.loading_state h.storage b v

not_before : (l : LoadingState) → T (no_load l) → T (not (is_before_loading l))
not_before l t = rw (no_load_lem l t) tt

-- it may hold v just if storage does, nobody loads, and it may be past the first check
pub hold_iff : (h : Head) (b v : ℕ)
    → T (holding h b v) ↔ T (holds h.storage v) × T (no_load h.loading_state) × T (passing h b)
hold_iff h b v = (
  λ t.
      let u = simp and_iff at t in
      (u.0.0.0, u.0.1, simp and_iff ((u.0.0.1, not_before h.loading_state u.0.1), u.1)),
  λ t. let u = simp and_iff at t.2 in simp and_iff (((t.0, u.0.0), t.1), u.1),
)

-- a reader that keeps rule 7: its bucket, and what its phase asks
module _ (h : Head) (r : Reader) (t : T (shared_state_valid h r)) where
  parts : T (ltb r.bucket.0 buckets) × T (phase_valid r.phase (passing h r.bucket.0) (holding h r.bucket.0))
  parts = halves (ltb r.bucket.0 buckets) (phase_valid r.phase (passing h r.bucket.0) (holding h r.bucket.0)) t

  pub valid_bucket_lem : r.bucket.0 < buckets
  valid_bucket_lem = ltb→lt r.bucket.0 buckets parts.0

  pub valid_phase : T (phase_valid r.phase (passing h r.bucket.0) (holding h r.bucket.0))
  valid_phase = parts.1

-- ---- flag, holders and storage
-- the page is in storage, and this is its value
abbrev pub Stored : Option ℕ → Type 0
Stored s = s ≡ Some (value_of s)

pub stored_holds : (s : Option ℕ) → Stored s → T (holds s (value_of s))
stored_holds s e = rw e (eqb_refl (value_of s))

pub record Known (h : Head) : Type 0 where
  -- a writeback: the flag is one of the three that step 2 names (rule 6)
  pub writes : T (not (no_writeback h.writeback_state))
      → (h.flag ≡ Flag.Writeback) ⊎ (h.flag ≡ Flag.WritebackAndClaimed) ⊎ (h.flag ≡ Flag.WritebackAndPendingExcLock)
  -- Claim: one of the two that step 5 names (rules 2 and 6)
  pub claims : T (is_claim h.exc_state) → (h.flag ≡ Flag.Claimed) ⊎ (h.flag ≡ Flag.WritebackAndClaimed)
  -- Unmapped; Available; Available or Writeback: the page is in (rules 1 and 6)
  pub unmapped_in : T (is_unmapped h.flag) → Stored h.storage
  pub available_in : T (is_available h.flag) → Stored h.storage
  pub claimable_in : T (claimable h.flag) → Stored h.storage
  -- the flags that step 23 names: a reader may be past the first check (rules 2 and 6)
  pub open_passing : (b : ℕ) → T (open_to_readers h.flag) → T (passing h b)
  -- a reader may be past it, and the flag is not Loading: the page is in, and nobody loads (rules 1, 2 and 6)
  pub passing_in : (b : ℕ) → T (not_loading h.flag && passing h b) → Stored h.storage
  pub passing_idle : (b : ℕ) → T (not_loading h.flag && passing h b) → T (no_load h.loading_state)
  -- a claimant (Claim, PendingAwaitWriteback, Pending): the page is in, with the claimant's value (rule 2)
  pub claimant_in : T (is_claim h.exc_state || is_await h.exc_state || is_pending h.exc_state)
      → h.storage ≡ Some (exc_value h.exc_state)
  pub pending_in : T (is_pending h.exc_state) → h.storage ≡ Some (exc_value h.exc_state)
  -- a writeback: the page is in, with its value (rule 3)
  pub archive_in : (v : ℕ) → h.writeback_state ≡ Some v → h.storage ≡ Some v

never : {A : Type 0} → ⊥ → A
never t = absurd t

-- there is no writeback, and so no value of one
no_archive : {A : Type 0} (v : ℕ) → None ≡ Some v → A
no_archive v e = absurd (let z : ◌≡◌ {A = ℕ} 0 1 = cc in omega arith)

its_own : (v w : ℕ) → Some v ≡ Some w → Some v ≡ Some w
its_own v w e = cc

-- at a shape each fact computes to what its flag, holders and storage are, or its premise is absurd
known_at : (z : Shape) (cs : List Count) → T (valid z) → Known (head_at z cs)
known_at (unmapped v) cs t = search (inl, inr, never, no_archive, its_own)
known_at waiting cs t = search (inl, inr, never, no_archive)
known_at (counted b) cs t = search (inl, inr, never, no_archive)
known_at (loading m) cs t = search (inl, inr, never, no_archive)
known_at (available v) cs t = search (inl, inr, never, no_archive, its_own)
known_at (claimed m v) cs t = search (inl, inr, never, no_archive, its_own)
known_at (writeback v) cs t = search (inl, inr, never, its_own)
known_at (writeback_claimed m v) cs t = search (inl, inr, its_own)
known_at (writeback_await m v) cs t = search (inl, inr, never, its_own)
known_at (await m v) cs t = search (inl, inr, never, no_archive, its_own)
known_at (pending m n true v) cs t = search (inl, inr, never, no_archive, its_own)
known_at (pending m n false v) cs t = search (inl, inr, never, no_archive, its_own)
known_at (editing m true v) cs t = search (inl, inr, never, no_archive)
known_at (editing m false v) cs t = search (inl, inr, never, no_archive)

pub known : {h : Head} {l : List Reader} → Sound h l → Known h
known {h} s = by_shape (λ (x : Head). Known x) known_at h s.head

-- ---- a holder's bucket, and the number of buckets that an editor has visited
within_at : (z : Shape) (cs : List Count) → T (valid z)
    → T (holders_within (head_at z cs).exc_state (head_at z cs).loading_state)
within_at (unmapped v) cs t = tt
within_at waiting cs t = tt
within_at (counted b) cs t = simp and_iff ((tt, t), tt)
within_at (loading m) cs t = simp and_iff ((tt, t), tt)
within_at (available v) cs t = tt
within_at (claimed m v) cs t = simp and_iff ((t, tt), tt)
within_at (writeback v) cs t = tt
within_at (writeback_claimed m v) cs t = simp and_iff ((t, tt), tt)
within_at (writeback_await m v) cs t = simp and_iff ((t, tt), tt)
within_at (await m v) cs t = simp and_iff ((t, tt), tt)
within_at (pending m n clean v) cs t = let u = simp and_iff at t in simp and_iff ((u.1, tt), u.0)
within_at (editing m clean v) cs t = simp and_iff ((t, tt), tt)

module _ {h : Head} {l : List Reader} (s : Sound h l) where
  -- they are within their limits by rules 2 and 4, without rule 8
  pub holders_within_lem : T (holders_within h.exc_state h.loading_state)
  holders_within_lem = by_shape (λ (x : Head). T (holders_within x.exc_state x.loading_state)) within_at h s.head

  pub visited_within : (exc_visited h.exc_state).0 ≤ buckets
  visited_within = leb→le (exc_visited h.exc_state).0 buckets (simp and_iff at holders_within_lem).1

-- ---- an editor that has closed every bucket
-- it has visited all of them, or has the page out
abbrev pub is_closed : ExcState → Bool
is_closed e = is_editing e || is_pending e && eqb (exc_visited e).0 buckets

closed_lets : (e : ExcState) (b : ℕ) → T (is_closed e) → b < buckets → T (exc_lets e b) → ⊥
closed_lets ExcState.None b t k u = t
closed_lets (ExcState.Claim m v) b t k u = t
closed_lets (ExcState.PendingAwaitWriteback m v) b t k u = t
closed_lets (ExcState.Pending m n c v) b t k u = omega (arith, eqb→eq n.0 buckets t, leb→le n.0 b u)
closed_lets (ExcState.Obtained m c v) b t k u = u

-- beside it nobody may be past the first check
pub closed_passing : (h : Head) (b : ℕ) → T (is_closed h.exc_state) → b < buckets → T (passing h b) → ⊥
closed_passing h b t k u = closed_lets h.exc_state b t k (simp and_iff at u).0.0

-- a reader that is not past the first check
abbrev pub reader_pending : Reader → Bool
reader_pending r = eqb (phase_number r.phase) 1

shut_pending : (p : Phase) (pass : Bool) (hold : ℕ → Bool) → (T pass → ⊥) → ((v : ℕ) → T (hold v) → T pass)
    → T (phase_valid p pass hold) → T (eqb (phase_number p) 1)
shut_pending Phase.Pending pass hold shut past t = tt
shut_pending Phase.Pending2 pass hold shut past t = absurd (shut t)
shut_pending (Phase.Obtained v) pass hold shut past t = absurd (shut (past v t))

-- ---- the list and the counts
module _ {h : Head} {l : List Reader} (s : Sound h l) where
  -- a listed reader keeps rule 7
  pub listed_valid : (i : ℕ) → i < length l → T (shared_state_valid h (get_or l i blank_reader))
  listed_valid i k = every_at (shared_state_valid h) l i blank_reader s.readers k

  pub found_valid : (x : Reader) (i : ℕ) → First l x i → T (shared_state_valid h x)
  found_valid x i f = subst (λ (r : Reader). T (shared_state_valid h r)) f.equal (listed_valid i f.inside)

  -- a listed reader is counted at its bucket (rule 5)
  pub listed_counted : (i : ℕ) → i < length l → 1 ≤ number_at h.ref_counts (get_or l i blank_reader).bucket.0
  listed_counted i k =
      let r = get_or l i blank_reader in
      let b = r.bucket.0 in
      omega (arith, s.counts b (valid_bucket_lem h r (listed_valid i k)), tally_positive (is_at b) l i blank_reader k (eqb_refl b))

  -- a listed Pending2 reader, and the flag is not Loading: the page is in (rules 1, 2, 6 and 7)
  pub pending2_in : (i : ℕ) → i < length l → (get_or l i blank_reader).phase ≡ Phase.Pending2 → T (not_loading h.flag)
      → Stored h.storage
  pending2_in i k e t =
      let r = get_or l i blank_reader in
      let b = r.bucket.0 in
      (known s).passing_in b (both (not_loading h.flag) (passing h b) t (rw e at (valid_phase h r (listed_valid i k))))

  -- an editor that has closed every bucket: no reader is Pending2 or Obtained (rule 7)
  pub closed_pending : T (is_closed h.exc_state) → T (every reader_pending l)
  closed_pending c =
      every_mono (shared_state_valid h) reader_pending l
      (λ r t.
      let b = r.bucket.0 in
      let shut = closed_passing h b c (valid_bucket_lem h r t) in
      shut_pending r.phase (passing h b) (holding h b) shut (λ v u. ((hold_iff h b v).0 u).2) (valid_phase h r t))
      s.readers

  -- step 7 finds what it expects: no reader stands at that bucket (rule 5)
  pub none_at : (b : ℕ) → b < buckets → number_at h.ref_counts b ≡ ref_at (exc_bucket h.exc_state) b → count_at b l ≡ 0
  none_at b k e = omega (arith, s.counts b k)
