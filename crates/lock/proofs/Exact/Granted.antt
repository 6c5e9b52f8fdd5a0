-- What the source takes for granted of a head and soundness shows, beside the values and arms of Reach.antt: that an `add` finds
-- its place free and a `deposit` storage out, which flag a step's test lets through, and which stands beside an editor that waits
-- for the archive, read off the twelve shapes (`granted`); and that an exclusive holder's bucket is one of the four (`exc_within`).
-- Assumes nothing.
use Rattle.std.specs.Prelude.{None}
use mathlib.Core.Path.{◌≡◌}
use mathlib.Core.Logic.{◌⊎◌, inl, inr}
use mathlib.Core.Bool.{true, false}
use mathlib.Core.List.{List}
use lib.Dec.{T}
use Rattle.laws.proofs.Tests.{and_iff}
use Rattle.kinds.specs.declared.{Count.Count, Flag.Flag, ExcState.ExcState, LoadingState.LoadingState}
use Rattle.kinds.specs.declared.Reader.{Reader}
use Rattle.kinds.specs.Flags.{is_available, claimable, is_unmapped, claimed}
use Rattle.page_record.specs.declared.Head.{Head}
use Rattle.page_record.specs.Holders.{valid_bucket, is_await, is_editing, is_loading, exc_bucket, loading_bucket}
use Rattle.soundness.proofs.Facts.{head_sound, Sound}
use Rattle.soundness.proofs.Shapes.{Shape, head_at, valid, by_shape}
use Rattle.soundness.proofs.Shapes as Shapes
use Rattle.soundness.proofs.Known.{holders_within_lem}
use Rattle.lock.proofs.Exact.Flags.{Claims}

pub record Granted (h : Head) : Type 0 where
  -- 1
  pub available : T (is_available h.flag) → (h.flag ≡ Flag.Available) × (h.writeback_state ≡ None)
  -- 3 and 4
  pub claims : T (claimable h.flag) → (h.exc_state ≡ ExcState.None) × Claims h.flag (claimed h.flag)
  -- 9, 10, 29 and 30
  pub editing : T (is_editing h.exc_state) → h.storage ≡ None
  -- 11 and 12
  pub unmapped : T (is_unmapped h.flag) → (h.flag ≡ Flag.Unmapped) × (h.loading_state ≡ LoadingState.None)
  -- 16 and 17
  pub loading : T (is_loading h.loading_state)
      → (h.storage ≡ None) × T (valid_bucket (loading_bucket h.loading_state))
  -- 27
  pub awaiting : T (is_await h.exc_state) → (h.flag ≡ Flag.PendingExcLock) ⊎ (h.flag ≡ Flag.WritebackAndPendingExcLock)

granted_at : (z : Shape) (cs : List Count) → T (valid z) → Granted (head_at z cs)
granted_at (Shapes.unmapped v) cs ok = search absurd
granted_at Shapes.waiting cs ok = search absurd
granted_at (Shapes.counted b) cs ok = search absurd
granted_at (Shapes.loading m) cs ok = search absurd
granted_at (Shapes.available v) cs ok = search (absurd, inl)
granted_at (Shapes.claimed m v) cs ok = search absurd
granted_at (Shapes.writeback v) cs ok = search (absurd, inr)
granted_at (Shapes.writeback_claimed m v) cs ok = search absurd
granted_at (Shapes.writeback_await m v) cs ok = search (absurd, inr)
granted_at (Shapes.await m v) cs ok = search (absurd, inl)
granted_at (Shapes.pending m n true v) cs ok = search absurd
granted_at (Shapes.pending m n false v) cs ok = search absurd
granted_at (Shapes.editing m true v) cs ok = search absurd
granted_at (Shapes.editing m false v) cs ok = search absurd

pub granted : (h : Head) → T (head_sound h) → Granted h
granted = by_shape Granted granted_at

-- the bucket that 25, 29 and 30 leave, if there is one
pub exc_within : {h : Head} {l : List Reader} → Sound h l → T (valid_bucket (exc_bucket h.exc_state))
exc_within s = (simp and_iff at (holders_within_lem s)).0.0
