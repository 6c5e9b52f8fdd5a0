-- What a transition of `Moves` allows, and the limits leave room for, is accepted (⇐): the lines of the constructor make the
-- premises and what the step leaves compute, and its other lines say the same of `post`. Of soundness this half uses only that
-- there are four counts, and that a holder's bucket is one of them. Assumes nothing.
use Rattle.std.specs.Prelude.{Option, Some, None}
use Prim.Native.Nat.{ℕ, ◌+◌, ◌-◌, ◌<◌}
use mathlib.Core.Path.{◌≡◌, refl, sym, ap, ◌∙◌}
use mathlib.Core.Bool.{Bool, true, false}
use mathlib.Core.List.{List, [], ◌∷◌, ◌++◌}
use native.Mathlib.Omega.{arith}
use borrow.Author.Tests.{lt-ltb, lt-leb, eq-eqb}
use lib.Dec.{T, ltb→lt}
use lib.ListN.{length}
use lib.Seq.{set-append_seam}
use Rattle.laws.specs.Lists.{last_first}
use Rattle.laws.proofs.Tests.{byte_back}
use Rattle.laws.proofs.Lists.{without_split}
use Rattle.kinds.specs.declared.{Bucket.Bucket, Reader.Reader}
use Rattle.kinds.specs.declared.{ExcState.ExcState, LoadingState.LoadingState}
use Rattle.kinds.specs.Limits.{buckets, ceiling, capacity}
use Rattle.readers.specs.Listed.{find_in}
use Rattle.page_record.specs.declared.Head.{Head}
use Rattle.page_record.specs.Holders.{is_loading, valid_bucket, exc_bucket}
use Rattle.page_record.specs.Pages.{number_at, head_with}
use Rattle.soundness.proofs.Facts.{Sound}
use Rattle.requests.specs.declared.Request.{Request}
use Rattle.heads.specs.declared.Decision.{Decision}
use Rattle.heads.specs.Decisions.{decided, may_put_in}
use Rattle.heads.specs.Setters.{with_number, raise, lower, lower_if}
use Rattle.reading.specs.Steps.{shared_dec_count}
use Rattle.lock.specs.Step.{edited, look_for, decided_on}
use Rattle.lock.specs.Moves.{Moves, Field, state_with, count_of, Elsewhere, Absent, Only, Room, answer_of, obtained}
use Rattle.lock.specs.Moves.{pending, pending2, OneLess, Unchanged}
use Rattle.lock.proofs.Exact.Laws.{Accepts, step_no, by_number, is_expected, find_first, is_set}
use Rattle.lock.proofs.Exact.Flags.{is_released, is_claimed, is_awaited, done, lock_flag_lem, is_open, unloaded}
use Rattle.lock.proofs.Exact.Flags.{is_unclaimed, is_unawaited}
use Rattle.lock.proofs.Exact.Granted.{granted, exc_within}

-- ---- a decision's parts, one by one
record Parts (d : Decision) (l : List Reader) (h' : Head) (l' : List Reader) (out : Option ℕ) : Type 0 where
  answer : d.answer ≡ answer_of out
  storage : d.head.storage ≡ h'.storage
  flag : d.head.flag ≡ h'.flag
  counts : d.head.ref_counts ≡ h'.ref_counts
  exc : d.head.exc_state ≡ h'.exc_state
  loading : d.head.loading_state ≡ h'.loading_state
  writeback : d.head.writeback_state ≡ h'.writeback_state
  list : edited d.edit l ≡ l'

took : {d : Decision} {l : List Reader} {h' : Head} {l' : List Reader} {out : Option ℕ}
    → Parts d l h' l' out → Accepts d l h' l' out
took p = record {
  answer = p.answer;
  head = λ i. head_with (p.storage i) (p.flag i) (p.counts i) (p.exc i) (p.loading i) (p.writeback i);
  list = p.list;
}

-- what a clean holder puts in is what it took
may_put : (clean : Bool) (taken value : ℕ) → Unchanged clean taken value → may_put_in clean taken value ≡ true
may_put true taken value same = eq-eqb value taken (same refl)
may_put false taken value same = refl

-- ---- the transitions
module _ (h : Head) (l : List Reader) (q : Request) (h' : Head) (l' : List Reader) (out : Option ℕ) (s : Sound h l) where
  -- the request is decided by the step that it names
  step_is : (n : ℕ) → q.step ≡ n → Accepts (decided h (step_no h l q n)) l h' l' out → Accepts (decided_on h l q) l h' l' out
  step_is n e a = rw (by_number, e) a

  -- the counts, where one is set and the others stay
  module _ (b : Bucket) (below : b.0 < buckets) (elsewhere : Elsewhere (state_with h l) (state_with h' l') b) where
    recounted : (n : ℕ) → count_of (state_with h' l') b ≡ n → with_number b.0 n h.ref_counts ≡ h'.ref_counts
    recounted n e =
        is_set h.ref_counts b.0 n h'.ref_counts (omega (arith, s.four)) elsewhere.as_many e
        λ i d. elsewhere.others (record { 0 = i }) λ p. d (ap (λ (x : Bucket). x.0) p)

    module _ (n : ℕ) (was : count_of (state_with h l) b ≡ n) where
      one_more : count_of (state_with h' l') b ≡ n + 1 → raise b.0 h.ref_counts ≡ h'.ref_counts
      one_more e = recounted (number_at h.ref_counts b.0 + 1) (rw was e)

      one_less : count_of (state_with h' l') b ≡ n - 1 → lower b.0 h.ref_counts ≡ h'.ref_counts
      one_less e = recounted (number_at h.ref_counts b.0 - 1) (rw was e)

  own_less : (m : Option Bucket) → T (valid_bucket m) → OneLess (state_with h l) (state_with h' l') m
      → lower_if m h.ref_counts ≡ h'.ref_counts
  own_less None ok same = sym same
  own_less (Some b) ok fewer =
      one_less b (ltb→lt b.0 buckets ok) fewer.elsewhere fewer.pre_count fewer.remove_ref_counts
      fewer.add_ref_counts

  -- a loader's bucket is one of the four
  loading_valid : (m : Option Bucket) → h.loading_state ≡ LoadingState.Obtained m → T (valid_bucket m)
  loading_valid m e =
      let t : T (is_loading h.loading_state) = rw e tt in
      rw e at ((granted h s.head).loading t).1

  -- .. and so is the exclusive holder's
  exc_valid : (e : ExcState) → h.exc_state ≡ e → T (valid_bucket (exc_bucket e))
  exc_valid e is = rw is at (exc_within s)

  -- 20 to 22: the reader x leaves
  leaves : (x : Reader) (n : ℕ) (before after : List Reader)
      → q.bucket.0 < buckets → count_of (state_with h l) q.bucket ≡ n → l ≡ before ++ x ∷ after → Absent x before
      → l' ≡ before ++ last_first after → count_of (state_with h' l') q.bucket ≡ n - 1
      → Elsewhere (state_with h l) (state_with h' l') q.bucket
      → Only (Field.ref_counts ∷ Field.shared_state ∷ []) (state_with h l) (state_with h' l') out
      → Accepts (decided h (shared_dec_count h q (find_in l x))) l h' l' out
  leaves x n before after below was remove first removed is elsewhere only =
      let list = without_split before x after ∙ sym removed in
      let counts = one_less q.bucket below elsewhere n was is in
      rw (remove, find_first x before after first) (took (search))

  pub takes : Moves (state_with h l) q (state_with h' l') out → Room (state_with h l) q → Accepts (decided_on h l q) l h' l' out
  unfolding look_for
  takes (Moves.take_writeback value step require update bird add only) room =
      step_is 1 step (rw (require, bird) (took (search)))
  takes (Moves.release_writeback any step remove arms only) room =
      let flag = is_released h.flag h'.flag arms in
      step_is 2 step (rw remove.0 (took (search)))
  takes (Moves.bucketless_claim value step arms bird add only) room =
      let k = is_claimed h.flag h'.flag arms in
      let flag = k.1 in
      step_is 3 step (rw (k.0, bird) (took (search)))
  takes (Moves.shared_to_claim reader before after step is remove first removed arms add only) room =
      let x = obtained q.bucket q.value in
      let k = is_claimed h.flag h'.flag arms in
      let flag = k.1 in
      let exc = sym add.1 in
      let list = without_split before x after ∙ sym removed in
      step_is 4 step (rw (remove, is, find_first x before after (rw is at first), k.0) (took (search)))
  takes (Moves.claim_to_pending bucket value step remove add arms only) room =
      let flag = is_awaited h.flag h'.flag arms in
      step_is 5 step (rw remove (took (search)))
  takes (Moves.take_exc_lock_finish_writeback clean bucket value step named require remove add update only) room =
      let flag = lock_flag_lem clean ∙ sym update in
      step_is 6 step (rw (done h.flag require.0 require.1, remove, named, byte_back clean) (took (search)))
  takes (Moves.take_exc_lock_check_ref_count bucket visited clean value rc step remove require add expect have only) room =
      let found = have ∙ sym (is_expected bucket visited.0 rc expect) in
      step_is 7 step (rw (remove, lt-ltb visited.0 buckets require, eq-eqb _ _ found) (took (search)))
  takes (Moves.withdraw_take_exc_lock_finish bucket visited clean value step remove require add withdraw only) room =
      step_is 8 step (rw (remove, eq-eqb visited.0 buckets require) (took (search)))
  takes (Moves.deposit_downgrade_exc_lock bucket clean taken some step remove require same update deposit add only) room =
      let free : length l < capacity = room.free (rw step tt) in
      step_is 9 step (rw (remove.0, require, lt-leb capacity (length l) free, may_put clean taken q.value same) (took (search)))
  takes (Moves.deposit_downgrade_exc_lock_to_claim bucket clean taken some step remove require same update deposit add only) room =
      step_is 10 step (rw (remove, require, may_put clean taken q.value same) (took (search)))
  takes (Moves.withdraw_alloc any step require update add withdraw only) room =
      step_is 11 step (rw (require, withdraw.0) (took (search)))
  takes (Moves.withdraw_alloc_no_refcount any step require update add withdraw only) room =
      step_is 12 step (rw (require, withdraw.0) (took (search)))
  takes (Moves.loading_inc_count n step below remove was add is elsewhere only) room =
      let under : count_of (state_with h l) q.bucket < ceiling = room.under (rw step tt) in
      let counts = one_more q.bucket below elsewhere n was is in
      step_is 13 step (rw (remove, lt-ltb _ ceiling under) (took (search)))
  takes (Moves.obtain_loading bucket step remove add update only) room =
      step_is 14 step (rw remove (took (search)))
  takes (Moves.obtain_loading_no_refcount step remove add update only) room =
      step_is 15 step (rw remove (took (search)))
  takes (Moves.deposit_loading_to_shared bucket some step remove require update deposit add only) room =
      let free : length l < capacity = room.free (rw step tt) in
      step_is 16 step (rw (remove.0, require, lt-leb capacity (length l) free) (took (search)))
  takes (Moves.deposit_loading_to_done bucket step remove update deposit less only) room =
      let counts = own_less bucket (loading_valid bucket remove.0) less in
      step_is 17 step (rw remove.0 (took (search)))
  takes (Moves.exc_inc_count none_bucket clean taken n step below remove require was add is elsewhere only) room =
      let under : count_of (state_with h l) q.bucket < ceiling = room.under (rw step tt) in
      let counts = one_more q.bucket below elsewhere n was is in
      step_is 18 step (rw (remove, require, lt-ltb _ ceiling under) (took (search)))
  takes (Moves.shared_inc_count n step below was is elsewhere add only) room =
      let under : count_of (state_with h l) q.bucket < ceiling = room.under (rw step tt) in
      let free : length l < capacity = room.free (rw step tt) in
      let counts = one_more q.bucket below elsewhere n was is in
      step_is 19 step (rw (lt-ltb _ ceiling under, lt-leb capacity (length l) free) (took (search)))
  takes (Moves.shared_dec_count_pending n before after step below was remove first removed as_nat is elsewhere only) room =
      step_is 20 step (leaves (pending q.bucket) n before after below was remove first removed is elsewhere only)
  takes (Moves.shared_dec_count_pending2 n before after step below was remove first removed as_nat is elsewhere only) room =
      step_is 21 step (leaves (pending2 q.bucket) n before after below was remove first removed is elsewhere only)
  takes (Moves.shared_dec_count_obtained n before after step below was remove first removed as_nat is elsewhere only) room =
      step_is 22 step (leaves (obtained q.bucket q.value) n before after below was remove first removed is elsewhere only)
  takes (Moves.shared_check_exc before after step require remove first add only) room =
      let x = pending q.bucket in
      let list = set-append_seam before x after (pending2 q.bucket) ∙ sym add in
      step_is 23 step (rw (is_open h.flag require, remove, find_first x before after first) (took (search)))
  takes (Moves.shared_check_loading value before after step below require remove first bird add only) room =
      let x = pending2 q.bucket in
      let list = set-append_seam before x after (obtained q.bucket value) ∙ sym add in
      step_is 24 step (rw (unloaded h.flag require, remove, find_first x before after first, bird) (took (search)))
  takes (Moves.discard_claim bucket any step remove arms less only) room =
      let flag = is_unclaimed h.flag h'.flag arms in
      let counts = own_less bucket (exc_valid (ExcState.Claim bucket any) remove.0) less in
      step_is 25 step (rw remove.0 (took (search)))
  takes (Moves.claim_to_shared bucket value some step remove require arms add only) room =
      let flag = is_unclaimed h.flag h'.flag arms in
      let free : length l < capacity = room.free (rw step tt) in
      step_is 26 step (rw (remove.0, require, lt-leb capacity (length l) free) (took (search)))
  takes (Moves.pending_to_claim bucket value step remove add arms only) room =
      let flag = is_unawaited h.flag h'.flag arms in
      step_is 27 step (rw remove (took (search)))
  takes (Moves.cancel_exc_lock_to_claim bucket visited clean value step remove add update only) room =
      step_is 28 step (rw remove (took (search)))
  takes (Moves.deposit_exc_lock_to_done bucket clean taken step remove same update deposit less only) room =
      let counts = own_less bucket (exc_valid (ExcState.Obtained bucket clean taken) remove.0) less in
      step_is 29 step (rw (remove.0, may_put clean taken q.value same) (took (search)))
  takes (Moves.deposit_exc_lock_to_unmapped bucket clean taken step remove same update deposit less only) room =
      let counts = own_less bucket (exc_valid (ExcState.Obtained bucket clean taken) remove.0) less in
      step_is 30 step (rw (remove.0, may_put clean taken q.value same) (took (search)))
