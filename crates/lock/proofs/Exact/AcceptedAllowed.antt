-- What is accepted, a transition of `Moves` allows, and the limits leave room for it (⇒). One law takes a step's list of
-- premises apart (`ran`); then each step has its constructor, line by line, in the source's order. Soundness is used wherever
-- the source takes something for granted (Reach.antt, Granted.antt), and for `as nat`: a reader that is listed, and a holder
-- that has a bucket, is counted. Assumes nothing.
use Rattle.std.specs.Prelude.{Option, Some, None, Result, Ok, Err}
use Prim.Native.Nat.{ℕ, ◌+◌, ◌-◌, ◌≤◌, ◌<◌}
use mathlib.Core.Path.{◌≡◌, refl, sym, ap, ◌∙◌}
use mathlib.Core.Logic.{◌≢◌}
use mathlib.Core.Bool.{Bool, true, false, cond, true≢false}
use mathlib.Core.List.{List, [], ◌∷◌, ◌++◌}
use native.Mathlib.Omega.{arith}
use borrow.Author.Tests.{eqb-true, eqb-false, eq-eqb}
use lib.Dec.{T, eqb, leb, ltb→lt, nleb→lt, eqb→eq}
use lib.ListN.{length, length-set}
use Rattle.laws.specs.Lists.{among, last_first}
use Rattle.laws.proofs.Pick.{◌&◌, pick}
use Rattle.kinds.specs.declared.{Bucket.Bucket, Count.Count, Phase.Phase}
use Rattle.kinds.specs.declared.Reader.{Reader}
use Rattle.kinds.specs.Limits.{buckets, ceiling, capacity}
use Rattle.readers.specs.Listed.{find_in}
use Rattle.page_record.specs.declared.Head.{Head}
use Rattle.page_record.specs.Holders.{value_of, valid_bucket, exc_bucket, exc_visited, loading_bucket}
use Rattle.page_record.specs.Pages.{number_at}
use Rattle.page_record.specs.References.{ref_at}
use Rattle.page_record.proofs.Inversions.{is_claim_lem, is_await_lem, is_loading_lem, is_held, has_bucket_lem, is_pending_lem, is_editing_lem}
use Rattle.page_record.proofs.Inversions.{is_waiting_lem, is_counted_lem, no_bucket_lem}
use Rattle.soundness.proofs.Facts.{Sound}
use Rattle.soundness.proofs.Known.{listed_counted}
use Rattle.requests.specs.declared.Request.{Request}
use Rattle.requests.specs.declared.Refusal.{Refusal}
use Rattle.requests.specs.Premises.{verdict, Passes}
use Rattle.requests.specs.Requests.{past_last}
use Rattle.requests.proofs.Verdicts.{passed}
use Rattle.requests.proofs.Formed.{Formed}
use Rattle.heads.specs.declared.Decision.{Decision}
use Rattle.heads.specs.Decisions.{Step, settled, decided, reader, may_put_in}
use Rattle.heads.specs.Setters.{with_number, lower_if}
use Rattle.editing.specs.Steps.{take_writeback, release_writeback, bucketless_claim, shared_to_claim, claim_to_pending}
use Rattle.editing.specs.Steps.{take_exc_lock_finish_writeback, take_exc_lock_check_ref_count, withdraw_take_exc_lock_finish}
use Rattle.editing.specs.Steps.{deposit_downgrade_exc_lock, deposit_downgrade_exc_lock_to_claim, exc_inc_count}
use Rattle.reading.specs.Steps.{withdraw_alloc, withdraw_alloc_no_refcount, loading_inc_count, obtain_loading}
use Rattle.reading.specs.Steps.{obtain_loading_no_refcount, deposit_loading_to_shared, deposit_loading_to_done, shared_inc_count}
use Rattle.reading.specs.Steps.{shared_dec_count, shared_check_exc, shared_check_loading}
use Rattle.returning.specs.Steps.{discard_claim, claim_to_shared, pending_to_claim, cancel_exc_lock_to_claim}
use Rattle.returning.specs.Steps.{deposit_exc_lock_to_done, deposit_exc_lock_to_unmapped}
use Rattle.steps.specs.Decide.{unknown}
use Rattle.lock.specs.Step.{edited, look_for, decided_on}
use Rattle.lock.specs.Words.{raising, listing}
use Rattle.lock.specs.Moves.{Moves, RwLock, Field, state_with, count_of, Elsewhere, Absent, Only, Room, answer_of}
use Rattle.lock.specs.Moves.{pending, pending2, obtained, OneLess, Unchanged}
use Rattle.lock.proofs.Exact.Laws.{handed, is_handed, unrefused, step_no, by_number, expected, Split, split}
use Rattle.lock.proofs.Exact.Flags.{releases, awaits, lock_flag_lem, opened, unclaims, unawaits}
use Rattle.lock.proofs.Keeps.Counts.{set_there, set_others}
use Rattle.lock.proofs.Reach.{release_flags, claim_flags, discard_flags, share_flags, pending_flags}
use Rattle.lock.proofs.Reach.{writeback_stored, claim_stored, read_stored}
use Rattle.lock.proofs.Reach.{lock_withdraws, alloc_withdraws, alloc_no_refcount_withdraws}
use Rattle.lock.proofs.Exact.Granted.{Granted, granted, exc_within}

-- ---- a holder's own bucket, and step 6's clean
own : (b : Bucket) → ref_at (Some b) b.0 ≡ 1
own b = rw (eq-eqb b.0 b.0 refl)

bit : (n : ℕ) → n ≤ 1 → n ≡ cond (eqb n 1) 1 0
bit n k = go (eqb n 1) refl
  where
    go : (t : Bool) → eqb n 1 ≡ t → n ≡ cond t 1 0
    go true e = eqb-true n 1 e
    go false e = let d : n ≢ 1 = eqb-false n 1 e in omega arith

-- what a clean holder may put in is what it took
unchanged : (clean : Bool) (taken value : ℕ) → T (may_put_in clean taken value) → Unchanged clean taken value
unchanged true taken value t e = eqb→eq value taken t
unchanged false taken value t e = absurd (true≢false (sym e))

module _ (h : Head) (l : List Reader) (q : Request) where
  -- the count at the request's bucket
  abbrev here : ℕ
  here = number_at h.ref_counts q.bucket.0

  abbrev full : Bool
  full = leb capacity (length l)

  -- the transition to this state allows this to be handed out
  abbrev Allows : Head → List Reader → Option ℕ → Type 0
  Allows h' l' out = Moves (state_with h l) q (state_with h' l') out

  -- if a decision is no refusal, the transition allows it, and there is room
  pub record Fits (d : Decision) : Type 0 where
    pub fits : (out : Option ℕ) → d.answer ≡ answer_of out → Allows d.head (edited d.edit l) out × Room (state_with h l) q

  -- a step that is accepted has passed its premises
  ran : (st : Step) → (Passes st.premises → Room (state_with h l) q)
      → (Passes st.premises → (out : Option ℕ) → out ≡ handed st.answer → Allows st.head (edited st.edit l) out)
      → Fits (decided h st)
  ran st room moves = go (verdict st.premises) refl
    where
      go : (v : Result (Unit {0}) Refusal) → verdict st.premises ≡ v → Fits (settled h st v)
      go (Ok _) e =
          let p = passed st.premises e in
          record { fits = λ out a. (moves p out (rw a (is_handed out)), room p) }
      go (Err why) e = record { fits = λ out a. absurd (unrefused why out a) }

  -- what 20, 21 and 22 have in common: where x leaves, the transition is taken
  abbrev Leaving : Reader → RwLock → Option ℕ → Type 0
  Leaving x post out =
      (n : ℕ) (before after : List Reader) → q.bucket.0 < buckets → count_of (state_with h l) q.bucket ≡ n
      → l ≡ before ++ x ∷ after → Absent x before → post.shared_state ≡ before ++ last_first after → 1 ≤ n
      → count_of post q.bucket ≡ n - 1 → Elsewhere (state_with h l) post q.bucket
      → Only (Field.ref_counts ∷ Field.shared_state ∷ []) (state_with h l) post out → Moves (state_with h l) q post out

  -- the limits of the step with this number
  roomy : (n : ℕ) → q.step ≡ n → (T (among raising n) → count_of (state_with h l) q.bucket < ceiling)
      → (T (among listing n) → length l < capacity) → Room (state_with h l) q
  roomy n e a b = record { under = λ t. a (rw e at t); free = λ t. b (rw e at t) }

  module _ (s : Sound h l) (formed : Formed q) where
    given : Granted h
    given = granted h s.head

    -- the count that is set, and the others
    there : (b : Bucket) (n : ℕ) → b.0 < buckets → number_at (with_number b.0 n h.ref_counts) b.0 ≡ n
    there b n k = set_there h.ref_counts b.0 n (omega (arith, s.four))

    others : {post : RwLock} (b : Bucket) (n : ℕ) → post.ref_counts ≡ with_number b.0 n h.ref_counts
        → Elsewhere (state_with h l) post b
    others b n e = record {
      as_many = rw (e, length-set);
      others = λ x d.
          ap (λ (cs : List Count). number_at cs x.0) e
          ∙ set_others h.ref_counts b.0 n x.0 λ p. d (ap (λ (y : ℕ). record { 0 = y }) p);
    }

    -- one less at a holder's bucket, if it has one: it is counted there
    less : (h' : Head) (m : Option Bucket) → T (valid_bucket m)
        → ((b : ℕ) → b < buckets → ref_at m b ≤ number_at h.ref_counts b)
        → h'.ref_counts ≡ lower_if m h.ref_counts → OneLess (state_with h l) (state_with h' l) m
    less h' None ok refs e = e
    less h' (Some b) ok refs e =
        let n = number_at h.ref_counts b.0 in
        let below : b.0 < buckets = ltb→lt b.0 buckets ok in
        record {
          pre_count = n;
          remove_ref_counts = refl;
          as_nat = omega (arith, refs b.0 below, own b);
          add_ref_counts = ap (λ (cs : List Count). number_at cs b.0) e ∙ there b (n - 1) below;
          elsewhere = others b (n - 1) e;
        }

    -- .. at the exclusive holder's
    exc_less : (h' : Head) → h'.ref_counts ≡ lower_if (exc_bucket h.exc_state) h.ref_counts
        → OneLess (state_with h l) (state_with h' l) (exc_bucket h.exc_state)
    exc_less h' e =
        less h' (exc_bucket h.exc_state) (exc_within s)
        (λ b below. omega (arith, s.counts b below)) e

    -- a listed reader is counted
    counted : {x : Reader} {i : ℕ} → Split x l i → 1 ≤ number_at h.ref_counts x.bucket.0
    counted {x} {i} p = rw p.equal at (listed_counted s i p.inside)

    fits1 : q.step ≡ 1 → Fits (decided h (take_writeback h))
    fits1 step = ran (take_writeback h) (λ _. roomy 1 step absurd absurd) λ p out o.
        let k = given.available p.0 in
        Moves.take_writeback (value_of h.storage) step k.0 refl (writeback_stored h l s p) (k.1, refl) (search)

    fits2 : q.step ≡ 2 → Fits (decided h (release_writeback h))
    fits2 step = ran (release_writeback h) (λ _. roomy 2 step absurd absurd) λ p out o.
        Moves.release_writeback _ step (is_held _ p.0, refl) (releases h.flag (release_flags h l s p)) (search)

    fits3 : q.step ≡ 3 → Fits (decided h (bucketless_claim h))
    fits3 step = ran (bucketless_claim h) (λ _. roomy 3 step absurd absurd) λ p out o.
        let k = given.claims p.0 in
        Moves.bucketless_claim (value_of h.storage) step k.1 (claim_stored h l s p) (k.0, refl) (search)

    fits4 : q.step ≡ 4 → Fits (decided h (shared_to_claim h q (find_in l (obtained q.bucket q.value))))
    fits4 step =
        ran (shared_to_claim h q (find_in l (obtained q.bucket q.value))) (λ _. roomy 4 step absurd absurd) λ p out o.
        let x = obtained q.bucket q.value in
        let k = given.claims p.0 in
        let at = split l x p.1.0 in
        Moves.shared_to_claim x at.before at.after step refl at.whole at.first at.removed
        k.1 (k.0, refl) (search)

    fits5 : q.step ≡ 5 → Fits (decided h (claim_to_pending h))
    fits5 step = ran (claim_to_pending h) (λ _. roomy 5 step absurd absurd) λ p out o.
        Moves.claim_to_pending _ _ step (is_claim_lem _ p.0) refl (awaits h.flag (claim_flags h l s p)) (search)

    fits6 : q.step ≡ 6 → Fits (decided h (take_exc_lock_finish_writeback h q))
    fits6 step = ran (take_exc_lock_finish_writeback h q) (λ _. roomy 6 step absurd absurd) λ p out o.
        let clean = eqb q.clean 1 in
        Moves.take_exc_lock_finish_writeback clean _ _ step (bit q.clean formed.clean)
        ((λ f. rw f at p.0), (λ f. rw f at p.0)) (is_await_lem _ p.1.0) refl (lock_flag_lem clean) (search)

    fits7 : q.step ≡ 7 → Fits (decided h (take_exc_lock_check_ref_count h))
    fits7 step = ran (take_exc_lock_check_ref_count h) (λ _. roomy 7 step absurd absurd) λ p out o.
        let e = h.exc_state in
        let n = (exc_visited e).0 in
        let m = exc_bucket e in
        let have = eqb→eq (number_at h.ref_counts n) (ref_at m n) p.1.1.0 in
        Moves.take_exc_lock_check_ref_count _ _ _ _ (ref_at m n) step (is_pending_lem e p.0) (ltb→lt n buckets p.1.0) refl
        (expected m n) have (search)

    fits8 : q.step ≡ 8 → Fits (decided h (withdraw_take_exc_lock_finish h))
    fits8 step = ran (withdraw_take_exc_lock_finish h) (λ _. roomy 8 step absurd absurd) λ p out o.
        let e = h.exc_state in
        Moves.withdraw_take_exc_lock_finish _ _ _ _ step (is_pending_lem e p.0) (eqb→eq (exc_visited e).0 buckets p.1.0) refl
        (lock_withdraws h l s p, refl, o) (search)

    fits9 : q.step ≡ 9 → Fits (decided h (deposit_downgrade_exc_lock h q full))
    fits9 step =
        ran (deposit_downgrade_exc_lock h q full) (λ p. roomy 9 step absurd λ _. nleb→lt capacity (length l) p.1.1.0) λ p out o.
        Moves.deposit_downgrade_exc_lock _ _ _ _ step (is_editing_lem _ p.0, refl) (has_bucket_lem _ p.1.0)
        (unchanged _ _ q.value p.1.1.1.0) refl (given.editing p.0, refl) refl (search)

    fits10 : q.step ≡ 10 → Fits (decided h (deposit_downgrade_exc_lock_to_claim h q))
    fits10 step = ran (deposit_downgrade_exc_lock_to_claim h q) (λ _. roomy 10 step absurd absurd) λ p out o.
        Moves.deposit_downgrade_exc_lock_to_claim _ _ _ _ step (is_editing_lem _ p.0) (has_bucket_lem _ p.1.0)
        (unchanged _ _ q.value p.1.1.0) refl (given.editing p.0, refl) refl (search)

    fits11 : q.step ≡ 11 → Fits (decided h (withdraw_alloc h))
    fits11 step = ran (withdraw_alloc h) (λ _. roomy 11 step absurd absurd) λ p out o.
        let k = given.unmapped p.0 in
        Moves.withdraw_alloc _ step k.0 refl (k.1, refl) (alloc_withdraws h l s p, refl, o) (search)

    fits12 : q.step ≡ 12 → Fits (decided h (withdraw_alloc_no_refcount h))
    fits12 step = ran (withdraw_alloc_no_refcount h) (λ _. roomy 12 step absurd absurd) λ p out o.
        let k = given.unmapped p.0 in
        Moves.withdraw_alloc_no_refcount _ step k.0 refl (k.1, refl) (alloc_no_refcount_withdraws h l s p, refl, o) (search)

    fits13 : q.step ≡ 13 → Fits (decided h (loading_inc_count h q))
    fits13 step = ran (loading_inc_count h q) (λ p. roomy 13 step (λ _. ltb→lt here ceiling p.1.0) absurd) λ p out o.
        let b = q.bucket in
        let below = formed.bucket in
        Moves.loading_inc_count here step below (is_waiting_lem _ p.0) refl refl
        (there b (here + 1) below) (others b (here + 1) refl) (search)

    fits14 : q.step ≡ 14 → Fits (decided h (obtain_loading h))
    fits14 step = ran (obtain_loading h) (λ _. roomy 14 step absurd absurd) λ p out o.
        Moves.obtain_loading _ step (is_counted_lem _ p.0) refl refl (search)

    fits15 : q.step ≡ 15 → Fits (decided h (obtain_loading_no_refcount h))
    fits15 step = ran (obtain_loading_no_refcount h) (λ _. roomy 15 step absurd absurd) λ p out o.
        Moves.obtain_loading_no_refcount step (is_waiting_lem _ p.0) refl refl (search)

    fits16 : q.step ≡ 16 → Fits (decided h (deposit_loading_to_shared h q full))
    fits16 step =
        ran (deposit_loading_to_shared h q full) (λ p. roomy 16 step absurd λ _. nleb→lt capacity (length l) p.1.1.0) λ p out o.
        Moves.deposit_loading_to_shared _ _ step (is_loading_lem _ p.0, refl) (has_bucket_lem _ p.1.0) refl
        ((given.loading p.0).0, refl) refl (search)

    fits17 : q.step ≡ 17 → Fits (decided h (deposit_loading_to_done h q))
    fits17 step = ran (deposit_loading_to_done h q) (λ _. roomy 17 step absurd absurd) λ p out o.
        let m = loading_bucket h.loading_state in
        let k = given.loading p.0 in
        Moves.deposit_loading_to_done m step (is_loading_lem _ p.0, refl) refl (k.0, refl)
        (less (deposit_loading_to_done h q).head m k.1 (λ b below. omega (arith, s.counts b below)) refl) (search)

    fits18 : q.step ≡ 18 → Fits (decided h (exc_inc_count h q))
    fits18 step = ran (exc_inc_count h q) (λ p. roomy 18 step (λ _. ltb→lt here ceiling p.1.1.0) absurd) λ p out o.
        let b = q.bucket in
        let below = formed.bucket in
        Moves.exc_inc_count _ _ _ here step below (is_editing_lem _ p.0) (no_bucket_lem _ p.1.0) refl refl
        (there b (here + 1) below) (others b (here + 1) refl) (search)

    fits19 : q.step ≡ 19 → Fits (decided h (shared_inc_count h q full))
    fits19 step =
        ran (shared_inc_count h q full)
        (λ p. roomy 19 step (λ _. ltb→lt here ceiling p.0) (λ _. nleb→lt capacity (length l) p.1.0)) λ p out o.
        let b = q.bucket in
        let below = formed.bucket in
        Moves.shared_inc_count here step below refl (there b (here + 1) below) (others b (here + 1) refl) refl (search)

    -- 20 to 22: the reader that is found, and the count at its bucket; `line` is the constructor, its step given
    leaves : (phase : Phase) → Room (state_with h l) q
        → ((post : RwLock) (out : Option ℕ) → Leaving (reader phase q.bucket) post out)
        → Fits (decided h (shared_dec_count h q (find_in l (reader phase q.bucket))))
    leaves phase room line = ran (shared_dec_count h q (find_in l (reader phase q.bucket))) (λ _. room) λ p out o.
        let b = q.bucket in
        let below = formed.bucket in
        let at = split l (reader phase b) p.0 in
        line _ out here at.before at.after below refl at.whole at.first at.removed
        (counted at) (there b (here - 1) below) (others b (here - 1) refl) (search)

    fits20 : q.step ≡ 20 → Fits (decided h (shared_dec_count h q (find_in l (pending q.bucket))))
    fits20 step =
        leaves Phase.Pending (roomy 20 step absurd absurd)
        λ post out n before after. Moves.shared_dec_count_pending n before after step

    fits21 : q.step ≡ 21 → Fits (decided h (shared_dec_count h q (find_in l (pending2 q.bucket))))
    fits21 step =
        leaves Phase.Pending2 (roomy 21 step absurd absurd)
        λ post out n before after. Moves.shared_dec_count_pending2 n before after step

    fits22 : q.step ≡ 22 → Fits (decided h (shared_dec_count h q (find_in l (obtained q.bucket q.value))))
    fits22 step =
        leaves (Phase.Obtained q.value) (roomy 22 step absurd absurd)
        λ post out n before after. Moves.shared_dec_count_obtained n before after step

    fits23 : q.step ≡ 23 → Fits (decided h (shared_check_exc h q (find_in l (pending q.bucket))))
    fits23 step = ran (shared_check_exc h q (find_in l (pending q.bucket))) (λ _. roomy 23 step absurd absurd) λ p out o.
        let at = split l (pending q.bucket) p.1.0 in
        Moves.shared_check_exc at.before at.after step (opened h.flag p.0) at.whole at.first
        (at.put (pending2 q.bucket)) (search)

    fits24 : q.step ≡ 24 → Fits (decided h (shared_check_loading h q (find_in l (pending2 q.bucket))))
    fits24 step = ran (shared_check_loading h q (find_in l (pending2 q.bucket))) (λ _. roomy 24 step absurd absurd) λ p out o.
        let v = value_of h.storage in
        let at = split l (pending2 q.bucket) p.1.0 in
        Moves.shared_check_loading v at.before at.after step formed.bucket (λ f. rw f at p.0) at.whole at.first
        (read_stored h l s q p) (at.put (obtained q.bucket v)) (search)

    fits25 : q.step ≡ 25 → Fits (decided h (discard_claim h))
    fits25 step = ran (discard_claim h) (λ _. roomy 25 step absurd absurd) λ p out o.
        Moves.discard_claim _ _ step (is_claim_lem _ p.0, refl) (unclaims h.flag (discard_flags h l s p))
        (exc_less (discard_claim h).head refl) (search)

    fits26 : q.step ≡ 26 → Fits (decided h (claim_to_shared h full))
    fits26 step =
        ran (claim_to_shared h full) (λ p. roomy 26 step absurd λ _. nleb→lt capacity (length l) p.1.1.0) λ p out o.
        Moves.claim_to_shared _ _ _ step (is_claim_lem _ p.0, refl) (has_bucket_lem _ p.1.0)
        (unclaims h.flag (share_flags h l s full p)) refl (search)

    fits27 : q.step ≡ 27 → Fits (decided h (pending_to_claim h))
    fits27 step = ran (pending_to_claim h) (λ _. roomy 27 step absurd absurd) λ p out o.
        Moves.pending_to_claim _ _ step (is_await_lem _ p.0) refl (unawaits h.flag (pending_flags h l s p)) (search)

    fits28 : q.step ≡ 28 → Fits (decided h (cancel_exc_lock_to_claim h))
    fits28 step = ran (cancel_exc_lock_to_claim h) (λ _. roomy 28 step absurd absurd) λ p out o.
        Moves.cancel_exc_lock_to_claim _ _ _ _ step (is_pending_lem _ p.0) refl refl (search)

    fits29 : q.step ≡ 29 → Fits (decided h (deposit_exc_lock_to_done h q))
    fits29 step = ran (deposit_exc_lock_to_done h q) (λ _. roomy 29 step absurd absurd) λ p out o.
        Moves.deposit_exc_lock_to_done _ _ _ step (is_editing_lem _ p.0, refl) (unchanged _ _ q.value p.1.0) refl
        (given.editing p.0, refl)
        (exc_less (deposit_exc_lock_to_done h q).head refl) (search)

    fits30 : q.step ≡ 30 → Fits (decided h (deposit_exc_lock_to_unmapped h q))
    fits30 step = ran (deposit_exc_lock_to_unmapped h q) (λ _. roomy 30 step absurd absurd) λ p out o.
        Moves.deposit_exc_lock_to_unmapped _ _ _ step (is_editing_lem _ p.0, refl) (unchanged _ _ q.value p.1.0) refl
        (given.editing p.0, refl)
        (exc_less (deposit_exc_lock_to_unmapped h q).head refl) (search)

    -- all of them, by number; no step has number 0
    pub told : Fits (decided_on h l q)
    unfolding look_for
    told =
        rw by_number
        (pick past_last (λ (n : ℕ). q.step ≡ n → Fits (decided h (step_no h l q n)))
        ((λ _. ran (unknown h) (λ p. absurd p.0) λ p. absurd p.0)
        & fits1 & fits2 & fits3 & fits4 & fits5 & fits6 & fits7 & fits8 & fits9 & fits10 & fits11 & fits12
        & fits13 & fits14 & fits15 & fits16 & fits17 & fits18 & fits19 & fits20 & fits21 & fits22 & fits23 & fits24
        & fits25 & fits26 & fits27 & fits28 & fits29 & fits30 & tt)
        q.step (omega (arith, formed.most)) refl)
