-- Every step from every sound shape, as one table: a row is a shape, with the steps that may be accepted there and where each
-- leads. `keeps` reads it: what is decided on a sound head and list leaves them sound. Assumes nothing.
use Rattle.std.specs.Prelude.{Option, Some, None}
use Prim.Native.Nat.{ℕ, ◌+◌, ◌≤◌, ◌<◌, zero-le}
use mathlib.Core.Path.{◌≡◌, refl}
use mathlib.Core.Logic.{◌≢◌}
use mathlib.Core.Bool.{Bool, true, false, not, ◌&&◌, ◌||◌}
use mathlib.Core.List.{List, [], ◌∷◌, ◌++◌}
use native.Mathlib.Omega.{arith}
use borrow.Author.Tests.{eqb-false}
use lib.Dec.{T, eqb, leb, ltb, eqb→eq, eqb_refl, leb→le, le→leb, nleb→lt, ltb→lt, lt→ltb}
use lib.ListN.{length}
use Rattle.laws.specs.Lists.{among, without}
use Rattle.laws.proofs.Tests.{to_false, both, halves, and_iff}
use Rattle.laws.proofs.Lists.{every_mono, every_both, tally_none, tally_push}
use Rattle.laws.proofs.Pick.{◌&◌, each_below}
use Rattle.kinds.specs.declared.{Bucket.Bucket, Visited.Visited, Count.Count, Phase.Phase}
use Rattle.kinds.specs.declared.Reader.{Reader}
use Rattle.kinds.specs.Limits.{buckets, capacity, ceiling}
use Rattle.kinds.specs.Flags.{is_unmapped, lock_flag}
use Rattle.readers.specs.Listed.{is_at, count_at}
use Rattle.readers.proofs.First.{First}
use Rattle.page_record.specs.declared.Head.{Head}
use Rattle.page_record.specs.Holders.{holds, valid_bucket}
use Rattle.page_record.specs.Pages.{number_at}
use Rattle.page_record.specs.References.{ref_at}
use Rattle.rules.specs.Rules.{shared_state_valid}
use Rattle.soundness.proofs.Facts.{head_sound, Sound}
use Rattle.soundness.proofs.Shapes.{Shape, unmapped, waiting, counted, loading, available, claimed, writeback}
use Rattle.soundness.proofs.Shapes.{writeback_claimed, writeback_await, await, pending, editing, head_at, valid, shaped}
use Rattle.soundness.proofs.Shapes.{by_shape}
use Rattle.soundness.proofs.Known.{holding, hold_iff, valid_phase, found_valid, none_at, closed_passing}
use Rattle.requests.specs.declared.Request.{Request}
use Rattle.requests.specs.Requests.{past_last}
use Rattle.requests.proofs.Verdicts.{fails}
use Rattle.heads.specs.Setters.{raise, lower}
use Rattle.heads.specs.Decisions.{place_of, reader}
use Rattle.steps.specs.Decide.{decide_of, sought_of}
use Rattle.lock.specs.Step.{look_for, decided_on}
use Rattle.lock.proofs.Keeps.Counts.{one, Counts, same_counts, raised_counts, left_counts}
use Rattle.lock.proofs.Keeps.Sounds.{Stay, stays_at, stays, quiet, refs_of, count_without, counts_of, sound_of_lem, kept}
use Rattle.lock.proofs.Keeps.Sounds.{kept_quiet, pushed, removed}
use Rattle.lock.proofs.Keeps.Cells.{Kept, settle, finds, numbered, Cells, Row, cell_of}
use Rattle.lock.proofs.Keeps.Shared.{reader_steps, reader_cells}

-- ---- who stays beside an editor that locks, and after a loader
-- 6: an editor that has visited no bucket yet shuts nobody out
lock_mapped : (clean : Bool) → T (not (is_unmapped (lock_flag clean)))
lock_mapped true = tt
lock_mapped false = tt

locks : (m : Option Bucket) (v : ℕ) (clean : Bool) (cs : List Count)
    → Stay (head_at (await m v) cs) (head_at (pending m (record { 0 = 0 }) clean v) cs)
locks m v clean cs =
    stays (head_at (await m v) cs) (head_at (pending m (record { 0 = 0 }) clean v) cs)
    (λ b k. record { pass = λ t. simp and_iff ((le→leb 0 b zero-le, tt), lock_mapped clean); hold = λ u t x y. (x, y) })

-- 7: nobody stands at the bucket that it closes next
behind : (n b : ℕ) → T (leb n b) → T (not (eqb b n)) → T (leb (n + 1) b)
behind n b t u =
    let k : n ≤ b = leb→le n b t in
    let d : b ≢ n = eqb-false b n (to_false (eqb b n) u) in
    le→leb (n + 1) b (omega arith)

module _ (m : Option Bucket) (n : Visited) (clean : Bool) (v : ℕ) (cs : List Count) where
  abbrev next : Shape
  next = pending m (record { 0 = n.0 + 1 }) clean v

  abbrev staying : Reader → Bool
  staying r = shared_state_valid (head_at (pending m n clean v) cs) r && not (is_at n.0 r)

  closes : (r : Reader) → T (staying r) → T (shared_state_valid (head_at next cs) r)
  closes r t =
      let u = halves (shared_state_valid (head_at (pending m n clean v) cs) r) (not (is_at n.0 r)) t in
      stays_at (head_at (pending m n clean v) cs) (head_at next cs) r
      (λ k. record {
        pass = λ x. let y = simp and_iff at x in simp and_iff ((behind n.0 r.bucket.0 y.0.0 u.1, y.0.1), y.1);
        hold = λ w x y z. (y, z);
      })
      u.0

  visits : {l : List Reader} → Sound (head_at (pending m n clean v) cs) l → T (valid (pending m n clean v)) → n.0 < buckets
      → number_at cs n.0 ≡ ref_at m n.0 → Sound (head_at next cs) l
  visits {l} s ok k e =
      let more : T (leb (n.0 + 1) buckets) = le→leb (n.0 + 1) buckets (omega arith) in
      let away = tally_none (is_at n.0) l (none_at s n.0 k e) in
      let own = (halves (leb n.0 buckets) (valid_bucket m) ok).1 in
      sound_of_lem (shaped next cs (both (leb (n.0 + 1) buckets) (valid_bucket m) more own))
      (every_mono staying (shared_state_valid (head_at next cs)) l closes
      (every_both (shared_state_valid (head_at (pending m n clean v) cs)) (λ r. not (is_at n.0 r)) l s.readers away))
      s.room (counts_of s)

-- 28: with a claim alone, whoever is past the first check may stay
reopens : (m : Option Bucket) (n : Visited) (clean : Bool) (v : ℕ) (cs : List Count)
    → Stay (head_at (pending m n clean v) cs) (head_at (claimed m v) cs)
reopens m n clean v cs =
    stays (head_at (pending m n clean v) cs) (head_at (claimed m v) cs)
    (λ b k. record { pass = λ t. tt; hold = λ u t x y. (x, y) })

-- 16 and 17: with the loader gone, whoever is past the first check may stay
opens : (m : Option Bucket) (v : ℕ) (cs cs' : List Count) → Stay (head_at (loading m) cs) (head_at (available v) cs')
opens m v cs cs' =
    stays (head_at (loading m) cs) (head_at (available v) cs') (λ b k. record { pass = λ t. tt; hold = λ u t x. absurd x })

module _ (l : List Reader) (q : Request) (inside : q.bucket.0 < buckets) (found : Option ℕ) (full : Bool)
    (room : T (not full) → length l < capacity) where
  -- ---- what cells share
  near : T (ltb q.bucket.0 buckets)
  near = lt→ltb q.bucket.0 buckets inside

  -- 4: the reader that is found
  abbrev Holder : Type 0
  Holder = First l (reader (Phase.Obtained q.value) q.bucket) (place_of found)

  -- it holds storage's value
  held : {h : Head} → Sound h l → Holder → T (holds h.storage q.value)
  held {h} s first =
      let x = reader (Phase.Obtained q.value) q.bucket in
      ((hold_iff h q.bucket.0 q.value).0 (valid_phase h x (found_valid s x (place_of found) first))).0

  gone : Holder → (b : ℕ) → count_at b (without (place_of found) l) + one q.bucket.0 b ≡ count_at b l
  gone first b = count_without l (reader (Phase.Obtained q.value) q.bucket) (place_of found) first b

  -- 9, 16 and 26: a holder at b becomes a reader of the value that is in; its reference goes over, and no count changes
  gives : {h h' : Head} (v : ℕ) (b : Bucket) → Sound h l → T (head_sound h') → Stay h h'
      → T (ltb b.0 buckets) → T (holding h' b.0 v) → T (not full)
      → h'.ref_counts ≡ h.ref_counts → ((x : ℕ) → refs_of h l x ≡ refs_of h' l x + one b.0 x)
      → Sound h' (l ++ reader (Phase.Obtained v) b ∷ [])
  gives {h} {h'} v b s rules stay ok reads free same over =
      let r = reader (Phase.Obtained v) b in
      let counts : Counts h'.ref_counts (refs_of h l) = rw same (counts_of s) in
      pushed s rules stay r (both (ltb b.0 buckets) (holding h' b.0 v) ok reads) (room free)
      (same_counts counts (λ x. omega (arith, over x, tally_push (is_at x) l r)))

  -- .. under Available or Writeback: it may hold the value
  own_value : (v : ℕ) → T (eqb v v && true && true && true)
  own_value v = simp and_iff (((eqb_refl v, tt), tt), tt)

  -- 13 and 18: one more at the request's bucket
  more : {cs : List Count} {refs refs' : ℕ → ℕ} → Counts cs refs → T (ltb (number_at cs q.bucket.0) ceiling)
      → ((b : ℕ) → refs' b ≡ refs b + one q.bucket.0 b) → Counts (raise q.bucket.0 cs) refs'
  more {cs} c t = raised_counts c q.bucket.0 inside (ltb→lt (number_at cs q.bucket.0) ceiling t)

  -- 19 to 24
  any : {h : Head} → Sound h l → Cells l q found full h reader_steps
  any {h} s = reader_cells l q inside found full room h s

  -- every other step fails one of its premises
  abbrev Others : List ℕ → Head → Type 0
  Others ns h = T (each_below (λ n. among ns n || fails (numbered l q found full h n).premises) past_last)

  -- ---- the table
  table : (z : Shape) (cs : List Count) → Sound (head_at z cs) l → T (valid z) → Row l q found full (head_at z cs)
  -- 11 leads to waiting, 12 to loading without a bucket
  table (unmapped v) cs s ok = record {
    numbers = 11 ∷ 12 ∷ reader_steps;
    cells =
        (λ _ _. kept_quiet s (shaped waiting cs tt) (λ b k t. t) (counts_of s))
        & (λ _ _. kept_quiet s (shaped (loading None) cs tt) (λ b k t. t) (counts_of s))
        & any s;
    others = tt;
  }
  -- 13 to counted, 15 to loading without a bucket
  table waiting cs s ok = record {
    numbers = 13 ∷ 15 ∷ reader_steps;
    cells =
        (λ _ p.
        kept s (shaped (counted q.bucket) (raise q.bucket.0 cs) near) (λ r t. t)
        (more (counts_of s) p.1.0 (λ b. omega arith)))
        & (λ _ _. kept_quiet s (shaped (loading None) cs tt) (λ b k t. t) (counts_of s))
        & any s;
    others = tt;
  }
  -- 14 to loading
  table (counted b) cs s ok = record {
    numbers = 14 ∷ reader_steps;
    cells = (λ _ _. kept_quiet s (shaped (loading (Some b)) cs ok) (λ b k t. t) (counts_of s)) & any s;
    others = tt;
  }
  -- 17 to available
  table (loading None) cs s ok = record {
    numbers = 17 ∷ reader_steps;
    cells =
        (λ _ _. kept s (shaped (available q.value) cs tt) (opens None q.value cs cs) (counts_of s)) & any s;
    others = tt;
  }
  -- 16 and 17 to available
  table (loading (Some b)) cs s ok = record {
    numbers = 16 ∷ 17 ∷ reader_steps;
    cells =
        (λ _ p.
        gives q.value b s (shaped (available q.value) cs tt) (opens (Some b) q.value cs cs) ok
        (own_value q.value) p.1.1.0 refl (λ x. omega arith))
        & (λ _ _.
        kept s (shaped (available q.value) (lower b.0 cs) tt) (opens (Some b) q.value cs (lower b.0 cs))
        (left_counts (counts_of s) (Some b) ok (λ x. omega arith)))
        & any s;
    others = tt;
  }
  -- 1 to writeback, 3 and 4 to claimed
  table (available v) cs s ok = record {
    numbers = 1 ∷ 3 ∷ 4 ∷ reader_steps;
    cells =
        (λ _ _. kept s (shaped (writeback v) cs tt) (λ r t. t) (counts_of s))
        & (λ _ _. kept s (shaped (claimed None v) cs tt) (λ r t. t) (counts_of s))
        & (λ f p.
        let first = f p.1.0 in
        let e = eqb→eq v q.value (held s first) in
        removed s (rw e (shaped (claimed (Some q.bucket) q.value) cs near)) (λ r t. t)
        (place_of found) first.inside (same_counts (counts_of s) (λ b. omega (arith, gone first b))))
        & any s;
    others = tt;
  }
  -- 5 to await, 25 to available
  table (claimed None v) cs s ok = record {
    numbers = 5 ∷ 25 ∷ reader_steps;
    cells =
        (λ _ _. kept s (shaped (await None v) cs ok) (λ r t. t) (counts_of s))
        & (λ _ _. kept s (shaped (available v) cs tt) (λ r t. t) (counts_of s))
        & any s;
    others = tt;
  }
  -- 5 to await, 25 and 26 to available
  table (claimed (Some b) v) cs s ok = record {
    numbers = 5 ∷ 25 ∷ 26 ∷ reader_steps;
    cells =
        (λ _ _. kept s (shaped (await (Some b) v) cs ok) (λ r t. t) (counts_of s))
        & (λ _ _.
        kept s (shaped (available v) (lower b.0 cs) tt) (λ r t. t)
        (left_counts (counts_of s) (Some b) ok (λ x. omega arith)))
        & (λ _ p.
        gives v b s (shaped (available v) cs tt) (λ r t. t) ok (own_value v) p.1.1.0 refl (λ x. omega arith))
        & any s;
    others = tt;
  }
  -- 2 to available, 3 and 4 to writeback_claimed
  table (writeback v) cs s ok = record {
    numbers = 2 ∷ 3 ∷ 4 ∷ reader_steps;
    cells =
        (λ _ _. kept s (shaped (available v) cs tt) (λ r t. t) (counts_of s))
        & (λ _ _. kept s (shaped (writeback_claimed None v) cs tt) (λ r t. t) (counts_of s))
        & (λ f p.
        let first = f p.1.0 in
        let e = eqb→eq v q.value (held s first) in
        removed s (rw e (shaped (writeback_claimed (Some q.bucket) q.value) cs near)) (λ r t. t)
        (place_of found) first.inside (same_counts (counts_of s) (λ b. omega (arith, gone first b))))
        & any s;
    others = tt;
  }
  -- 2 to claimed, 5 to writeback_await, 25 to writeback
  table (writeback_claimed None v) cs s ok = record {
    numbers = 2 ∷ 5 ∷ 25 ∷ reader_steps;
    cells =
        (λ _ _. kept s (shaped (claimed None v) cs ok) (λ r t. t) (counts_of s))
        & (λ _ _. kept s (shaped (writeback_await None v) cs ok) (λ r t. t) (counts_of s))
        & (λ _ _. kept s (shaped (writeback v) cs tt) (λ r t. t) (counts_of s))
        & any s;
    others = tt;
  }
  -- 2 to claimed, 5 to writeback_await, 25 and 26 to writeback
  table (writeback_claimed (Some b) v) cs s ok = record {
    numbers = 2 ∷ 5 ∷ 25 ∷ 26 ∷ reader_steps;
    cells =
        (λ _ _. kept s (shaped (claimed (Some b) v) cs ok) (λ r t. t) (counts_of s))
        & (λ _ _. kept s (shaped (writeback_await (Some b) v) cs ok) (λ r t. t) (counts_of s))
        & (λ _ _.
        kept s (shaped (writeback v) (lower b.0 cs) tt) (λ r t. t)
        (left_counts (counts_of s) (Some b) ok (λ x. omega arith)))
        & (λ _ p.
        gives v b s (shaped (writeback v) cs tt) (λ r t. t) ok (own_value v) p.1.1.0 refl (λ x. omega arith))
        & any s;
    others = tt;
  }
  -- 2 to await, 27 to writeback_claimed
  table (writeback_await m v) cs s ok = record {
    numbers = 2 ∷ 27 ∷ reader_steps;
    cells =
        (λ _ _. kept s (shaped (await m v) cs ok) (λ r t. t) (counts_of s))
        & (λ _ _. kept s (shaped (writeback_claimed m v) cs ok) (λ r t. t) (counts_of s))
        & any s;
    others = tt;
  }
  -- 6 to pending, 27 to claimed
  table (await m v) cs s ok = record {
    numbers = 6 ∷ 27 ∷ reader_steps;
    cells =
        (λ _ _.
        let clean = eqb q.clean 1 in
        kept s (shaped (pending m (record { 0 = 0 }) clean v) cs ok) (locks m v clean cs) (counts_of s))
        & (λ _ _. kept s (shaped (claimed m v) cs ok) (λ r t. t) (counts_of s))
        & any s;
    others = tt;
  }
  -- 7 to pending, 8 to editing, 28 to claimed
  table (pending m n clean v) cs s ok = record {
    numbers = 7 ∷ 8 ∷ 28 ∷ reader_steps;
    cells =
        (λ _ p.
        visits m n clean v cs s ok (ltb→lt n.0 buckets p.1.0) (eqb→eq (number_at cs n.0) (ref_at m n.0) p.1.1.0))
        & (λ _ p.
        kept_quiet s (shaped (editing m clean v) cs (halves (leb n.0 buckets) (valid_bucket m) ok).1)
        (λ b. closed_passing (head_at (pending m n clean v) cs) b p.1.0) (counts_of s))
        & (λ _ _.
        kept s (shaped (claimed m v) cs (halves (leb n.0 buckets) (valid_bucket m) ok).1) (reopens m n clean v cs)
        (counts_of s))
        & any s;
    others = elim clean as (λ k. Others (7 ∷ 8 ∷ 28 ∷ reader_steps) (head_at (pending m n k v) cs)) [ true ↦ tt | false ↦ tt ];
  }
  -- 18 to editing with a bucket, 29 to available, 30 to unmapped
  table (editing None clean v) cs s ok = record {
    numbers = 18 ∷ 29 ∷ 30 ∷ reader_steps;
    cells =
        (λ _ p.
        kept s (shaped (editing (Some q.bucket) clean v) (raise q.bucket.0 cs) near) (λ r t. t)
        (more (counts_of s) p.1.1.0 (λ b. omega arith)))
        & (λ _ _. kept_quiet s (shaped (available q.value) cs tt) (λ b k t. t) (counts_of s))
        & (λ _ _. kept_quiet s (shaped (unmapped q.value) cs tt) (λ b k t. t) (counts_of s))
        & any s;
    others = elim clean as (λ k. Others (18 ∷ 29 ∷ 30 ∷ reader_steps) (head_at (editing None k v) cs)) [ true ↦ tt | false ↦ tt ];
  }
  -- 9 to available, 10 to claimed, 29 to available, 30 to unmapped
  table (editing (Some b) clean v) cs s ok = record {
    numbers = 9 ∷ 10 ∷ 29 ∷ 30 ∷ reader_steps;
    cells =
        (λ _ p.
        gives q.value b s (shaped (available q.value) cs tt)
        (quiet (head_at (editing (Some b) clean v) cs) (head_at (available q.value) cs) (λ b k t. t))
        ok (own_value q.value) p.1.1.0 refl (λ x. omega arith))
        & (λ _ _. kept_quiet s (shaped (claimed (Some b) q.value) cs ok) (λ b k t. t) (counts_of s))
        & (λ _ _.
        kept_quiet s (shaped (available q.value) (lower b.0 cs) tt) (λ b k t. t)
        (left_counts (counts_of s) (Some b) ok (λ x. omega arith)))
        & (λ _ _.
        kept_quiet s (shaped (unmapped q.value) (lower b.0 cs) tt) (λ b k t. t)
        (left_counts (counts_of s) (Some b) ok (λ x. omega arith)))
        & any s;
    others = elim clean as (λ k. Others (9 ∷ 10 ∷ 29 ∷ 30 ∷ reader_steps) (head_at (editing (Some b) k v) cs)) [ true ↦ tt | false ↦ tt ];
  }

-- ---- the theorem
pub keeps : (h : Head) (l : List Reader) (q : Request) → q.bucket.0 < buckets → Sound h l → Kept l (decided_on h l q)
unfolding decide_of sought_of
keeps h l q inside s =
    let found = look_for l (sought_of q) in
    let full = leb capacity (length l) in
    by_shape (λ (x : Head). Sound x l → Kept l (decided_on x l q))
    (λ z cs ok s.
    let st = numbered l q found full (head_at z cs) q.step in
    let row = table l q inside found full (nleb→lt capacity (length l)) z cs s ok in
    settle (head_at z cs) l st st.premises s (cell_of l q found full (head_at z cs) row q.step (finds l (sought_of q))))
    h s.head s
