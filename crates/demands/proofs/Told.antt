-- What the history tells of a page, step by step: counts, storage, the loader and its bucket, the exclusive holder's bucket, the value
-- that it keeps, and the values handed out. Each step keeps it (one entry for each number), and a refusal changes neither page nor
-- history's sums. Assumes nothing.
use Rattle.std.specs.Prelude.{Option, Some, None, Result, Ok, Err}
use Prim.Native.Nat.{ℕ, ◌+◌, ◌≤◌, ◌<◌}
use mathlib.Core.Path.{◌≡◌, refl, sym, ◌∙◌}
use mathlib.Core.Bool.{Bool, true, false, not, cond, ◌&&◌}
use mathlib.Core.List.{List, [], ◌∷◌}
use native.Mathlib.Omega.{arith}
use borrow.Author.Tests.{eq-eqb}
use lib.Dec.{T, eqb, leb, ltb→lt}
use lib.ListN.{length}
use Rattle.laws.specs.Lists.{among}
use Rattle.laws.proofs.Tests.{to_true, to_false, and_iff}
use Rattle.laws.proofs.Pick.{Below, ◌&◌, pick}
use Rattle.kinds.specs.declared.{Bucket.Bucket, Count.Count, Reader.Reader}
use Rattle.kinds.specs.declared.{Phase.Phase, ExcState.ExcState, LoadingState.LoadingState}
use Rattle.kinds.specs.Limits.{buckets, capacity}
use Rattle.readers.specs.Listed.{live, find_in}
use Rattle.page_record.specs.declared.{Head.Head, Page.Page}
use Rattle.page_record.specs.Holders.{is_stored, has_bucket, valid_bucket, no_exc, is_claim, is_await, is_pending, is_editing, exc_bucket}
use Rattle.page_record.specs.Holders.{no_load, is_loading, loading_bucket, value_of, exc_value}
use Rattle.page_record.specs.Pages.{number_at, head_of}
use Rattle.page_record.specs.References.{ref_at}
use Rattle.page_record.proofs.Inversions.{is_claim_lem, is_await_lem, is_pending_lem, is_editing_lem, is_waiting_lem, is_counted_lem, is_loading_lem}
use Rattle.rules.specs.Rules.{storage_some_invariant}
use Rattle.soundness.specs.Soundness.{sound_of}
use Rattle.soundness.proofs.Facts.{Sound}
use Rattle.soundness.proofs.Shapes.{rules_of, loads_alone}
use Rattle.soundness.proofs.Tested.{facts}
use Rattle.soundness.proofs.Known.{known, listed_counted}
use Rattle.requests.specs.declared.{Request.Request, Answer.Answer, Refusal.Refusal}
use Rattle.requests.specs.Premises.{Passes, verdict}
use Rattle.requests.specs.Requests.{formal, judged, past_last}
use Rattle.requests.proofs.Verdicts.{passed}
use Rattle.requests.proofs.Reasons.{refusal_positive}
use Rattle.requests.proofs.Formed.{formed, step_below}
use Rattle.heads.specs.Setters.{raise, lower, lower_if}
use Rattle.heads.specs.Decisions.{Step, settled, is_found, place_of, reader}
use Rattle.steps.specs.Decide.{step_at, sought_of, decide_of}
use Rattle.lock.specs.Words.{raising, leaving, giving_back, putting_in, handing_out, fetching}
use Rattle.lock.specs.Step.{look_for, stepped, step_of}
use Rattle.lock.proofs.Keeps.Cells.{found_first}
use Rattle.lock.proofs.Keeps.Counts.{number_raise, number_lower}
use Rattle.lock.proofs.Exact.Granted.{granted, exc_within}
use Rattle.demands.specs.History.{Event, Start, start_of, start_with, event, arrivals, departures, last_put}
use Rattle.demands.specs.History.{last_taken, last_withdrew, last_counted, counted_since, editor_named, HandedOut}

-- ---- what is told
-- of an exclusive holder that has the page out: what it keeps
abbrev Kept : Start → List Event → ExcState → Type 0
Kept start past e = (exc_value e ≡ last_put start past) × (exc_value e ≡ last_taken start past)

-- of the counts, of storage and of the loader: where it has a bucket, the latest 13 named it, and since the latest 11 or 12; where it
-- has none, there was no 13 since. And of the exclusive holder, where there is one: its bucket, or that it has none; and what it keeps,
-- where it has the page out
pub record Told (start : Start) (cs : List Count) (s : Option ℕ) (e : ExcState) (l : LoadingState) (past : List Event) : Type 0 where
  pub balance : (b : ℕ) → number_at cs b + departures start b past ≡ start.counts b + arrivals b past
  pub stored : s ≡ cond (last_withdrew start past) None (Some (last_put start past))
  pub counted : T (has_bucket (loading_bucket l)) → last_counted start past ≡ loading_bucket l
  pub since : T (not (no_load l)) → counted_since start past ≡ has_bucket (loading_bucket l)
  pub edited : T (not (no_exc e)) → editor_named start past ≡ exc_bucket e
  pub kept : T (is_editing e) → Kept start past e
  pub handed : HandedOut start past

abbrev pub ToldOf : Start → Head → List Event → Type 0
ToldOf start h past = Told start h.ref_counts h.storage h.exc_state h.loading_state past

-- what is stored was last put in
pub put_in : (start : Start) (s : Option ℕ) (past : List Event)
    → s ≡ cond (last_withdrew start past) None (Some (last_put start past)) → (v : ℕ) → s ≡ Some v → v
    ≡ last_put start past
put_in start s past told v e = go (last_withdrew start past) (sym e ∙ told)
  where
    go : (t : Bool) → Some v ≡ cond t None (Some (last_put start past)) → v ≡ last_put start past
    go true f = absurd (let z : ◌≡◌ {A = ℕ} 0 1 = cc in omega arith)
    go false f = cc

-- ---- each step
-- a number that is no arrival and no departure
abbrev even : ℕ → Bool
even n = not (among raising n) && not (among leaving n) && not (among (17 ∷ []) n) && not (among giving_back n)

-- one that none of the words on storage and on the loader names
abbrev calm : ℕ → Bool
calm n =
    not (among (13 ∷ []) n)
    && not (among putting_in n)
    && not (among handing_out n)
    && not (among fetching n)
    && not (among (8 ∷ []) n)

-- one that of these words the one on what is put in names alone
abbrev puts_only : ℕ → Bool
puts_only n = among putting_in n && not (among (13 ∷ []) n) && not (among handing_out n) && not (among fetching n)

module _ (start : Start) (h : Head) (l : List Reader) (b : Bucket) (clean value : ℕ) (full : Bool) (past : List Event)
    (s : Sound h l) (inside : b.0 < buckets) (told : ToldOf start h past) where
  abbrev ask : ℕ → Request
  ask n = record { step = n; bucket = b; clean = clean; value = value }

  abbrev step_no : ℕ → Step
  step_no n = step_at h (ask n) (look_for l (sought_of (ask n))) full

  abbrev Entry : ℕ → Type 0
  Entry n = Passes (step_no n).premises → ToldOf start (step_no n).head (record { request = ask n; answer = (step_no n).answer } ∷ past)

  -- it is accepted, and nothing is handed out
  abbrev took : ℕ → List Event
  took n = record { request = ask n; answer = Answer.Accepted } ∷ past

  within : b.0 < length h.ref_counts
  within = omega (arith, s.four)

  raised_balance : (x : ℕ)
      → number_at (raise b.0 h.ref_counts) x + departures start x past ≡ start.counts x + (cond (eqb b.0 x) 1 0 + arrivals x past)
  raised_balance x = omega (arith, number_raise h.ref_counts b.0 x within, told.balance x)

  lowered_balance : 1 ≤ number_at h.ref_counts b.0 → (x : ℕ)
      → number_at (lower b.0 h.ref_counts) x + (cond (eqb b.0 x) 1 0 + departures start x past) ≡ start.counts x + arrivals x past
  lowered_balance k x = omega (arith, number_lower h.ref_counts b.0 x within k, told.balance x)

  -- a reader that is found is counted
  found_counted : (phase : Phase) → T (is_found (find_in l (reader phase b))) → 1 ≤ number_at h.ref_counts b.0
  found_counted phase t =
      let f = found_first l (reader phase b) t in
      rw f.equal at (listed_counted s (place_of (find_in l (reader phase b))) f.inside)

  -- a withdrawal hands out what was last put in
  was_put : (v : ℕ) → h.storage ≡ Some v → v ≡ last_put start past
  was_put = put_in start h.storage past told.stored

  -- no count changes, nothing is handed out
  same : (x : ℕ) → number_at h.ref_counts x + (0 + 0 + 0 + departures start x past) ≡ start.counts x + (0 + arrivals x past)
  same x = omega (arith, told.balance x)

  none_out : {A : Type 0} → (⊥ → A) × HandedOut start past
  none_out = (λ t. absurd t, told.handed)

  -- a step that leaves storage and the loader: only its counts and the exclusive holder are told anew
  recounts : (n : ℕ) {cs : List Count} {e : ExcState} → T (calm n)
      → ((x : ℕ) → number_at cs x + departures start x (took n) ≡ start.counts x + arrivals x (took n))
      → (T (not (no_exc e)) → editor_named start (took n) ≡ exc_bucket e)
      → (T (is_editing e) → Kept start past e)
      → Told start cs h.storage e h.loading_state (took n)
  recounts n t balance edited kept =
      let u = simp and_iff at t in
      let counts = to_false (among (13 ∷ []) n) u.0.0.0.0 in
      let puts = to_false (among putting_in n) u.0.0.0.1 in
      let hands = to_false (among handing_out n) u.0.0.1 in
      let fetches = to_false (among fetching n) u.0.1 in
      let takes = to_false (among (8 ∷ []) n) u.1 in
      record {
        balance = balance;
        stored = rw (hands, puts) told.stored;
        counted = λ w. rw counts (told.counted w);
        since = λ w. rw (counts, fetches) (told.since w);
        edited = edited;
        kept = λ w. rw (puts, takes) (kept w);
        handed = none_out;
      }

  -- .. and one that leaves the counts too
  stays : (n : ℕ) {e : ExcState} → T (even n) → T (calm n) → (T (not (no_exc e)) → editor_named start (took n) ≡ exc_bucket e)
      → (T (is_editing e) → Kept start past e)
      → Told start h.ref_counts h.storage e h.loading_state (took n)
  stays n t =
      let u = simp and_iff at t in
      let raises = to_false (among raising n) u.0.0.0 in
      let leaves = to_false (among leaving n) u.0.0.1 in
      let done = to_false (among (17 ∷ []) n) u.0.1 in
      let gives = to_false (among giving_back n) u.1 in
      λ w. recounts n w λ x. simp (raises, leaves, done, gives) (same x)

  -- a step that puts the value in, and leaves the loader: no exclusive holder has the page out after it
  puts : (n : ℕ) {cs : List Count} {e : ExcState} → T (puts_only n)
      → ((x : ℕ) → number_at cs x + departures start x (took n) ≡ start.counts x + arrivals x (took n))
      → (T (not (no_exc e)) → editor_named start (took n) ≡ exc_bucket e)
      → (T (is_editing e) → ⊥)
      → Told start cs (Some value) e h.loading_state (took n)
  puts n t balance edited gone =
      let u = simp and_iff at t in
      let puts = to_true (among putting_in n) u.0.0.0 in
      let counts = to_false (among (13 ∷ []) n) u.0.0.1 in
      let takes = to_false (among handing_out n) u.0.1 in
      let fetches = to_false (among fetching n) u.1 in
      record {
        balance = balance;
        stored = rw (takes, puts);
        counted = λ w. rw counts (told.counted w);
        since = λ w. rw (counts, fetches) (told.since w);
        edited = edited;
        kept = λ w. absurd (gone w);
        handed = none_out;
      }

  -- the exclusive holder, by its kind: its bucket is the one that was named
  abbrev exc : ExcState
  exc = h.exc_state

  abbrev Named : Type 0
  Named = editor_named start past ≡ exc_bucket exc

  claims : T (is_claim exc) → Named
  claims t = told.edited (rw (is_claim_lem exc t) tt)

  awaits : T (is_await exc) → Named
  awaits t = told.edited (rw (is_await_lem exc t) tt)

  locks : T (is_pending exc) → Named
  locks t = told.edited (rw (is_pending_lem exc t) tt)

  edits : T (is_editing exc) → Named
  edits t = told.edited (rw (is_editing_lem exc t) tt)

  told8 : Entry 8
  told8 t = record {
    balance = same;
    stored = refl;
    counted = told.counted;
    since = told.since;
    edited = λ w. locks t.0;
    kept = λ w. (was_put (exc_value exc) ((known s).pending_in t.0), refl);
    handed = (λ w. was_put (exc_value exc) ((known s).pending_in t.0), told.handed);
  }

  told11 : Entry 11
  told11 t = record {
    balance = same;
    stored = refl;
    counted = λ w. absurd w;
    since = λ w. refl;
    edited = told.edited;
    kept = told.kept;
    handed = (λ w. was_put (value_of h.storage) ((known s).unmapped_in t.0), told.handed);
  }

  told12 : Entry 12
  told12 t = record {
    balance = same;
    stored = refl;
    counted = λ w. absurd w;
    since = λ w. refl;
    edited = told.edited;
    kept = told.kept;
    handed = (λ w. was_put (value_of h.storage) ((known s).unmapped_in t.0), told.handed);
  }

  told13 : Entry 13
  told13 t = record {
    balance = λ x. omega (arith, raised_balance x);
    stored = told.stored;
    counted = λ w. refl;
    since = λ w. refl;
    edited = told.edited;
    kept = told.kept;
    handed = none_out;
  }

  told14 : Entry 14
  told14 t = record {
    balance = same;
    stored = told.stored;
    counted = told.counted;
    since = λ w. told.since (rw (is_counted_lem h.loading_state t.0) tt);
    edited = told.edited;
    kept = told.kept;
    handed = none_out;
  }

  told15 : Entry 15
  told15 t =
      let waits = is_waiting_lem h.loading_state t.0 in
      record {
        balance = same;
        stored = told.stored;
        counted = λ w. absurd w;
        since = λ w. rw waits at (told.since (rw waits tt));
        edited = told.edited;
        kept = told.kept;
        handed = none_out;
      }

  -- beside a loader no editor has the page out
  alone : T (is_loading h.loading_state) → T (is_editing exc) → ⊥
  alone t w =
      let loads = h.loading_state in
      let rules = rules_of h.storage exc loads h.writeback_state h.flag s.head in
      let none = loads_alone exc h.storage loads h.writeback_state rules.exc (rw (is_loading_lem loads t)) in
      rw none at w

  told16 : Entry 16
  told16 t = record {
    balance = same;
    stored = refl;
    counted = λ w. absurd w;
    since = λ w. absurd w;
    edited = told.edited;
    kept = λ w. absurd (alone t.0 w);
    handed = none_out;
  }

  -- a holder leaves its bucket, if it has one: it is counted there
  left_balance : (m : Option Bucket) → T (valid_bucket m) → ((b : ℕ) → b < buckets → ref_at m b ≤ number_at h.ref_counts b)
      → (x : ℕ)
      → number_at (lower_if m h.ref_counts) x + (ref_at m x + departures start x past) ≡ start.counts x + arrivals x past
  left_balance None v refs x = omega (arith, told.balance x)
  left_balance (Some a) v refs x =
      let inside : a.0 < buckets = ltb→lt a.0 buckets v in
      let j : a.0 < length h.ref_counts = omega (arith, s.four) in
      let here : ref_at (Some a) a.0 ≡ 1 = simp (eq-eqb a.0 a.0 refl) in
      let some : 1 ≤ number_at h.ref_counts a.0 = omega (arith, refs a.0 inside) in
      omega (arith, number_lower h.ref_counts a.0 x j some, told.balance x)

  -- the loader's, if it has one, is the one that the latest 13 named
  loader_named : (m n : Option Bucket) (x : ℕ) → (T (has_bucket m) → n ≡ m) → cond (has_bucket m) (ref_at n x) 0 ≡ ref_at m x
  loader_named None n x named = refl
  loader_named (Some a) n x named = rw (named tt)

  -- the exclusive holder's is the editor's of the history
  exc_left : Named → (x : ℕ)
      → number_at (lower_if (exc_bucket exc) h.ref_counts) x + (0 + 0 + ref_at (editor_named start past) x + departures start x past) ≡ start.counts x + (0 + arrivals x past)
  exc_left e x =
      rw e (omega (arith, left_balance (exc_bucket exc) (exc_within s) (λ b k. omega (arith, s.counts b k)) x))

  told17 : Entry 17
  told17 t =
      let m = loading_bucket h.loading_state in
      let v = ((granted h s.head).loading t.0).1 in
      let there : T (not (no_load h.loading_state)) = rw (is_loading_lem h.loading_state t.0) tt in
      record {
        balance = λ x.
            simp (told.since there, loader_named m (last_counted start past) x told.counted)
            (omega (arith, left_balance m v (λ b k. omega (arith, s.counts b k)) x));
        stored = refl;
        counted = λ w. absurd w;
        since = λ w. absurd w;
        edited = told.edited;
        kept = λ w. absurd (alone t.0 w);
        handed = none_out;
      }

  told18 : Entry 18
  told18 t = recounts 18 tt (λ x. omega (arith, raised_balance x)) (λ w. refl) λ w. told.kept t.0

  told19 : Entry 19
  told19 t = recounts 19 tt (λ x. omega (arith, raised_balance x)) told.edited told.kept

  told20 : Entry 20
  unfolding look_for sought_of
  told20 t = recounts 20 tt (λ x. omega (arith, lowered_balance (found_counted Phase.Pending t.0) x)) told.edited told.kept

  told21 : Entry 21
  unfolding look_for sought_of
  told21 t = recounts 21 tt (λ x. omega (arith, lowered_balance (found_counted Phase.Pending2 t.0) x)) told.edited told.kept

  told22 : Entry 22
  unfolding look_for sought_of
  told22 t =
      recounts 22 tt (λ x. omega (arith, lowered_balance (found_counted (Phase.Obtained value) t.0) x)) told.edited told.kept

  entries : Below past_last Entry
  entries =
      (λ t. absurd t.0)
      & (λ t. stays 1 tt tt told.edited told.kept)
      & (λ t. stays 2 tt tt told.edited told.kept)
      & (λ t. stays 3 tt tt (λ w. refl) λ w. absurd w)
      & (λ t. stays 4 tt tt (λ w. refl) λ w. absurd w)
      & (λ t. stays 5 tt tt (λ w. claims t.0) λ w. absurd w)
      & (λ t. stays 6 tt tt (λ w. awaits t.1.0) λ w. absurd w)
      & (λ t. stays 7 tt tt (λ w. locks t.0) λ w. absurd w)
      & told8
      & (λ t. puts 9 tt same (λ w. absurd w) λ w. w)
      & (λ t. puts 10 tt same (λ w. edits t.0) λ w. w)
      & told11 & told12 & told13 & told14 & told15 & told16
      & told17 & told18 & told19 & told20 & told21 & told22
      & (λ t. stays 23 tt tt told.edited told.kept)
      & (λ t. stays 24 tt tt told.edited told.kept)
      & (λ t. recounts 25 tt (exc_left (claims t.0)) (λ w. absurd w) λ w. absurd w)
      & (λ t. stays 26 tt tt (λ w. absurd w) λ w. absurd w)
      & (λ t. stays 27 tt tt (λ w. awaits t.0) λ w. absurd w)
      & (λ t. stays 28 tt tt (λ w. locks t.0) λ w. absurd w)
      & (λ t. puts 29 tt (exc_left (edits t.0)) (λ w. absurd w) λ w. w)
      & (λ t. puts 30 tt (exc_left (edits t.0)) (λ w. absurd w) λ w. w)
      & tt

-- ---- one request
-- a refusal has a number above 0, so the history's sums do not see it
pub refused_tells : (start : Start) (h : Head) (past : List Event) (q : Request) (why : Refusal)
    → ToldOf start h past → ToldOf start h (record { request = q; answer = Answer.Refused why } ∷ past)
refused_tells start h past q why told =
    record {
      balance = λ x. rw (refusal_positive why) (omega (arith, told.balance x));
      stored = rw (refusal_positive why) told.stored;
      counted = λ t. rw (refusal_positive why) (told.counted t);
      since = λ t. rw (refusal_positive why) (told.since t);
      edited = λ t. rw (refusal_positive why) (told.edited t);
      kept = λ t. rw (refusal_positive why) (told.kept t);
      handed = (λ t. absurd t, told.handed);
    }

module _ (start : Start) (p : Page) (q : Request) (past : List Event) where
  abbrev st : Step
  st = step_at (head_of p) q (look_for (live p.readers) (sought_of q)) (leb capacity p.readers.len)

  -- a request that is judged well formed
  decided_tells : Sound (head_of p) (live p.readers) → judged q ≡ Ok tt → ToldOf start (head_of p) past
      → ToldOf start (head_of (stepped p q (Ok tt)).page) (record { request = q; answer = (stepped p q (Ok tt)).answer } ∷ past)
  unfolding decide_of judged
  decided_tells sound well told = go (verdict st.premises) refl
    where
      go : (v : Result (Unit {0}) Refusal) → verdict st.premises ≡ v
          → ToldOf start (settled (head_of p) st v).head (record { request = q; answer = (settled (head_of p) st v).answer } ∷ past)
      go (Ok _) f =
          let l = live p.readers in
          let full = leb capacity p.readers.len in
          let inside = (formed q well).bucket in
          let known = (passed (formal q) well).0 in
          pick past_last (Entry start (head_of p) l q.bucket q.clean q.value full past sound inside told)
          (entries start (head_of p) l q.bucket q.clean q.value full past sound inside told)
          q.step (step_below q.step known)
          (passed st.premises f)
      go (Err why) f = refused_tells start (head_of p) past q why told

  -- any request on a sound page
  pub step_tells : T (sound_of p) → ToldOf start (head_of p) past → ToldOf start (head_of (step_of p q).page) (event p q ∷ past)
  unfolding step_of
  step_tells sound told = rw (to_true (sound_of p) sound) (go (judged q) refl)
    where
      go : (v : Result (Unit {0}) Refusal) → judged q ≡ v
          → ToldOf start (head_of (stepped p q v).page) (record { request = q; answer = (stepped p q v).answer } ∷ past)
      go (Ok _) e = decided_tells (facts p sound).parts e told
      go (Err why) e = refused_tells start (head_of p) past q why told

-- ---- at the start nothing has happened
pub start_told : (p : Page) → T (sound_of p) → ToldOf (start_of p) (head_of p) []
start_told p sound = record {
  balance = λ b. refl;
  stored = as_kept p.storage;
  counted = λ t. refl;
  since = λ t. refl;
  edited = λ t. refl;
  kept = λ t. let out = (granted (head_of p) (facts p sound).parts.head).editing t in (rw out, rw out);
  handed = tt;
}
  where
    as_kept : (s : Option ℕ)
        → s ≡ cond (not (is_stored s)) None (Some (cond (is_stored s) (value_of s) (exc_value p.exc_state)))
    as_kept None = refl
    as_kept (Some v) = refl

-- .. and any value will do where the page is out with a loader
pub start_unknown : (p : Page) → T (sound_of p) → T (not (no_load p.loading_state)) → (v : ℕ) → ToldOf (start_with v p) (head_of p) []
start_unknown p sound loads v =
    let r = rules_of p.storage p.exc_state p.loading_state p.writeback_state p.flag (facts p sound).parts.head in
    let some = to_false (no_load p.loading_state) loads in
    let none = loads_alone p.exc_state p.storage p.loading_state p.writeback_state r.exc some in
    record {
      balance = λ b. refl;
      stored = go some r.storage p.storage refl;
      counted = λ t. refl;
      since = λ t. refl;
      edited = λ t. refl;
      kept = λ t. absurd (rw none at t);
      handed = tt;
    }
  where
    go : no_load p.loading_state ≡ false → T (storage_some_invariant p.storage p.exc_state p.loading_state) → (s : Option ℕ)
        → p.storage ≡ s → s ≡ cond (not (is_stored s)) None (Some v)
    go some rule None e = refl
    go some rule (Some w) e = absurd (rw (e, some) at rule)
