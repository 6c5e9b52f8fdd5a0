-- Clean means clean, proved of requests (`clean_requests`) and of the lines of runs (`clean_lines`). An accepted request has
-- passed its step's premises (`ran`). Beside an editor that has the page out, one table over the steps says what each does (`beside`):
-- 9, 10, 29 and 30 put in what may be put in, and any other leaves the editor there, as clean as it was and with the value that it
-- keeps. Whatever is asked is a request that is stepped, or is refused (`Acted`, Asked.antt), so that the editor keeps on (`keeps_on`)
-- until one of the four puts in what was kept (`gives_kept`). Assumes nothing.
use Rattle.std.specs.Prelude.{Option, Some, Result, Ok, Err}
use Prim.Native.Nat.{ℕ, zero, suc}
use mathlib.Core.Path.{◌≡◌, refl, sym, ap, ◌∙◌}
use mathlib.Core.Logic.{inl, inr}
use mathlib.Core.Bool.{Bool, true, false, not, ◌||◌}
use mathlib.Core.List.{List, [], ◌∷◌}
use native.Mathlib.Omega.{arith}
use lib.Dec.{T, eqb, leb, eqb→eq}
use Rattle.laws.specs.Lists.{among}
use Rattle.laws.proofs.Tests.{to_true, halves}
use Rattle.laws.proofs.Pick.{Below, ◌&◌, pick}
use Rattle.kinds.specs.declared.{Bucket.Bucket, Reader.Reader, ExcState.ExcState}
use Rattle.kinds.specs.declared.Visited.{Visited}
use Rattle.kinds.specs.Limits.{capacity}
use Rattle.kinds.specs.Numbers.{exc_from}
use Rattle.readers.specs.Listed.{live}
use Rattle.page_record.specs.declared.{Head.Head, Page.Page}
use Rattle.page_record.specs.Holders.{is_editing, exc_bucket, exc_clean, exc_value}
use Rattle.page_record.specs.Pages.{head_of, fresh_page}
use Rattle.page_record.proofs.Inversions.{is_editing_lem}
use Rattle.soundness.specs.Soundness.{sound_of}
use Rattle.soundness.proofs.Facts.{Sound}
use Rattle.soundness.proofs.Tested.{facts}
use Rattle.soundness.proofs.Known.{known}
use Rattle.requests.specs.declared.{Request.Request, Answer.Answer, Refusal.Refusal}
use Rattle.requests.specs.Answers.{answer_number}
use Rattle.requests.specs.Premises.{Passes, verdict}
use Rattle.requests.specs.Requests.{is_step, formal, judged, past_last}
use Rattle.requests.proofs.Verdicts.{passed}
use Rattle.requests.proofs.Reasons.{refusal_positive}
use Rattle.requests.proofs.Formed.{step_below}
use Rattle.heads.specs.Decisions.{Step, may_put_in}
use Rattle.editing.specs.Steps.{withdraw_take_exc_lock_finish}
use Rattle.steps.specs.Decide.{step_at, sought_of, decide_of}
use Rattle.lock.specs.Words.{putting_back}
use Rattle.lock.specs.Step.{look_for, step_of}
use Rattle.lock.proofs.Exact.Granted.{granted}
use Rattle.lock.proofs.Keeps.{refused_keeps_all}
use Rattle.decoding.specs.Decoding.{u64_at, exc_from_bytes, head_from, page_from}
use Rattle.image.specs.Keeping.{read_verdict, restored_as, restored_from}
use Rattle.demands.specs.History.{Event, event, Asking, left, by_request, by_line, accepted}
use Rattle.demands.specs.Clean.{NoneBack, FirstBack, CleanMeansClean, CleanFirst, Clean}
use Rattle.demands.proofs.Asked.{Acted, Acts, request_acts, line_acts}

-- ---- what is accepted
module _ (p : Page) (q : Request) where
  -- the step that the request names
  abbrev asked : Step
  asked = step_at (head_of p) q (look_for (live p.readers) (sought_of q)) (leb capacity p.readers.len)

  record Ran : Type 0 where
    sound : T (sound_of p)
    known : T (is_step q.step)
    passes : Passes asked.premises
    answer : (step_of p q).answer ≡ asked.answer
    editor : (step_of p q).page.exc_state ≡ asked.head.exc_state
    storage : (step_of p q).page.storage ≡ asked.head.storage

  refused_not : (why : Refusal) → T (eqb (answer_number (Answer.Refused why)) 0) → ⊥
  refused_not why t = rw (refusal_positive why) at t

  ran : T (eqb (answer_number (step_of p q).answer) 0) → Ran
  unfolding step_of decide_of judged
  ran = go (sound_of p) refl (judged q) refl (verdict asked.premises) refl
    where
      go : (s : Bool) → sound_of p ≡ s → (v : Result (Unit {0}) Refusal) → judged q ≡ v → (w : Result (Unit {0}) Refusal) → verdict asked.premises ≡ w
          → T (eqb (answer_number (step_of p q).answer) 0) → Ran
      go false e v f w g t = absurd (rw e at t)
      go true e (Err why) f w g t = absurd (refused_not why (rw (e, f) at t))
      go true e (Ok _) f (Err why) g t = absurd (refused_not why (rw (e, f, g) at t))
      go true e (Ok _) f (Ok _) g t = record {
        sound = rw e tt;
        known = (passed (formal q) f).0;
        passes = passed asked.premises g;
        answer = rw (e, f, g);
        editor = rw (e, f, g);
        storage = rw (e, f, g);
      }

-- ---- beside an editor that has the page out
-- this value may be put in, and is in storage then
abbrev PutIn : Bool → ℕ → ℕ → Option ℕ → Type 0
PutIn clean kept value s = T (may_put_in clean kept value) × (s ≡ Some value)

-- this holder, but for its bucket
abbrev Keeping : Bool → ℕ → ExcState → Type 0
Keeping clean kept e = (m : Option Bucket) × (e ≡ ExcState.Obtained m clean kept)

module _ (h : Head) (l : List Reader) (b : Bucket) (said value : ℕ) (full : Bool) (s : Sound h l)
    (m : Option Bucket) (clean : Bool) (kept : ℕ) (is : h.exc_state ≡ ExcState.Obtained m clean kept) where
  abbrev ask : ℕ → Request
  ask n = record { step = n; bucket = b; clean = said; value = value }

  abbrev step_no : ℕ → Step
  step_no n = step_at h (ask n) (look_for l (sought_of (ask n))) full

  abbrev Beside : ℕ → Type 0
  Beside n =
      Passes (step_no n).premises
      → (T (among putting_back n) → PutIn clean kept value (step_no n).head.storage)
      × (T (not (among putting_back n)) → Keeping clean kept (step_no n).head.exc_state)

  -- it stays as it is
  stays : {A : Type 0} → (⊥ → A) × (Unit {0} → Keeping clean kept h.exc_state)
  stays = (λ k. absurd k, λ k. (m, is))

  -- it puts the value in
  puts : {A : Type 0} → T (may_put_in (exc_clean h.exc_state) (exc_value h.exc_state) value)
      → (Unit {0} → PutIn clean kept value (Some value)) × (⊥ → A)
  puts t = (λ k. (rw is at t, refl), λ k. absurd k)

  -- nobody claims beside it
  claims_not : h.exc_state ≡ ExcState.None → ⊥
  claims_not e = let z : ◌≡◌ {A = ℕ} 0 1 = cc in omega arith

  beside : Below past_last Beside
  beside =
      (λ t. absurd t.0)
      & (λ t. stays)
      & (λ t. stays)
      & (λ t. absurd (claims_not ((granted h s.head).claims t.0).0))
      & (λ t. absurd (claims_not ((granted h s.head).claims t.0).0))
      & (λ t. absurd (rw is at t.0))
      & (λ t. absurd (rw is at t.1.0))
      & (λ t. absurd (rw is at t.0))
      & (λ t. absurd (rw is at t.0))
      & (λ t. puts t.1.1.1.0)
      & (λ t. puts t.1.1.0)
      & (λ t. stays) & (λ t. stays) & (λ t. stays) & (λ t. stays) & (λ t. stays) & (λ t. stays) & (λ t. stays)
      & (λ t. (λ k. absurd k, λ k. (Some b, rw is)))
      & (λ t. stays) & (λ t. stays) & (λ t. stays) & (λ t. stays) & (λ t. stays) & (λ t. stays)
      & (λ t. absurd (rw is at t.0))
      & (λ t. absurd (rw is at t.0))
      & (λ t. absurd (rw is at t.0))
      & (λ t. absurd (rw is at t.0))
      & (λ t. puts t.1.0)
      & (λ t. puts t.1.0)
      & tt

-- the step that an accepted request names
module _ (p : Page) (q : Request) (m : Option Bucket) (clean : Bool) (kept : ℕ) (is : p.exc_state ≡ ExcState.Obtained m clean kept)
    (r : Ran p q) where
  beside_at : (T (among putting_back q.step) → PutIn clean kept q.value (asked p q).head.storage)
      × (T (not (among putting_back q.step)) → Keeping clean kept (asked p q).head.exc_state)
  beside_at =
      let l = live p.readers in
      let full = leb capacity p.readers.len in
      let sound = (facts p r.sound).parts in
      pick past_last (Beside (head_of p) l q.bucket q.clean q.value full sound m clean kept is)
      (beside (head_of p) l q.bucket q.clean q.value full sound m clean kept is)
      q.step (step_below q.step r.known) r.passes

-- one request: but for an accepted one of the four, the editor keeps what it took, as clean as it was; and one of the four puts in what
-- a clean editor keeps
module _ (p : Page) (q : Request) (clean : Bool) (kept : ℕ) (k : Keeping clean kept p.exc_state) where
  still : T (not (accepted putting_back (event p q))) → Keeping clean kept (step_of p q).page.exc_state
  still other = go (step_of p q).answer refl
    where
      moved : T (eqb (answer_number (step_of p q).answer) 0) → Keeping clean kept (step_of p q).page.exc_state
      moved t =
          let r = ran p q t in
          let not_back = rw (to_true (eqb (answer_number (step_of p q).answer) 0) t) at other in
          rw r.editor ((beside_at p q k.0 clean kept k.1 r).1 not_back)

      go : (a : Answer) → (step_of p q).answer ≡ a → Keeping clean kept (step_of p q).page.exc_state
      go Answer.Accepted e = moved (rw e tt)
      go (Answer.Withdrew v) e = moved (rw e tt)
      go (Answer.Refused why) e = rw (refused_keeps_all p q why e) k

  puts_kept : T (accepted putting_back (event p q)) → PutIn clean kept q.value (step_of p q).page.storage
  puts_kept t =
      let both = halves (eqb (answer_number (step_of p q).answer) 0) (among putting_back q.step) t in
      let r = ran p q both.0 in
      let put = (beside_at p q k.0 clean kept k.1 r).0 both.1 in
      (put.0, r.storage ∙ put.1)

-- 8 hands out what storage holds, and its holder keeps that
record Took (p p' : Page) (e : Event) : Type 0 where
  handed : e.answer ≡ Answer.Withdrew (exc_value p.exc_state)
  held : p.storage ≡ Some (exc_value p.exc_state)
  kept : p'.exc_state ≡ ExcState.Obtained (exc_bucket p.exc_state) (exc_clean p.exc_state) (exc_value p.exc_state)

took : (p : Page) (q : Request) → T (accepted (8 ∷ []) (event p q)) → Took p (step_of p q).page (event p q)
took p q t =
    let both = halves (eqb (answer_number (step_of p q).answer) 0) (among (8 ∷ []) q.step) t in
    eight (eqb→eq q.step 8 (one (eqb q.step 8) both.1)) (ran p q both.0)
  where
    one : (x : Bool) → T (x || false) → T x
    one true t = tt
    one false t = t

    eight : q.step ≡ 8 → Ran p q → Took p (step_of p q).page (event p q)
    eight e r =
        let st : asked p q ≡ withdraw_take_exc_lock_finish (head_of p) = rw e in
        let passes = rw st at r.passes in
        record {
          handed = r.answer ∙ ap (λ (x : Step). x.answer) st;
          held = (known (facts p r.sound).parts).pending_in passes.0;
          kept = r.editor ∙ ap (λ (x : Step). x.head.exc_state) st;
        }

-- ---- an editor that was read
-- one that was read as Obtained was read with the value at its place
value_read : (n : ℕ) (m : Option Bucket) (x : Visited) (c : Bool) (v : ℕ) → T (is_editing (exc_from n m x c v))
    → exc_value (exc_from n m x c v) ≡ v
unfolding exc_from
value_read zero m x c v t = absurd t
value_read (suc zero) m x c v t = absurd t
value_read (suc (suc zero)) m x c v t = absurd t
value_read (suc (suc (suc zero))) m x c v t = absurd t
value_read (suc (suc (suc (suc zero)))) m x c v t = absurd t
value_read (suc (suc (suc (suc (suc zero))))) m x c v t = refl
value_read (suc (suc (suc (suc (suc (suc n)))))) m x c v t = absurd t

kept_read : (l : List ℕ) → T (is_editing (restored_from l).page.exc_state)
    → exc_value (restored_from l).page.exc_state ≡ u64_at 40 l
unfolding restored_from page_from head_from exc_from_bytes fresh_page
kept_read l = go (read_verdict (page_from l) l)
  where
    go : (v : Result (Unit {0}) Refusal) → T (is_editing (restored_as (page_from l) v).page.exc_state)
        → exc_value (restored_as (page_from l) v).page.exc_state ≡ u64_at 40 l
    go (Ok _) t = value_read _ _ _ _ (u64_at 40 l) t
    go (Err why) t = absurd t

-- ---- whatever is asked
-- a clean editor that has the page out keeps its value
is_keeping : (e : ExcState) → T (is_editing e) → T (exc_clean e) → Keeping true (exc_value e) e
is_keeping e editing clean =
    (exc_bucket e, is_editing_lem e editing ∙ ap (λ (c : Bool). ExcState.Obtained (exc_bucket e) c (exc_value e)) (to_true (exc_clean e) clean))

module _ (way : Asking) (acts : Acts way) where
  module _ (p : Page) (a : way.Ask) where
    -- what is accepted is stepped
    stepped : (steps : List ℕ) → T (accepted steps (way.event p a))
        → (q : Request) × (way.event p a ≡ event p q) × (way.page p a ≡ (step_of p q).page)
    stepped steps t = go (acts p a)
      where
        go : Acted p (way.page p a) (way.event p a)
            → (q : Request) × (way.event p a ≡ event p q) × (way.page p a ≡ (step_of p q).page)
        go (inl (why, e, same)) = absurd (rw (e, refusal_positive why) at t)
        go (inr s) = s

    still_asked : (clean : Bool) (kept : ℕ) → Keeping clean kept p.exc_state
        → T (not (accepted putting_back (way.event p a))) → Keeping clean kept (way.page p a).exc_state
    still_asked clean kept k other = go (acts p a)
      where
        go : Acted p (way.page p a) (way.event p a) → Keeping clean kept (way.page p a).exc_state
        go (inl (why, e, same)) = rw same k
        go (inr (q, e, same)) = rw same (still p q clean kept k (rw e at other))

    -- what is put in is what was kept, and it is in storage then
    gives_asked : (kept : ℕ) → Keeping true kept p.exc_state → T (accepted putting_back (way.event p a))
        → ((way.event p a).request.value ≡ kept) × ((way.page p a).storage ≡ Some (way.event p a).request.value)
    gives_asked kept k t =
        let s = stepped putting_back t in
        let put = puts_kept p s.0 true kept k (rw s.1 at t) in
        rw (s.1, s.2) (eqb→eq s.0.value kept put.0, put.1)

  keeps_on : (clean : Bool) (kept : ℕ) (p : Page) (all : List way.Ask) → Keeping clean kept p.exc_state → NoneBack way p all
      → Keeping clean kept (left way p all).exc_state
  keeps_on clean kept p [] k none = k
  keeps_on clean kept p (a ∷ rest) k none = keeps_on clean kept (way.page p a) rest (still_asked p a clean kept k none.0) none.1

  -- the first of the four puts in what a clean editor keeps
  gives_kept : (kept : ℕ) (p : Page) (between : List way.Ask) (giving : way.Ask) → Keeping true kept p.exc_state
      → FirstBack way p between giving
      → ((way.event (left way p between) giving).request.value ≡ kept)
      × ((way.page (left way p between) giving).storage ≡ Some (way.event (left way p between) giving).request.value)
  gives_kept kept p between giving k first =
      gives_asked (left way p between) giving kept (keeps_on true kept p between k first.none_before) first.back

  means_clean : CleanMeansClean way
  means_clean p taking between giving clean first =
      let e = p.exc_state in
      let s = stepped p taking (8 ∷ []) clean.takes in
      let t = took p s.0 (rw s.1 at clean.takes) in
      let cleanly = ap (λ (c : Bool). ExcState.Obtained (exc_bucket e) c (exc_value e)) (to_true (exc_clean e) clean.clean) in
      let keeps = ap (λ (x : Page). x.exc_state) s.2 ∙ t.kept ∙ cleanly in
      let given = gives_kept (exc_value e) (way.page p taking) between giving (exc_bucket e, keeps) first in
      record {
        handed = ap (λ (x : Event). x.answer) s.1 ∙ t.handed ∙ ap (λ (v : ℕ). Answer.Withdrew v) (sym given.0);
        held = t.held ∙ ap (λ (v : ℕ). Some v) (sym given.0);
        holds = given.1;
      }

  first_keeps : CleanFirst way
  first_keeps p between giving editing clean first =
      let e = p.exc_state in
      (gives_kept (exc_value e) p between giving (is_keeping e editing clean) first).0

  proved : Clean way
  proved = record {
    means_clean = means_clean;
    first = first_keeps;
    read = λ l between giving editing clean first.
        first_keeps (restored_from l).page between giving editing clean first ∙ kept_read l editing;
  }

-- ---- the two ways to ask
pub clean_requests : Clean by_request
clean_requests = proved by_request request_acts

pub clean_lines : Clean by_line
clean_lines = proved by_line line_acts
