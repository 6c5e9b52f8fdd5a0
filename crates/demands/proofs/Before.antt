-- What a history starts from, in fields, is what is taken to have happened before, in requests: at the start by cases of the holders
-- (that the page is out just if one of them has it is rule 1), and then request by request, the same on both sides. Assumes nothing.
use Rattle.std.specs.Prelude.{Option, Some, None}
use Prim.Native.Nat.{ℕ}
use mathlib.Core.Path.{◌≡◌, refl, sym, ap, ◌∙◌}
use mathlib.Core.Bool.{Bool, true, false, not, cond, ◌||◌, not-not}
use mathlib.Core.List.{List, [], ◌∷◌, ◌++◌}
use native.Mathlib.Omega.{arith}
use lib.Dec.{T}
use Rattle.laws.proofs.Tests.{alike}
use Rattle.kinds.specs.declared.{ExcState.ExcState, LoadingState.LoadingState}
use Rattle.kinds.specs.declared.Bucket.{Bucket}
use Rattle.page_record.specs.declared.Page.{Page}
use Rattle.page_record.specs.Holders.{is_stored, exc_value, has_bucket, exc_bucket, loading_bucket, no_load, is_editing}
use Rattle.page_record.specs.Pages.{head_of}
use Rattle.page_record.specs.References.{ref_at}
use Rattle.rules.specs.Rules.{withdrawn}
use Rattle.soundness.specs.Soundness.{sound_of}
use Rattle.soundness.proofs.Shapes.{rules_of}
use Rattle.soundness.proofs.Tested.{facts}
use Rattle.lock.proofs.Exact.Granted.{granted}
use Rattle.demands.specs.History.{Event, Start, put_before, last_counted, counted_since, departures, last_put}
use Rattle.demands.specs.History.{last_taken, last_withdrew, editor_named, arrivals}
use Rattle.demands.specs.Before.{plainly, named, loader_came, editor_came, before, bare_start, AsIf}

-- ---- what reads as an arrival
no_arrivals : (e : ExcState) (b : ℕ) → arrivals b (editor_came e) ≡ 0
no_arrivals ExcState.None b = refl
no_arrivals (ExcState.Claim None w) b = refl
no_arrivals (ExcState.Claim (Some x) w) b = refl
no_arrivals (ExcState.PendingAwaitWriteback None w) b = refl
no_arrivals (ExcState.PendingAwaitWriteback (Some x) w) b = refl
no_arrivals (ExcState.Pending None n c w) b = refl
no_arrivals (ExcState.Pending (Some x) n c w) b = refl
no_arrivals (ExcState.Obtained None c w) b = refl
no_arrivals (ExcState.Obtained (Some x) c w) b = refl

loader_arrived : (l : LoadingState) (past : List Event) (b : ℕ) → arrivals b past ≡ 0
    → arrivals b (loader_came l ++ past) ≡ ref_at (loading_bucket l) b
loader_arrived LoadingState.None past b none = none
loader_arrived LoadingState.Pending past b none = omega arith
loader_arrived (LoadingState.PendingCounted None) past b none = omega arith
loader_arrived (LoadingState.PendingCounted (Some x)) past b none = omega arith
loader_arrived (LoadingState.Obtained None) past b none = omega arith
loader_arrived (LoadingState.Obtained (Some x)) past b none = omega arith

-- ---- what the words say of some requests
record Said (s : Start) (past : List Event) (last : Option Bucket) (since : Bool) (editor : Option Bucket) (value took : ℕ) (out : Bool)
    : Type 0 where
  last_named : last_counted s past ≡ last
  counted : counted_since s past ≡ since
  edited : editor_named s past ≡ editor
  left : (b : ℕ) → departures s b past ≡ 0
  put : last_put s past ≡ value
  taken : last_taken s past ≡ took
  withdrew : last_withdrew s past ≡ out

-- ---- before the start
module _ (counts : ℕ → ℕ) (v : ℕ) where
  abbrev bare : Start
  bare = record { counts = counts; value = v; out = false; loader = None; editor = None }

  -- of the editor, a 4 is looked at, and an 8
  claim_said : (m : Option Bucket) → Said bare (named 4 m) None false m v v false
  claim_said None =
      record { last_named = refl; counted = refl; edited = refl; left = λ b. refl; put = refl; taken = refl; withdrew = refl }
  claim_said (Some x) =
      record { last_named = refl; counted = refl; edited = refl; left = λ b. refl; put = refl; taken = refl; withdrew = refl }

  editor_said : (e : ExcState)
      → Said bare (editor_came e) None false (exc_bucket e) v (cond (is_editing e) (exc_value e) v) (is_editing e)
  editor_said ExcState.None = claim_said None
  editor_said (ExcState.Claim m w) = claim_said m
  editor_said (ExcState.PendingAwaitWriteback m w) = claim_said m
  editor_said (ExcState.Pending m n c w) = claim_said m
  editor_said (ExcState.Obtained None c w) =
      record { last_named = refl; counted = refl; edited = refl; left = λ b. refl; put = refl; taken = refl; withdrew = refl }
  editor_said (ExcState.Obtained (Some x) c w) =
      record { last_named = refl; counted = refl; edited = refl; left = λ b. refl; put = refl; taken = refl; withdrew = refl }

  -- a loader withdrew the page, whatever came before it, and the bucket that it has was named since
  fetched_said : (m : Option Bucket) (past : List Event) (editor : Option Bucket) (took : ℕ) (out : Bool)
      → Said bare past None false editor v took out
      → Said bare ((named 13 m ++ plainly 11 ∷ []) ++ past) m (has_bucket m) editor v took true
  fetched_said None past editor took out t =
      record {
        last_named = t.last_named;
        counted = refl;
        edited = t.edited;
        left = λ b. omega (arith, t.left b);
        put = t.put;
        taken = t.taken;
        withdrew = refl;
      }
  fetched_said (Some x) past editor took out t =
      record {
        last_named = refl;
        counted = refl;
        edited = t.edited;
        left = λ b. omega (arith, t.left b);
        put = t.put;
        taken = t.taken;
        withdrew = refl;
      }

  loader_said : (l : LoadingState) (past : List Event) (editor : Option Bucket) (took : ℕ) (out : Bool)
      → Said bare past None false editor v took out
      → Said bare (loader_came l ++ past) (loading_bucket l) (has_bucket (loading_bucket l)) editor v took (not (no_load l) || out)
  loader_said LoadingState.None past editor took out t = t
  loader_said LoadingState.Pending past editor took out t = fetched_said None past editor took out t
  loader_said (LoadingState.PendingCounted m) past editor took out t = fetched_said m past editor took out t
  loader_said (LoadingState.Obtained m) past editor took out t = fetched_said m past editor took out t

-- ---- since the start
module _ (p : Page) (sound : T (sound_of p)) where
  -- rule 1: the page is out just if somebody has it
  out_is : withdrawn p.exc_state p.loading_state ≡ not (is_stored p.storage)
  out_is =
      let h = head_of p in
      let e = p.exc_state in
      let l = p.loading_state in
      let r = rules_of p.storage e l p.writeback_state p.flag (facts p sound).parts.head in
      let stored = alike (is_stored p.storage) (not (withdrawn e l)) r.storage in
      sym (ap not stored ∙ not-not (withdrawn e l))

  -- what an editor that has the page out keeps is what was put in last
  abbrev took_before : ℕ
  took_before = cond (is_editing p.exc_state) (exc_value p.exc_state) (put_before p)

  took_is : took_before ≡ put_before p
  took_is = go (is_editing p.exc_state) refl
    where
      go : (t : Bool) → is_editing p.exc_state ≡ t → cond t (exc_value p.exc_state) (put_before p) ≡ put_before p
      go true e = rw ((granted (head_of p) (facts p sound).parts.head).editing (rw e tt))
      go false e = refl

  begun : Said (bare_start p) (before p) (loading_bucket p.loading_state) (has_bucket (loading_bucket p.loading_state))
      (exc_bucket p.exc_state) (put_before p) took_before (withdrawn p.exc_state p.loading_state)
  begun =
      loader_said (bare_start p).counts (put_before p) p.loading_state (editor_came p.exc_state) (exc_bucket p.exc_state)
      took_before (is_editing p.exc_state)
      (editor_said (bare_start p).counts (put_before p) p.exc_state)

  pub as_if_before : (past : List Event) → AsIf p past
  as_if_before [] = record {
    named_last = sym begun.last_named;
    named_since = sym begun.counted;
    named_editor = sym begun.edited;
    departed = λ b. sym (begun.left b);
    put = sym begun.put;
    taken = sym (begun.taken ∙ took_is);
    withdrew = sym (begun.withdrew ∙ out_is);
    arrived = λ b. loader_arrived p.loading_state (editor_came p.exc_state) b (no_arrivals p.exc_state b);
  }
  as_if_before (e ∷ past) =
      let t = as_if_before past in
      record {
        named_last = rw t.named_last;
        named_since = rw t.named_since;
        named_editor = rw t.named_editor;
        departed = λ b. simp (t.named_last, t.named_since, t.named_editor, t.departed b);
        put = rw t.put;
        taken = rw t.taken;
        withdrew = rw t.withdrew;
        arrived = t.arrived;
      }
