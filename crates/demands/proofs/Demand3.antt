-- Demand 3, proved from any sound page, after whatever is asked (`demand3_asked`), requests (`demand3_from`) or lines: the history tells
-- of counts, storage and the values kept and handed out (proofs/Told.antt, Asked.antt); soundness carries storage's value to every
-- holder, and shuts readers and the archive out while the page is out. A fresh page is one to start from (`demand3`), and what it
-- starts with is plain (`fresh_start`, `counted_fresh`). Assumes nothing.
use Rattle.std.specs.Prelude.{Option, Some, None}
use Prim.Native.Nat.{ℕ, ◌+◌, ◌<◌}
use mathlib.Core.Path.{◌≡◌, refl, ap, ◌∙◌}
use mathlib.Core.Bool.{Bool, true, false, not, cond, ◌&&◌, ◌||◌}
use mathlib.Core.List.{List, []}
use native.Mathlib.Omega.{arith}
use lib.Dec.{T, eqb}
use lib.ListN.{replicate}
use Rattle.laws.proofs.Lists.{every_at}
use Rattle.laws.proofs.Arms.{copies_at}
use Rattle.kinds.specs.declared.{Phase.Phase, Reader.Reader}
use Rattle.kinds.specs.declared.Count.{Count}
use Rattle.kinds.specs.Limits.{buckets}
use Rattle.kinds.specs.Numbers.{phase_number}
use Rattle.readers.specs.Listed.{live, blank_reader}
use Rattle.page_record.specs.declared.{Head.Head, Page.Page}
use Rattle.page_record.specs.Holders.{is_stored, is_pending, is_editing, exc_visited, exc_value, no_load}
use Rattle.page_record.specs.Pages.{head_of, number_at, fresh_page}
use Rattle.page_record.proofs.Inversions.{is_holding}
use Rattle.soundness.specs.Soundness.{sound_of}
use Rattle.soundness.proofs.Facts.{Sound}
use Rattle.soundness.proofs.Known.{known, hold_iff, valid_phase, reader_pending, listed_valid, closed_pending}
use Rattle.soundness.proofs.FreshPage.{fresh_sound}
use Rattle.soundness.proofs.Tested.{facts}
use Rattle.requests.specs.declared.Request.{Request}
use Rattle.demands.specs.History.{Event, Asking, left, happened, by_request, after, history, Start, start_of, arrivals, departures}
use Rattle.demands.specs.History.{start_with, last_put, last_withdrew, HandOuts}
use Rattle.demands.specs.Demand3.{Listed, Demand3}
use Rattle.demands.proofs.Told.{ToldOf, put_in, start_told, start_unknown}
use Rattle.demands.proofs.Asked.{Acts, request_acts, follows}

-- ---- what is used of tests
or_left : (a b : Bool) → T a → T (a || b)
or_left true b t = tt
or_left false b t = absurd t

first_is : (phase : Phase) → T (eqb (phase_number phase) 1) → phase ≡ Phase.Pending
first_is Phase.Pending t = refl
first_is Phase.Pending2 t = absurd t
first_is (Phase.Obtained v) t = absurd t

-- ---- the demand, from soundness and what is told
module _ (start : Start) (p : Page) (past : List Event) (s : Sound (head_of p) (live p.readers))
    (told : ToldOf start (head_of p) past) (hands : HandOuts past) where
  abbrev h : Head
  h = head_of p

  was_put : (v : ℕ) → p.storage ≡ Some v → v ≡ last_put start past
  was_put = put_in start p.storage past told.stored

  out_is : is_stored p.storage ≡ not (last_withdrew start past)
  out_is = ap is_stored told.stored ∙ go (last_withdrew start past)
    where
      go : (t : Bool) → is_stored (cond t None (Some (last_put start past))) ≡ not t
      go true = refl
      go false = refl

  -- a reader that has come through holds storage's value
  reads : (r : Reader) → Listed p r → (v : ℕ) → r.phase ≡ Phase.Obtained v → p.storage ≡ Some v
  reads r at v e =
      let valid = valid_phase h r (rw at.stands at (listed_valid s at.place at.below)) in
      is_holding p.storage v ((hold_iff h r.bucket.0 v).0 (rw e at valid)).0

  apart : (v : ℕ) → p.storage ≡ None → p.storage ≡ Some v → ⊥
  apart v o e = let z : ◌≡◌ {A = ℕ} 0 1 = cc in omega arith

  idle : (w : Option ℕ) → p.writeback_state ≡ w → p.storage ≡ None → w ≡ None
  idle None e o = refl
  idle (Some v) e o = absurd (apart v o ((known s).archive_in v e))

  shut : (r : Reader) → Listed p r → T (is_editing p.exc_state) → T (reader_pending r)
  shut r at t =
      let l = live p.readers in
      let e = p.exc_state in
      let closed = or_left (is_editing e) (is_pending e && eqb (exc_visited e).0 buckets) t in
      rw at.stands at (every_at reader_pending l at.place blank_reader (closed_pending s closed) at.below)

  pub demanded : Demand3 start p past
  demanded = record {
    counted = λ b k. told.balance b;
    referred = s.counts;
    out = out_is;
    stored = was_put;
    read = λ r at v e. was_put v (reads r at v e);
    claimed = λ t. was_put (exc_value p.exc_state) ((known s).claimant_in t);
    written = λ v e. was_put v ((known s).archive_in v e);
    kept = λ t. (told.kept t).0;
    taken = λ t. (told.kept t).1;
    returned = told.handed;
    returns = hands;
    unread = λ o r at v e. apart v o (reads r at v e);
    unwritten = idle p.writeback_state refl;
    alone = λ t r at. first_is r.phase (shut r at t);
  }

-- ---- from any sound page, after whatever is asked
module _ (way : Asking) (acts : Acts way) (p : Page) (sound : T (sound_of p)) where
  started : (start : Start) → ToldOf start (head_of p) [] → (asks : List way.Ask) → Demand3 start (left way p asks) (happened way p asks [])
  started start told asks =
      let p' = left way p asks in
      let t = follows way acts start p [] asks (record { sound = sound; told = told; hands = tt }) in
      demanded start p' (happened way p asks []) (facts p' t.sound).parts t.told t.hands

  pub demand3_asked : (asks : List way.Ask) → Demand3 (start_of p) (left way p asks) (happened way p asks [])
  demand3_asked = started (start_of p) (start_told p sound)

  -- beside a loader what was put in last is not known: whatever it was, the same holds
  pub demand3_unknown : T (not (no_load p.loading_state)) → (v : ℕ) (asks : List way.Ask)
      → Demand3 (start_with v p) (left way p asks) (happened way p asks [])
  demand3_unknown loads v = started (start_with v p) (start_unknown p sound loads v)

pub demand3_from : (p : Page) → T (sound_of p) → (qs : List Request) → Demand3 (start_of p) (after p qs) (history p qs [])
demand3_from = demand3_asked by_request request_acts

-- ---- from a fresh page
-- nothing has come, this value was put in, the page is in, and nobody loads or edits
pub fresh_start : (v : ℕ)
    → start_of (fresh_page v)
    ≡ record { counts = λ b. 0; value = v; out = false; loader = None; editor = None }
unfolding fresh_page
fresh_start v =
    λ i. record { counts = λ b. none b i; value = v; out = false; loader = None; editor = None }
  where
    none : (b : ℕ) → number_at (replicate buckets (record { 0 = 0 })) b ≡ 0
    none b = ap (λ (c : Count). c.0) (copies_at buckets b (record { 0 = 0 }))

pub demand3 : (v : ℕ) (qs : List Request)
    → Demand3 (start_of (fresh_page v)) (after (fresh_page v) qs) (history (fresh_page v) qs [])
demand3 v = demand3_from (fresh_page v) (fresh_sound v)

-- each bucket's count is its accepted arrivals less departures
pub counted_fresh : (v : ℕ) (p : Page) (past : List Event) → Demand3 (start_of (fresh_page v)) p past → (b : ℕ) → b < buckets
    → number_at p.ref_counts b + departures (start_of (fresh_page v)) b past ≡ arrivals b past
counted_fresh v p past d b k =
    omega (arith, d.counted b k, ap (λ (s : Start). s.counts b) (fresh_start v))
