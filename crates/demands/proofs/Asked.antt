-- Whatever is asked of a page one after the other, for any way of asking (`Asking`) of which one thing is known (`Acted`): what is asked is
-- refused and leaves the page, or it is a request that is stepped. From page to page the page stays sound, the history tells of it, and just
-- the accepted 8, 11 and 12 hand a value out (`follows`); and what comes in two parts is as if it came in one (`left_on`, `happened_on`).
-- Requests and the lines of a run are such ways (`request_acts`, `line_acts`). Assumes nothing.
use Rattle.std.specs.Prelude.{Result, Ok, Err}
use mathlib.Core.Path.{◌≡◌, refl, ap}
use mathlib.Core.Logic.{◌⊎◌, inl, inr}
use mathlib.Core.List.{List, [], ◌∷◌, ◌++◌}
use lib.Dec.{T}
use Rattle.page_record.specs.declared.Page.{Page}
use Rattle.page_record.specs.Pages.{head_of}
use Rattle.soundness.specs.Soundness.{sound_of}
use Rattle.requests.specs.declared.{Request.Request, Answer.Answer, Refusal.Refusal}
use Rattle.requests.proofs.Reasons.{refusal_positive}
use Rattle.lock.specs.declared.Outcome.{Outcome}
use Rattle.lock.specs.Step.{step_of}
use Rattle.lock.proofs.Keeps.{step_keeps}
use Rattle.lock.proofs.HandsOut.{hands_out_lem}
use Rattle.wire.specs.Requests.{read_of}
use Rattle.wire.proofs.Trips.{accepted}
use Rattle.replay.proofs.Pages.{turn_read, turn_refused}
use Rattle.demands.specs.History.{Event, event, Asking, left, happened, by_request, by_line, Start, HandOuts}
use Rattle.demands.proofs.Told.{ToldOf, refused_tells, step_tells}

-- ---- what is asked
-- it is refused and leaves the page, or it is a request that is stepped
abbrev pub Acted : Page → Page → Event → Type 0
Acted p p' e =
    ((why : Refusal) × (e.answer ≡ Answer.Refused why) × (p' ≡ p))
    ⊎ ((q : Request) × (e ≡ event p q) × (p' ≡ (step_of p q).page))

abbrev pub Acts : Asking → Type 0
Acts way = (p : Page) (a : way.Ask) → Acted p (way.page p a) (way.event p a)

pub request_acts : Acts by_request
request_acts p q = inr (q, refl, refl)

pub line_acts : Acts by_line
line_acts p bytes = go (read_of bytes) refl
  where
    go : (r : Result Request Refusal) → read_of bytes ≡ r → Acted p (by_line.page p bytes) (by_line.event p bytes)
    go (Ok q) e =
        let turn = turn_read p bytes q e in
        let fields = (accepted bytes q e).fields in
        inr (q, (λ i. record { request = fields i; answer = (turn i).answer }), ap (λ (o : Outcome). o.page) turn)
    go (Err why) e =
        let turn = turn_refused p bytes why e in
        inl (why, ap (λ (o : Outcome). o.answer) turn, ap (λ (o : Outcome). o.page) turn)

-- ---- from page to page
-- a page, and a history that leads to it from its start
pub record Follows (start : Start) (p : Page) (past : List Event) : Type 0 where
  pub sound : T (sound_of p)
  pub told : ToldOf start (head_of p) past
  pub hands : HandOuts past

acted_follows : (start : Start) (p p' : Page) (e : Event) (past : List Event) → Acted p p' e → Follows start p past
    → Follows start p' (e ∷ past)
acted_follows start p p' e past (inl (why, refused, same)) t =
    rw (same, refused)
    record {
      sound = t.sound;
      told = refused_tells start (head_of p) past e.request why t.told;
      hands = (rw (refusal_positive why), t.hands);
    }
acted_follows start p p' e past (inr (q, is, same)) t =
    rw (same, is)
    record {
      sound = step_keeps p q t.sound;
      told = step_tells start p q past t.sound t.told;
      hands = (hands_out_lem p q, t.hands);
    }

pub follows : (way : Asking) → Acts way → (start : Start) (p : Page) (past : List Event) (asks : List way.Ask) → Follows start p past
    → Follows start (left way p asks) (happened way p asks past)
follows way acts start p past [] t = t
follows way acts start p past (a ∷ asks) t =
    let next = acted_follows start p (way.page p a) (way.event p a) past (acts p a) t in
    follows way acts start (way.page p a) (way.event p a ∷ past) asks next

-- ---- in two parts
-- q is the page between them
module _ (way : Asking) (asks : List way.Ask) (q : Page) where
  pub left_on : (p : Page) (before : List way.Ask) → q ≡ left way p before → left way q asks ≡ left way p (before ++ asks)
  left_on p [] e = ap (λ (x : Page). left way x asks) e
  left_on p (a ∷ before) e = left_on (way.page p a) before e

  pub happened_on : (p : Page) (before : List way.Ask) (past : List Event) → q ≡ left way p before
      → happened way q asks (happened way p before past) ≡ happened way p (before ++ asks) past
  happened_on p [] past e = ap (λ (x : Page). happened way x asks past) e
  happened_on p (a ∷ before) past e = happened_on (way.page p a) before (way.event p a ∷ past) e
