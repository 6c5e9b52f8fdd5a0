-- Acceptance is exactly a transition of `Moves`. On a head and a list of readers that are sound, a request that is well formed
-- is accepted just if `Moves` allows it and the limits leave room, with that next state and that value handed out
-- (`exact_parts`). Over pages this holds with no premise (`exact`): what is asked of the page and of the request is part of
-- what acceptance is. And on a sound page, where the limits leave room, `Moves` allows a request at most one next state and
-- one value handed out (`no_second_move`). Assumes nothing.
pub mod Flags
pub mod Laws
pub mod Granted
pub mod AllowedAccepted
pub mod AcceptedAllowed
use Rattle.std.specs.Prelude.{Option, Result, Ok, Err, ℕ}
use mathlib.Core.Path.{◌≡◌, refl, sym, ap, ◌∙◌, subst}
use mathlib.Core.Logic.{◌↔◌}
use mathlib.Core.Bool.{Bool, true, false}
use mathlib.Core.List.{List}
use lib.Dec.{T}
use Rattle.laws.proofs.Tests.{is_true}
use Rattle.kinds.specs.declared.Reader.{Reader}
use Rattle.readers.specs.Listed.{live, listed}
use Rattle.readers.proofs.Bridge.{live_listed}
use Rattle.page_record.specs.declared.{Head.Head, Page.Page}
use Rattle.page_record.specs.Pages.{head_of, page_of}
use Rattle.soundness.specs.Soundness.{sound_of}
use Rattle.soundness.proofs.Facts.{Sound}
use Rattle.soundness.proofs.Tested.{facts}
use Rattle.requests.specs.declared.{Refusal.Refusal, Request.Request}
use Rattle.requests.specs.Requests.{judged}
use Rattle.requests.proofs.Formed.{formed}
use Rattle.heads.specs.declared.Decision.{Decision}
use Rattle.lock.specs.declared.Outcome.{Outcome}
use Rattle.lock.specs.Step.{edited, decided_on, step_of}
use Rattle.lock.specs.Allowed.{Neat, Allowed}
use Rattle.lock.specs.Moves.{RwLock, state_with, state_of, Moves, Room, answer_of}
use Rattle.lock.proofs.Keeps.{outcome_of, step_listed, unsound_stays, unfit_stays}
use Rattle.lock.proofs.Exact.Laws.{Accepts, same_out, unrefused}
use Rattle.lock.proofs.Exact.AllowedAccepted.{takes}
use Rattle.lock.proofs.Exact.AcceptedAllowed.{told}

-- ---- over a head and a list of readers
pub exact_parts : (h : Head) (l : List Reader) (q : Request) → Sound h l → judged q ≡ Ok tt
    → (h' : Head) (l' : List Reader) (out : Option ℕ)
    → Accepts (decided_on h l q) l h' l' out ↔ (Moves (state_with h l) q (state_with h' l') out × Room (state_with h l) q)
exact_parts h l q s ok h' l' out = (
  (λ a.
      subst (λ (post : RwLock). Moves (state_with h l) q post out × Room (state_with h l) q)
      (λ i. state_with (a.head i) (a.list i))
      ((told h l q s (formed q ok)).fits out a.answer)),
  (λ m. takes h l q h' l' out s m.0 m.1),
)

-- ---- over pages
-- the step is accepted, hands this out, and leaves this page
abbrev pub AcceptsPage : Page → Request → Page → Option ℕ → Type 0
AcceptsPage p q p' out = step_of p q ≡ record { answer = answer_of out; page = p' }

module _ (p p' : Page) (q : Request) (out : Option ℕ) where
  -- what a decision makes of a page, and what it makes of head and list
  module _ (d : Decision) (l : List Reader) where
    to_parts : outcome_of l d ≡ record { answer = answer_of out; page = p' }
        → Accepts d l (head_of p') (live p'.readers) out × Neat p'
    to_parts e =
        let rs = ap (λ (o : Outcome). o.page.readers) e in
        let list = sym (live_listed (edited d.edit l)) ∙ ap live rs in (
          record { answer = ap (λ (o : Outcome). o.answer) e; head = ap (λ (o : Outcome). head_of o.page) e; list = list },
          sym rs ∙ ap listed list,
        )

    of_parts : Accepts d l (head_of p') (live p'.readers) out → Neat p'
        → outcome_of l d ≡ record { answer = answer_of out; page = p' }
    of_parts a neat =
        let rs = ap listed a.list ∙ sym neat in
        λ i. record { answer = a.answer i; page = page_of (a.head i) (rs i) }

  -- for every page and request, sound and well formed or not, and every next page and value handed out
  pub exact : AcceptsPage p q p' out ↔ Allowed p q p' out
  exact = (to (sound_of p) refl (judged q) refl, back)
    where
      l : List Reader
      l = live p.readers

      to : (t : Bool) → sound_of p ≡ t → (v : Result (Unit {0}) Refusal) → judged q ≡ v → AcceptsPage p q p' out → Allowed p q p' out
      to true sound (Ok _) ok e =
          let t = is_true sound in
          let a = to_parts (decided_on (head_of p) l q) l (sym (step_listed q ok p t) ∙ e) in
          let m = (exact_parts (head_of p) l q (facts p t).parts ok (head_of p') (live p'.readers) out).0 a.0 in
          record { sound = t; well_formed = ok; moves = m.0; room = m.1; neat = a.1 }
      to true sound (Err why) ok e =
          absurd (unrefused why out (ap (λ (o : Outcome). o.answer) (sym (unfit_stays p q why (is_true sound) ok) ∙ e)))
      to false sound v ok e =
          absurd (unrefused Refusal.Unsound out (ap (λ (o : Outcome). o.answer) (sym (unsound_stays p q sound) ∙ e)))

      back : Allowed p q p' out → AcceptsPage p q p' out
      back a =
          let s = (facts p a.sound).parts in
          let m = (exact_parts (head_of p) l q s a.well_formed (head_of p') (live p'.readers) out).1 (a.moves, a.room) in
          step_listed q a.well_formed p a.sound ∙ of_parts (decided_on (head_of p) l q) l m a.neat

-- ---- no second outcome, where the limits leave room
-- a state's head: with the state's list of readers it makes up the state
abbrev head_in : RwLock → Head
head_in r = record {
  storage = r.storage;
  flag = r.flag;
  ref_counts = r.ref_counts;
  exc_state = r.exc_state;
  loading_state = r.loading_state;
  writeback_state = r.writeback_state;
}

-- two moves of one request on one sound page agree in the state after and in what is handed out
pub no_second_move : (p : Page) (q : Request) → T (sound_of p) → Room (state_of p) q
    → (post post'' : RwLock) (out out'' : Option ℕ) → Moves (state_of p) q post out → Moves (state_of p) q post'' out''
    → (post ≡ post'') × (out ≡ out'')
no_second_move p q t room post post'' out out'' m n =
    let l = live p.readers in
    let s = (facts p t).parts in
    let a = takes (head_of p) l q (head_in post) post.shared_state out s m room in
    let b = takes (head_of p) l q (head_in post'') post''.shared_state out'' s n room in
    let head = sym a.head ∙ b.head in
    let list = sym a.list ∙ b.list in
    ((λ i. state_with (head i) (list i)), same_out out out'' (sym a.answer ∙ b.answer))
