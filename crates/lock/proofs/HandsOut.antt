-- A value is handed out just where the step is 8, 11 or 12 and accepted (`hands_out_lem`), for every page and request. Which steps
-- answer with a value is computed over the table of steps. Assumes nothing.
use Rattle.std.specs.Prelude.{Option, Result, Ok, Err, ℕ}
use mathlib.Core.Path.{◌≡◌, refl, ◌∙◌}
use mathlib.Core.Bool.{Bool, true, false, ◌&&◌, cond}
use lib.Dec.{T, eqb, leb}
use lib.ListN.{get_or}
use Rattle.laws.specs.Lists.{among}
use Rattle.laws.proofs.Pick.{agree_below}
use Rattle.kinds.specs.Limits.{capacity}
use Rattle.readers.specs.Listed.{live}
use Rattle.page_record.specs.declared.{Head.Head, Page.Page}
use Rattle.page_record.specs.Pages.{head_of}
use Rattle.soundness.specs.Soundness.{sound_of}
use Rattle.requests.specs.declared.{Refusal.Refusal, Request.Request, Answer.Answer}
use Rattle.requests.specs.Answers.{answer_number, withdraws}
use Rattle.requests.specs.Premises.{verdict}
use Rattle.requests.specs.Requests.{past_last, is_step, formal, judged}
use Rattle.requests.proofs.Verdicts.{passed}
use Rattle.requests.proofs.Reasons.{refusal_positive}
use Rattle.requests.proofs.Formed.{step_below}
use Rattle.heads.specs.Decisions.{settled}
use Rattle.steps.specs.Decide.{unknown, steps, step_at, sought_of, decide_of}
use Rattle.lock.specs.Words.{handing_out}
use Rattle.lock.specs.Step.{look_for, refused_by, stepped, step_of}
use Rattle.lock.proofs.Least.Numbered.{accepts_all}

-- a refusal hands nothing out
refused_hands : (why : Refusal) (t : Bool) → withdraws (Answer.Refused why) ≡ (eqb (answer_number (Answer.Refused why)) 0 && t)
refused_hands why t = rw (refusal_positive why)

module _ (h : Head) (q : Request) (found : Option ℕ) (full : Bool) where
  -- the step that the request names answers with a value just if it is one of the three
  named_hands : T (is_step q.step) → withdraws (step_at h q found full).answer ≡ among handing_out q.step
  named_hands t =
      agree_below (λ n. withdraws (get_or (steps h q found full) n (unknown h)).answer) (among handing_out) past_last tt
      q.step (step_below q.step t)

  decided_hands : T (is_step q.step)
      → withdraws (decide_of h q found full).answer
      ≡ (eqb (answer_number (decide_of h q found full).answer) 0 && among handing_out q.step)
  unfolding decide_of
  decided_hands t = go (verdict (step_at h q found full).premises)
    where
      go : (v : Result (Unit {0}) Refusal)
          → withdraws (settled h (step_at h q found full) v).answer
          ≡ (eqb (answer_number (settled h (step_at h q found full) v).answer) 0 && among handing_out q.step)
      go (Ok _) = named_hands t ∙ rw (accepts_all h q found full)
      go (Err why) = refused_hands why (among handing_out q.step)

pub hands_out_lem : (p : Page) (q : Request)
    → withdraws (step_of p q).answer ≡ (eqb (answer_number (step_of p q).answer) 0 && among handing_out q.step)
unfolding step_of judged
hands_out_lem p q = go (sound_of p) (judged q) refl
  where
    go : (t : Bool) (v : Result (Unit {0}) Refusal) → judged q ≡ v
        → withdraws (cond t (stepped p q v) (refused_by p Refusal.Unsound)).answer
        ≡ (eqb (answer_number (cond t (stepped p q v) (refused_by p Refusal.Unsound)).answer) 0 && among handing_out q.step)
    go false v e = refl
    go true (Err why) e = refused_hands why (among handing_out q.step)
    go true (Ok _) e =
        decided_hands (head_of p) q (look_for (live p.readers) (sought_of q)) (leb capacity p.readers.len)
        (passed (formal q) e).0
