-- The step over pages: a sound page stays sound whatever the request is (`step_keeps`), a refusal leaves the page as it was,
-- sound or not (`refused_keeps_all`); an unsound page is refused (`unsound_stays`), and so is a request that is not well
-- formed (`unfit_stays`). On a sound page the step is the decision on its head and its list (`step_listed`), since an edit of
-- the array is the edit of the list (`edited_listed`). Assumes nothing.
pub mod Counts
pub mod Sounds
pub mod Cells
pub mod Shared
pub mod Rows
use Rattle.std.specs.Prelude.{Result, Ok, Err}
use Prim.Native.Nat.{ℕ, ◌≤◌}
use mathlib.Core.Path.{◌≡◌, refl, ap, ◌∙◌}
use mathlib.Core.Bool.{Bool, true, false, cond}
use mathlib.Core.List.{List, [], ◌∷◌}
use native.Mathlib.Omega.{arith}
use borrow.Author.Tests.{ltb-true, ltb-false, le-leb, le-ltb}
use lib.Dec.{T, leb, ltb}
use lib.ListN.{length, set, length-append}
use lib.Seq.{set_out}
use Rattle.laws.specs.Lists.{without}
use Rattle.laws.proofs.Tests.{to_true}
use Rattle.laws.proofs.Lists.{without_out}
use Rattle.kinds.specs.declared.Reader.{Reader}
use Rattle.kinds.specs.Limits.{capacity}
use Rattle.readers.specs.declared.Readers.{Readers}
use Rattle.readers.specs.Listed.{live, listed, after_push, put_at, removed_at}
use Rattle.readers.proofs.Bridge.{live_listed, pushed_listed, put_listed, removed_listed}
use Rattle.page_record.specs.declared.{Head.Head, Page.Page}
use Rattle.page_record.specs.Pages.{head_of, page_of}
use Rattle.soundness.specs.Soundness.{sound_of}
use Rattle.soundness.proofs.Facts.{Sound}
use Rattle.soundness.proofs.Tested.{facts, tested_parts}
use Rattle.requests.specs.declared.{Refusal.Refusal, Answer.Answer, Request.Request}
use Rattle.requests.specs.Requests.{judged}
use Rattle.requests.proofs.Formed.{formed}
use Rattle.heads.specs.declared.{Edit.Edit, Decision.Decision}
use Rattle.steps.specs.Decide.{sought_of}
use Rattle.steps.proofs.Verdicts.{decide_keeps}
use Rattle.lock.specs.declared.Outcome.{Outcome}
use Rattle.lock.specs.Step.{edited, edited_in, look_for, decided_on, refused_by, applied, stepped, step_of}
use Rattle.lock.proofs.Keeps.Rows.{keeps}

-- ---- the edit of the array is the edit of the list
-- past the end nothing changes
module _ (l : List Reader) (i : ℕ) (h : length l ≤ capacity) (out : length l ≤ i) where
  put_out : (r : Reader) → put_at (listed l) i r ≡ listed (set l i r)
  unfolding put_at
  put_out r = simp (le-leb _ _ h, le-ltb _ _ out, set_out l i r)

  removed_out : removed_at (listed l) i ≡ listed (without i l)
  unfolding removed_at
  removed_out = rw (without_out l i out) (simp (le-leb _ _ h, le-ltb _ _ out))

pub edited_listed : (e : Edit) (l : List Reader) → length l ≤ capacity → length (edited e l) ≤ capacity
    → edited_in e (listed l) ≡ listed (edited e l)
unfolding edited_in
edited_listed Edit.Keep l h k = refl
edited_listed (Edit.Push r) l h k = ap after_push (pushed_listed l r (omega (arith, length-append l (r ∷ []))))
edited_listed (Edit.Put i r) l h k = go (ltb i (length l)) refl
  where
    go : (t : Bool) → ltb i (length l) ≡ t → put_at (listed l) i r ≡ listed (set l i r)
    go true e = put_listed l r i h (ltb-true _ _ e)
    go false e = put_out l i h (ltb-false _ _ e) r
edited_listed (Edit.Remove i) l h k = go (ltb i (length l)) refl
  where
    go : (t : Bool) → ltb i (length l) ≡ t → removed_at (listed l) i ≡ listed (without i l)
    go true e = removed_listed l i h (ltb-true _ _ e)
    go false e = removed_out l i h (ltb-false _ _ e)

-- ---- the step on a head and a list
-- what a decision makes of a list of readers
abbrev pub outcome_of : List Reader → Decision → Outcome
outcome_of l d = record { answer = d.answer; page = page_of d.head (listed (edited d.edit l)) }

module _ (q : Request) (fit : judged q ≡ Ok tt) where
  on_listed : (h : Head) (l : List Reader) → Sound h l
      → stepped (page_of h (listed l)) q (Ok tt) ≡ outcome_of l (decided_on h l q)
  on_listed h l s =
      let d = decided_on h l q in
      let k = keeps h l q (formed q fit).bucket s in
      rw (live_listed l)
      (ap (λ (rs : Readers). record { answer = d.answer; page = page_of d.head rs })
      (edited_listed d.edit l s.room k.sound.room))

  pub step_listed : (p : Page) → T (sound_of p)
      → step_of p q ≡ outcome_of (live p.readers) (decided_on (head_of p) (live p.readers) q)
  unfolding step_of
  step_listed p t =
      let f = facts p t in
      rw (to_true (sound_of p) t, fit)
      (ap (λ (rs : Readers). stepped (page_of (head_of p) rs) q (Ok tt)) f.neat
      ∙ on_listed (head_of p) (live p.readers) f.parts)

-- ---- over pages
-- an unsound page is refused
pub unsound_stays : (p : Page) (q : Request) → sound_of p ≡ false → step_of p q ≡ refused_by p Refusal.Unsound
unfolding step_of
unsound_stays p q e = rw e

-- so is a request that is not well formed
pub unfit_stays : (p : Page) (q : Request) (why : Refusal) → T (sound_of p) → judged q ≡ Err why
    → step_of p q ≡ refused_by p why
unfolding step_of
unfit_stays p q why t e = rw (to_true (sound_of p) t, e)

pub step_keeps : (p : Page) (q : Request) → T (sound_of p) → T (sound_of (step_of p q).page)
step_keeps p q t = go (judged q) refl
  where
    go : (v : Result (Unit {0}) Refusal) → judged q ≡ v → T (sound_of (step_of p q).page)
    go (Ok _) e =
        let l = live p.readers in
        let d = decided_on (head_of p) l q in
        let k = keeps (head_of p) l q (formed q e).bucket (facts p t).parts in
        rw (step_listed q e p t) (tested_parts d.head (edited d.edit l) k.sound)
    go (Err why) e = rw (unfit_stays p q why t e) t

-- ---- a refusal changes nothing
pub refused_keeps_all : (p : Page) (q : Request) (why : Refusal) → (step_of p q).answer ≡ Answer.Refused why → (step_of p q).page ≡ p
unfolding step_of edited_in
refused_keeps_all p q why = go (sound_of p) (judged q)
  where
    go : (t : Bool) (v : Result (Unit {0}) Refusal) → (cond t (stepped p q v) (refused_by p Refusal.Unsound)).answer ≡ Answer.Refused why
        → (cond t (stepped p q v) (refused_by p Refusal.Unsound)).page ≡ p
    go false v e = refl
    go true (Err w) e = refl
    go true (Ok _) e =
        let found = look_for (live p.readers) (sought_of q) in
        let full = leb capacity p.readers.len in
        ap (λ (d : Decision). (applied p d).page) (decide_keeps (head_of p) q found full why e)
