-- The order of the readers is not to be seen: two pages that differ in it alone have one census (`census_same`), run any bytes alike
-- (`run_free`) and take any piece alike (`piece_free`); and after any requests answers, counts and census are those of a list that closes
-- the gap (`unseen`). One request, answered by the lock and on that list (`closes_alike`): by `order_free`, and since both ways take the
-- same entry out (`closed_same`). Assumes nothing.
use Rattle.std.specs.Prelude.{Result, Ok, Err}
use Prim.Native.Nat.{ℕ, ◌+◌}
use mathlib.Core.Path.{◌≡◌, refl, sym, ap, ◌∙◌}
use mathlib.Core.Bool.{Bool, true, false, cond, false≢true}
use mathlib.Core.List.{List, [], ◌∷◌, ◌++◌, map}
use native.Mathlib.Omega.{arith}
use lib.Dec.{T}
use lib.ListN.{length, take, drop, set}
use Rattle.laws.specs.Lists.{last_first, Rearranged}
use Rattle.laws.proofs.Tests.{to_true, is_true}
use Rattle.laws.proofs.Lists.{tally_append, tally_last_first}
use Rattle.laws.proofs.Rearranged.{rearranged_refl, rearranged_trans}
use Rattle.kinds.specs.declared.Reader.{Reader}
use Rattle.readers.specs.Listed.{live, is_in}
use Rattle.readers.proofs.Bridge.{live_listed}
use Rattle.page_record.specs.declared.{Head.Head, Page.Page}
use Rattle.page_record.specs.Pages.{head_of}
use Rattle.rules.specs.Rules.{every_bucket}
use Rattle.soundness.specs.Soundness.{sound_of}
use Rattle.soundness.proofs.Facts.{Sound}
use Rattle.soundness.proofs.Tested.{facts}
use Rattle.census.specs.Census.{census_of}
use Rattle.requests.specs.declared.{Refusal.Refusal, Answer.Answer, Request.Request}
use Rattle.requests.specs.Requests.{judged}
use Rattle.heads.specs.declared.{Edit.Edit, Decision.Decision}
use Rattle.lock.specs.Step.{edited, decided_on, refused_by, step_of}
use Rattle.lock.specs.Order.{Alike, AnsweredAlike}
use Rattle.lock.proofs.Keeps.{outcome_of, step_listed, step_keeps, unsound_stays, unfit_stays}
use Rattle.lock.proofs.Order.{alike_of, order_free}
use Rattle.wire.specs.Answers.{line_of}
use Rattle.wire.specs.Requests.{read_of}
use Rattle.replay.specs.Turns.{on_reading, turn_of}
use Rattle.replay.specs.Run.{requests_of, page_after, lines_of, run_verdict, ends, fills, ran_of, answers_of}
use Rattle.pieces.specs.declared.Carry.{Carry}
use Rattle.pieces.specs.Pieces.{whole_in, at_hand, piece_verdict, takes, taken_of, puts, buffer_after}
use Rattle.demands.specs.History.{Event, event, after, history}
use Rattle.demands.specs.Order.{closing, decided_closing, step_closing, stepped_closing, after_closing, history_closing, RunsAlike}
use Rattle.demands.specs.Order.{PiecesAlike, Unseen}

-- ---- the same entry goes, whichever way
closed_same : (e : Edit) (l : List Reader) → Rearranged (edited e l) (closing e l)
closed_same Edit.Keep l = rearranged_refl l
closed_same (Edit.Push r) l = rearranged_refl (l ++ r ∷ [])
closed_same (Edit.Put i r) l = rearranged_refl (set l i r)
closed_same (Edit.Remove i) l =
    let later = drop (i + 1) l in
    record {
      tallies = λ test.
          omega (arith, tally_append test (take i l) (last_first later), tally_append test (take i l) later, tally_last_first test later);
    }

-- ---- pages that differ in the order alone
alike_refl : (p : Page) → T (sound_of p) → Alike p p
alike_refl p t = record { sound = t; sound' = t; head = refl; readers = rearranged_refl (live p.readers) }

alike_trans : (a b c : Page) → Alike a b → Alike b c → Alike a c
alike_trans a b c first second = record {
  sound = first.sound;
  sound' = second.sound';
  head = first.head ∙ second.head;
  readers = rearranged_trans first.readers second.readers;
}

pub census_same : (p p' : Page) → Alike p p' → census_of p ≡ census_of p'
unfolding census_of
census_same p p' two =
    let same = two.readers.tallies in
    rw (to_true (sound_of p) two.sound, to_true (sound_of p') two.sound')
    (λ i.
    map (λ b. record { 0 = same (is_in b 1) i } ∷ record { 0 = same (is_in b 2) i } ∷ record { 0 = same (is_in b 3) i } ∷ [])
    every_bucket)

-- ---- one request
-- what a decision leaves, and what it leaves of a list that closes the gap
closes_decided : (l : List Reader) (d : Decision) → T (sound_of (outcome_of l d).page)
    → AnsweredAlike (outcome_of l d) (decided_closing l d)
closes_decided l d t =
    let kept = edited d.edit l in
    let s : Sound d.head kept = rw (live_listed kept) at (facts (outcome_of l d).page t).parts in
    record { answer = refl; page = alike_of d.head kept (closing d.edit l) (closed_same d.edit l) s }

-- on one page
closes_own : (p : Page) → T (sound_of p) → (q : Request) → AnsweredAlike (step_of p q) (step_closing p q)
closes_own p t q = go (judged q) refl
  where
    go : (v : Result (Unit {0}) Refusal) → judged q ≡ v → AnsweredAlike (step_of p q) (cond (sound_of p) (stepped_closing p q v) (refused_by p Refusal.Unsound))
    go (Ok _) e =
        let l = live p.readers in
        let d = decided_on (head_of p) l q in
        let one = step_listed q e p t in
        rw (one, to_true (sound_of p) t) (closes_decided l d (rw one at (step_keeps p q t)))
    go (Err why) e = rw (unfit_stays p q why t e, to_true (sound_of p) t) record { answer = refl; page = alike_refl p t }

-- on two, each on its own list
closes_alike : (p p' : Page) → Alike p p' → (q : Request) → AnsweredAlike (step_of p q) (step_closing p' q)
closes_alike p p' two q =
    let a = order_free p p' two q in
    let b = closes_own p' two.sound' q in
    record {
      answer = a.answer ∙ b.answer;
      page = alike_trans (step_of p q).page (step_of p' q).page (step_closing p' q).page a.page b.page;
    }

-- ---- a run of any bytes
turn_free : (p p' : Page) → Alike p p' → (bytes : List ℕ) → AnsweredAlike (turn_of p bytes) (turn_of p' bytes)
unfolding turn_of
turn_free p p' two bytes = go (read_of bytes)
  where
    go : (r : Result Request Refusal) → AnsweredAlike (on_reading p r) (on_reading p' r)
    go (Ok q) = order_free p p' two q
    go (Err why) = record { answer = refl; page = two }

lines_same : (qs : List (List ℕ)) (p p' : Page) → Alike p p' → lines_of p qs ≡ lines_of p' qs
lines_same [] p p' two = refl
lines_same (q ∷ qs) p p' two =
    let a = turn_free p p' two q in
    let rest = lines_same qs (turn_of p q).page (turn_of p' q).page a.page in
    λ i. line_of (a.answer i) ++ rest i

pages_alike : (qs : List (List ℕ)) (p p' : Page) → Alike p p' → Alike (page_after p qs) (page_after p' qs)
pages_alike [] p p' two = two
pages_alike (q ∷ qs) p p' two = pages_alike qs (turn_of p q).page (turn_of p' q).page (turn_free p p' two q).page

verdict_same : (p p' : Page) → Alike p p' → (bytes space : ℕ) → run_verdict p' bytes space ≡ run_verdict p bytes space
unfolding run_verdict
verdict_same p p' two bytes space = rw (to_true (sound_of p) two.sound, to_true (sound_of p') two.sound')

pub run_free : (p p' : Page) → Alike p p' → (requests answers : List ℕ) → RunsAlike p p' requests answers
unfolding ran_of answers_of
run_free p p' two requests answers =
    let given = run_verdict p (length requests) (length answers) in
    let same = verdict_same p p' two (length requests) (length answers) in
    record { answer = rw same (answer given); lines = rw same (lines given); left = rw same (left given) }
  where
    answer : (v : Result (Unit {0}) Refusal) → (ends p requests v).answer ≡ (ends p' requests v).answer
    answer (Ok _) = refl
    answer (Err why) = refl

    lines : (v : Result (Unit {0}) Refusal) → fills p requests answers v ≡ fills p' requests answers v
    lines (Ok _) = ap (λ (l : List ℕ). l ++ drop (length requests) answers) (lines_same (requests_of requests) p p' two)
    lines (Err why) = refl

    left : (v : Result (Unit {0}) Refusal) → Alike (ends p requests v).page (ends p' requests v).page
    left (Ok _) = pages_alike (requests_of requests) p p' two
    left (Err why) = two

-- ---- a piece, with any carry
taking_same : (p p' : Page) → Alike p p' → (c : Carry) (piece space : ℕ) → piece_verdict p' c piece space ≡ piece_verdict p c piece space
unfolding piece_verdict
taking_same p p' two c piece space = rw (to_true (sound_of p) two.sound, to_true (sound_of p') two.sound')

pub piece_free : (p p' : Page) → Alike p p' → (c : Carry) (piece answers : List ℕ) → PiecesAlike p p' c piece answers
unfolding taken_of buffer_after
piece_free p p' two c piece answers =
    let given = piece_verdict p c (length piece) (length answers) in
    let same = taking_same p p' two c (length piece) (length answers) in
    record {
      answer = rw same (answer given);
      carry = rw same (carry given);
      count = rw same (count given);
      lines = rw same (lines given);
      left = rw same (left given);
    }
  where
    answer : (v : Result (Unit {0}) Refusal) → (takes p c piece v).answer ≡ (takes p' c piece v).answer
    answer (Ok _) = refl
    answer (Err why) = refl

    carry : (v : Result (Unit {0}) Refusal) → (takes p c piece v).carry ≡ (takes p' c piece v).carry
    carry (Ok _) = refl
    carry (Err why) = refl

    count : (v : Result (Unit {0}) Refusal) → (takes p c piece v).lines ≡ (takes p' c piece v).lines
    count (Ok _) = refl
    count (Err why) = refl

    lines : (v : Result (Unit {0}) Refusal) → puts p c piece answers v ≡ puts p' c piece answers v
    lines (Ok _) =
        ap (λ (l : List ℕ). l ++ drop (whole_in (length (at_hand c piece))) answers) (lines_same (requests_of (at_hand c piece)) p p' two)
    lines (Err why) = refl

    left : (v : Result (Unit {0}) Refusal) → Alike (takes p c piece v).page (takes p' c piece v).page
    left (Ok _) = pages_alike (requests_of (at_hand c piece)) p p' two
    left (Err why) = two

-- ---- any requests
-- from two pages
answers_same : (qs : List Request) (p p' : Page) → Alike p p' → (past : List Event) → history p qs past ≡ history_closing p' qs past
answers_same [] p p' two past = refl
answers_same (q ∷ qs) p p' two past =
    let a = closes_alike p p' two q in
    answers_same qs (step_of p q).page (step_closing p' q).page a.page (event p q ∷ past)
    ∙ ap (λ (x : Answer). history_closing (step_closing p' q).page qs (record { request = q; answer = x } ∷ past)) a.answer

alike_after : (qs : List Request) (p p' : Page) → Alike p p' → Alike (after p qs) (after_closing p' qs)
alike_after [] p p' two = two
alike_after (q ∷ qs) p p' two = alike_after qs (step_of p q).page (step_closing p' q).page (closes_alike p p' two q).page

-- from a page that is not sound: it stays, and every request is answered 1
module _ (p : Page) (e : sound_of p ≡ false) where
  refused_both : (q : Request) → step_closing p q ≡ step_of p q
  refused_both q = rw (unsound_stays p q e, e)

  answers_unsound : (qs : List Request) (past : List Event) → history p qs past ≡ history_closing p qs past
  answers_unsound [] past = refl
  answers_unsound (q ∷ qs) past =
      rw (refused_both q, unsound_stays p q e)
      (answers_unsound qs (record { request = q; answer = Answer.Refused Refusal.Unsound } ∷ past))

  after_unsound : (qs : List Request) → after p qs ≡ after_closing p qs
  after_unsound [] = refl
  after_unsound (q ∷ qs) = rw (refused_both q, unsound_stays p q e) (after_unsound qs)

pub unseen : (p : Page) (qs : List Request) → Unseen p qs
unseen p qs = go (sound_of p) refl
  where
    go : (t : Bool) → sound_of p ≡ t → Unseen p qs
    go true e =
        let two = alike_refl p (is_true e) in
        let left = alike_after qs p p two in
        record {
          answers = answers_same qs p p two;
          counts = ap (λ (h : Head). h.ref_counts) left.head;
          census = census_same (after p qs) (after_closing p qs) left;
          alike = λ _. left;
        }
    go false e = record {
      answers = answers_unsound p e qs;
      counts = ap (λ (x : Page). x.ref_counts) (after_unsound p e qs);
      census = ap census_of (after_unsound p e qs);
      alike = λ t. absurd (false≢true (sym e ∙ to_true (sound_of p) t));
    }
