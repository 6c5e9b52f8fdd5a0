-- Demand 3 for runs: requests come as bytes and answers as lines. Any runs are their lines, one after the other (`as_lines`); the answers
-- of a run are the lines of the events that it adds, in the same order (`lines_told`); and what demand 3 says holds of the page after
-- any runs from a sound page (`demand3_runs_from`), a fresh one among them (`demand3_runs`). Assumes nothing.
use Rattle.std.specs.Prelude.{Result, Ok, Err}
use Prim.Native.Nat.{ℕ}
use mathlib.Core.Path.{◌≡◌, refl, sym, ap, ◌∙◌}
use mathlib.Core.List.{List, [], ◌∷◌, ◌++◌, append_assoc, append-nil}
use lib.Dec.{T}
use lib.ListN.{length, drop}
use Rattle.page_record.specs.declared.Page.{Page}
use Rattle.page_record.specs.Pages.{fresh_page}
use Rattle.soundness.specs.Soundness.{sound_of}
use Rattle.soundness.proofs.FreshPage.{fresh_sound}
use Rattle.requests.specs.declared.Answer.{Answer}
use Rattle.requests.specs.declared.Refusal.{Refusal}
use Rattle.wire.specs.Answers.{line_of}
use Rattle.replay.specs.Turns.{turn_of}
use Rattle.replay.specs.Run.{requests_of, page_after, lines_of, run_verdict, ends, ran_of, answers_of}
use Rattle.replay.proofs.Lines.{answers_are}
use Rattle.demands.specs.History.{Event, left, line_event, by_line, run_history, Given, after_runs, lines_in, runs_history, all_lines, AsLines}
use Rattle.demands.specs.History.{answer_lines, start_of}
use Rattle.demands.specs.Demand3.{Demand3}
use Rattle.demands.proofs.Asked.{line_acts, left_on, happened_on}
use Rattle.demands.proofs.Demand3.{demand3_asked}

-- ---- runs are their lines
-- lines leave the page that a run of them ends with
pub lines_left : (p : Page) (rs : List (List ℕ)) → page_after p rs ≡ left by_line p rs
lines_left p [] = refl
lines_left p (r ∷ rs) = lines_left (turn_of p r).page rs

run_left : (p : Page) (requests : List ℕ) (v : Result (Unit {0}) Refusal) → (ends p requests v).page ≡ left by_line p (lines_in requests v)
run_left p requests (Ok _) = lines_left p (requests_of requests)
run_left p requests (Err why) = refl

pub as_lines : (p : Page) (gs : List Given) → AsLines p gs
unfolding ran_of
as_lines p [] = record { page = refl; history = λ past. refl }
as_lines p (g ∷ gs) =
    let v = run_verdict p (length g.requests) (length g.answers) in
    let now = lines_in g.requests v in
    let next = (ends p g.requests v).page in
    let more = all_lines next gs in
    let e = run_left p g.requests v in
    let rest = as_lines next gs in
    record {
      page = rest.page ∙ left_on by_line more next p now e;
      history = λ past. rest.history (run_history p now past) ∙ happened_on by_line more next p now past e;
    }

-- ---- the answer lines
-- the history's lines are the run's
lines_from : (p : Page) (rs : List (List ℕ)) (past : List Event) → answer_lines (run_history p rs past)
    ≡ answer_lines past ++ lines_of p rs
lines_from p [] past = sym (append-nil (answer_lines past))
lines_from p (r ∷ rs) past =
    let next = (turn_of p r).page in
    lines_from next rs (line_event p r ∷ past) ∙ append_assoc (answer_lines past) (line_of (turn_of p r).answer) (lines_of next rs)

-- the answers of an accepted run are the lines of the events that it adds, and what stood past them
pub lines_told : (p : Page) (requests answers : List ℕ) → (ran_of p requests answers).answer ≡ Answer.Accepted
    → answers_of p requests answers ≡ answer_lines (run_history p (requests_of requests) []) ++ drop (length requests) answers
lines_told p requests answers accepted =
    answers_are p requests answers accepted
    ∙ ap (λ (l : List ℕ). l ++ drop (length requests) answers) (sym (lines_from p (requests_of requests) []))

-- ---- demand 3
-- from any sound page, after any runs, refused ones among them
pub demand3_runs_from : (p : Page) → T (sound_of p) → (gs : List Given) → Demand3 (start_of p) (after_runs p gs) (runs_history p gs [])
demand3_runs_from p sound gs =
    let t = as_lines p gs in
    rw (t.page, t.history []) (demand3_asked by_line line_acts p sound (all_lines p gs))

-- from a fresh page
pub demand3_runs : (v : ℕ) (gs : List Given)
    → Demand3 (start_of (fresh_page v)) (after_runs (fresh_page v) gs) (runs_history (fresh_page v) gs [])
demand3_runs v = demand3_runs_from (fresh_page v) (fresh_sound v)
