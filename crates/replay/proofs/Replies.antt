-- What the program writes: the lines of a run from a fresh page of value 0, or one line where the input is refused as a
-- whole; it lies within the buffer, and the bytes past it stay. In order: what each return of `reply` needs, one line, the
-- buffer, what is written out. Assumes nothing.
use Rattle.std.specs.Prelude.{Result, Ok, Err}
use Prim.Native.Nat.{ℕ, ◌<◌, ◌≤◌}
use mathlib.Core.Path.{◌≡◌, refl, ap, ◌∙◌, sym}
use mathlib.Core.Bool.{Bool, true, false, cond}
use mathlib.Core.List.{List, [], ◌∷◌, ◌++◌}
use native.Mathlib.Omega.{arith}
use types.Run.{OneOf, miss}
use denote.Enum.Declared.{tag_of}
use borrow.Author.Tests.{lt-ltb, le-ltb, lt-leb, le-leb, leb-true, leb-false}
use lib.Dec.{ltb, leb}
use lib.ListN.{length, drop, length-append, length-drop}
use lib.Seq.{drop_at, take_at}
use Rattle.kinds.specs.Limits.{line_size}
use Rattle.page_record.specs.declared.Page.{Page}
use Rattle.page_record.specs.Pages.{fresh_page}
use Rattle.requests.specs.declared.{Refusal.Refusal, Answer.Answer}
use Rattle.requests.specs.contracts.Answer as A
use Rattle.lock.specs.declared.Outcome.{Outcome}
use Rattle.wire.specs.Answers.{line_of}
use Rattle.wire.proofs.Lines.{length_line}
use Rattle.wire.proofs.Buffers.{put_fits, put_short}
use Rattle.replay.specs.Run.{requests_of, lines_of, run_verdict, ends, ran_of, answers_of}
use Rattle.replay.specs.Reply.{longest, too_long, input_verdict, refusal_length, refusal_bytes, length_for, bytes_for}
use Rattle.replay.specs.Reply.{reply_length, reply_bytes, written}
use Rattle.replay.proofs.Judged.{verdict_accepted, verdict_refused}
use Rattle.replay.proofs.Lines.{requests_fit, lines_fit, length_answers, answers_are, past_lines}
use Rattle.replay.proofs.Whole.{accepted_has, refused_untouched}

-- ---- the returns of `reply`
-- a run that is not refused passed
not_refused : (page : Page) (requests : List ℕ) (v : Result (Unit {0}) Refusal)
    → OneOf (0 ∷ 1 ∷ []) (tag_of A.the_type (ends page requests v).answer) → v ≡ Ok tt
not_refused page requests (Ok _) k = refl
not_refused page requests (Err why) k = absurd (miss (0 ∷ 1 ∷ []) 2 tt k)

module _ (kept out : List ℕ) (total : ℕ) where
  -- what is replied, by what the input as a whole comes to
  pub replies : (v : Result (Unit {0}) Refusal) → input_verdict kept total (length out) ≡ v
      → (length_for kept out v ≡ reply_length kept total out) × (bytes_for kept out v ≡ reply_bytes kept total out)
  unfolding reply_length reply_bytes
  replies v e = (ap (length_for kept out) (sym e), ap (bytes_for kept out) (sym e))

  pub input_long : longest < total → input_verdict kept total (length out) ≡ Err (too_long total)
  unfolding input_verdict
  input_long h = simp (lt-ltb _ _ h)

  pub input_kept : total ≤ longest → input_verdict kept total (length out) ≡ run_verdict (fresh_page 0) (length kept) (length out)
  unfolding input_verdict
  input_kept h = simp (le-ltb _ _ h)

  -- the input is longer than a run
  pub reply_long : (why : Refusal) (r : ℕ) (zs : List ℕ) → longest < total → why ≡ too_long total
      → r ≡ refusal_length out → zs ≡ refusal_bytes why out
      → (r ≡ reply_length kept total out) × (zs ≡ reply_bytes kept total out)
  reply_long why r zs h w e f =
      let t = replies (Err (too_long total)) (input_long h) in
      (e ∙ t.0, f ∙ ap (λ (x : Refusal). refusal_bytes x out) w ∙ t.1)

  module _ (page : Page) (ran : Outcome) (ys : List ℕ) (short : total ≤ longest) (fresh : page ≡ fresh_page 0)
      (end : ran ≡ ran_of page kept out) (lines : ys ≡ answers_of page kept out) where
    -- the input is judged as this run
    judged_so : input_verdict kept total (length out) ≡ run_verdict page (length kept) (length out)
    judged_so = input_kept short ∙ ap (λ (p : Page). run_verdict p (length kept) (length out)) (sym fresh)

    -- the run is accepted
    pub reply_ran : OneOf (0 ∷ 1 ∷ []) (tag_of A.the_type ran.answer)
        → (length kept ≡ reply_length kept total out) × (ys ≡ reply_bytes kept total out)
    unfolding ran_of
    reply_ran k =
        let v = not_refused page kept (run_verdict page (length kept) (length out)) (rw end at k) in
        let t = replies (Ok tt) (judged_so ∙ v) in
        (t.0, lines ∙ ap (λ (p : Page). answers_of p kept out) fresh ∙ t.1)

    -- the run is refused as a whole
    pub reply_refused : (why : Refusal) (r : ℕ) (zs : List ℕ) → ran.answer ≡ Answer.Refused why
        → r ≡ refusal_length ys → zs ≡ refusal_bytes why ys
        → (r ≡ reply_length kept total out) × (zs ≡ reply_bytes kept total out)
    reply_refused why r zs w e f =
        let u : (ran_of page kept out).answer ≡ Answer.Refused why = rw end at w in
        let v = verdict_refused page kept out why u in
        let same : ys ≡ out = lines ∙ (refused_untouched page kept out why u).1 in
        let t = replies (Err why) (judged_so ∙ v) in
        (e ∙ ap refusal_length same ∙ t.0, f ∙ ap (refusal_bytes why) same ∙ t.1)

-- ---- one line for the whole input
module _ (why : Refusal) (out : List ℕ) where
  refusal_fits : line_size ≤ length out
      → (refusal_length out ≡ line_size) × (refusal_bytes why out ≡ line_of (Answer.Refused why) ++ drop line_size out)
  refusal_fits h = (simp (le-leb _ _ h), (put_fits (line_of (Answer.Refused why)) out h).1)

  refusal_short : length out < line_size → (refusal_length out ≡ 0) × (refusal_bytes why out ≡ out)
  refusal_short h = (simp (lt-leb _ _ h), (put_short (line_of (Answer.Refused why)) out h).1)

-- ---- the buffer
-- what is replied lies within it, its length stays, and so do the bytes past what is replied
pub record Within (n : ℕ) (bytes out : List ℕ) : Type 0 where
  pub fits : n ≤ length bytes
  pub long : length bytes ≡ length out
  pub past : drop n bytes ≡ drop n out

refusal_within : (why : Refusal) (out : List ℕ) (t : Bool) → leb line_size (length out) ≡ t
    → Within (refusal_length out) (refusal_bytes why out) out
refusal_within why out true e =
    let h = leb-true line_size (length out) e in
    let f = refusal_fits why out h in
    let wide = length_line (Answer.Refused why) in
    let long : length (refusal_bytes why out) ≡ length out =
    ap length f.1 ∙ simp (length-append, length-drop) (omega arith) in
    record {
      fits = omega arith;
      long = long;
      past = rw (f.0, f.1) (drop_at (line_of (Answer.Refused why)) (drop line_size out) line_size wide);
    }
refusal_within why out false e =
    let f = refusal_short why out (leb-false line_size (length out) e) in
    record { fits = omega arith; long = ap length f.1; past = ap (drop (refusal_length out)) f.1 }

-- an input that passes is run
runs : (long : Bool) (why : Refusal) (v : Result (Unit {0}) Refusal) → cond long (Err why) v ≡ Ok tt → v ≡ Ok tt
runs true why v e = absurd (let z : ◌≡◌ {A = ℕ} 0 1 = cc in omega arith)
runs false why v e = e

module _ (kept out : List ℕ) (total : ℕ) where
  input_runs : input_verdict kept total (length out) ≡ Ok tt → (ran_of (fresh_page 0) kept out).answer ≡ Answer.Accepted
  unfolding input_verdict ran_of
  input_runs e =
      let run = run_verdict (fresh_page 0) (length kept) (length out) in
      ap (λ (v : Result (Unit {0}) Refusal). (ends (fresh_page 0) kept v).answer) (runs (ltb longest total) (too_long total) run e)

  within : (v : Result (Unit {0}) Refusal) → input_verdict kept total (length out) ≡ v → Within (length_for kept out v) (bytes_for kept out v) out
  within (Ok _) e =
      let a = input_runs e in
      let h = requests_fit (fresh_page 0) kept (length out) (verdict_accepted (fresh_page 0) kept out a) in
      let l = length_answers (fresh_page 0) kept out in
      record { fits = omega arith; long = l; past = past_lines (fresh_page 0) kept out }
  within (Err why) e = refusal_within why out (leb line_size (length out)) refl

  pub reply_within : Within (reply_length kept total out) (reply_bytes kept total out) out
  unfolding reply_length reply_bytes
  reply_within = within (input_verdict kept total (length out)) refl

  -- under sixteen bytes nothing fits, and the buffer stays as it was
  small : length out < line_size → (v : Result (Unit {0}) Refusal) → input_verdict kept total (length out) ≡ v → length_for kept out v ≡ 0
  small h (Ok _) e = let a = accepted_has (fresh_page 0) kept out (input_runs e) in omega arith
  small h (Err why) e = (refusal_short why out h).0

  pub reply_small : length out < line_size → (reply_length kept total out ≡ 0) × (reply_bytes kept total out ≡ out)
  unfolding reply_length
  reply_small h =
      let none = small h (input_verdict kept total (length out)) refl in
      let bytes = reply_bytes kept total out in
      (none, ap (λ (n : ℕ). drop n bytes) (sym none) ∙ reply_within.past ∙ ap (λ (n : ℕ). drop n out) none)

-- ---- what is written out
module _ (kept out : List ℕ) (total : ℕ) where
  -- the lines of an input that is run
  pub writes_lines : total ≤ longest → (ran_of (fresh_page 0) kept out).answer ≡ Answer.Accepted
      → written kept total out ≡ lines_of (fresh_page 0) (requests_of kept)
  writes_lines h a =
      let v = verdict_accepted (fresh_page 0) kept out a in
      let t = replies kept out total (Ok tt) (input_kept kept out total h ∙ v) in
      let lines = lines_of (fresh_page 0) (requests_of kept) in
      let fit = lines_fit (fresh_page 0) kept (length out) v in
      rw (← t.0, ← t.1, answers_are (fresh_page 0) kept out a) (take_at lines (drop (length kept) out) (length kept) fit)

  -- one line for an input that is refused as a whole
  writes_one : (why : Refusal) → input_verdict kept total (length out) ≡ Err why → line_size ≤ length out
      → written kept total out ≡ line_of (Answer.Refused why)
  writes_one why e h =
      let t = replies kept out total (Err why) e in
      let f = refusal_fits why out h in
      let answer = Answer.Refused why in
      rw (← t.0, ← t.1, f.0, f.1) (take_at (line_of answer) (drop line_size out) line_size (length_line answer))

  pub writes_refusal : (why : Refusal) → total ≤ longest → (ran_of (fresh_page 0) kept out).answer ≡ Answer.Refused why
      → line_size ≤ length out → written kept total out ≡ line_of (Answer.Refused why)
  writes_refusal why h e = writes_one why (input_kept kept out total h ∙ verdict_refused (fresh_page 0) kept out why e)

  -- for an input that is longer than a run it is 12 or 13, by its length alone
  pub writes_length : longest < total → line_size ≤ length out
      → written kept total out ≡ line_of (Answer.Refused (too_long total))
  writes_length h = writes_one (too_long total) (input_long kept out total h)
