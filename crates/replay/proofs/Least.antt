-- The run as a whole gives the first number that applies to it (`run_number`), and each of its lines, on a sound page, the first
-- that applies to its bytes there (`line_number`). A run's own answer carries no value (`run_plain`). Assumes nothing.
use Rattle.std.specs.Prelude.{Result, Ok, Err}
use Prim.Native.Nat.{ℕ, ◌*◌, ◌/◌}
use mathlib.Core.Path.{◌≡◌, refl, sym, ap, ◌∙◌}
use mathlib.Core.Bool.{true, false, not-not}
use mathlib.Core.List.{List, ◌++◌}
use native.Mathlib.Omega.{arith}
use lib.ListN.{length}
use Rattle.laws.specs.Tables.{first_applying}
use Rattle.laws.proofs.Orders.{leb_ltb}
use Rattle.laws.proofs.Tables.{first_before, first_after}
use Rattle.kinds.specs.Limits.{line_size, most_requests}
use Rattle.page_record.specs.declared.Page.{Page}
use Rattle.soundness.specs.Soundness.{sound_of}
use Rattle.requests.specs.declared.{Refusal.Refusal, Request.Request}
use Rattle.requests.specs.Answers.{verdict_number, answer_number, withdraws}
use Rattle.requests.specs.Applies.{applying_fields}
use Rattle.requests.proofs.Verdicts.{verdict_number_lem}
use Rattle.requests.proofs.Reasons.{refusal_above}
use Rattle.requests.proofs.Least.{judged_number}
use Rattle.lock.specs.declared.Outcome.{Outcome}
use Rattle.lock.specs.Applies.{applying_step, applying}
use Rattle.lock.proofs.Least.{least_number}
use Rattle.wire.specs.Requests.{fields_of, reading_number, read_of}
use Rattle.wire.specs.Applies.{applying_bytes}
use Rattle.wire.proofs.Least.{read_whole, answer_number_lem, answer_plain}
use Rattle.wire.proofs.Trips.{accepted}
use Rattle.replay.specs.Turns.{turn_of}
use Rattle.replay.specs.Run.{whole_premises, run_verdict, ran_of}
use Rattle.replay.specs.Applies.{applying_run, applying_line}
use Rattle.replay.proofs.Judged.{ends_answer}
use Rattle.replay.proofs.Pages.{turn_read, turn_refused}

-- ---- the run as a whole
module _ (p : Page) (requests answers : List ℕ) where
  pub run_number : answer_number (ran_of p requests answers).answer ≡ first_applying (applying_run p requests answers)
  unfolding ran_of run_verdict
  run_number =
      let v = run_verdict p (length requests) (length answers) in
      let many = leb_ltb (length requests / line_size) most_requests in
      let short = leb_ltb (line_size * (length requests / line_size)) (length answers) in
      ap answer_number (sym (ends_answer p requests v))
      ∙ answer_number_lem v
      ∙ verdict_number_lem (whole_premises (sound_of p) (length requests) (length answers))
      ∙ rw (many, short) (simp not-not)

  pub run_plain : withdraws (ran_of p requests answers).answer ≡ false
  unfolding ran_of
  run_plain =
      let v = run_verdict p (length requests) (length answers) in
      ap withdraws (sym (ends_answer p requests v)) ∙ answer_plain v

-- ---- one line
module _ (p : Page) (l : List ℕ) (sound : sound_of p ≡ true) (whole : length l ≡ line_size) where
  -- what is read as a request is answered by its step: of its fields and of its bytes no number applies
  line_read : (q : Request) → read_of l ≡ Ok q
      → answer_number (turn_of p l).answer ≡ first_applying (applying_bytes l ++ applying_step p (fields_of l))
  line_read q e =
      let a = accepted l q e in
      let fields = sym (judged_number q) ∙ ap verdict_number a.fits in
      let bytes = sym (read_whole l whole) ∙ ap reading_number e in
      let passed : first_applying (applying p q) ≡ first_applying (applying_step p q) =
      rw sound (first_after (applying_fields q) (applying_step p q) tt fields) in
      ap (λ (o : Outcome). answer_number o.answer) (turn_read p l q e)
      ∙ least_number p q
      ∙ passed
      ∙ sym (first_after (applying_bytes l) (applying_step p q) tt bytes)
      ∙ ap (λ (x : Request). first_applying (applying_bytes l ++ applying_step p x)) (sym a.fields)

  -- what is not is refused for the first number that applies to its bytes
  line_refused : (why : Refusal) → read_of l ≡ Err why
      → answer_number (turn_of p l).answer ≡ first_applying (applying_bytes l ++ applying_step p (fields_of l))
  line_refused why e =
      let here = sym (read_whole l whole) ∙ ap reading_number e in
      ap (λ (o : Outcome). answer_number o.answer) (turn_refused p l why e)
      ∙ sym (first_before (applying_bytes l) (applying_step p (fields_of l)) (omega (arith, here, refusal_above why)) ∙ here)

  pub line_number : answer_number (turn_of p l).answer ≡ first_applying (applying_line p l)
  line_number = rw sound (go (read_of l) refl)
    where
      go : (r : Result Request Refusal) → read_of l ≡ r
          → answer_number (turn_of p l).answer ≡ first_applying (applying_bytes l ++ applying_step p (fields_of l))
      go (Ok q) e = line_read q e
      go (Err why) e = line_refused why e
