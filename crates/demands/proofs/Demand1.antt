-- Demand 1, proved: each number is the first of its table that applies, by the theorems of `lock`, `wire` and `replay`, and the
-- tables go up, so it is the lowest (`laws`); the rest is the run's. Assumes nothing.
use Rattle.std.specs.Prelude.{Result, Ok, Err}
use Prim.Native.Nat.{ℕ, ◌*◌, ◌/◌, ◌<◌}
use mathlib.Core.Path.{◌≡◌, refl, sym, ap, ◌∙◌}
use mathlib.Core.Logic.{◌↔◌}
use mathlib.Core.Bool.{Bool, false, true≢false}
use mathlib.Core.List.{List}
use native.Mathlib.Omega.{arith}
use lib.Dec.{T}
use lib.ListN.{length, take, drop, length-drop}
use lib.Seq.{length-take-le}
use Rattle.laws.specs.Tables.{first_applying, applies_in}
use Rattle.laws.proofs.Tests.{to_true, is_true}
use Rattle.laws.proofs.Tables.{first_lowest, first_none}
use Rattle.kinds.specs.Limits.{line_size}
use Rattle.page_record.specs.declared.Page.{Page}
use Rattle.soundness.specs.Soundness.{sound_of}
use Rattle.requests.specs.declared.{Answer.Answer, Request.Request}
use Rattle.requests.specs.declared.Refusal.{Refusal}
use Rattle.requests.specs.Answers.{answer_number, withdraws}
use Rattle.requests.proofs.Reasons.{refusal_above}
use Rattle.lock.specs.declared.Outcome.{Outcome}
use Rattle.lock.proofs.Keeps.{refused_keeps_all}
use Rattle.lock.proofs.Least.{least_number, number_first, number_none}
use Rattle.wire.specs.Requests.{fields_of, reading_number, read_of}
use Rattle.wire.specs.Applies.{applying_bytes, applying_write}
use Rattle.wire.proofs.Least.{read_whole, read_ragged_number, write_number, write_plain}
use Rattle.wire.proofs.Trips.{accepted}
use Rattle.wire.proofs.Buffers.{write_past, write_untouched}
use Rattle.replay.specs.Turns.{turn_of}
use Rattle.replay.specs.Run.{requests_of, line_at, page_at, ran_of}
use Rattle.replay.specs.Applies.{applying_run, applying_line}
use Rattle.replay.proofs.Pages.{refused_turn, run_keeps, page_next, page_all}
use Rattle.replay.proofs.Lines.{line_at_lem, page_end, past_lines}
use Rattle.replay.proofs.Whole.{accepted_has, refused_untouched}
use Rattle.replay.proofs.Least.{run_number, run_plain, line_number}
use Rattle.demands.specs.Demand1.{Demand1, Demand1Read, Demand1Write, Demand1Run}

-- ---- one request
pub demand1 : (p : Page) (q : Request) → Demand1 p q
demand1 p q = record {
  lowest = least_number p q;
  given = number_first p q;
  accepted = number_none p q;
  untouched = refused_keeps_all p q;
}

-- ---- an answer without a value, and a reading, by their numbers
-- accepted just if the number is 0
plain_zero : (a : Answer) → withdraws a ≡ false → (a ≡ Answer.Accepted) ↔ (answer_number a ≡ 0)
plain_zero Answer.Accepted w = (λ e. refl, λ e. refl)
plain_zero (Answer.Withdrew v) w = absurd (true≢false w)
plain_zero (Answer.Refused why) w = (λ e. ap answer_number e, λ e. absurd (omega (arith, e, refusal_above why)))

-- accepted just if no number of the table applies
pub accepts_none : (a : Answer) (cs : List (ℕ × Bool)) → withdraws a ≡ false → answer_number a ≡ first_applying cs
    → ((first_applying cs ≡ 0) ↔ ((n : ℕ) → applies_in cs n ≡ false)) → (a ≡ Answer.Accepted) ↔ ((n : ℕ) → applies_in cs n ≡ false)
accepts_none a cs plain e none = (
  λ f. none.0 (sym e ∙ (plain_zero a plain).0 f),
  λ f. (plain_zero a plain).1 (e ∙ none.1 f),
)

-- a reading of number 0 is a request
zero_read : (l : List ℕ) → reading_number (read_of l) ≡ 0 → read_of l ≡ Ok (fields_of l)
zero_read l e = go (read_of l) refl
  where
    go : (r : Result Request Refusal) → read_of l ≡ r → read_of l ≡ Ok (fields_of l)
    go (Ok q) f = f ∙ ap Ok (sym (accepted l q f).fields)
    go (Err why) f = absurd (omega (arith, sym (ap reading_number f) ∙ e, refusal_above why))

pub demand1_read : (l : List ℕ) → Demand1Read l
demand1_read l = record {
  ragged = read_ragged_number l;
  given = λ h n k. rw (read_whole l h) (first_lowest (applying_bytes l) tt n k);
  accepted = (there, λ t. zero_read l (read_whole l t.0 ∙ (first_none (applying_bytes l) tt).1 t.1));
  fields = λ q e. (accepted l q e).fields;
}
  where
    there : read_of l ≡ Ok (fields_of l) → (length l ≡ line_size) × ((n : ℕ) → applies_in (applying_bytes l) n ≡ false)
    there e =
        let whole = (accepted l (fields_of l) e).whole in
        (whole, (first_none (applying_bytes l) tt).0 (sym (read_whole l whole) ∙ ap reading_number e))

pub demand1_write : (q : Request) (buffer : List ℕ) → Demand1Write q buffer
demand1_write q buffer = record {
  given = λ n k. rw (write_number q buffer) (first_lowest (applying_write q buffer) tt n k);
  accepted = accepts_none _ (applying_write q buffer) (write_plain q buffer) (write_number q buffer)
      (first_none (applying_write q buffer) tt);
  untouched = write_untouched q buffer;
  past = write_past q buffer;
}

-- ---- a run
length_line_at : (requests : List ℕ) (k : ℕ) → k < length requests / line_size → length (line_at k requests) ≡ line_size
length_line_at requests k h = length-take-le line_size (drop (line_size * k) requests) (simp length-drop (omega arith))

-- lines that are answered from a sound page on are answered by the lowest number that applies
pub line_first : (p : Page) (requests : List ℕ) → T (sound_of p) → (k : ℕ) → k < length requests / line_size
    → answer_number (turn_of (page_at k p requests) (line_at k requests)).answer
    ≡ first_applying (applying_line (page_at k p requests) (line_at k requests))
line_first p requests sound k h =
    let here = to_true (sound_of (page_at k p requests)) (run_keeps p (take k (requests_of requests)) sound) in
    line_number (page_at k p requests) (line_at k requests) here (length_line_at requests k h)

module _ (p : Page) (requests answers : List ℕ) where
  sound_start : (ran_of p requests answers).answer ≡ Answer.Accepted → T (sound_of p)
  sound_start e = is_true (accepted_has p requests answers e).sound

  pub demand1_run : Demand1Run p requests answers
  demand1_run = record {
    whole = λ n k. rw (run_number p requests answers) (first_lowest (applying_run p requests answers) tt n k);
    whole_accepted = accepts_none _ (applying_run p requests answers) (run_plain p requests answers)
        (run_number p requests answers) (first_none (applying_run p requests answers) tt);
    whole_untouched = λ why e.
        let r = refused_untouched p requests answers why e in
        (ap (λ (o : Outcome). o.page) r.0, r.1);
    lines = line_at_lem p requests answers;
    line = λ e k h n j.
        rw (line_first p requests (sound_start e) k h) (first_lowest (applying_line (page_at k p requests) (line_at k requests)) tt n j);
    line_accepted = λ e k h.
        rw (line_first p requests (sound_start e) k h) (first_none (applying_line (page_at k p requests) (line_at k requests)) tt);
    next = page_next p requests;
    refused_line = λ k h why e. page_next p requests k h ∙ refused_turn (page_at k p requests) (line_at k requests) why e;
    page = λ e. page_end p requests answers e ∙ sym (page_all p requests);
    past = past_lines p requests answers;
  }
