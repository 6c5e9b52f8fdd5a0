-- Laws of premises, in this order: what a verdict tells, premises that come after others, and what the premises of each
-- function come to by what its code finds out. Assumes nothing.
use Rattle.std.specs.Prelude.{Result, Ok, Err}
use Prim.Native.Nat.{ℕ}
use mathlib.Core.Path.{◌≡◌, refl, ap, ◌∙◌, sym}
use mathlib.Core.Bool.{Bool, true, false, cond, ◌&&◌, and-true}
use mathlib.Core.List.{List, [], ◌∷◌, ◌++◌}
use native.Mathlib.Omega.{arith}
use mir.Val.{bool_byte}
use borrow.Author.Tests.{eq-eqb, ne_eqb}
use lib.Dec.{eqb}
use lib.ListN.{length}
use Rattle.laws.proofs.Tests.{byte_is}
use Rattle.kinds.specs.Limits.{line_size}
use Rattle.requests.specs.declared.{Refusal.Refusal, Answer.Answer, Request.Request}
use Rattle.requests.specs.Answers.{answer_number, withdraws, answer_value}
use Rattle.requests.specs.Premises.{verdict}
use Rattle.requests.specs.Requests.{is_step, fields_fit, bucket_fits, formal, judged}
use Rattle.requests.proofs.Verdicts.{and_then, verdict_append}
use Rattle.wire.specs.Answers.{line_of}
use Rattle.wire.specs.Buffers.{room, answer_for, leaves, put_answer, put_to}
use Rattle.wire.specs.Bytes.{zeros_at, value_at, blank, part, line_with}
use Rattle.wire.specs.Requests.{bytes_of, fields_of, reading_of, read_of, or_bad_field, wrote_answer, wrote_to}

-- ---- what a verdict tells
-- a request that is read has passed, and a reading that is refused has failed for that reason
pub read_passed : (p q : Request) (v : Result (Unit {0}) Refusal) → reading_of p v ≡ Ok q → (v ≡ Ok tt) × (p ≡ q)
read_passed p q (Ok _) e = (refl, cc)
read_passed p q (Err why) e = absurd (let z : ◌≡◌ {A = ℕ} 0 1 = cc in omega arith)

-- the same of an answer
pub answer_passed : (v : Result (Unit {0}) Refusal) → answer_for v ≡ Answer.Accepted → v ≡ Ok tt
answer_passed (Ok _) e = refl
answer_passed (Err why) e = absurd (let z : ◌≡◌ {A = ℕ} 0 1 = cc in omega arith)

pub answer_failed : (v : Result (Unit {0}) Refusal) (why : Refusal) → answer_for v ≡ Answer.Refused why → v ≡ Err why
answer_failed (Ok _) why e = absurd (let z : ◌≡◌ {A = ℕ} 0 1 = cc in omega arith)
answer_failed (Err other) why e = cc

-- ---- premises that come after others
-- they decide where those before hold, and are not looked at elsewhere
pub then_next : (ps qs : List (Refusal × Bool)) → verdict ps ≡ Ok tt → verdict (ps ++ qs) ≡ verdict qs
then_next ps qs e = verdict_append ps qs ∙ ap (λ (v : Result (Unit {0}) Refusal). and_then v (verdict qs)) e

pub stops_first : (ps qs : List (Refusal × Bool)) (why : Refusal)
    → verdict ps ≡ Err why → verdict (ps ++ qs) ≡ Err why
stops_first ps qs why e = verdict_append ps qs ∙ ap (λ (v : Result (Unit {0}) Refusal). and_then v (verdict qs)) e

-- where all hold, those before do
pub holds_before : (ps qs : List (Refusal × Bool)) → verdict (ps ++ qs) ≡ Ok tt → verdict ps ≡ Ok tt
holds_before [] qs e = refl
holds_before ((why, true) ∷ ps) qs e = holds_before ps qs e
holds_before ((why, false) ∷ ps) qs e = e

-- ---- reading a request
-- numbers 2 to 4, with bytes 3 to 7 beside the fields, and without
abbrev beside : Bool → Bool → Bool → Bool → Result (Unit {0}) Refusal
beside step fields zeros bucket =
    verdict ((Refusal.UnknownStep, step) ∷ (Refusal.BadField, fields && zeros) ∷ (Refusal.BadBucket, bucket) ∷ [])

abbrev alone : Bool → Bool → Bool → Result (Unit {0}) Refusal
alone step fields bucket = verdict ((Refusal.UnknownStep, step) ∷ (Refusal.BadField, fields) ∷ (Refusal.BadBucket, bucket) ∷ [])

-- where they aren't zero, only 2 comes before 3
marked : (s f b : Bool) → beside s f false b ≡ Err (or_bad_field (alone s f b))
marked false f b = refl
marked true false b = refl
marked true true false = refl
marked true true true = refl

module _ (l : List ℕ) where
  abbrev q : Request
  q = fields_of l

  -- what is read, by what the length and bytes 3 to 7 are found to be
  abbrev reads : Bool → Bool → Result Request Refusal
  reads long zeros =
      let judges = beside (is_step q.step) (fields_fit q) zeros (bucket_fits q) in
      reading_of q (cond long judges (Err Refusal.NotWhole))

  found : (long zeros : Bool) → eqb (length l) line_size ≡ long → blank (part zeros_at value_at l) ≡ zeros
      → read_of l ≡ reads long zeros
  unfolding read_of
  found long zeros h z = ap (λ (t : Bool). reads t (blank (part zeros_at value_at l))) h ∙ ap (reads long) z

  pub read_ragged : (length l ≡ line_size → ⊥) → Err Refusal.NotWhole ≡ read_of l
  read_ragged h = sym (found false (blank (part zeros_at value_at l)) (ne_eqb (length l) line_size h) refl)

  pub read_fields : length l ≡ line_size → blank (part zeros_at value_at l) ≡ true → reading_of q (judged q) ≡ read_of l
  unfolding judged
  read_fields h z =
      ap (λ (t : Bool). reading_of q (alone (is_step q.step) t (bucket_fits q))) (sym (and-true (fields_fit q)))
      ∙ sym (found true true (eq-eqb (length l) line_size h) z)

  pub read_marked : length l ≡ line_size → blank (part zeros_at value_at l) ≡ false
      → Err (or_bad_field (judged q)) ≡ read_of l
  unfolding judged
  read_marked h z =
      ap (reading_of q) (sym (marked (is_step q.step) (fields_fit q) (bucket_fits q)))
      ∙ sym (found true false (eq-eqb (length l) line_size h) z)

-- ---- writing a request
module _ (q : Request) (l : List ℕ) where
  -- what the fields are refused for is answered, and the buffer stays
  pub write_refused : (why : Refusal) → judged q ≡ Err why
      → (Answer.Refused why ≡ wrote_answer q l) × (l ≡ wrote_to q l)
  unfolding judged wrote_answer wrote_to
  write_refused why e =
      let v = stops_first (formal q) (room l ∷ []) why e in
      (ap answer_for (sym v), ap (λ (w : Result (Unit {0}) Refusal). leaves line_size w (bytes_of q) l) (sym v))

  -- where the fields fit, the room decides
  pub write_granted : (r : Answer) (ys : List ℕ) → judged q ≡ Ok tt
      → r ≡ put_answer l → ys ≡ put_to (line_with q.step q.bucket.0 q.clean q.value) l
      → (r ≡ wrote_answer q l) × (ys ≡ wrote_to q l)
  unfolding judged wrote_answer wrote_to bytes_of put_answer put_to
  write_granted r ys e f g =
      let v = then_next (formal q) (room l ∷ []) e in
      (f ∙ ap answer_for (sym v), g ∙ ap (λ (w : Result (Unit {0}) Refusal). leaves line_size w (bytes_of q) l) (sym v))

-- ---- writing an answer
-- the sixteen bytes of an answer's number, mark and value are its line
pub write_line : (a : Answer) (l : List ℕ) (number value : ℕ) (mark : Bool) (ys : List ℕ)
    → number ≡ answer_number a → mark ≡ withdraws a → value ≡ answer_value a
    → ys ≡ put_to (line_with number (bool_byte mark) 0 value) l → ys ≡ put_to (line_of a) l
unfolding line_of
write_line a l number value mark ys n m v e = e ∙ rw (n, m, v, byte_is (withdraws a))
