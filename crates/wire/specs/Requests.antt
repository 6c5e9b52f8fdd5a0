-- A request as sixteen bytes, and what reading and writing one answer (RULES 5.1, 5.3 and 5.4).
use Rattle.std.specs.Prelude.{ℕ, Result, Ok, Err, ◌<◌, Bool, cond, ◌&&◌, List, [], ◌∷◌, ◌++◌, eqb, ltb, length, get_or}
use Rattle.kinds.specs.Limits.{line_size}
use Rattle.requests.specs.declared.{Refusal.Refusal, Request.Request, Answer.Answer}
use Rattle.requests.specs.Answers.{refusal_number}
use Rattle.requests.specs.Premises.{verdict}
use Rattle.requests.specs.Requests.{is_step, fields_fit, bucket_fits, formal}
use Rattle.wire.specs.Bytes.{zeros_at, value_at, value_limit, number, blank, part, line_with}
use Rattle.wire.specs.Buffers.{room, answer_for, leaves}

-- byte 0 step, 1 bucket, 2 clean, 3 to 7 zero, 8 to 15 value
unfoldable pub bytes_of : Request → List ℕ
bytes_of q = line_with q.step q.bucket.0 q.clean q.value

-- the fields are as wide as the code holds them
pub record InRange (q : Request) : Type 0 where
  pub step : q.step < 256
  pub bucket : q.bucket.0 < 256
  pub clean : q.clean < 256
  pub value : q.value < value_limit

-- ---- reading
-- the fields at their places
abbrev pub fields_of : List ℕ → Request
fields_of l =
    record {
      step = get_or l 0 0;
      bucket = record { 0 = get_or l 1 0 };
      clean = get_or l 2 0;
      value = number (part value_at line_size l);
    }

-- what is asked of the bytes: 12 first, then 2 to 4
abbrev pub readable : List ℕ → List (Refusal × Bool)
readable l =
    (Refusal.NotWhole, eqb (length l) line_size)
    ∷ (Refusal.UnknownStep, is_step (fields_of l).step)
    ∷ (Refusal.BadField, fields_fit (fields_of l) && blank (part zeros_at value_at l))
    ∷ (Refusal.BadBucket, bucket_fits (fields_of l))
    ∷ []

-- a refusal gives no request
abbrev pub reading_of : Request → Result (Unit {0}) Refusal → Result Request Refusal
reading_of q (Ok _) = Ok q
reading_of q (Err why) = Err why

-- its number (RULES 4.1): 0 where there is a request
abbrev pub reading_number : Result Request Refusal → ℕ
reading_number (Ok q) = 0
reading_number (Err why) = refusal_number why

unfoldable pub read_of : List ℕ → Result Request Refusal
read_of l = reading_of (fields_of l) (verdict (readable l))

-- where bytes 3 to 7 aren't zero: the lower of 3 and what is wrong with the fields
abbrev pub or_bad_field : Result (Unit {0}) Refusal → Refusal
or_bad_field (Ok _) = Refusal.BadField
or_bad_field (Err why) = cond (ltb (refusal_number Refusal.BadField) (refusal_number why)) Refusal.BadField why

-- ---- writing
-- what is asked of a request and of the buffer that it is written into: 2 to 4, then 14
abbrev pub writable : Request → List ℕ → List (Refusal × Bool)
writable q l = formal q ++ room l ∷ []

-- what is answered, and what the buffer holds then
unfoldable pub wrote_answer : Request → List ℕ → Answer
wrote_answer q l = answer_for (verdict (writable q l))

unfoldable pub wrote_to : Request → List ℕ → List ℕ
wrote_to q l = leaves line_size (verdict (writable q l)) (bytes_of q) l
