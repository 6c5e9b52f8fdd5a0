-- Which fields each step takes (RULES 3.2), and what is asked of a request whatever the record is: numbers 2 to 4.
use Rattle.std.specs.Prelude.{ℕ, Result, ◌+◌, Bool, cond, ◌&&◌, ◌||◌, not, List, [], ◌∷◌, eqb, ltb, leb}
use Rattle.kinds.specs.Limits.{buckets}
use Rattle.requests.specs.declared.{Refusal.Refusal, Request.Request}
use Rattle.requests.specs.Premises.{verdict}

-- the highest step number
abbrev pub last_step : ℕ
last_step = 30

-- the first number that names no step
abbrev pub past_last : ℕ
past_last = last_step + 1

abbrev pub is_step : ℕ → Bool
is_step n = leb 1 n && leb n last_step

-- 4, 13 and 18 to 24 take a bucket
abbrev pub takes_bucket : ℕ → Bool
takes_bucket n = eqb n 4 || eqb n 13 || leb 18 n && leb n 24

-- 6 takes clean
abbrev pub takes_clean : ℕ → Bool
takes_clean n = eqb n 6

-- 4, 9, 10, 16, 17, 22, 29 and 30 take a value
abbrev pub takes_value : ℕ → Bool
takes_value n = eqb n 4 || eqb n 9 || eqb n 10 || eqb n 16 || eqb n 17 || eqb n 22 || eqb n 29 || eqb n 30

-- a field that the step doesn't take is zero, and clean is at most 1
abbrev pub fields_fit : Request → Bool
fields_fit q =
    (takes_bucket q.step || eqb q.bucket.0 0)
    && leb q.clean (cond (takes_clean q.step) 1 0)
    && (takes_value q.step || eqb q.value 0)

-- a bucket that is taken is 0 to 3
abbrev pub bucket_fits : Request → Bool
bucket_fits q = not (takes_bucket q.step) || ltb q.bucket.0 buckets

-- numbers 2, 3 and 4
abbrev pub formal : Request → List (Refusal × Bool)
formal q =
    (Refusal.UnknownStep, is_step q.step) ∷ (Refusal.BadField, fields_fit q) ∷ (Refusal.BadBucket, bucket_fits q) ∷ []

unfoldable pub judged : Request → Result (Unit {0}) Refusal
judged q = verdict (formal q)
