-- When each of the numbers 2, 3 and 4 applies to a request, in the words of RULES 4.1 and 3.2: no premise list stands here. That
-- the judgement of a request's fields gives the lowest of them is `judged_number` (proofs/Least.antt).
use Rattle.std.specs.Prelude.{ℕ, Bool, not, cond, ◌&&◌, ◌||◌, List, [], ◌∷◌, eqb, ltb}
use Rattle.laws.specs.Lists.{among}
use Rattle.kinds.specs.Limits.{buckets}
use Rattle.requests.specs.declared.Request.{Request}
use Rattle.requests.specs.Requests.{last_step}

-- ---- the fields that a step takes
abbrev pub bucket_taken : ℕ → Bool
bucket_taken n = among (4 ∷ 13 ∷ 18 ∷ 19 ∷ 20 ∷ 21 ∷ 22 ∷ 23 ∷ 24 ∷ []) n

abbrev pub clean_taken : ℕ → Bool
clean_taken n = eqb n 6

abbrev pub value_taken : ℕ → Bool
value_taken n = among (4 ∷ 9 ∷ 10 ∷ 16 ∷ 17 ∷ 22 ∷ 29 ∷ 30 ∷ []) n

-- ---- when each number applies
-- 2: the step is not 1 to 30
abbrev pub applies2 : Request → Bool
applies2 q = eqb q.step 0 || ltb last_step q.step

-- 3: a field that is not taken is not zero, or clean is above 1
abbrev pub applies3 : Request → Bool
applies3 q =
    (not (bucket_taken q.step) && not (eqb q.bucket.0 0))
    || cond (clean_taken q.step) (ltb 1 q.clean) (not (eqb q.clean 0))
    || (not (value_taken q.step) && not (eqb q.value 0))

-- 4: a bucket is taken, and it is above 3
abbrev pub applies4 : Request → Bool
applies4 q = bucket_taken q.step && not (ltb q.bucket.0 buckets)

-- the three, in a table
abbrev pub applying_fields : Request → List (ℕ × Bool)
applying_fields q = (2, applies2 q) ∷ (3, applies3 q) ∷ (4, applies4 q) ∷ []
