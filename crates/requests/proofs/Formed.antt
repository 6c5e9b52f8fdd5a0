-- A request that is judged well formed has a step of at most the last, a bucket from 0 to 3 and a clean of 0 or 1, whether its step
-- takes them or not (`formed`). Assumes nothing.
use Rattle.std.specs.Prelude.{Ok}
use Prim.Native.Nat.{ℕ, ◌<◌, ◌≤◌}
use mathlib.Core.Path.{◌≡◌}
use mathlib.Core.Bool.{Bool, true, false, not, cond, ◌&&◌, ◌||◌}
use native.Mathlib.Omega.{arith}
use lib.Dec.{T, eqb, ltb, leb, eqb→eq, leb→le, ltb→lt}
use Rattle.laws.proofs.Tests.{halves}
use Rattle.kinds.specs.Limits.{buckets}
use Rattle.requests.specs.declared.Request.{Request}
use Rattle.requests.specs.Requests.{last_step, past_last, is_step, takes_bucket, takes_clean, takes_value, formal}
use Rattle.requests.specs.Requests.{judged}
use Rattle.requests.proofs.Verdicts.{passed}

-- ---- a request that is judged well formed
pub step_most : (n : ℕ) → T (is_step n) → n ≤ last_step
step_most n t = leb→le n last_step (halves (leb 1 n) (leb n last_step) t).1

pub step_below : (n : ℕ) → T (is_step n) → n < past_last
step_below n t = omega (arith, step_most n t)

-- its step is at most the last, its bucket 0 to 3 and its clean 0 or 1, whether its step takes them or not
pub record Formed (q : Request) : Type 0 where
  pub most : q.step ≤ last_step
  pub bucket : q.bucket.0 < buckets
  pub clean : q.clean ≤ 1

pub formed : (q : Request) → judged q ≡ Ok tt → Formed q
unfolding judged
formed q e =
    let p = passed (formal q) e in
    let n = q.step in
    let bucket = takes_bucket n || eqb q.bucket.0 0 in
    let clean = leb q.clean (cond (takes_clean n) 1 0) in
    let fields = halves bucket clean (halves (bucket && clean) (takes_value n || eqb q.value 0) p.1.0).0 in
    record {
      most = step_most n p.0;
      bucket = bucket_below (takes_bucket n) fields.0 p.1.1.0;
      clean = clean_below (takes_clean n) fields.1;
    }
  where
    bucket_below : (takes : Bool) → T (takes || eqb q.bucket.0 0) → T (not takes || ltb q.bucket.0 buckets)
        → q.bucket.0 < buckets
    bucket_below true s t = ltb→lt q.bucket.0 buckets t
    bucket_below false s t = omega (arith, eqb→eq q.bucket.0 0 s)

    clean_below : (takes : Bool) → T (leb q.clean (cond takes 1 0)) → q.clean ≤ 1
    clean_below true t = leb→le q.clean 1 t
    clean_below false t = omega (arith, leb→le q.clean 0 t)
