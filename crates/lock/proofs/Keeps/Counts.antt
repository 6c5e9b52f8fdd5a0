-- Rule 5 apart from who holds what: the counts agree with a number of references for each bucket. They still do where these
-- stay the same, where one comes and its count is raised, and where one goes and its count is lowered; or where a holder goes, and
-- one is taken off its bucket, if it has one. Assumes nothing.
use Rattle.std.specs.Prelude.{Option, Some, None}
use Prim.Native.Nat.{ℕ, ◌+◌, ◌-◌, ◌≤◌, ◌<◌}
use mathlib.Core.Path.{◌≡◌, refl, sym, ap}
use mathlib.Core.Bool.{Bool, true, false, cond}
use mathlib.Core.List.{List}
use native.Mathlib.Omega.{arith}
use borrow.Author.Tests.{eqb-true, eqb-false, eq-eqb}
use lib.Dec.{T, eqb, ltb→lt}
use lib.ListN.{length, length-set}
use lib.Seq.{get_or-set_same, get_or-set_other}
use Rattle.kinds.specs.declared.Count.{Count}
use Rattle.kinds.specs.declared.Bucket.{Bucket}
use Rattle.kinds.specs.Limits.{buckets, ceiling}
use Rattle.page_record.specs.Holders.{valid_bucket}
use Rattle.page_record.specs.Pages.{number_at}
use Rattle.page_record.specs.References.{ref_at}
use Rattle.heads.specs.Setters.{with_number, raise, lower, lower_if}

-- 1 at the bucket a, 0 elsewhere
abbrev pub one : ℕ → ℕ → ℕ
one a b = cond (eqb a b) 1 0

one_same : (a : ℕ) → one a a ≡ 1
one_same a = simp (eq-eqb a a refl)

-- ---- the number at a bucket, after a change at a
module _ (cs : List Count) (a n : ℕ) where
  pub set_there : a < length cs → number_at (with_number a n cs) a ≡ n
  set_there k = ap (λ (c : Count). c.0) (get_or-set_same cs a (record { 0 = n }) (record { 0 = 0 }) k)

  pub set_others : (b : ℕ) → (b ≡ a → ⊥) → number_at (with_number a n cs) b ≡ number_at cs b
  set_others b e = ap (λ (c : Count). c.0) (get_or-set_other cs a b (record { 0 = n }) (record { 0 = 0 }) e)

module _ (cs : List Count) (a b : ℕ) (k : a < length cs) where
  pub number_raise : number_at (raise a cs) b ≡ number_at cs b + one a b
  number_raise = go (eqb a b) refl
    where
      go : (t : Bool) → eqb a b ≡ t → number_at (raise a cs) b ≡ number_at cs b + cond t 1 0
      go true e = rw (← eqb-true a b e) (omega (arith, set_there cs a (number_at cs a + 1) k))
      go false e = omega (arith, set_others cs a (number_at cs a + 1) b (λ p. eqb-false a b e (sym p)))

  pub number_lower : 1 ≤ number_at cs a → number_at (lower a cs) b + one a b ≡ number_at cs b
  number_lower some = go (eqb a b) refl
    where
      go : (t : Bool) → eqb a b ≡ t → number_at (lower a cs) b + cond t 1 0 ≡ number_at cs b
      go true e = rw (← eqb-true a b e) (omega (arith, set_there cs a (number_at cs a - 1) k))
      go false e = omega (arith, set_others cs a (number_at cs a - 1) b (λ p. eqb-false a b e (sym p)))

  few_raise : ((x : ℕ) → number_at cs x ≤ ceiling) → number_at cs a < ceiling → number_at (raise a cs) b ≤ ceiling
  few_raise few under = go (eqb a b) refl number_raise
    where
      go : (t : Bool) → eqb a b ≡ t → number_at (raise a cs) b ≡ number_at cs b + cond t 1 0 → number_at (raise a cs) b ≤ ceiling
      go true e r = omega (arith, ap (number_at cs) (eqb-true a b e))
      go false e r = omega (arith, few b)

-- ---- counts that agree with the references
pub record Counts (cs : List Count) (refs : ℕ → ℕ) : Type 0 where
  pub four : length cs ≡ buckets
  pub few : (b : ℕ) → number_at cs b ≤ ceiling
  pub equal : (b : ℕ) → b < buckets → number_at cs b ≡ refs b

module _ {cs : List Count} {refs : ℕ → ℕ} (c : Counts cs refs) {refs' : ℕ → ℕ} where
  pub same_counts : ((b : ℕ) → refs' b ≡ refs b) → Counts cs refs'
  same_counts e = record { four = c.four; few = c.few; equal = λ b k. omega (arith, c.equal b k, e b) }

  module _ (a : ℕ) (k : a < buckets) where
    pub raised_counts : number_at cs a < ceiling → ((b : ℕ) → refs' b ≡ refs b + one a b) → Counts (raise a cs) refs'
    raised_counts under e =
        let j : a < length cs = omega (arith, c.four) in
        record {
          four = simp length-set c.four;
          few = λ b. few_raise cs a b j c.few under;
          equal = λ b i. omega (arith, c.equal b i, e b, number_raise cs a b j);
        }

    pub lowered_counts : ((b : ℕ) → refs' b + one a b ≡ refs b) → Counts (lower a cs) refs'
    lowered_counts e =
        let j : a < length cs = omega (arith, c.four) in
        let some : 1 ≤ number_at cs a = omega (arith, c.equal a k, e a, one_same a) in
        record {
          four = simp length-set c.four;
          few = λ b. omega (arith, c.few b, number_lower cs a b j some);
          equal = λ b i. omega (arith, c.equal b i, e b, number_lower cs a b j some);
        }

-- a holder with bucket m goes
pub left_counts : {cs : List Count} {refs refs' : ℕ → ℕ} → Counts cs refs → (m : Option Bucket) → T (valid_bucket m)
    → ((b : ℕ) → refs' b + ref_at m b ≡ refs b) → Counts (lower_if m cs) refs'
left_counts c None ok e = same_counts c (λ b. omega (arith, e b))
left_counts c (Some a) ok e = lowered_counts c a.0 (ltb→lt a.0 buckets ok) e
