-- Soundness under two limits of which the lower are nowhere above the higher: a page is sound under the lower just if it is sound under
-- the higher, lists no more readers than they let it and has no higher count (`sound_between`). So soundness is monotone in the limits
-- (`sound_monotone`), and whoever judges by smaller limits than today's needs no second judge, only two bounds (`sound_under_lem`).
-- Assumes nothing.
use Prim.Native.Nat.{ℕ, ◌≤◌}
use mathlib.Core.Path.{◌≡◌, refl}
use mathlib.Core.Bool.{Bool, true, false, ◌&&◌, and_assoc, and-true}
use mathlib.Core.List.{List}
use native.Mathlib.Omega.{arith}
use lib.Dec.{T, leb, leb→le, le→leb}
use Rattle.laws.proofs.Tests.{and_iff, halves}
use Rattle.laws.proofs.Lists.{every_mono}
use Rattle.laws.proofs.Firsts.{none_broken}
use Rattle.kinds.specs.declared.Count.{Count}
use Rattle.kinds.specs.Limits.{capacity, ceiling, Limits, today}
use Rattle.page_record.specs.declared.Page.{Page}
use Rattle.page_record.specs.Pages.{head_of}
use Rattle.rules.specs.Rules.{counts_under, limits_under}
use Rattle.soundness.specs.Soundness.{rules_under, sound_under, fits_under, sound_of}

-- two tests, each of which follows from the other
same_tests : (a b : Bool) → (T a → T b) → (T b → T a) → a ≡ b
same_tests true true f g = refl
same_tests true false f g = absurd (f tt)
same_tests false true f g = absurd (g tt)
same_tests false false f g = refl

raised : (n low high : ℕ) → low ≤ high → T (leb n low) → T (leb n high)
raised n low high h t = let k = leb→le n low t in le→leb n high (omega arith)

module _ (low high : Limits) (p : Page) (fewer : low.readers ≤ high.readers) (lower : low.count ≤ high.count) where
  abbrev cs : List Count
  cs = p.ref_counts

  counts_raised : T (counts_under low.count cs) → T (counts_under high.count cs)
  counts_raised t =
      every_mono (λ (c : Count). leb c.0 low.count) (λ (c : Count). leb c.0 high.count) cs
      (λ c. raised c.0 low.count high.count lower) t

  -- rule 8
  rule_between : limits_under low (head_of p) p.readers ≡ (limits_under high (head_of p) p.readers && fits_under low p)
  rule_between =
      same_tests _ _
      (λ t.
      let r = simp and_iff at t in
      let few = raised p.readers.len low.readers high.readers fewer r.1.0.0.0 in
      simp and_iff
      (((counts_raised r.0.0, r.0.1), (((few, r.1.0.0.1), r.1.0.1), r.1.1)), (r.1.0.0.0, r.0.0)))
      (λ t.
      let r = simp and_iff at t in
      let rule = r.0 in
      simp and_iff ((r.1.1, rule.0.1), (((r.1.0, rule.1.0.0.1), rule.1.0.1), rule.1.1)))

  pub sound_between : sound_under low p ≡ (sound_under high p && fits_under low p)
  sound_between =
      rw (
        none_broken 1 (rules_under low (head_of p) p.readers) (omega arith),
        none_broken 1 (rules_under high (head_of p) p.readers) (omega arith),
        rule_between,
      )
      (simp (and_assoc, and-true))

  pub sound_monotone : T (sound_under low p) → T (sound_under high p)
  sound_monotone t = (halves (sound_under high p) (fits_under low p) (rw (← sound_between) t)).0

-- today's limits are the higher
pub sound_under_lem : (limits : Limits) (p : Page) → limits.readers ≤ capacity → limits.count ≤ ceiling
    → sound_under limits p ≡ (sound_of p && fits_under limits p)
unfolding sound_of
sound_under_lem limits p fewer lower = sound_between limits today p fewer lower
