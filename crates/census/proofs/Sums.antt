-- The census counts the list: over any list the three phases at a bucket are all that stand there (`phases_sum`), and no one
-- phase is more (`phase_le`); so for a sound page each row of the census sums to the shared references at its bucket
-- (`census_sums`), which the ceiling keeps few (`listed_few`), and for one that is not sound every entry is 0
-- (`census_zeros`). Assumes nothing.
use Prim.Native.Nat.{ℕ, ◌+◌, ◌≤◌, ◌<◌}
use mathlib.Core.Path.{◌≡◌, refl}
use mathlib.Core.Bool.{Bool, true, false, cond, ◌&&◌}
use mathlib.Core.List.{List, [], ◌∷◌}
use native.Mathlib.Omega.{arith}
use lib.Dec.{T, eqb}
use lib.ListN.{get_or, replicate}
use Rattle.laws.proofs.Lists.{one_le}
use Rattle.laws.proofs.Tests.{is_true, to_true}
use Rattle.laws.proofs.Pick.{◌&◌, pick}
use Rattle.kinds.specs.declared.{Phase.Phase, Reader.Reader}
use Rattle.kinds.specs.Limits.{buckets, ceiling}
use Rattle.kinds.specs.Numbers.{phase_number}
use Rattle.readers.specs.Listed.{live, is_at, count_at, count_in}
use Rattle.page_record.specs.declared.Page.{Page}
use Rattle.page_record.specs.Pages.{number_at}
use Rattle.page_record.specs.References.{count_shared_refs}
use Rattle.soundness.specs.Soundness.{sound_of}
use Rattle.soundness.proofs.Tested.{facts}
use Rattle.census.specs.Census.{census_row, census_rows, census_of}

-- ---- any list
-- a reader is in one phase
one_phase : (at : Bool) (p : Phase)
    → cond (at && eqb (phase_number p) 1) 1 0 + cond (at && eqb (phase_number p) 2) 1 0 + cond (at && eqb (phase_number p) 3) 1 0
    ≡ cond at 1 0
one_phase false p = refl
one_phase true Phase.Pending = refl
one_phase true Phase.Pending2 = refl
one_phase true (Phase.Obtained value) = refl

pub phases_sum : (b : ℕ) (l : List Reader) → count_in b 1 l + count_in b 2 l + count_in b 3 l ≡ count_at b l
phases_sum b [] = refl
phases_sum b (r ∷ l) = omega (arith, phases_sum b l, one_phase (is_at b r) r.phase)

-- and one phase of a reader is no more than the reader
one_of : (at phase : Bool) → cond (at && phase) 1 0 ≤ cond at 1 0
one_of false phase = omega arith
one_of true phase = one_le phase

pub phase_le : (b phase : ℕ) (l : List Reader) → count_in b phase l ≤ count_at b l
phase_le b phase [] = omega arith
phase_le b phase (r ∷ l) = omega (arith, phase_le b phase l, one_of (is_at b r) (eqb (phase_number r.phase) phase))

-- ---- pages
module _ (p : Page) where
  pub listed_few : T (sound_of p) → (b : ℕ) → b < buckets → count_at b (live p.readers) ≤ ceiling
  listed_few s b h =
      let parts = (facts p s).parts in
      omega (arith, parts.counts b h, parts.few b)

  pub few_where_sound : sound_of p ≡ true → (b : ℕ) → b < buckets → count_at b (live p.readers) ≤ ceiling
  few_where_sound e = listed_few (is_true e)

  pub census_row_lem : T (sound_of p) → (b : ℕ) → b < buckets → get_or (census_of p) b [] ≡ census_row (live p.readers) b
  unfolding census_of
  census_row_lem s b h =
      let l = live p.readers in
      simp (to_true (sound_of p) s)
      (pick buckets (λ b. get_or (census_rows l) b [] ≡ census_row l b) (refl & refl & refl & refl & tt) b h)

  pub census_sums : T (sound_of p) → (b : ℕ) → b < buckets
      → number_at (get_or (census_of p) b []) 0 + number_at (get_or (census_of p) b []) 1 + number_at (get_or (census_of p) b []) 2
      ≡ count_shared_refs (live p.readers) b
  census_sums s b h = rw (census_row_lem s b h) (phases_sum b (live p.readers))

  pub census_zeros : sound_of p ≡ false → census_of p ≡ replicate buckets (replicate 3 (record { 0 = 0 }))
  unfolding census_of
  census_zeros e = simp e
