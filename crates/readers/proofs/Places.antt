-- What a removal leaves, place by place and test by test (`places`): the array after it has two entries set (`removed_items`, and by
-- what `remove` tests, `removed_is`), and its list is without the one (`live_removed`). Assumes nothing.
use Prim.Native.Nat.{ℕ, ◌+◌, ◌-◌, ◌<◌, ◌≤◌}
use mathlib.Core.Path.{◌≡◌, ◌∙◌}
use mathlib.Core.Bool.{Bool, cond}
use mathlib.Core.List.{List, ◌∷◌}
use native.Mathlib.Omega.{arith}
use lib.Dec.{T, leb, ltb, leb→le, ltb→lt, le→leb, lt→ltb}
use lib.ListN.{length, drop, get_or, set, length-set}
use lib.Seq.{get_or-set_same, get_or-set_other, get_or-take, take_at}
use Rattle.laws.specs.Lists.{tally, without}
use Rattle.laws.proofs.Tests.{to_true, both, halves}
use Rattle.laws.proofs.Lists.{length_without, filled, tally_without}
use Rattle.kinds.specs.declared.Reader.{Reader}
use Rattle.kinds.specs.Limits.{capacity}
use Rattle.readers.specs.declared.Readers.{Readers}
use Rattle.readers.specs.Listed.{live, blank_reader, placed, removed_at}
use Rattle.readers.specs.Places.{entry, GapFilled}
use Rattle.readers.proofs.Bridge.{length_live}

module _ (rs : Readers) (at : ℕ) (full : length rs.items ≡ capacity) (here : T (placed rs at)) where
  fits : rs.len ≤ capacity
  fits = leb→le rs.len capacity (halves (leb rs.len capacity) (ltb at rs.len) here).0

  inside : at < rs.len
  inside = ltb→lt at rs.len (halves (leb rs.len capacity) (ltb at rs.len) here).1

  -- the last one over the reader that goes, and a blank where it stood
  abbrev moved : List Reader
  moved = set rs.items at (entry rs (rs.len - 1))

  pub removed_items : removed_at rs at ≡ record { items = set moved (rs.len - 1) blank_reader; len = rs.len - 1 }
  unfolding removed_at
  removed_items =
      rw (to_true (placed rs at) here, filled rs.items at rs.len blank_reader blank_reader inside (omega (arith, fits)))

  live_removed : live (removed_at rs at) ≡ without at (live rs)
  unfolding removed_at
  live_removed =
      let n : length (live rs) ≡ rs.len = length_live rs full fits in
      let k = inside in
      let e : length (without at (live rs)) ≡ rs.len - 1 = omega (arith, length_without (live rs) at (omega arith)) in
      rw (to_true (placed rs at) here)
      (take_at (without at (live rs)) (blank_reader ∷ drop rs.len rs.items) (rs.len - 1) e)

  tallies_fall : (test : Reader → Bool) → tally test (live (removed_at rs at)) + cond (test (entry rs at)) 1 0 ≡ tally test (live rs)
  tallies_fall test =
      let n : length (live rs) ≡ rs.len = length_live rs full fits in
      let k = inside in
      rw (live_removed, ← get_or-take rs.len rs.items at blank_reader inside)
      (tally_without test (live rs) at blank_reader (omega arith))

  pub places : GapFilled rs at (removed_at rs at)
  places =
      let f = fits in
      let k = inside in
      rw removed_items
      record {
        one_less = omega arith;
        gap = λ h.
            get_or-set_other moved (rs.len - 1) at blank_reader blank_reader (λ e. omega arith)
            ∙ get_or-set_same rs.items at (entry rs (rs.len - 1)) blank_reader (omega arith);
        others = λ place h other.
            get_or-set_other moved (rs.len - 1) place blank_reader blank_reader (λ e. omega arith)
            ∙ get_or-set_other rs.items at place (entry rs (rs.len - 1)) blank_reader other;
        tallies = λ test. rw removed_items at (tallies_fall test);
        freed = get_or-set_same moved (rs.len - 1) blank_reader blank_reader (rw length-set (omega arith));
        past = λ place h.
            get_or-set_other moved (rs.len - 1) place blank_reader blank_reader (λ e. omega arith)
            ∙ get_or-set_other rs.items at place (entry rs (rs.len - 1)) blank_reader (λ e. omega arith);
      }

-- the array after it, by what its function tests
pub removed_is : (rs : Readers) (at : ℕ) → length rs.items ≡ capacity → rs.len ≤ capacity → at < rs.len
    → removed_at rs at
    ≡ record { items = set (set rs.items at (get_or rs.items (rs.len - 1) blank_reader)) (rs.len - 1) blank_reader; len = rs.len - 1 }
removed_is rs at full h k = removed_items rs at full (both (leb rs.len capacity) (ltb at rs.len) (le→leb _ _ h) (lt→ltb _ _ k))
