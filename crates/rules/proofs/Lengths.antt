-- What the lengths of the record's arrays give: a test of all four entries is four tests (`every_four`), no count of listed
-- readers is above the capacity (`tally_live`), and a holder has at most one reference at a bucket (`ref_le`). Assumes nothing.
use Rattle.std.specs.Prelude.{Option, Some, None}
use Prim.Native.Nat.{ℕ, ◌≤◌}
use mathlib.Core.Path.{◌≡◌, ap, ◌∙◌}
use mathlib.Core.Bool.{Bool, ◌&&◌, and_assoc, and-true}
use mathlib.Core.List.{List}
use native.Mathlib.Omega.{arith}
use lib.Dec.{eqb}
use lib.ListN.{length, get_or, length-take}
use Rattle.laws.specs.Lists.{tally, every}
use Rattle.laws.proofs.Lists.{one_le, tally_le, four_are}
use Rattle.kinds.specs.declared.Reader.{Reader}
use Rattle.kinds.specs.declared.Bucket.{Bucket}
use Rattle.kinds.specs.Limits.{buckets, capacity}
use Rattle.readers.specs.declared.Readers.{Readers}
use Rattle.readers.specs.Listed.{live}
use Rattle.page_record.specs.References.{ref_at}

-- ---- an array of four
pub every_four : {A : Type 0} (test : A → Bool) (d : A) (l : List A) → length l ≡ buckets
    → every test l ≡ (test (get_or l 0 d) && test (get_or l 1 d) && test (get_or l 2 d) && test (get_or l 3 d))
every_four test d l e = ap (every test) (four_are l d e) ∙ simp (and_assoc, and-true)

-- ---- the references at a bucket
-- a holder adds at most one
pub ref_le : (m : Option Bucket) (b : ℕ) → ref_at m b ≤ 1
ref_le None b = omega arith
ref_le (Some bucket) b = one_le (eqb bucket.0 b)

module _ (rs : Readers) (full : length rs.items ≡ capacity) where
  pub tally_live : (test : Reader → Bool) → tally test (live rs) ≤ capacity
  tally_live test =
      let h : length (live rs) ≤ capacity = simp length-take (omega arith) in
      omega (arith, tally_le test (live rs))
