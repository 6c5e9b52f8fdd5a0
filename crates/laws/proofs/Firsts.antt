-- The first of a list of tests that fails (`first_broken`): none does just if all pass (`none_broken`), and the number is the lowest of
-- the tests' numbers (`numbered`) that applies (`broken_lowest`). Assumes nothing.
use Prim.Native.Nat.{ℕ, ◌+◌, ◌<◌, ◌≤◌}
use mathlib.Core.Path.{◌≡◌, refl}
use mathlib.Core.Logic.{◌↔◌}
use mathlib.Core.Bool.{Bool, true, false, not}
use mathlib.Core.List.{List, [], ◌∷◌}
use native.Mathlib.Omega.{arith}
use borrow.Author.Tests.{ne_eqb}
use lib.Dec.{T, eqb, ltb, lt→ltb}
use Rattle.laws.specs.Lists.{every}
use Rattle.laws.specs.Tables.{first_broken, first_applying, ascending, Lowest}
use Rattle.laws.proofs.Tests.{both}
use Rattle.laws.proofs.Tables.{first_lowest}

-- no test fails just if all pass
pub none_broken : (n : ℕ) (ts : List Bool) → 0 < n → eqb (first_broken n ts) 0 ≡ every (λ t. t) ts
none_broken n [] h = refl
none_broken n (true ∷ ts) h = none_broken (n + 1) ts (omega arith)
none_broken n (false ∷ ts) h = ne_eqb n 0 (λ e. omega arith)

-- ---- as a table
-- the tests with their numbers, counted from n: a number applies where its test fails
abbrev pub numbered : ℕ → List Bool → List (ℕ × Bool)
numbered n [] = []
numbered n (t ∷ ts) = (n, not t) ∷ numbered (n + 1) ts

broken_applying : (n : ℕ) (ts : List Bool) → first_broken n ts ≡ first_applying (numbered n ts)
broken_applying n [] = refl
broken_applying n (true ∷ ts) = broken_applying (n + 1) ts
broken_applying n (false ∷ ts) = refl

goes_up : (low n : ℕ) (ts : List Bool) → low < n → T (ascending low (numbered n ts))
goes_up low n [] h = tt
goes_up low n (t ∷ ts) h =
    both (ltb low n) (ascending n (numbered (n + 1) ts)) (lt→ltb low n h) (goes_up n (n + 1) ts (omega arith))

-- counted from 1, n is given just if its test fails and no earlier one does
pub broken_lowest : (ts : List Bool) (n : ℕ) → 1 ≤ n → (first_broken 1 ts ≡ n) ↔ Lowest (numbered 1 ts) n
broken_lowest ts n h = rw (broken_applying 1 ts) (first_lowest (numbered 1 ts) (goes_up 0 1 ts (omega arith)) n h)
