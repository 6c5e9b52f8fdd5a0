-- Facts and tests of each number below a bound. A fact for each, given as a list, is picked by its number (`pick`): what is
-- shown of the steps one by one holds of the step that a request names. A test that every number passes, computed once, holds of
-- each (`each_below_lem`), and two tests that agree at every number agree at each (`agree_below`). Assumes nothing.
use Prim.Native.Nat.{ℕ, zero, suc, ◌<◌}
use mathlib.Core.Path.{◌≡◌, refl}
use mathlib.Core.Logic.{◌≢◌}
use mathlib.Core.Bool.{Bool, true, false, ◌&&◌, beq}
use native.Mathlib.Nat.{not-suc-le-zero, le_of_suc-le-suc}
use native.Mathlib.Omega.{arith}
use borrow.Author.Tests.{eqb-true, eqb-false}
use lib.Dec.{T, eqb}
use Rattle.laws.proofs.Tests.{halves, alike}

-- ---- facts
-- a fact of each number below k
abbrev pub Below : ℕ → (ℕ → Type 0) → Type 0
Below zero P = Unit {0}
Below (suc k) P = P 0 × Below k (λ n. P (suc n))

infixr 20 ◌&◌
abbrev pub ◌&◌ : {A B : Type 0} → A → B → A × B
a & b = (a, b)

pub pick : (k : ℕ) (P : ℕ → Type 0) → Below k P → (n : ℕ) → n < k → P n
pick zero P c n h = absurd (not-suc-le-zero h)
pick (suc k) P c zero h = c.0
pick (suc k) P c (suc n) h = pick k (λ m. P (suc m)) c.1 n (le_of_suc-le-suc h)

-- ---- tests
-- every number below k passes
abbrev pub each_below : (ℕ → Bool) → ℕ → Bool
each_below f zero = true
each_below f (suc k) = f k && each_below f k

pub each_below_lem : (f : ℕ → Bool) (k n : ℕ) → T (each_below f k) → n < k → T (f n)
each_below_lem f zero n t h = absurd (omega arith)
each_below_lem f (suc k) n t h =
    let u = halves (f k) (each_below f k) t in
    go (eqb n k) refl u.0 (each_below_lem f k n u.1)
  where
    go : (b : Bool) → eqb n k ≡ b → T (f k) → (n < k → T (f n)) → T (f n)
    go true e u rest = rw (eqb-true n k e) u
    go false e u rest = let d : n ≢ k = eqb-false n k e in rest (omega arith)

pub agree_below : (f g : ℕ → Bool) (k : ℕ) → T (each_below (λ n. beq (f n) (g n)) k) → (n : ℕ) → n < k → f n ≡ g n
agree_below f g k t n h = alike (f n) (g n) (each_below_lem (λ n. beq (f n) (g n)) k n t h)
