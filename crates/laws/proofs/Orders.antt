-- Comparisons as tests: "at most" is "not above" (`leb_ltb`, `leb_zero`); and up to a limit, "is the limit" is "not below it"
-- (`limit_not_below`, `limit_reached`). Assumes nothing.
use Prim.Native.Nat.{ℕ, zero, suc, ◌≤◌, ◌<◌}
use mathlib.Core.Path.{◌≡◌, refl, sym, ◌∙◌}
use mathlib.Core.Bool.{Bool, true, false, not}
use native.Mathlib.Omega.{arith}
use borrow.Author.Tests.{lt-ltb, le-ltb, lt-leb, ne_eqb, leb-true, leb-false, eqb-true, eqb-false}
use lib.Dec.{eqb, ltb, leb}

-- a number is at most another just if that one is not below it
pub leb_ltb : (a b : ℕ) → leb a b ≡ not (ltb b a)
leb_ltb a b = go (leb a b) refl
  where
    go : (t : Bool) → leb a b ≡ t → leb a b ≡ not (ltb b a)
    go true e =
        let h = leb-true a b e in
        rw (e, le-ltb b a h)
    go false e =
        let h = leb-false a b e in
        rw (e, lt-ltb b a h)

pub leb_zero : (a : ℕ) → leb a 0 ≡ eqb a 0
leb_zero zero = refl
leb_zero (suc a) = rw (lt-leb (suc a) 0 (omega arith), ne_eqb (suc a) 0 (λ e. omega arith))

-- where it is at most the limit, it is the limit just if it is not below it
pub limit_not_below : (a b : ℕ) → a ≤ b → eqb a b ≡ not (ltb a b)
limit_not_below a b h = go (eqb a b) refl
  where
    go : (t : Bool) → eqb a b ≡ t → eqb a b ≡ not (ltb a b)
    go true e =
        let k = eqb-true a b e in
        let l : b ≤ a = omega arith in
        rw (e, le-ltb a b l)
    go false e =
        let k = eqb-false a b e in
        let l : a < b = omega arith in
        rw (e, lt-ltb a b l)

pub limit_reached : (a b : ℕ) → a ≤ b → eqb a b ≡ leb b a
limit_reached a b h = limit_not_below a b h ∙ sym (leb_ltb b a)
