-- Laws of bytes that are compared: `==` of std compares them so, and where they are the same they are equal. Assumes nothing.
use Prim.Native.Nat.{ℕ}
use mathlib.Core.List.{List, [], ◌∷◌}
use mathlib.Core.Path.{◌≡◌, refl, ap}
use mathlib.Core.Bool.{Bool, true, ◌&&◌}
use borrow.Author.Tests.{eqb-true, eq-eqb}
use lib.Dec.{T, eqb}
use lib.Pointwise.{pointwise}
use Rattle.laws.proofs.Tests.{to_true, halves}
use Rattle.image.specs.Keeping.{same_bytes}

pub same_is : (a b : List ℕ) → pointwise eqb a b ≡ same_bytes a b
same_is [] [] = refl
same_is [] (y ∷ ys) = refl
same_is (x ∷ xs) [] = refl
same_is (x ∷ xs) (y ∷ ys) = ap (λ (t : Bool). eqb x y && t) (same_is xs ys)

-- ---- the same bytes are equal ones
pub same_equal : (a b : List ℕ) → T (same_bytes a b) → a ≡ b
same_equal [] [] t = refl
same_equal [] (y ∷ ys) t = absurd t
same_equal (x ∷ xs) [] t = absurd t
same_equal (x ∷ xs) (y ∷ ys) t =
    let h = halves (eqb x y) (same_bytes xs ys) t in
    let e = eqb-true x y (to_true (eqb x y) h.0) in
    let f = same_equal xs ys h.1 in
    cc

pub same_refl : (a : List ℕ) → same_bytes a a ≡ true
same_refl [] = refl
same_refl (x ∷ xs) = rw (eq-eqb x x refl) (same_refl xs)
