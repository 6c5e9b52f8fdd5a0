-- A test that passes, as a type (`T` of lib.Dec) and as an equation: from one to the other (`is_true` .. `to_false`), a test of
-- two parts (`both`, `halves`, `and_iff`, `parts_true`), one that is denied (`not_both`, `not_either`), two tests that agree
-- (`alike`), a test `if !f(..)` from what f ensures of its result (`fails_by`, `holds_by`), and a test as a byte (`byte_is`) and
-- back (`byte_back`). Assumes nothing.
use Prim.Native.Nat.{ℕ}
use mathlib.Core.Path.{◌≡◌, refl, sym, subst, ◌∙◌}
use mathlib.Core.Logic.{◌↔◌}
use mathlib.Core.Bool.{Bool, true, false, not, cond, ◌&&◌, ◌||◌, beq, false≢true}
use mir.Val.{bool_byte}
use borrow.Author.Tests.{not-true, not-false}
use lib.Dec.{T, eqb}

-- ---- a type and an equation
pub is_true : {t : Bool} → t ≡ true → T t
is_true e = subst T (sym e) tt

pub to_true : (t : Bool) → T t → t ≡ true
to_true true h = refl
to_true false h = absurd h

pub is_false : {t : Bool} → t ≡ false → T (not t)
is_false e = subst (λ (t : Bool). T (not t)) (sym e) tt

pub to_false : (t : Bool) → T (not t) → t ≡ false
to_false true h = absurd h
to_false false h = refl

-- ---- two parts
pub both : (a b : Bool) → T a → T b → T (a && b)
both true b s t = t
both false b s t = s

pub halves : (a b : Bool) → T (a && b) → T a × T b
halves true b h = (tt, h)
halves false b h = absurd h

pub and_iff : (a b : Bool) → T (a && b) ↔ T a × T b
and_iff a b = (halves a b, λ h. both a b h.0 h.1)

-- as equations
pub parts_true : (a b : Bool) → (a && b) ≡ true → (a ≡ true) × (b ≡ true)
parts_true true b e = (refl, e)
parts_true false b e = absurd (false≢true e)

-- denied
pub not_both : (a b : Bool) → not (a && b) ≡ (not a || not b)
not_both true b = refl
not_both false b = refl

pub not_either : (a b : Bool) → not (a || b) ≡ (not a && not b)
not_either true b = refl
not_either false b = refl

-- ---- two tests that agree
pub alike : (a b : Bool) → T (beq a b) → a ≡ b
alike true true t = refl
alike true false t = absurd t
alike false true t = absurd t
alike false false t = refl

-- ---- a test `if !f(..)`
-- where it was taken
pub fails_by : {r t : Bool} → r ≡ t → not r ≡ true → t ≡ false
fails_by {r} e taken = sym e ∙ not-true r taken

-- where it was passed by
pub holds_by : {r t : Bool} → r ≡ t → not r ≡ false → t ≡ true
holds_by {r} e left = sym e ∙ not-false r left

-- ---- a test as a byte
pub byte_is : (t : Bool) → ◌≡◌ {A = ℕ} (bool_byte t) (cond t 1 0)
byte_is true = refl
byte_is false = refl

-- and back
pub byte_back : (t : Bool) → eqb (cond t 1 0) 1 ≡ t
byte_back true = refl
byte_back false = refl
