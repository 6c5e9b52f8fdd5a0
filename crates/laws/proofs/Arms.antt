-- What the last arm of a `match` on a number is told: that it is none of the numbers of the arms above (`NoneOf`, the latest
-- first). So it is past them where they are 0, 1, .. (`past`), and what a list has there is as if it had nothing at their
-- places (`elsewhere`, `copies_at`). Assumes nothing.
use Prim.Native.Nat.{ℕ, zero, suc, ◌≤◌, zero-le}
use mathlib.Core.List.{List, [], ◌∷◌}
use mathlib.Core.Path.{◌≡◌, refl, ◌∙◌}
use native.Mathlib.Omega.{arith}
use lib.ListN.{get_or, set, replicate}
use lib.Seq.{get_or-set_other}

abbrev pub NoneOf : List ℕ → ℕ → Type 0
NoneOf [] n = Unit {0}
NoneOf (k ∷ ks) n = NoneOf ks n × (n ≡ k → ⊥)

-- k - 1, .., 1, 0
abbrev pub down_from : ℕ → List ℕ
down_from zero = []
down_from (suc k) = k ∷ down_from k

pub past : (k n : ℕ) → NoneOf (down_from k) n → k ≤ n
past zero n none = zero-le
past (suc k) n none =
    let least : k ≤ n = past k n none.0 in
    let other : n ≡ k → ⊥ = none.1 in
    omega arith

module _ {A : Type 0} where
  abbrev keys : List (ℕ × A) → List ℕ
  keys [] = []
  keys (p ∷ ps) = p.0 ∷ keys ps

  -- a list with these put at these places
  abbrev pub puts : List A → List (ℕ × A) → List A
  puts xs [] = xs
  puts xs (p ∷ ps) = set (puts xs ps) p.0 p.1

  pub elsewhere : (xs : List A) (ps : List (ℕ × A)) (n : ℕ) (d : A)
      → NoneOf (keys ps) n → get_or (puts xs ps) n d ≡ get_or xs n d
  elsewhere xs [] n d none = refl
  elsewhere xs (p ∷ ps) n d none =
      get_or-set_other (puts xs ps) p.0 n p.1 d none.1 ∙ elsewhere xs ps n d none.0

  pub copies_at : (k n : ℕ) (a : A) → get_or (replicate k a) n a ≡ a
  copies_at zero n a = refl
  copies_at (suc k) zero a = refl
  copies_at (suc k) (suc n) a = copies_at k n a
