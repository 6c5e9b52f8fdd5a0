-- Numbers as bytes, low byte first, and the one form that a request and an answer share: sixteen bytes, of which the first
-- three are small numbers, five are zero, and eight are a value.
use Rattle.std.specs.Prelude.{ℕ, zero, suc, ◌+◌, ◌-◌, ◌*◌, ◌/◌, ◌%◌, ◌^◌, ◌<◌, Bool, List, [], ◌∷◌, ◌++◌, eqb, take, drop, get_or}
use Rattle.laws.specs.Lists.{every}

-- ---- the places of a line
-- where its five zeros begin
abbrev pub zeros_at : ℕ
zeros_at = 3

-- where its value begins
abbrev pub value_at : ℕ
value_at = 8

-- what a value is below: it is eight bytes
abbrev pub value_limit : ℕ
value_limit = 256 ^ 8

-- ---- numbers and bytes
-- each is below 256; what lies past the end counts as 0
abbrev pub Bytes : List ℕ → Type 0
Bytes l = (i : ℕ) → get_or l i 0 < 256

-- the number that the bytes say
abbrev pub number : List ℕ → ℕ
number [] = 0
number (b ∷ bs) = b + 256 * number bs

-- the n low bytes of a number
abbrev pub low_bytes : ℕ → ℕ → List ℕ
low_bytes zero v = []
low_bytes (suc n) v = v % 256 ∷ low_bytes n (v / 256)

-- the bytes are all zero
abbrev pub blank : List ℕ → Bool
blank l = every (λ b. eqb b 0) l

-- the bytes from a place up to another
abbrev pub part : ℕ → ℕ → List ℕ → List ℕ
part from to l = take (to - from) (drop from l)

-- a line: bytes 0, 1 and 2, five zeros, and a value in the last eight
unfoldable pub line_with : ℕ → ℕ → ℕ → ℕ → List ℕ
line_with a b c v = (a ∷ b ∷ c ∷ 0 ∷ 0 ∷ 0 ∷ 0 ∷ 0 ∷ []) ++ low_bytes 8 v
