-- Tables of numbers, each beside whether it applies: the first that applies is the one that is given. Rules count their number
-- from the first to the last; replies name theirs.
use Rattle.std.specs.Prelude.{ℕ, ◌+◌, ◌<◌, ◌≡◌, Bool, true, false, cond, ◌&&◌, ◌||◌, List, [], ◌∷◌, eqb, ltb}

-- ---- tests that are counted
-- the number of the first test that fails, counted from n; 0 where none does
abbrev pub first_broken : ℕ → List Bool → ℕ
first_broken n [] = 0
first_broken n (t ∷ ts) = cond t (first_broken (n + 1) ts) n

-- ---- numbers that are named
-- the first number that applies; 0 where none does
abbrev pub first_applying : List (ℕ × Bool) → ℕ
first_applying [] = 0
first_applying (c ∷ cs) = cond c.1 c.0 (first_applying cs)

-- whether the number n applies; one that the table does not have never does
abbrev pub applies_in : List (ℕ × Bool) → ℕ → Bool
applies_in [] n = false
applies_in (c ∷ cs) n = eqb c.0 n && c.1 || applies_in cs n

-- the number n applies, and no lower one does
pub record Lowest (table : List (ℕ × Bool)) (n : ℕ) : Type 0 where
  pub applies : applies_in table n ≡ true
  pub none_lower : (m : ℕ) → m < n → applies_in table m ≡ false

-- the numbers go up, from above n
abbrev pub ascending : ℕ → List (ℕ × Bool) → Bool
ascending n [] = true
ascending n (c ∷ cs) = ltb n c.0 && ascending c.0 cs
