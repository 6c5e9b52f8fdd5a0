-- Lists of anything: how many entries pass a test, whether all do, a list without one of its entries, one that is cut into parts, and
-- two lists that differ in their order alone. And whether a number is one of a list.
use Rattle.std.specs.Prelude.{ℕ, zero, suc, ◌+◌, ◌-◌, ◌≡◌, Bool, false, cond, ◌||◌, List, [], ◌∷◌, ◌++◌, eqb, length, take, drop}
use Rattle.std.specs.List.{list_all}

-- how many entries pass the test
abbrev pub tally : {A : Type 0} → (A → Bool) → List A → ℕ
tally test [] = 0
tally test (x ∷ xs) = cond (test x) 1 0 + tally test xs

-- whether all entries pass the test
abbrev pub every : {A : Type 0} → (A → Bool) → List A → Bool
every test l = list_all test l

-- the last entry put first, and then the others in their order
abbrev pub last_first : {A : Type 0} → List A → List A
last_first l = drop (length l - 1) l ++ take (length l - 1) l

-- the list without its entry at a place: the last one fills the gap
abbrev pub without : {A : Type 0} → ℕ → List A → List A
without at l = take at l ++ last_first (drop (at + 1) l)

-- its first n parts of w entries each
abbrev pub cut : {A : Type 0} → ℕ → ℕ → List A → List (List A)
cut w zero l = []
cut w (suc n) l = take w l ∷ cut w n (drop w l)

-- the same entries, in whatever order: every test passes as often in the one list as in the other
pub record Rearranged {A : Type 0} (l m : List A) : Type 0 where
  pub tallies : (test : A → Bool) → tally test l ≡ tally test m

-- n is one of these numbers
abbrev pub among : List ℕ → ℕ → Bool
among [] n = false
among (x ∷ xs) n = eqb n x || among xs n
