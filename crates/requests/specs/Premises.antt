-- Premises: a list of tests, each with the reason that is given where it fails. They stand in the order of their numbers, so the
-- first that fails gives the lowest number that applies.
use Rattle.std.specs.Prelude.{Bool, Result, Ok, Err, cond, List, [], ◌∷◌, T}
use Rattle.requests.specs.declared.Refusal.{Refusal}

-- the first premise that fails
abbrev pub verdict : List (Refusal × Bool) → Result (Unit {0}) Refusal
verdict [] = (Ok tt)
verdict (c ∷ cs) = cond c.1 (verdict cs) (Err c.0)

-- all premises hold
abbrev pub Passes : List (Refusal × Bool) → Type 0
Passes [] = Unit {0}
Passes (c ∷ cs) = T c.1 × Passes cs
