-- Words that several statements use: steps by what they do (RULES 3.2 and 9).
use Rattle.std.specs.Prelude.{ℕ, List, [], ◌∷◌}

-- one more at the bucket that the request names
abbrev pub raising : List ℕ
raising = 13 ∷ 18 ∷ 19 ∷ []

-- a reader leaves
abbrev pub leaving : List ℕ
leaving = 20 ∷ 21 ∷ 22 ∷ []

-- an exclusive holder gets the bucket that the request names
abbrev pub naming : List ℕ
naming = 4 ∷ 18 ∷ []

-- an exclusive holder leaves, and with it a reference at its bucket, if it has one
abbrev pub giving_back : List ℕ
giving_back = 25 ∷ 29 ∷ 30 ∷ []

-- one more reader in the list
abbrev pub listing : List ℕ
listing = 9 ∷ 16 ∷ 19 ∷ 26 ∷ []

-- the page is put in
abbrev pub putting_in : List ℕ
putting_in = 9 ∷ 10 ∷ 16 ∷ 17 ∷ 29 ∷ 30 ∷ []

-- .. by an exclusive holder
abbrev pub putting_back : List ℕ
putting_back = 9 ∷ 10 ∷ 29 ∷ 30 ∷ []

-- the page is handed out
abbrev pub handing_out : List ℕ
handing_out = 8 ∷ 11 ∷ 12 ∷ []

-- .. to a loader
abbrev pub fetching : List ℕ
fetching = 11 ∷ 12 ∷ []
