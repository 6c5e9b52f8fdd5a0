-- The second table of RULES 10: the list itself, exactly, as removals leave it. And where closing the gap would leave another.
use Rattle.std.specs.Prelude.{ℕ, Bool, ◌&&◌, List, [], ◌∷◌, ◌++◌}
use Rattle.kinds.specs.declared.{Flag.Flag, Phase.Phase, Reader.Reader}
use Rattle.page_record.specs.Pages.{fresh_page}
use Rattle.requests.specs.declared.Request.{Request}
use Rattle.demands.specs.History.{after}
use Rattle.demands.specs.Cases.{Row, ask, plain, at, put, flag_is, list_is, obtained_at, pending_at, ok, out}
use Rattle.demands.specs.Order.{after_closing}

-- ---- readers, as the table has them
abbrev pub P : ℕ → Reader
P b = pending_at b

abbrev pub Q : ℕ → Reader
Q b = record { phase = Phase.Pending2; bucket = record { 0 = b } }

abbrev pub R : ℕ → Reader
R b = obtained_at b 5

-- ---- the rows
-- the page is made available with 5
abbrev pub opened : List Row
opened = out (plain 12) 0 [] ∷ ok (put 17 5) (flag_is Flag.Available ∷ []) ∷ []

-- an accepted request, and the list that it leaves
abbrev pub leaves : Request → List Reader → Row
leaves q l = ok q (list_is l ∷ [])

-- from the middle, the last one, one of two, the only one
abbrev pub four_leave : List Row
four_leave =
    opened
    ++ ok (at 19 0) []
    ∷ ok (at 19 1) []
    ∷ ok (at 19 2) []
    ∷ leaves (at 19 3) (P 0 ∷ P 1 ∷ P 2 ∷ P 3 ∷ [])
    ∷ leaves (at 20 1) (P 0 ∷ P 3 ∷ P 2 ∷ [])
    ∷ leaves (at 20 2) (P 0 ∷ P 3 ∷ [])
    ∷ leaves (at 20 0) (P 3 ∷ [])
    ∷ leaves (at 20 3) []
    ∷ []

-- the first of two equal ones goes; one that comes stands at the end, and one that changes its phase keeps its place
abbrev pub first_of_two : List Row
first_of_two =
    opened
    ++ ok (at 19 0) []
    ∷ ok (at 19 1) []
    ∷ ok (at 19 0) []
    ∷ ok (at 19 2) []
    ∷ leaves (at 19 3) (P 0 ∷ P 1 ∷ P 0 ∷ P 2 ∷ P 3 ∷ [])
    ∷ leaves (at 20 0) (P 3 ∷ P 1 ∷ P 0 ∷ P 2 ∷ [])
    ∷ leaves (at 19 1) (P 3 ∷ P 1 ∷ P 0 ∷ P 2 ∷ P 1 ∷ [])
    ∷ leaves (at 23 1) (P 3 ∷ Q 1 ∷ P 0 ∷ P 2 ∷ P 1 ∷ [])
    ∷ leaves (at 23 0) (P 3 ∷ Q 1 ∷ Q 0 ∷ P 2 ∷ P 1 ∷ [])
    ∷ leaves (at 21 1) (P 3 ∷ P 1 ∷ Q 0 ∷ P 2 ∷ [])
    ∷ []

-- a reader comes and reads
abbrev pub reads : ℕ → List Row
reads b = ok (at 19 b) [] ∷ ok (at 23 b) [] ∷ ok (at 24 b) [] ∷ []

-- one of them claims the page, from the middle; another leaves
abbrev pub one_claims : List Row
one_claims =
    opened
    ++ reads 0
    ++ reads 1
    ++ reads 2
    ++ ok (at 19 3) []
    ∷ ok (at 23 3) []
    ∷ leaves (at 24 3) (R 0 ∷ R 1 ∷ R 2 ∷ R 3 ∷ [])
    ∷ leaves (ask 4 1 0 5) (R 0 ∷ R 3 ∷ R 2 ∷ [])
    ∷ leaves (ask 22 0 0 5) (R 2 ∷ R 3 ∷ [])
    ∷ []

abbrev pub list_cases : List (List Row)
list_cases = four_leave ∷ first_of_two ∷ one_claims ∷ []

-- ---- another order
-- after these the list has another order than one that closes the gap
abbrev pub one_of_four : List Request
one_of_four = at 19 0 ∷ at 19 1 ∷ at 19 2 ∷ at 19 3 ∷ at 20 1 ∷ []

abbrev pub orders_differ : Bool
orders_differ =
    list_is (P 0 ∷ P 3 ∷ P 2 ∷ []) (after (fresh_page 0) one_of_four)
    && list_is (P 0 ∷ P 2 ∷ P 3 ∷ []) (after_closing (fresh_page 0) one_of_four)
