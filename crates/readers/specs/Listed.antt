-- The bounded list of readers: an array, of which the first `len` entries are the list and the others are blank.
-- What each function of the crate answers, for any value of its types, well kept or not.
use Rattle.std.specs.Prelude.{ℕ, Option, Some, None, ◌+◌, ◌-◌, Bool, cond, ◌&&◌, Result, Ok, Err, List, [], ◌∷◌, ◌++◌, eqb, ltb, leb, length, take, drop, set, replicate}
use Rattle.laws.specs.Lists.{tally, every, without}
use Rattle.kinds.specs.declared.{Phase.Phase, Reader.Reader}
use Rattle.kinds.specs.Limits.{capacity}
use Rattle.kinds.specs.Numbers.{phase_number}
use Rattle.readers.specs.declared.Readers.{Readers}
use Rattle.readers.specs.Same.{same_reader}

-- ---- the array and the list
-- the readers that count: the first `len` of the array
abbrev pub live : Readers → List Reader
live rs = take rs.len rs.items

-- the filling of an unused entry: Pending at bucket 0
abbrev pub blank_reader : Reader
blank_reader = record { phase = Phase.Pending; bucket = record { 0 = 0 } }

-- the array that holds a list, blank past it
abbrev pub listed : List Reader → Readers
listed l = record { items = l ++ replicate (capacity - length l) blank_reader; len = length l }

-- every entry past the length is blank
abbrev pub blank_past : Readers → Bool
blank_past rs = every (same_reader blank_reader) (drop rs.len rs.items)

-- ---- searching and counting
-- the place of the first reader equal to x, counted from i
abbrev pub find_from : ℕ → List Reader → Reader → Option ℕ
find_from i [] x = None
find_from i (r ∷ rs) x = cond (same_reader r x) (Some i) (find_from (i + 1) rs x)

abbrev pub find_in : List Reader → Reader → Option ℕ
find_in rs x = find_from 0 rs x

-- a reader at bucket b
abbrev pub is_at : ℕ → Reader → Bool
is_at b r = eqb r.bucket.0 b

-- a reader at bucket b in the phase of this number
abbrev pub is_in : ℕ → ℕ → Reader → Bool
is_in b phase r = is_at b r && eqb (phase_number r.phase) phase

-- how many readers stand at bucket b
abbrev pub count_at : ℕ → List Reader → ℕ
count_at b l = tally (is_at b) l

-- how many readers stand at bucket b in the phase of this number
abbrev pub count_in : ℕ → ℕ → List Reader → ℕ
count_in b phase l = tally (is_in b phase) l

-- ---- changing
-- no readers: blanks alone
unfoldable pub no_readers : Readers
no_readers = listed []

-- r at the end where there is room; else an error, and nothing changes
unfoldable pub pushed : Readers → Reader → Result Readers Readers
pushed rs r = cond (ltb rs.len capacity) (Ok (record { items = set rs.items rs.len r; len = rs.len + 1 })) (Err rs)

-- the list after it, longer or as it was
abbrev pub after_push : Result Readers Readers → Readers
after_push (Ok rs) = rs
after_push (Err rs) = rs

-- `at` is the place of a reader that counts, in a list that is not longer than its array
abbrev pub placed : Readers → ℕ → Bool
placed rs at = leb rs.len capacity && ltb at rs.len

-- r in the place of the reader that stands there; where none does, nothing changes
unfoldable pub put_at : Readers → ℕ → Reader → Readers
put_at rs at r = cond (placed rs at) (record { items = set rs.items at r; len = rs.len }) rs

-- the list without the reader at a place, a blank where the last one stood, and what lies past the length as it was;
-- where no reader stands at that place, nothing changes
unfoldable pub removed_at : Readers → ℕ → Readers
removed_at rs at =
    cond (placed rs at)
    (record { items = without at (live rs) ++ blank_reader ∷ drop rs.len rs.items; len = rs.len - 1 })
    rs
