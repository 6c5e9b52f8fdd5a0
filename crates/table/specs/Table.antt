-- The table of flags (RULES 7.5): eleven rows of 31 numbers. A row is a flag and a column a step; the number is that of the flag that
-- follows, or 255: never. proofs/Rule.antt shows what each of them says.
use Rattle.std.specs.Prelude.{ℕ, ◌+◌, ◌-◌, cond, ◌&&◌, ◌||◌, List, [], ◌∷◌, eqb, ltb, get_or}
use Rattle.kinds.specs.declared.Flag.{Flag}
use Rattle.requests.specs.Requests.{is_step}

-- ---- columns: 1 to 5, 6 clean, 6 dirty, 7 to 30
abbrev pub columns : ℕ
columns = 31

-- the step and the clean of a column
abbrev pub step_in : ℕ → ℕ
step_in c = cond (ltb c 6) (c + 1) c

abbrev pub clean_in : ℕ → ℕ
clean_in c = cond (eqb c 5) 1 0

-- and back; a number that is no step has column 31, where no row has an entry
abbrev pub column_of : ℕ → ℕ → ℕ
column_of n clean = cond (is_step n) (cond (ltb n 6 || eqb n 6 && eqb clean 1) (n - 1) n) columns

-- ---- rows
-- what stands for no flag
abbrev pub never : ℕ
never = 255

-- a line for the archive and the editor (1 to 10), for the loader and 18, for readers (19 to 24), for what is given back (25 to 30)
abbrev pub row : Flag → List ℕ
row Flag.Unmapped =
    255 ∷ 255 ∷ 255 ∷ 255 ∷ 255 ∷ 255 ∷ 255 ∷ 255 ∷ 255 ∷ 255 ∷ 255
    ∷ 2 ∷ 1 ∷ 255 ∷ 255 ∷ 255 ∷ 255 ∷ 255 ∷ 255
    ∷ 0 ∷ 0 ∷ 255 ∷ 255 ∷ 255 ∷ 255
    ∷ 255 ∷ 255 ∷ 255 ∷ 255 ∷ 255 ∷ 255
    ∷ []
row Flag.Loading =
    255 ∷ 255 ∷ 255 ∷ 255 ∷ 255 ∷ 255 ∷ 255 ∷ 255 ∷ 255 ∷ 255 ∷ 255
    ∷ 255 ∷ 255 ∷ 255 ∷ 255 ∷ 255 ∷ 3 ∷ 3 ∷ 255
    ∷ 1 ∷ 1 ∷ 1 ∷ 255 ∷ 1 ∷ 255
    ∷ 255 ∷ 255 ∷ 255 ∷ 255 ∷ 255 ∷ 255
    ∷ []
row Flag.LoadingExcLock =
    255 ∷ 255 ∷ 255 ∷ 255 ∷ 255 ∷ 255 ∷ 255 ∷ 255 ∷ 255 ∷ 255 ∷ 255
    ∷ 255 ∷ 255 ∷ 2 ∷ 1 ∷ 1 ∷ 255 ∷ 255 ∷ 255
    ∷ 2 ∷ 2 ∷ 255 ∷ 255 ∷ 255 ∷ 255
    ∷ 255 ∷ 255 ∷ 255 ∷ 255 ∷ 255 ∷ 255
    ∷ []
row Flag.Available =
    5 ∷ 255 ∷ 4 ∷ 4 ∷ 255 ∷ 255 ∷ 255 ∷ 255 ∷ 255 ∷ 255 ∷ 255
    ∷ 255 ∷ 255 ∷ 255 ∷ 255 ∷ 255 ∷ 255 ∷ 255 ∷ 255
    ∷ 3 ∷ 3 ∷ 3 ∷ 3 ∷ 3 ∷ 3
    ∷ 255 ∷ 255 ∷ 255 ∷ 255 ∷ 255 ∷ 255
    ∷ []
row Flag.Claimed =
    255 ∷ 255 ∷ 255 ∷ 255 ∷ 8 ∷ 255 ∷ 255 ∷ 255 ∷ 255 ∷ 255 ∷ 255
    ∷ 255 ∷ 255 ∷ 255 ∷ 255 ∷ 255 ∷ 255 ∷ 255 ∷ 255
    ∷ 4 ∷ 4 ∷ 4 ∷ 4 ∷ 4 ∷ 4
    ∷ 3 ∷ 3 ∷ 255 ∷ 255 ∷ 255 ∷ 255
    ∷ []
row Flag.Writeback =
    255 ∷ 3 ∷ 6 ∷ 6 ∷ 255 ∷ 255 ∷ 255 ∷ 255 ∷ 255 ∷ 255 ∷ 255
    ∷ 255 ∷ 255 ∷ 255 ∷ 255 ∷ 255 ∷ 255 ∷ 255 ∷ 255
    ∷ 5 ∷ 5 ∷ 5 ∷ 5 ∷ 5 ∷ 5
    ∷ 255 ∷ 255 ∷ 255 ∷ 255 ∷ 255 ∷ 255
    ∷ []
row Flag.WritebackAndClaimed =
    255 ∷ 4 ∷ 255 ∷ 255 ∷ 7 ∷ 255 ∷ 255 ∷ 255 ∷ 255 ∷ 255 ∷ 255
    ∷ 255 ∷ 255 ∷ 255 ∷ 255 ∷ 255 ∷ 255 ∷ 255 ∷ 255
    ∷ 6 ∷ 6 ∷ 6 ∷ 6 ∷ 6 ∷ 6
    ∷ 5 ∷ 5 ∷ 255 ∷ 255 ∷ 255 ∷ 255
    ∷ []
row Flag.WritebackAndPendingExcLock =
    255 ∷ 8 ∷ 255 ∷ 255 ∷ 255 ∷ 255 ∷ 255 ∷ 255 ∷ 255 ∷ 255 ∷ 255
    ∷ 255 ∷ 255 ∷ 255 ∷ 255 ∷ 255 ∷ 255 ∷ 255 ∷ 255
    ∷ 7 ∷ 7 ∷ 7 ∷ 7 ∷ 255 ∷ 7
    ∷ 255 ∷ 255 ∷ 6 ∷ 255 ∷ 255 ∷ 255
    ∷ []
row Flag.PendingExcLock =
    255 ∷ 255 ∷ 255 ∷ 255 ∷ 255 ∷ 9 ∷ 10 ∷ 255 ∷ 255 ∷ 255 ∷ 255
    ∷ 255 ∷ 255 ∷ 255 ∷ 255 ∷ 255 ∷ 255 ∷ 255 ∷ 255
    ∷ 8 ∷ 8 ∷ 8 ∷ 8 ∷ 255 ∷ 8
    ∷ 255 ∷ 255 ∷ 4 ∷ 255 ∷ 255 ∷ 255
    ∷ []
row Flag.ExcLockClean =
    255 ∷ 255 ∷ 255 ∷ 255 ∷ 255 ∷ 255 ∷ 255 ∷ 9 ∷ 9 ∷ 3 ∷ 4
    ∷ 255 ∷ 255 ∷ 255 ∷ 255 ∷ 255 ∷ 255 ∷ 255 ∷ 9
    ∷ 9 ∷ 9 ∷ 9 ∷ 9 ∷ 255 ∷ 9
    ∷ 255 ∷ 255 ∷ 255 ∷ 4 ∷ 3 ∷ 0
    ∷ []
row Flag.ExcLockDirty =
    255 ∷ 255 ∷ 255 ∷ 255 ∷ 255 ∷ 255 ∷ 255 ∷ 10 ∷ 10 ∷ 3 ∷ 4
    ∷ 255 ∷ 255 ∷ 255 ∷ 255 ∷ 255 ∷ 255 ∷ 255 ∷ 10
    ∷ 10 ∷ 10 ∷ 10 ∷ 10 ∷ 255 ∷ 10
    ∷ 255 ∷ 255 ∷ 255 ∷ 4 ∷ 3 ∷ 0
    ∷ []

-- ---- entries
-- a flag has those of its row
abbrev pub entries : Flag → List ℕ
entries f = row f

unfoldable pub entry_at : Flag → ℕ → ℕ
entry_at f c = get_or (entries f) c never

-- by a step's number and its clean
abbrev pub entry_of : Flag → ℕ → ℕ → ℕ
entry_of f n clean = entry_at f (column_of n clean)
