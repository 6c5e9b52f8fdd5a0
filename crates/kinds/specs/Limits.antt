-- The limits (RULES 2, rule 8, and 4.1), each once. The code's constants stand in src/lib.rt, by the same names (`line_size` is `LINE`).
use Rattle.std.specs.Prelude.{ℕ}

-- how many buckets there are (the source's RC_WIDTH, line 40): a bucket is below it, a visited number at most it
abbrev pub buckets : ℕ
buckets = 4

-- how many readers a record can list
abbrev pub capacity : ℕ
capacity = 256

-- the highest count at a bucket
abbrev pub ceiling : ℕ
ceiling = 127

-- the limits that a record is judged under: how many readers it may list, and how high a count may be
pub record Limits : Type 0 where
  pub readers : ℕ
  pub count : ℕ

-- those that the code keeps
abbrev pub today : Limits
today = record { readers = capacity; count = ceiling }

-- those under which a record was kept in a short image (RULES 5.5): for images alone
abbrev pub short_capacity : ℕ
short_capacity = 64

abbrev pub short_ceiling : ℕ
short_ceiling = 31

abbrev pub short : Limits
short = record { readers = short_capacity; count = short_ceiling }

-- how many requests a run takes
abbrev pub most_requests : ℕ
most_requests = 2048

-- how many bytes a request and an answer have, a line each
abbrev pub line_size : ℕ
line_size = 16
